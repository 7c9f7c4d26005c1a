use Rattle.pc_model.specs.Aggregate.{whole, IsAtMost}
use Rattle.pc_proof.specs.Table.{ratio_of}
use Rattle.pc_check_rules.specs.Shown.{lowered_at}
use Rattle.pc_check_rules.proofs.Choices.{second-holds, first-decides}
use Rattle.pc_check_rules.proofs.shown.ratio_shows_low.Goals as goal

pub returns : goal.returns
returns c =
    rw (← c.least_number-least.ensures)
    (first-decides
    (IsAtMost (ratio_of c.args.value.now) (lowered_at c.args.scene.now.seen (ratio_of c.args.ratio.now) c.args.bound))
    (λ g. IsAtMost (ratio_of c.args.value.now) (whole g))
    c.least_number-least.result c.is_there_from.result c.is_lowered_from.result c.if-is_there_from.false c.is_there_from.ensures c.if-is_none.ensures c.is_lowered_from.ensures)

pub returns-then-is_there_from : goal.returns-then-is_there_from
returns-then-is_there_from c =
    rw (← c.least_number-least.ensures)
    (second-holds
    (IsAtMost (ratio_of c.args.value.now) (lowered_at c.args.scene.now.seen (ratio_of c.args.ratio.now) c.args.bound))
    (λ g. IsAtMost (ratio_of c.args.value.now) (whole g))
    c.least_number-least.result c.is_there_from.result c.if-is_there_from.true c.is_there_from.ensures)
