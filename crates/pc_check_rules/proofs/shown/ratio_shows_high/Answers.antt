use Rattle.pc_model.specs.Aggregate.{whole, IsAtMost}
use Rattle.pc_proof.specs.Table.{ratio_of}
use Rattle.pc_check_rules.specs.Shown.{raised_at}
use Rattle.pc_check_rules.proofs.Choices.{second-holds, first-decides}
use Rattle.pc_check_rules.proofs.shown.ratio_shows_high.Goals as goal

pub returns : goal.returns
returns c =
    rw (← c.greatest_number-greatest.ensures)
    (first-decides
    (IsAtMost (raised_at c.args.scene.now.seen (ratio_of c.args.ratio.now) c.args.bound) (ratio_of c.args.value.now))
    (λ g. IsAtMost (whole g) (ratio_of c.args.value.now))
    c.greatest_number-greatest.result c.is_there_within.result c.is_raised_within.result c.if-is_there_within.false c.is_there_within.ensures c.if-is_none.ensures c.is_raised_within.ensures)

pub returns-then-is_there_within : goal.returns-then-is_there_within
returns-then-is_there_within c =
    rw (← c.greatest_number-greatest.ensures)
    (second-holds
    (IsAtMost (raised_at c.args.scene.now.seen (ratio_of c.args.ratio.now) c.args.bound) (ratio_of c.args.value.now))
    (λ g. IsAtMost (whole g) (ratio_of c.args.value.now))
    c.greatest_number-greatest.result c.is_there_within.result c.if-is_there_within.true c.is_there_within.ensures)
