use Rattle.std.proofs.Common.{sym, ◌∙◌}
use Rattle.pc_conflict.proofs.TextsBack.{texts_tell}
use Rattle.pc_run.proofs.laws.conflicts_tell_their_answers.Goals as goal

pub returns : goal.returns
returns c = λ nodes budget listing text can one two.
    texts_tell listing.schema listing.constraints nodes budget one.answer two.answer can.well_formed can.accepted one.found two.found (sym one.said ∙ two.said)
