use Rattle.std.proofs.Common.{[], List, ap}
use Rattle.pc_model.specs.declared.row.Row.{Row}
use Rattle.pc_group.specs.declared.blocks.Written.{Written}
use Rattle.pc_group.specs.Answers.{AnswersWanted}
use Rattle.pc_group.proofs.Telling.{no_blocks}
use Rattle.pc_group.proofs.answers.answer_seen.Goals as goal

pub returns : goal.returns
returns c =
    let answers = λ (observed : List Row). AnswersWanted c.args.nodes c.args.schema.now observed c.args.constraints.now in
    let start = λ (observed : List Row). no_blocks (answers observed) c.args.shared.now.nodes c.nothing.result (ap (λ (w : Written). w.blocks) c.nothing.ensures) (ap (λ (w : Written). w.last) c.nothing.ensures) in
    record { answers = λ observed each. (c.in_ok-written.ensures observed each [] (start observed)).answers }
