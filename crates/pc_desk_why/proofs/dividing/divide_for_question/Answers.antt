use Rattle.pc_desk_why.proofs.Divided.{questions_still}
use Rattle.pc_desk_why.proofs.dividing.divide_for_question.Goals as goal

pub returns-in-Plain-clause-still : goal.returns-in-Plain-clause-still
returns-in-Plain-clause-still c = questions_still c.args.schema.now c.args.constraints.now c.args.shared.now.nodes c.divide_for.new.shared.nodes c.divide_for.ensures.still
