use Rattle.pc_desk_answers.specs.Blocks.{ground_in}
use Rattle.pc_desk_answers.proofs.Dividing.{questions_still}
use Rattle.pc_desk_answers.proofs.trees.divide_for_question.Goals as goal

pub returns-in-Plain-clause-still : goal.returns-in-Plain-clause-still
returns-in-Plain-clause-still c = questions_still (ground_in c.args.scope.now) c.args.trees.now c.divide_for_query.new.trees c.divide_for_query.ensures.still
