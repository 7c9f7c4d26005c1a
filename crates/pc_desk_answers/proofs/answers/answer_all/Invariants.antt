use Rattle.std.proofs.Common.{take}
use Rattle.pc_desk_answers.specs.Blocks.{AreShown, asked, ground_in}
use Rattle.pc_desk_answers.proofs.answers.answer_all.Given as goal

abbrev pub invariant-loop-question : goal.invariant-loop-question
invariant-loop-question l = AreShown (ground_in l.fn.scope) (asked l.fn.scope.schema.now (take l.question-index l.fn.questions)) l.entries.items
