use Rattle.std.proofs.Common.{take}
use Rattle.pc_desk_answers.specs.Blocks.{asked}
use Rattle.pc_desk_why.specs.Explained.{AreExplained}
use Rattle.pc_desk_why.specs.Scopes.{ground_in}
use Rattle.pc_desk_why.proofs.explaining.explain_all.Given as goal

abbrev pub invariant-loop-question : goal.invariant-loop-question
invariant-loop-question l = AreExplained (ground_in l.fn.scope) (asked l.fn.scope.schema.now (take l.question-index l.fn.questions)) l.all.items
