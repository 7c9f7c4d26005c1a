use Rattle.std.proofs.Common.{All, take}
use Rattle.pc_desk_answers.specs.Blocks.{ground_in}
use Rattle.pc_desk_answers.specs.Divided.{AreTrees, IsDivided}
use Rattle.pc_desk_answers.proofs.trees.trees_for.Given as goal

-- divided for the questions before the present one
abbrev pub invariant-loop-question : goal.invariant-loop-question
invariant-loop-question l = record {
  trees : AreTrees l.scope.schema.now l.trees;
  divided : All (IsDivided (ground_in l.scope) l.trees) (take l.question-index l.questions);
}
