use Rattle.std.proofs.Common.{All, take}
use Rattle.pc_cells_tree.specs.Linked.{IsTree}
use Rattle.pc_desk_why.specs.Scopes.{IsDivided}
use Rattle.pc_desk_why.proofs.dividing.shared_for.Given as goal

-- divided for the questions before the present one
abbrev pub invariant-loop-question : goal.invariant-loop-question
invariant-loop-question l = record {
  tree : IsTree l.schema l.shared.nodes;
  divided : All (IsDivided l.schema l.constraints l.shared.nodes) (take l.question-index l.questions);
}
