use Rattle.std.proofs.Common.{drop}
use Rattle.pc_program_bound.specs.SplitTrees.{tree_of, bound_by}
use Rattle.pc_program_bound.specs.Walk.{IsWalking}
use Rattle.pc_program_bound.proofs.walk.tree_bound.Given as goal

abbrev pub invariant-loop-node : goal.invariant-loop-node
invariant-loop-node l = IsWalking l.p (bound_by l.p l.p.floor l.p.cap (tree_of l.nodes)) l.walk (drop l.node-index l.nodes)
