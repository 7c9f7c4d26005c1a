use Rattle.std.proofs.Common.{◌≡◌, ◌≤◌, length}
use Rattle.pc_program_bound.specs.SplitTrees.{nodes_from}
use Rattle.pc_frontier.specs.Boxes.{Grown, IsTree}
use Rattle.pc_branch.specs.Grown.{proof_of}
use Rattle.pc_branch.specs.Ends.{AreSplitsKnown}
use Rattle.pc_branch.specs.Spelled.{IsSpelling}
use Rattle.pc_branch.proofs.tree.tree_of.Given as goal

abbrev pub invariant-loop : goal.invariant-loop
invariant-loop l = record {
  few : length l.spelling.written ≤ l.counter;
  spelled : (g : Grown) → IsTree l.frontier.nodes g → AreSplitsKnown l.visited g → IsSpelling l.frontier.nodes l.visited (nodes_from 0 (proof_of l.visited g)) l.spelling.written l.spelling.stack.items × (length l.spelling.written ≡ l.counter);
}
