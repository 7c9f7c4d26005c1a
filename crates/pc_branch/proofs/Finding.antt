-- Another allocation in the place of what was found.
use Rattle.std.proofs.Common.{ℕ, List, Option, Some, MatchOption}
use Rattle.std.specs.Prelude.{ℤ, ◌≤ℤ◌}
use Rattle.pc_program_bound.specs.declared.program.Program.{Program}
use Rattle.pc_program_bound.specs.Allocation.{IsProgram, IsAllocation, worth}
use Rattle.pc_program_bound.specs.Bound.{HasFitWidth}
use Rattle.pc_frontier.specs.Frontier.{Seen, node_at}
use Rattle.pc_branch.specs.Licence.{no_multipliers}
use Rattle.pc_branch.specs.declared.visited.Visited.{Visited}
use Rattle.pc_branch.specs.Grown.{visited_at}
use Rattle.pc_branch.specs.Searching.{IsSearching}
use Rattle.pc_branch.proofs.Offers.{leaf_more}
use Rattle.pc_branch.proofs.Levels.{IsMost-search}

pub found_anew : (p : Program) (budget : ℕ) (f : Seen) (visited : List Visited) (found : Option (List ℕ)) (halted : Option ℤ) (hand : List ℕ) (level : ℤ) (counts : List ℕ)
    → IsSearching p budget f visited found halted hand level → IsProgram p → HasFitWidth p (no_multipliers p) → IsAllocation p p.floor p.cap counts
    → MatchOption found (Unit {0}) (λ before. worth p before ≤ℤ worth p counts) → IsSearching p budget f visited (Some counts) halted hand level
found_anew p budget f visited found halted hand level counts s program wide allowed better = record {
  tree = s.tree;
  is_tree = s.is_tree;
  fit = s.fit;
  long = s.long;
  room = s.room;
  grown = s.grown;
  leaves = λ n is. leaf_more p level found (Some counts) halted (node_at f.nodes n) (visited_at visited n) better (s.leaves n is);
  splits = s.splits;
  in_hand = s.in_hand;
  allowed = (allowed, IsMost-search p budget f visited found halted hand level s program wide counts allowed);
  halt = s.halt;
}
