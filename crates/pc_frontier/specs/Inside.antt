-- What the calls of a frontier are made of.
use Rattle.std.specs.Prelude.{ℕ, ◌<◌, ℤ, List, length, slice_set}
use Rattle.pc_frontier.specs.declared.node.Node.{Node}
use Rattle.pc_frontier.specs.declared.node.State.TheVariants as states
use Rattle.pc_frontier.specs.Frontier.{Seen, IsKept, node_at, set_state}
use Rattle.pc_frontier.specs.Rings.{without}

-- an open node, closed
abbrev pub shut : ℕ → Seen → Seen
shut n f = record { room = f.room; nodes = set_state f.nodes n states.Closed; opened = without n f.opened }

-- a node, open with a bound
abbrev pub with_bound : List Node → ℕ → ℤ → List Node
with_bound nodes n bound = slice_set nodes n (record (node_at nodes n) { state = states.Open; bound = bound })

-- kept, and its open nodes can be counted
pub record IsFew (f : Seen) : Type 0 where
  pub kept : IsKept f
  pub few : length f.opened < 4294967296
