-- The boxes of nodes, and the tree that they form.
use Rattle.std.specs.Prelude.{◌≡◌, ◌<◌, ◌≤◌, Option, ℕ, zero, suc, ◌+◌, ◌==◌, Bool, true, false, cond, List, length, slice_index_or, slice_set, min, max, Some, None, ⊤, ◌⊎◌}
use Rattle.pc_frontier.specs.declared.node.State.{State}
use Rattle.pc_frontier.specs.declared.node.State.TheVariants as states
use Rattle.pc_frontier.specs.declared.node.Born.{Born}
use Rattle.pc_frontier.specs.declared.node.Node.{Node}
use Rattle.pc_frontier.specs.Frontier.{node_at, born_of}

-- the counts of each cell from its floor to its cap
pub record Box : Type 0 where
  pub floors : List ℕ
  pub caps : List ℕ

-- the part of a box that a split gives
abbrev pub part_of : ℕ → ℕ → Bool → Box → Box
part_of cell at false box = record { floors = box.floors; caps = slice_set box.caps cell at }
part_of cell at true box = record { floors = slice_set box.floors cell (at + 1); caps = box.caps }

-- the start box narrowed by the splits on the path from the root, which has at most so many
unfoldable pub box_within : ℕ → List Node → Box → ℕ → Box
box_within zero nodes start n = start
box_within (suc left) nodes start n = elim (node_at nodes n).born [
  | None ↦ start
  | Some born ↦ part_of born.cell born.at born.more (box_within left nodes start born.parent)
]

abbrev pub box_at : List Node → Box → ℕ → Box
box_at nodes start n = box_within (n + 1) nodes start n

-- ---- the tree

pub data Grown : Type 0 where
  leaf : ℕ → Grown
  split : (node cell at : ℕ) → Grown → Grown → Grown

abbrev pub root_of : Grown → ℕ
root_of (leaf n) = n
root_of (split n cell at t u) = n

abbrev pub IsLeafState : State → Type 0
IsLeafState (states.Split first) = ⊥
IsLeafState states.Open = ⊤
IsLeafState states.InHand = ⊤
IsLeafState states.Closed = ⊤

abbrev pub IsSplitAt : State → ℕ → Type 0
IsSplitAt (states.Split first) k = first ≡ k
IsSplitAt states.Open k = ⊥
IsSplitAt states.InHand k = ⊥
IsSplitAt states.Closed k = ⊥

-- the first child of a node that is split
abbrev pub first_child_of : State → Option ℕ
first_child_of (states.Split first) = Some first
first_child_of states.Open = None
first_child_of states.InHand = None
first_child_of states.Closed = None

-- a node that is not split
abbrev pub IsLeaf : List Node → ℕ → Type 0
IsLeaf nodes n = (n < length nodes) × IsLeafState (node_at nodes n).state

abbrev pub size_of : Grown → ℕ
size_of (leaf n) = 1
size_of (split n cell at t u) = 1 + size_of t + size_of u

-- how many leaves have the number
abbrev pub leaves_at : ℕ → Grown → ℕ
leaves_at k (leaf n) = cond (n == k) 1 0
leaves_at k (split n cell at t u) = leaves_at k t + leaves_at k u

-- a leaf has the number
abbrev pub HasLeaf : ℕ → Grown → Type 0
HasLeaf n (leaf k) = k ≡ n
HasLeaf n (split k cell at t u) = HasLeaf n t ⊎ HasLeaf n u

-- the nodes form the tree: each split names its children, and each child the split that made it
abbrev pub AreGrown : List Node → Grown → Type 0
AreGrown nodes (leaf n) = IsLeaf nodes n
AreGrown nodes (split n cell at t u) =
    (n < length nodes) × IsSplitAt (node_at nodes n).state (root_of t) × (root_of u ≡ root_of t + 1) × (n < root_of t)
    × ((node_at nodes (root_of t)).born ≡ born_of n cell at false) × ((node_at nodes (root_of u)).born ≡ born_of n cell at true)
    × AreGrown nodes t × AreGrown nodes u

-- a parent has a lower number than its children
abbrev pub AreOrdered : List Node → Type 0
AreOrdered nodes = (n : ℕ) (born : Born) → (node_at nodes n).born ≡ Some born → born.parent < n

-- a root and its tree, which has each node once
pub record IsTree (nodes : List Node) (g : Grown) : Type 0 where
  pub root : root_of g ≡ 0
  pub first : (node_at nodes 0).born ≡ None
  pub ordered : AreOrdered nodes
  pub grown : AreGrown nodes g
  pub size : size_of g ≡ length nodes
  pub leaves : (n : ℕ) → IsLeaf nodes n → HasLeaf n g
  pub once : (n : ℕ) → leaves_at n g ≤ 1

-- the nodes after a call, as far as the tree goes: those that were there keep what made them, and a leaf stays a leaf
pub record AreLeavesKept (before after : List Node) : Type 0 where
  pub sized : length after ≡ length before
  pub born : (n : ℕ) → (node_at after n).born ≡ (node_at before n).born
  pub leaves : (n : ℕ) → IsLeafState (node_at before n).state → IsLeafState (node_at after n).state
  pub splits : (n k : ℕ) → IsSplitAt (node_at before n).state k → IsSplitAt (node_at after n).state k

-- the leaf with the number becomes a split with two leaves
abbrev pub divided : (node cell at first : ℕ) → Grown → Grown
divided k cell at first (leaf n) = cond (n == k) (split k cell at (leaf first) (leaf (first + 1))) (leaf n)
divided k cell at first (split n c a t u) = split n c a (divided k cell at first t) (divided k cell at first u)

-- each leaf has the box that its number has
abbrev pub AreBoxed : List Node → Box → Box → Grown → Type 0
AreBoxed nodes start box (leaf n) = box_at nodes start n ≡ box
AreBoxed nodes start box (split n cell at t u) =
    (box_at nodes start n ≡ box) × AreBoxed nodes start (part_of cell at false box) t × AreBoxed nodes start (part_of cell at true box) u

-- the tree fits a box: the split's number and the one after it lie in its cell's range
abbrev pub Fits : Box → Grown → Type 0
Fits box (leaf n) = ⊤
Fits box (split n cell at t u) =
    (cell < length box.floors) × (cell < length box.caps) × (slice_index_or box.floors cell 0 ≤ at) × (at < slice_index_or box.caps cell 0)
    × Fits (part_of cell at false box) t × Fits (part_of cell at true box) u

-- ---- what box_of asks of the nodes

abbrev pub number_at : List ℕ → ℕ → ℕ
number_at numbers i = slice_index_or numbers i 0

-- the number and the one after it lie in the cell's range in the parent's box
pub record IsFitting (nodes : List Node) (start : Box) (born : Born) : Type 0 where
  pub floor : born.cell < length start.floors
  pub cap : born.cell < length start.caps
  pub low : number_at (box_at nodes start born.parent).floors born.cell ≤ born.at
  pub high : born.at < number_at (box_at nodes start born.parent).caps born.cell

abbrev pub AreFitting : List Node → Box → Type 0
AreFitting nodes start = (n : ℕ) (born : Born) → (node_at nodes n).born ≡ Some born → IsFitting nodes start born

-- narrowed by a split, whatever else narrowed it
abbrev pub raised : Born → List ℕ → List ℕ
raised born floor = cond born.more (slice_set floor born.cell (max (number_at floor born.cell) (born.at + 1))) floor

abbrev pub sunk : Born → List ℕ → List ℕ
sunk born cap = cond born.more cap (slice_set cap born.cell (min (number_at cap born.cell) born.at))

-- ---- the leaves divide the start box

-- counts from the floors to the caps
abbrev pub IsIn : List ℕ → Box → Type 0
IsIn counts box = (i : ℕ) → (number_at box.floors i ≤ number_at counts i) × (number_at counts i ≤ number_at box.caps i)

abbrev pub AreInNone : List ℕ → Box → Grown → Type 0
AreInNone counts box (leaf n) = IsIn counts box → ⊥
AreInNone counts box (split n cell at t u) = AreInNone counts (part_of cell at false box) t × AreInNone counts (part_of cell at true box) u

-- the counts are in the box of exactly one leaf
abbrev pub AreInOne : List ℕ → Box → Grown → Type 0
AreInOne counts box (leaf n) = IsIn counts box
AreInOne counts box (split n cell at t u) =
    (AreInOne counts (part_of cell at false box) t × AreInNone counts (part_of cell at true box) u)
    ⊎ (AreInNone counts (part_of cell at false box) t × AreInOne counts (part_of cell at true box) u)

-- the counts are in the box of one node that is not split, and of no other
pub record IsInOneLeaf (nodes : List Node) (start : Box) (counts : List ℕ) (n : ℕ) : Type 0 where
  pub leaf : IsLeaf nodes n
  pub inside : IsIn counts (box_at nodes start n)
  pub only : (m : ℕ) → IsLeaf nodes m → IsIn counts (box_at nodes start m) → m ≡ n

-- the box of a node has the range of a cell below and above a number
pub record HasRange (nodes : List Node) (start : Box) (n cell at : ℕ) : Type 0 where
  pub floor : cell < length start.floors
  pub cap : cell < length start.caps
  pub low : number_at (box_at nodes start n).floors cell ≤ at
  pub high : at < number_at (box_at nodes start n).caps cell
