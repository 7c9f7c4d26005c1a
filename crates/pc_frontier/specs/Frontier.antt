-- The nodes of a search as plain data, and what each call makes of them.
use Rattle.std.specs.Prelude.{◌≡◌, ◌<◌, ◌≤◌, ℕ, ◌-◌, ℤ, pos, int_lt, ◌≤ℤ◌, Bool, true, false, List, [], ◌∷◌, ◌++◌, length, map, slice_index_or, slice_set, Option, Some, None, if◌then◌else◌, ◌&&◌, not, ⊤}
use Rattle.pc_frontier.specs.declared.node.State.{State}
use Rattle.pc_frontier.specs.declared.node.State.TheVariants as states
use Rattle.pc_frontier.specs.declared.node.Born.{Born}
use Rattle.pc_frontier.specs.declared.node.Node.{Node}
use Rattle.pc_frontier.specs.Rings.{In, IsOnce, last_of}

-- how many nodes can still be made, the nodes by number, and the numbers of the open ones in their order
pub record Seen : Type 0 where
  pub room : ℕ
  pub nodes : List Node
  pub opened : List ℕ

abbrev pub no_node : Node
no_node = record { born = None; state = states.Closed; bound = pos 0 }

abbrev pub node_at : List Node → ℕ → Node
node_at nodes n = slice_index_or nodes n no_node

abbrev pub bound_at : List Node → ℕ → ℤ
bound_at nodes n = (node_at nodes n).bound

-- a node that is there and in hand
abbrev pub IsInHand : Seen → ℕ → Type 0
IsInHand f n = (n < length f.nodes) × ((node_at f.nodes n).state ≡ states.InHand)

-- ---- what the calls make of it

abbrev pub none_yet : ℕ → Seen
none_yet room = record { room = room; nodes = []; opened = [] }

abbrev pub with_node : Option Born → Seen → Seen
with_node born f = record { room = f.room - 1; nodes = f.nodes ++ record { born = born; state = states.InHand; bound = pos 0 } ∷ []; opened = f.opened }

abbrev pub with_root : Seen → Seen
with_root f = with_node None f

-- the split that makes a node
abbrev pub born_of : ℕ → ℕ → ℕ → Bool → Option Born
born_of parent cell at more = Some (record { parent = parent; cell = cell; at = at; more = more })

abbrev pub set_state : List Node → ℕ → State → List Node
set_state nodes n state = slice_set nodes n (record (node_at nodes n) { state = state })

abbrev pub with_state : ℕ → State → Seen → Seen
with_state n state f = record { room = f.room; nodes = set_state f.nodes n state; opened = f.opened }

abbrev pub with_split : ℕ → ℕ → ℕ → Seen → Seen
with_split n cell at f = with_node (born_of n cell at true) (with_node (born_of n cell at false) (with_state n (states.Split (length f.nodes)) f))

-- after those whose bound is at least as great
abbrev pub placed : (ℕ → ℤ) → ℕ → ℤ → List ℕ → List ℕ
placed bounds n bound [] = n ∷ []
placed bounds n bound (m ∷ ms) = if int_lt (bounds m) bound then n ∷ m ∷ ms else m ∷ placed bounds n bound ms

abbrev pub held : ℕ → ℤ → Seen → Seen
held n bound f = record {
  room = f.room;
  nodes = slice_set f.nodes n (record (node_at f.nodes n) { state = states.Open; bound = bound });
  opened = placed (bound_at f.nodes) n bound f.opened;
}

abbrev pub first_open : List ℕ → Option ℕ
first_open [] = None
first_open (n ∷ ns) = Some n

abbrev pub taken_from : ℕ → List Node → List ℕ → Seen
taken_from room nodes [] = record { room = room; nodes = nodes; opened = [] }
taken_from room nodes (n ∷ ns) = record { room = room; nodes = set_state nodes n states.InHand; opened = ns }

abbrev pub taken : Seen → Seen
taken f = taken_from f.room f.nodes f.opened

abbrev pub best_of : List Node → List ℕ → Option ℤ
best_of nodes [] = None
best_of nodes (n ∷ ns) = Some (bound_at nodes n)

abbrev pub closed : ℕ → Seen → Seen
closed n f = with_state n states.Closed f

abbrev pub is_open : State → Bool
is_open states.Open = true
is_open (states.Split first) = false
is_open states.InHand = false
is_open states.Closed = false

-- an open node of at most that bound is closed
abbrev pub pruned_node : ℤ → Node → Node
pruned_node value node = if is_open node.state && not (int_lt value node.bound) then record node { state = states.Closed } else node

-- the numbers whose bound is above a value
abbrev pub above : ℤ → (ℕ → ℤ) → List ℕ → List ℕ
above value bounds [] = []
above value bounds (x ∷ xs) = if int_lt value (bounds x) then x ∷ above value bounds xs else above value bounds xs

abbrev pub pruned : ℤ → Seen → Seen
pruned value f = record { room = f.room; nodes = map (pruned_node value) f.nodes; opened = above value (bound_at f.nodes) f.opened }

-- the last number, if its bound is at most a value
abbrev pub low_of : ℤ → (ℕ → ℤ) → ℕ → List ℕ → Option ℕ
low_of value bounds a [] = None
low_of value bounds a (x ∷ xs) = if int_lt value (bounds (last_of x xs)) then None else Some (last_of x xs)

-- ---- inside: the place of a bound

abbrev pub place_of : (ℕ → ℤ) → ℤ → ℕ → List ℕ → ℕ
place_of bounds bound limit [] = limit
place_of bounds bound limit (m ∷ ms) = if int_lt (bounds m) bound then m else place_of bounds bound limit ms

-- each open number is that of an open node
abbrev pub AreOpen : List Node → List ℕ → Type 0
AreOpen nodes opened = (n : ℕ) → In n opened → (n < length nodes) × ((node_at nodes n).state ≡ states.Open)

-- none is above the top
abbrev pub AreUnder : (ℕ → ℤ) → ℤ → List ℕ → Type 0
AreUnder bounds top [] = ⊤
AreUnder bounds top (y ∷ ys) = (bounds y ≤ℤ top) × AreUnder bounds top ys

-- the bounds never rise from front to back
abbrev pub IsFalling : (ℕ → ℤ) → List ℕ → Type 0
IsFalling bounds [] = ⊤
IsFalling bounds (x ∷ xs) = AreUnder bounds (bounds x) xs × IsFalling bounds xs

-- each open node is in the list
abbrev pub HasOpen : List Node → List ℕ → Type 0
HasOpen nodes opened = (n : ℕ) → n < length nodes → (node_at nodes n).state ≡ states.Open → In n opened

-- the list holds exactly the open nodes, each once, with bounds that never rise
pub record IsKept (f : Seen) : Type 0 where
  pub opens : AreOpen f.nodes f.opened
  pub all : HasOpen f.nodes f.opened
  pub once : IsOnce f.opened
  pub falling : IsFalling (bound_at f.nodes) f.opened

pub record IsSound (limit capacity : ℕ) (nodes : List Node) (opened : List ℕ) : Type 0 where
  pub small : limit < 4294967296
  pub few : length nodes ≤ limit
  pub fits : limit ≤ capacity
  pub opens : AreOpen nodes opened
  pub all : HasOpen nodes opened
  pub falling : IsFalling (bound_at nodes) opened
