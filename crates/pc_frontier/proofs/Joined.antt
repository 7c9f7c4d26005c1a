-- The walk from a node up to the root: what was narrowed so far, joined with the box of the place still to do, is the goal.
use Rattle.std.proofs.Common.{◌≡◌, ◌<◌, ◌≤◌, ℕ, zero, suc, ◌+◌, Bool, true, false, cond, List, length, set, min, max, Option, Some, None, refl, sym, ap, ◌∙◌, subst, arith, inl, inr}
use Rattle.std.proofs.lemmas.Bool.{cases_eq}
use Rattle.std.proofs.lemmas.Grind.{same_number_lists}
use Rattle.std.proofs.lemmas.List.{get_or-set_other, get_or-set_same, length-set}
use Rattle.pc_frontier.specs.declared.node.Born.{Born}
use Rattle.pc_frontier.specs.declared.node.Node.{Node}
use Rattle.pc_frontier.specs.Frontier.{node_at}
use Rattle.pc_frontier.specs.Boxes.{Box, part_of, box_at, number_at, AreOrdered, AreFitting, raised, sunk}
use Rattle.pc_frontier.proofs.Boxed.{box_from, at_step, length_floors, length_caps}

-- ---- one split

module _ (cell at : ℕ) (numbers : List ℕ) (there : cell < length numbers) where
  set_rises : (i : ℕ) → number_at numbers cell ≤ at → number_at numbers i ≤ number_at (set numbers cell at) i
  set_rises i low = elim (cases_eq i cell) [
    | inl e ↦ subst (λ k. number_at numbers k ≤ number_at (set numbers cell at) k) (sym e) (rw (get_or-set_same numbers cell at 0 there) low)
    | inr ne ↦ rw (get_or-set_other numbers cell i at 0 ne) (omega arith)
  ]

  set_falls : (i : ℕ) → at ≤ number_at numbers cell → number_at (set numbers cell at) i ≤ number_at numbers i
  set_falls i high = elim (cases_eq i cell) [
    | inl e ↦ subst (λ k. number_at (set numbers cell at) k ≤ number_at numbers k) (sym e) (rw (get_or-set_same numbers cell at 0 there) high)
    | inr ne ↦ rw (get_or-set_other numbers cell i at 0 ne) (omega arith)
  ]

  -- narrowing one of two lists, where it is narrowed more than the other is
  max_moves : (outer : List ℕ) (i : ℕ) → cell < length outer → number_at outer cell ≤ at
      → max (number_at (set numbers cell (max (number_at numbers cell) at)) i) (number_at outer i) ≡ max (number_at numbers i) (number_at (set outer cell at) i)
  max_moves outer i inside low = elim (cases_eq i cell) [
    | inl e ↦ subst (λ k. max (number_at (set numbers cell (max (number_at numbers cell) at)) k) (number_at outer k) ≡ max (number_at numbers k) (number_at (set outer cell at) k)) (sym e)
        (rw (get_or-set_same numbers cell (max (number_at numbers cell) at) 0 there, get_or-set_same outer cell at 0 inside) (omega arith))
    | inr ne ↦ rw (get_or-set_other numbers cell i (max (number_at numbers cell) at) 0 ne, get_or-set_other outer cell i at 0 ne) refl
  ]

  min_moves : (outer : List ℕ) (i : ℕ) → cell < length outer → at ≤ number_at outer cell
      → min (number_at (set numbers cell (min (number_at numbers cell) at)) i) (number_at outer i) ≡ min (number_at numbers i) (number_at (set outer cell at) i)
  min_moves outer i inside high = elim (cases_eq i cell) [
    | inl e ↦ subst (λ k. min (number_at (set numbers cell (min (number_at numbers cell) at)) k) (number_at outer k) ≡ min (number_at numbers k) (number_at (set outer cell at) k)) (sym e)
        (rw (get_or-set_same numbers cell (min (number_at numbers cell) at) 0 there, get_or-set_same outer cell at 0 inside) (omega arith))
    | inr ne ↦ rw (get_or-set_other numbers cell i (min (number_at numbers cell) at) 0 ne, get_or-set_other outer cell i at 0 ne) refl
  ]

-- the split's number lies in the range of a box
record IsInside (cell at : ℕ) (box : Box) : Type 0 where
  floor : cell < length box.floors
  cap : cell < length box.caps
  low : number_at box.floors cell ≤ at
  high : at < number_at box.caps cell

part_rises : (cell at : ℕ) (more : Bool) (box : Box) → IsInside cell at box → (i : ℕ) → number_at box.floors i ≤ number_at (part_of cell at more box).floors i
part_rises cell at false box inside i = omega arith
part_rises cell at true box inside i = set_rises cell (at + 1) box.floors inside.floor i (omega (arith, inside.low))

part_falls : (cell at : ℕ) (more : Bool) (box : Box) → IsInside cell at box → (i : ℕ) → number_at (part_of cell at more box).caps i ≤ number_at box.caps i
part_falls cell at false box inside i = set_falls cell at box.caps inside.cap i (omega (arith, inside.high))
part_falls cell at true box inside i = omega arith

module _ (cell at : ℕ) (numbers : List ℕ) (there : cell < length numbers) where
  raised_part : (more : Bool) (box : Box) → IsInside cell at box → (i : ℕ)
      → max (number_at (cond more (set numbers cell (max (number_at numbers cell) (at + 1))) numbers) i) (number_at box.floors i) ≡ max (number_at numbers i) (number_at (part_of cell at more box).floors i)
  raised_part false box inside i = refl
  raised_part true box inside i = max_moves cell (at + 1) numbers there box.floors i inside.floor (omega (arith, inside.low))

  sunk_part : (more : Bool) (box : Box) → IsInside cell at box → (i : ℕ)
      → min (number_at (cond more numbers (set numbers cell (min (number_at numbers cell) at))) i) (number_at box.caps i) ≡ min (number_at numbers i) (number_at (part_of cell at more box).caps i)
  sunk_part false box inside i = min_moves cell at numbers there box.caps i inside.cap (omega (arith, inside.high))
  sunk_part true box inside i = refl

  raised_rises : (more : Bool) (i : ℕ) → number_at numbers i ≤ number_at (cond more (set numbers cell (max (number_at numbers cell) (at + 1))) numbers) i
  raised_rises false i = omega arith
  raised_rises true i = set_rises cell (max (number_at numbers cell) (at + 1)) numbers there i (omega arith)

  sunk_falls : (more : Bool) (i : ℕ) → number_at (cond more numbers (set numbers cell (min (number_at numbers cell) at))) i ≤ number_at numbers i
  sunk_falls false i = set_falls cell (min (number_at numbers cell) at) numbers there i (omega arith)
  sunk_falls true i = omega arith

  raised_length : (more : Bool) → length (cond more (set numbers cell (max (number_at numbers cell) (at + 1))) numbers) ≡ length numbers
  raised_length false = refl
  raised_length true = length-set numbers cell _

  sunk_length : (more : Bool) → length (cond more numbers (set numbers cell (min (number_at numbers cell) at))) ≡ length numbers
  sunk_length false = length-set numbers cell _
  sunk_length true = refl

-- ---- the boxes lie in the start box

module _ (nodes : List Node) (start : Box) (ordered : AreOrdered nodes) (fits : AreFitting nodes start) where
  inside_parent : (n : ℕ) (born : Born) → (node_at nodes n).born ≡ Some born → IsInside born.cell born.at (box_at nodes start born.parent)
  inside_parent n born e = record {
    floor = rw (length_floors (born.parent + 1) nodes start born.parent) (fits n born e).floor;
    cap = rw (length_caps (born.parent + 1) nodes start born.parent) (fits n born e).cap;
    low = (fits n born e).low;
    high = (fits n born e).high;
  }

  -- by a bound on the number, since a parent has a lower one
  boxes_rise : (i m n : ℕ) → n < m → number_at start.floors i ≤ number_at (box_at nodes start n).floors i
  boxes_rise i zero n h = absurd (omega arith)
  boxes_rise i (suc m) n h = rw (at_step nodes start ordered n) (by (node_at nodes n).born (λ born e. inside_parent n born e) (λ born e. boxes_rise i m born.parent (omega (arith, h, ordered n born e))))
    where
      by : (made : Option Born)
          → ((born : Born) → made ≡ Some born → IsInside born.cell born.at (box_at nodes start born.parent))
          → ((born : Born) → made ≡ Some born → number_at start.floors i ≤ number_at (box_at nodes start born.parent).floors i)
          → number_at start.floors i ≤ number_at (box_from made start (box_at nodes start)).floors i
      by None inside up = omega arith
      by (Some born) inside up = omega (arith, up born refl, part_rises born.cell born.at born.more (box_at nodes start born.parent) (inside born refl) i)

  boxes_fall : (i m n : ℕ) → n < m → number_at (box_at nodes start n).caps i ≤ number_at start.caps i
  boxes_fall i zero n h = absurd (omega arith)
  boxes_fall i (suc m) n h = rw (at_step nodes start ordered n) (by (node_at nodes n).born (λ born e. inside_parent n born e) (λ born e. boxes_fall i m born.parent (omega (arith, h, ordered n born e))))
    where
      by : (made : Option Born)
          → ((born : Born) → made ≡ Some born → IsInside born.cell born.at (box_at nodes start born.parent))
          → ((born : Born) → made ≡ Some born → number_at (box_at nodes start born.parent).caps i ≤ number_at start.caps i)
          → number_at (box_from made start (box_at nodes start)).caps i ≤ number_at start.caps i
      by None inside up = omega arith
      by (Some born) inside up = omega (arith, up born refl, part_falls born.cell born.at born.more (box_at nodes start born.parent) (inside born refl) i)

-- ---- the walk

-- n is the place still to do
pub record IsJoined (nodes : List Node) (start goal : Box) (floor cap : List ℕ) (n : ℕ) : Type 0 where
  pub there : n < length nodes
  pub floors_sized : length floor ≡ length start.floors
  pub caps_sized : length cap ≡ length start.caps
  pub floors : (i : ℕ) → max (number_at floor i) (number_at (box_at nodes start n).floors i) ≡ number_at goal.floors i
  pub caps : (i : ℕ) → min (number_at cap i) (number_at (box_at nodes start n).caps i) ≡ number_at goal.caps i
  pub above : (i : ℕ) → number_at start.floors i ≤ number_at floor i
  pub below : (i : ℕ) → number_at cap i ≤ number_at start.caps i
  pub small : (i : ℕ) → number_at start.caps i < 18446744073709551616

module _ (nodes : List Node) (start : Box) (ordered : AreOrdered nodes) (fits : AreFitting nodes start) where
  pub joined_first : (n : ℕ) → n < length nodes → ((i : ℕ) → number_at start.caps i < 18446744073709551616)
      → IsJoined nodes start (box_at nodes start n) start.floors start.caps n
  joined_first n there small = record {
    there = there;
    floors_sized = refl;
    caps_sized = refl;
    floors = λ i. omega (arith, boxes_rise nodes start ordered fits i (n + 1) n (omega arith));
    caps = λ i. omega (arith, boxes_fall nodes start ordered fits i (n + 1) n (omega arith));
    above = λ i. omega arith;
    below = λ i. omega arith;
    small = small;
  }

  joined_last : (m n : ℕ) (floor cap : List ℕ) → IsJoined nodes start (box_at nodes start m) floor cap n → (node_at nodes n).born ≡ None
      → (floor ≡ (box_at nodes start m).floors) × (cap ≡ (box_at nodes start m).caps)
  joined_last m n floor cap joined none =
      let root : box_at nodes start n ≡ start = at_step nodes start ordered n ∙ ap (λ made. box_from made start (box_at nodes start)) none in (
        same_number_lists _ _ (joined.floors_sized ∙ sym (length_floors (m + 1) nodes start m)) (λ i h.
            let e : max (number_at floor i) (number_at start.floors i) ≡ number_at (box_at nodes start m).floors i =
            ap (λ (box : Box). max (number_at floor i) (number_at box.floors i)) (sym root) ∙ joined.floors i in
            omega (arith, e, joined.above i)),
        same_number_lists _ _ (joined.caps_sized ∙ sym (length_caps (m + 1) nodes start m)) (λ i h.
            let e : min (number_at cap i) (number_at start.caps i) ≡ number_at (box_at nodes start m).caps i =
            ap (λ (box : Box). min (number_at cap i) (number_at box.caps i)) (sym root) ∙ joined.caps i in
            omega (arith, e, joined.below i)),
      )

  pub joined_floors : (m n : ℕ) (floor cap : List ℕ) → IsJoined nodes start (box_at nodes start m) floor cap n → (node_at nodes n).born ≡ None → floor ≡ (box_at nodes start m).floors
  joined_floors m n floor cap joined none = (joined_last m n floor cap joined none).0

  pub joined_caps : (m n : ℕ) (floor cap : List ℕ) → IsJoined nodes start (box_at nodes start m) floor cap n → (node_at nodes n).born ≡ None → cap ≡ (box_at nodes start m).caps
  joined_caps m n floor cap joined none = (joined_last m n floor cap joined none).1

  module _ (goal : Box) (floor cap : List ℕ) (n : ℕ) (joined : IsJoined nodes start goal floor cap n) where
    module _ (born : Born) (made : (node_at nodes n).born ≡ Some born) where
      pub joined_cell : born.cell < length floor
      joined_cell = omega (arith, joined.floors_sized, (fits n born made).floor)

      pub joined_cap : born.cell < length cap
      joined_cap = omega (arith, joined.caps_sized, (fits n born made).cap)

      pub joined_small : born.at < 18446744073709551615
      joined_small = omega (arith, (fits n born made).high, boxes_fall nodes start ordered fits born.cell (born.parent + 1) born.parent (omega arith), joined.small born.cell)

      pub joined_more : IsJoined nodes start goal (raised born floor) (sunk born cap) born.parent
      joined_more =
          let part : box_at nodes start n ≡ part_of born.cell born.at born.more (box_at nodes start born.parent) =
          at_step nodes start ordered n ∙ ap (λ made. box_from made start (box_at nodes start)) made in
          let inside : IsInside born.cell born.at (box_at nodes start born.parent) = inside_parent nodes start ordered fits n born made in
          record {
            there = omega (arith, joined.there, ordered n born made);
            floors_sized = raised_length born.cell born.at floor joined_cell born.more ∙ joined.floors_sized;
            caps_sized = sunk_length born.cell born.at cap joined_cap born.more ∙ joined.caps_sized;
            floors = λ i.
                raised_part born.cell born.at floor joined_cell born.more (box_at nodes start born.parent) inside i
                ∙ (ap (λ (box : Box). max (number_at floor i) (number_at box.floors i)) (sym part) ∙ joined.floors i);
            caps = λ i.
                sunk_part born.cell born.at cap joined_cap born.more (box_at nodes start born.parent) inside i
                ∙ (ap (λ (box : Box). min (number_at cap i) (number_at box.caps i)) (sym part) ∙ joined.caps i);
            above = λ i. omega (arith, joined.above i, raised_rises born.cell born.at floor joined_cell born.more i);
            below = λ i. omega (arith, joined.below i, sunk_falls born.cell born.at cap joined_cap born.more i);
            small = joined.small;
          }
