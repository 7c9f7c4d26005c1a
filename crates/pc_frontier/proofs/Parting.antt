-- The leaves divide the start box: counts in it are in the box of exactly one node that is not split.
use Rattle.std.proofs.Common.{◌≡◌, ◌<◌, ◌≤◌, ℕ, ◌+◌, true, false, List, length, get_or, set, refl, sym, ap, ◌∙◌, subst, arith, inl, inr}
use Rattle.std.proofs.lemmas.Bool.{cases_lt, cases_eq}
use Rattle.std.proofs.lemmas.List.{get_or-set_other, get_or-set_same}
use Rattle.pc_frontier.specs.declared.node.Node.{Node}
use Rattle.pc_frontier.specs.Boxes.{Box, part_of, box_at, number_at, Grown, leaf, split, root_of, HasLeaf, IsLeaf, IsTree, AreGrown, AreBoxed, AreFitting, IsFitting, Fits, IsIn, AreInNone, AreInOne, IsInOneLeaf}
use Rattle.pc_frontier.proofs.Boxed.{length_floors, length_caps, trees_boxed}

-- the fit by number is the fit by place
tree_fits : (nodes : List Node) (start : Box) → AreFitting nodes start → (box : Box) (g : Grown) → AreGrown nodes g → AreBoxed nodes start box g → Fits box g
tree_fits nodes start fits box (leaf n) grown boxed = tt
tree_fits nodes start fits box (split n cell at t u) grown boxed =
    let fit : IsFitting nodes start (record { parent = n; cell = cell; at = at; more = false }) = fits (root_of t) _ grown.4 in
    let floors : length box.floors ≡ length start.floors = sym (ap (λ (b : Box). length b.floors) boxed.0) ∙ length_floors (n + 1) nodes start n in
    let caps : length box.caps ≡ length start.caps = sym (ap (λ (b : Box). length b.caps) boxed.0) ∙ length_caps (n + 1) nodes start n in (
      rw floors fit.floor,
      rw caps fit.cap,
      subst (λ (b : Box). get_or b.floors cell 0 ≤ at) boxed.0 fit.low,
      subst (λ (b : Box). at < get_or b.caps cell 0) boxed.0 fit.high,
      tree_fits nodes start fits (part_of cell at false box) t grown.6 boxed.1,
      tree_fits nodes start fits (part_of cell at true box) u grown.7 boxed.2,
    )

-- ---- counts in a box and its parts

module _ (counts : List ℕ) (box : Box) (cell at : ℕ) (floor : cell < length box.floors) (cap : cell < length box.caps) (low : number_at box.floors cell ≤ at) (high : at < number_at box.caps cell) where
  in_lesser : IsIn counts box → number_at counts cell ≤ at → IsIn counts (part_of cell at false box)
  in_lesser inside less i = elim (cases_eq i cell) [
    | inl e ↦ (
      (inside i).0,
      subst (λ k. number_at counts k ≤ number_at (set box.caps cell at) k) (sym e) (rw (get_or-set_same box.caps cell at 0 cap) less),
    )
    | inr ne ↦ ((inside i).0, rw (get_or-set_other box.caps cell i at 0 ne) (inside i).1)
  ]

  in_greater : IsIn counts box → at < number_at counts cell → IsIn counts (part_of cell at true box)
  in_greater inside more i = elim (cases_eq i cell) [
    | inl e ↦ (
      subst (λ k. number_at (set box.floors cell (at + 1)) k ≤ number_at counts k) (sym e) (rw (get_or-set_same box.floors cell (at + 1) 0 floor) (omega arith)),
      (inside i).1,
    )
    | inr ne ↦ (rw (get_or-set_other box.floors cell i (at + 1) 0 ne) (inside i).0, (inside i).1)
  ]

  from_lesser : IsIn counts (part_of cell at false box) → IsIn counts box
  from_lesser inside i = elim (cases_eq i cell) [
    | inl e ↦
        let here : number_at counts cell ≤ at = rw (get_or-set_same box.caps cell at 0 cap) at (inside cell).1 in
        ((inside i).0, subst (λ k. number_at counts k ≤ number_at box.caps k) (sym e) (omega arith))
    | inr ne ↦ ((inside i).0, rw (get_or-set_other box.caps cell i at 0 ne) at (inside i).1)
  ]

  from_greater : IsIn counts (part_of cell at true box) → IsIn counts box
  from_greater inside i = elim (cases_eq i cell) [
    | inl e ↦
        let here : at + 1 ≤ number_at counts cell = rw (get_or-set_same box.floors cell (at + 1) 0 floor) at (inside cell).0 in
        (subst (λ k. number_at box.floors k ≤ number_at counts k) (sym e) (omega arith), (inside i).1)
    | inr ne ↦ (rw (get_or-set_other box.floors cell i (at + 1) 0 ne) at (inside i).0, (inside i).1)
  ]

  lesser_below : IsIn counts (part_of cell at false box) → number_at counts cell ≤ at
  lesser_below inside = rw (get_or-set_same box.caps cell at 0 cap) at (inside cell).1

  greater_above : IsIn counts (part_of cell at true box) → at < number_at counts cell
  greater_above inside =
      let here : at + 1 ≤ number_at counts cell = rw (get_or-set_same box.floors cell (at + 1) 0 floor) at (inside cell).0 in
      omega arith

-- ---- by tree

in_none : (counts : List ℕ) (box : Box) (g : Grown) → Fits box g → (IsIn counts box → ⊥) → AreInNone counts box g
in_none counts box (leaf n) fits out = out
in_none counts box (split n cell at t u) fits out = (
  in_none counts (part_of cell at false box) t fits.4 (λ inside. out (from_lesser counts box cell at fits.0 fits.1 fits.2 fits.3 inside)),
  in_none counts (part_of cell at true box) u fits.5 (λ inside. out (from_greater counts box cell at fits.0 fits.1 fits.2 fits.3 inside)),
)

in_one : (counts : List ℕ) (box : Box) (g : Grown) → Fits box g → IsIn counts box → AreInOne counts box g
in_one counts box (leaf n) fits inside = inside
in_one counts box (split n cell at t u) fits inside = elim (cases_lt at (number_at counts cell)) [
  | inl more ↦ inr (
    in_none counts (part_of cell at false box) t fits.4 (λ lesser. absurd (omega (arith, more, lesser_below counts box cell at fits.0 fits.1 fits.2 fits.3 lesser))),
    in_one counts (part_of cell at true box) u fits.5 (in_greater counts box cell at fits.0 fits.1 fits.2 fits.3 inside more),
  )
  | inr less ↦ inl (
    in_one counts (part_of cell at false box) t fits.4 (in_lesser counts box cell at fits.0 fits.1 fits.2 fits.3 inside less),
    in_none counts (part_of cell at true box) u fits.5 (λ greater. absurd (omega (arith, less, greater_above counts box cell at fits.0 fits.1 fits.2 fits.3 greater))),
  )
]

-- ---- by number

leaf_there : (nodes : List Node) (n : ℕ) (g : Grown) → AreGrown nodes g → HasLeaf n g → IsLeaf nodes n
leaf_there nodes n (leaf k) grown e = subst (IsLeaf nodes) e grown
leaf_there nodes n (split k cell at t u) grown has =
    elim has [ inl l ↦ leaf_there nodes n t grown.6 l | inr r ↦ leaf_there nodes n u grown.7 r ]

-- a leaf with the counts, and no other
record IsOnly (nodes : List Node) (start : Box) (counts : List ℕ) (g : Grown) (n : ℕ) : Type 0 where
  has : HasLeaf n g
  inside : IsIn counts (box_at nodes start n)
  only : (m : ℕ) → HasLeaf m g → IsIn counts (box_at nodes start m) → m ≡ n

module _ (nodes : List Node) (start : Box) (counts : List ℕ) where
  not_in : (box : Box) (g : Grown) → AreBoxed nodes start box g → AreInNone counts box g → (m : ℕ) → HasLeaf m g → IsIn counts (box_at nodes start m) → ⊥
  not_in box (leaf n) boxed none m e inside =
      none (subst (IsIn counts) boxed (subst (λ k. IsIn counts (box_at nodes start k)) (sym e) inside))
  not_in box (split n cell at t u) boxed none m has inside = elim has [
    | inl l ↦ not_in (part_of cell at false box) t boxed.1 none.0 m l inside
    | inr r ↦ not_in (part_of cell at true box) u boxed.2 none.1 m r inside
  ]

  the_leaf : (box : Box) (g : Grown) → AreBoxed nodes start box g → AreInOne counts box g → (n : ℕ) × IsOnly nodes start counts g n
  the_leaf box (leaf n) boxed one = (
    n,
    record {
      has = refl;
      inside = subst (IsIn counts) (sym boxed) one;
      only = λ m e inside. sym e;
    },
  )
  the_leaf box (split n cell at t u) boxed one = elim one [
    | inl l ↦
        let found : (n : ℕ) × IsOnly nodes start counts t n = the_leaf (part_of cell at false box) t boxed.1 l.0 in (
          found.0,
          record {
            has = inl found.1.has;
            inside = found.1.inside;
            only = λ m has inside. elim has [
              | inl left ↦ found.1.only m left inside
              | inr right ↦ absurd (not_in (part_of cell at true box) u boxed.2 l.1 m right inside)
            ];
          },
        )
    | inr r ↦
        let found : (n : ℕ) × IsOnly nodes start counts u n = the_leaf (part_of cell at true box) u boxed.2 r.1 in (
          found.0,
          record {
            has = inr found.1.has;
            inside = found.1.inside;
            only = λ m has inside. elim has [
              | inl left ↦ absurd (not_in (part_of cell at false box) t boxed.1 r.0 m left inside)
              | inr right ↦ found.1.only m right inside
            ];
          },
        )
  ]

pub leaves_divide : (nodes : List Node) (start : Box) (g : Grown) (counts : List ℕ) → IsTree nodes g → AreFitting nodes start → IsIn counts start → (n : ℕ) × IsInOneLeaf nodes start counts n
leaves_divide nodes start g counts tree fits inside =
    let boxed : AreBoxed nodes start start g = trees_boxed nodes start g tree in
    let found : (n : ℕ) × IsOnly nodes start counts g n =
    the_leaf nodes start counts start g boxed (in_one counts start g (tree_fits nodes start fits start g tree.grown boxed) inside) in (
      found.0,
      record {
        leaf = leaf_there nodes found.0 g tree.grown found.1.has;
        inside = found.1.inside;
        only = λ m is inside. found.1.only m (tree.leaves m is) inside;
      },
    )
