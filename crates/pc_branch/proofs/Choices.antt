-- How many nodes a tree of splits has, against how many counts its box leaves open.
use Rattle.std.proofs.Common.{◌≡◌, ℕ, zero, suc, ◌+◌, ◌-◌, ◌*◌, ◌<◌, ◌≤◌, ◌⊎◌, inl, inr, List, [], ◌∷◌, length, Option, Some, ap, sym, ◌∙◌, eq-or-lt_of_le, arith}
use Rattle.std.specs.Prelude.{ℤ, pos, nat_abs, ◌*ℤ◌, ◌≤ℤ◌}
use Rattle.std.specs.Int.{IsGcd}
use Rattle.std.proofs.lemmas.Int.{ints}
use Rattle.std.proofs.lemmas.Bool.{cases_lt}
use Rattle.std.proofs.lemmas.List.{get_or_past}
use Rattle.std.proofs.Math.Nat.{mul-le-mul}
use Rattle.pc_num.specs.declared.Frac.{Frac}
use Rattle.pc_model.specs.declared.tree.Mult.{Mult}
use Rattle.pc_program_bound.specs.declared.program.Program.{Program}
use Rattle.pc_program_bound.specs.Sums.{nat_at}
use Rattle.pc_program_bound.specs.Allocation.{IsProgram, IsBox, cells_of}
use Rattle.pc_program_bound.specs.Bound.{bound_of}
use Rattle.pc_program_bound.specs.SplitTrees.{less_caps, more_floors}
use Rattle.pc_program_bound.proofs.WalkParts.{whole_box, less_box, more_box}
use Rattle.pc_simplex_tableau.specs.Point.{vertex, no_count, IsRelaxation}
use Rattle.pc_simplex.specs.Vertices.{count_at, IsVertex}
use Rattle.pc_simplex.proofs.Vertices.{IsVertex-point}
use Rattle.pc_branch.specs.Licence.{Splits, leaf, split, nodes_of, IsWhole, AreSplitNodes, fractional, too_wide, too_long, HasOpen, first_bound, IsLicence, choices}
use Rattle.pc_branch.proofs.Points.{floor-under, cap-over, whole-reduced}

-- ---- how many counts a box has

abbrev pub room : List ℕ → List ℕ → ℕ
room [] caps = 1
room (f ∷ floors) [] = 1
room (f ∷ floors) (c ∷ caps) = (c + 1 - f) * room floors caps

-- each range holds a number
abbrev pub AreOrdered : List ℕ → List ℕ → Type 0
AreOrdered floors caps = (i : ℕ) → i < length floors → nat_at floors i ≤ nat_at caps i

AreOrdered-tail : (f c : ℕ) (floors caps : List ℕ) → AreOrdered (f ∷ floors) (c ∷ caps) → AreOrdered floors caps
AreOrdered-tail f c floors caps ordered i h = ordered (suc i) (omega (arith, h))

pub room-some : (floors caps : List ℕ) → AreOrdered floors caps → 1 ≤ room floors caps
room-some [] caps ordered = omega arith
room-some (f ∷ floors) [] ordered = omega arith
room-some (f ∷ floors) (c ∷ caps) ordered =
    let here : f ≤ c = ordered 0 (omega arith) in
    let first : 1 ≤ c + 1 - f = omega (arith, here) in
    let whole : 1 * 1 ≤ (c + 1 - f) * room floors caps = mul-le-mul first (room-some floors caps (AreOrdered-tail f c floors caps ordered)) in
    whole

-- a range of two numbers makes two counts
pub room-two : (floors caps : List ℕ) (i : ℕ) → i < length floors → length floors ≡ length caps → AreOrdered floors caps → nat_at floors i < nat_at caps i
    → 2 ≤ room floors caps
room-two [] caps i lt sized ordered less = absurd (omega (arith, lt))
room-two (f ∷ floors) [] i lt sized ordered less = absurd (omega (arith, sized))
room-two (f ∷ floors) (c ∷ caps) zero lt sized ordered less =
    let first : 2 ≤ c + 1 - f = omega (arith, less) in
    let whole : 2 * 1 ≤ (c + 1 - f) * room floors caps = mul-le-mul first (room-some floors caps (AreOrdered-tail f c floors caps ordered)) in
    whole
room-two (f ∷ floors) (c ∷ caps) (suc i) lt sized ordered less =
    let here : f ≤ c = ordered 0 (omega arith) in
    let first : 1 ≤ c + 1 - f = omega (arith, here) in
    let rest = room-two floors caps i (omega (arith, lt)) (omega (arith, sized)) (AreOrdered-tail f c floors caps ordered) less in
    let whole : 1 * 2 ≤ (c + 1 - f) * room floors caps = mul-le-mul first rest in
    whole

split-product : (f at c r : ℕ) → f ≤ at → at < c → (at + 1 - f) * r + (c + 1 - (at + 1)) * r ≡ (c + 1 - f) * r
split-product f at c r less more =
    let parts : (at + 1 - f) + (c + 1 - (at + 1)) ≡ c + 1 - f = omega (arith, less, more) in
    let both : ((at + 1 - f) + (c + 1 - (at + 1))) * r ≡ (c + 1 - f) * r = ap (λ n. n * r) parts in
    omega (arith, both)

-- the two parts of a box have its counts
pub room-split : (floors caps : List ℕ) (cell at : ℕ) → length floors ≡ length caps → nat_at floors cell ≤ at → at < nat_at caps cell
    → room floors (less_caps caps cell at) + room (more_floors floors cell at) caps ≡ room floors caps
room-split [] [] cell at sized less more = absurd (omega (arith, more))
room-split [] (c ∷ caps) cell at sized less more = absurd (omega (arith, sized))
room-split (f ∷ floors) [] cell at sized less more = absurd (omega (arith, sized))
room-split (f ∷ floors) (c ∷ caps) zero at sized less more = split-product f at c (room floors caps) less more
room-split (f ∷ floors) (c ∷ caps) (suc cell) at sized less more =
    let rest = room-split floors caps cell at (omega (arith, sized)) less more in
    let whole : (c + 1 - f) * (room floors (less_caps caps cell at) + room (more_floors floors cell at) caps) ≡ (c + 1 - f) * room floors caps = ap (λ n. (c + 1 - f) * n) rest in
    omega (arith, whole)

pub room-choices : (floors caps : List ℕ) → length floors ≡ length caps → room floors caps ≤ choices caps
room-choices [] [] sized = omega arith
room-choices [] (c ∷ caps) sized = absurd (omega (arith, sized))
room-choices (f ∷ floors) [] sized = absurd (omega (arith, sized))
room-choices (f ∷ floors) (c ∷ caps) sized =
    let first : c + 1 - f ≤ c + 1 = omega arith in
    mul-le-mul first (room-choices floors caps (omega (arith, sized)))

-- ---- boxes

IsBox-ordered : (p : Program) (floors caps : List ℕ) → IsBox p floors caps → AreOrdered floors caps
IsBox-ordered p floors caps box i h = let sized = box.sized_floors in (box.inside i (omega (arith, h, sized))).1

-- a fraction between a number and itself is whole
one-between : (num den : ℤ) (over count n m : ℕ) → pos 1 ≤ℤ den → 1 ≤ over → num *ℤ pos over ≡ pos count *ℤ den → n * over ≤ count → count ≤ m * over → n ≡ m
    → IsGcd (nat_abs num) (nat_abs den) 1 → den ≡ pos 1
one-between num den over count n m positive some counted above below same reduced =
    let low = floor-under num den over count positive some counted n above in
    let high : num ≤ℤ (den *ℤ pos n) = cap-over num den over count positive some counted n (rw same below) in
    whole-reduced num den n positive reduced (omega (arith, ints, low, high))

-- a box of one count has a whole point
module _ (p : Program) (floors caps : List ℕ) (box : IsBox p floors caps) (point : List Frac) (mult : Mult) (v : IsVertex p floors caps point mult) where
  one-whole : ((i : ℕ) → i < cells_of p → nat_at floors i ≡ nat_at caps i) → IsWhole point
  one-whole same i = elim (cases_lt i (cells_of p)) [
    | inl lt ↦
        one-between (count_at point i).num (count_at point i).den v.den (nat_at v.counts i) (nat_at floors i) (nat_at caps i)
        (v.positive i) v.relaxed.positive (v.counted i lt) (v.relaxed.within i lt).0 (v.relaxed.within i lt).1 (same i lt)
        (v.reduced i lt)
    | inr past ↦ let sized = v.sized in ap (λ (count : Frac). count.den) (get_or_past point i no_count (omega (arith, past, sized)))
  ]

  same-ends : room floors caps < 2 → (i : ℕ) → i < cells_of p → nat_at floors i ≡ nat_at caps i
  same-ends few i lt = by (eq-or-lt_of_le (box.inside i lt).1)
    where
      by : (nat_at floors i ≡ nat_at caps i) ⊎ (nat_at floors i < nat_at caps i) → nat_at floors i ≡ nat_at caps i
      by (inl e) = e
      by (inr less) =
          let sized = box.sized_floors in
          let two = room-two floors caps i (omega (arith, lt, sized)) (box.sized_floors ∙ sym box.sized_caps) (IsBox-ordered p floors caps box) less in
          absurd (omega (arith, two, few))

  -- so a point that is not whole leaves two counts
  parted-room : (IsWhole point → ⊥) → 2 ≤ room floors caps
  parted-room parted = elim (cases_lt (room floors caps) 2) [
    | inl few ↦ absurd (parted (one-whole (same-ends few)))
    | inr many ↦ many
  ]

-- ---- trees

module _ (p : Program) (program : IsProgram p) (least : Option ℤ) where
  pub few-nodes : (floors caps : List ℕ) (tree : Splits) → IsBox p floors caps → AreSplitNodes p least floors caps tree → nodes_of tree + 1 ≤ 2 * room floors caps
  few-nodes floors caps leaf box splits = let some = room-some floors caps (IsBox-ordered p floors caps box) in omega (arith, some)
  few-nodes floors caps (split cell at t u) box splits =
      let node = splits.0.2 in
      let first = few-nodes floors (less_caps caps cell at) t (less_box p floors caps cell at box node.less node.more) splits.1 in
      let second = few-nodes (more_floors floors cell at) caps u (more_box p floors caps cell at box node.less node.more) splits.2 in
      let parts = room-split floors caps cell at (box.sized_floors ∙ sym box.sized_caps) node.less node.more in
      omega (arith, first, second, parts)

  -- an open leaf is stuck, or it leaves room for two nodes more
  abbrev pub IsStuckOrSpare : Type 0 → ℤ → ℤ → List ℕ → List ℕ → Splits → Type 0
  IsStuckOrSpare spent e above floors caps tree = (spent × (nodes_of tree + 3 ≤ 2 * room floors caps)) ⊎ HasOpen p ⊥ e above floors caps tree

  module _ (spent : Type 0) (e : ℤ) where
    stuck-split : (above : ℤ) (floors caps : List ℕ) (cell at : ℕ) (t u : Splits) → IsBox p floors caps → AreSplitNodes p least floors caps (split cell at t u)
        → (point : List Frac) (mult : Mult) → IsRelaxation p floors caps (vertex point mult)
        → (HasOpen p spent e (bound_of p floors caps mult) floors (less_caps caps cell at) t → IsStuckOrSpare spent e (bound_of p floors caps mult) floors (less_caps caps cell at) t)
        → (HasOpen p spent e (bound_of p floors caps mult) (more_floors floors cell at) caps u → IsStuckOrSpare spent e (bound_of p floors caps mult) (more_floors floors cell at) caps u)
        → HasOpen p spent e (bound_of p floors caps mult) floors (less_caps caps cell at) t ⊎ HasOpen p spent e (bound_of p floors caps mult) (more_floors floors cell at) caps u
        → IsStuckOrSpare spent e above floors caps (split cell at t u)
    stuck-split above floors caps cell at t u box splits point mult relaxed first second which = by which
      where
        parts : room floors (less_caps caps cell at) + room (more_floors floors cell at) caps ≡ room floors caps
        parts = room-split floors caps cell at (box.sized_floors ∙ sym box.sized_caps) splits.0.2.less splits.0.2.more

        few : nodes_of t + 1 ≤ 2 * room floors (less_caps caps cell at)
        few = few-nodes floors (less_caps caps cell at) t (less_box p floors caps cell at box splits.0.2.less splits.0.2.more) splits.1

        also : nodes_of u + 1 ≤ 2 * room (more_floors floors cell at) caps
        also = few-nodes (more_floors floors cell at) caps u (more_box p floors caps cell at box splits.0.2.less splits.0.2.more) splits.2

        by : HasOpen p spent e (bound_of p floors caps mult) floors (less_caps caps cell at) t ⊎ HasOpen p spent e (bound_of p floors caps mult) (more_floors floors cell at) caps u
            → IsStuckOrSpare spent e above floors caps (split cell at t u)
        by (inl h) = elim (first h) [
          | inl spare ↦ inl (spare.0, (let many = spare.1 in omega (arith, many, also, parts)))
          | inr stuck ↦ inr (point, mult, relaxed, inl stuck)
        ]
        by (inr h) = elim (second h) [
          | inl spare ↦ inl (spare.0, (let many = spare.1 in omega (arith, many, few, parts)))
          | inr stuck ↦ inr (point, mult, relaxed, inr stuck)
        ]

    pub HasOpen-stuck : (above : ℤ) (floors caps : List ℕ) (tree : Splits) → IsBox p floors caps → AreSplitNodes p least floors caps tree
        → HasOpen p spent e above floors caps tree → IsStuckOrSpare spent e above floors caps tree
    HasOpen-stuck above floors caps leaf box splits (fractional point mult relaxed parted left is) =
        let two = parted-room p floors caps box point mult (IsVertex-point p floors caps program box point mult relaxed) parted in
        inl (left, omega (arith, two))
    HasOpen-stuck above floors caps leaf box splits (too_wide steps relaxed is) = inr (too_wide steps relaxed is)
    HasOpen-stuck above floors caps leaf box splits (too_long steps relaxed is) = inr (too_long steps relaxed is)
    HasOpen-stuck above floors caps (split cell at t u) box splits open_leaf =
        let next = bound_of p floors caps open_leaf.1 in
        let low = less_box p floors caps cell at box splits.0.2.less splits.0.2.more in
        let high = more_box p floors caps cell at box splits.0.2.less splits.0.2.more in
        stuck-split above floors caps cell at t u box splits open_leaf.0 open_leaf.1 open_leaf.2
        (HasOpen-stuck next floors (less_caps caps cell at) t low splits.1)
        (HasOpen-stuck next (more_floors floors cell at) caps u high splits.2)
        open_leaf.3

pub large-stuck : (p : Program) (budget : ℕ) (e : ℤ) (tree : Splits) → IsProgram p → IsLicence p budget e tree → 2 * choices p.cap ≤ budget
    → HasOpen p ⊥ e (first_bound p) p.floor p.cap tree
large-stuck p budget e tree program licence large =
    let box = whole_box p program in
    let most = room-choices p.floor p.cap (program.floors ∙ sym program.caps) in
    elim (HasOpen-stuck p program (Some e) (budget < nodes_of tree + 2) e (first_bound p) p.floor p.cap tree box licence.search.splits licence.open_leaf) [
      | inl spare ↦ let left = spare.0 in let many = spare.1 in absurd (omega (arith, left, many, most, large))
      | inr stuck ↦ stuck
    ]
