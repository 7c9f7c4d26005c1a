-- How large the bound of a licence is, where gains are small.
use Rattle.std.proofs.Common.{◌≡◌, ℕ, zero, suc, ◌+◌, ◌*◌, ◌^◌, ◌<◌, ◌≤◌, ◌⊎◌, inl, inr, List, Option, Some, refl, arith}
use Rattle.std.specs.Prelude.{ℤ, pos, negsuc, neg_ℤ, nat_abs, ◌*ℤ◌, ◌≤ℤ◌}
use Rattle.std.specs.Int.{int_max, int_div_euclid}
use Rattle.std.proofs.lemmas.Int.{ints, clamps}
use Rattle.std.proofs.Math.IntN.{*ℤ_comm}
use Rattle.std.proofs.Math.Nat.{mul-le-mul_left, mul-le-mul_right}
use Rattle.pc_num.specs.declared.Frac.{Frac}
use Rattle.pc_num.proofs.Rounding.{is_whole_part}
use Rattle.pc_model.specs.declared.tree.Mult.{Mult}
use Rattle.pc_model.specs.Places.{has_bit}
use Rattle.pc_program_bound.specs.declared.program.Program.{Program}
use Rattle.pc_program_bound.specs.Sums.{sum_below, nat_at, int_at}
use Rattle.pc_program_bound.specs.Allocation.{cells_of, constraints_of, worth, IsProgram, IsBox, IsRelaxed}
use Rattle.pc_program_bound.specs.Bound.{part_of, rest_of, constraint_share, cell_share, raw_bound, bound_of}
use Rattle.pc_program_bound.specs.SplitTrees.{less_caps, more_floors}
use Rattle.pc_program_bound.proofs.Ring.{mul_mono, mul-pos, le-div_euclid}
use Rattle.pc_program_bound.proofs.SumBelow.{sum_below-zero, sum_below-suc, sum_below-scale, sum_below-none, none_chosen}
use Rattle.pc_program_bound.proofs.WalkParts.{whole_box, less_box, more_box}
use Rattle.pc_simplex_tableau.specs.Point.{vertex, IsRelaxation}
use Rattle.pc_simplex_tableau.proofs.Products.{zero-mul, one-mul, mul-neg, neg-mul, mul_swap, le_cancel}
use Rattle.pc_simplex.specs.Vertices.{IsVertex}
use Rattle.pc_simplex.proofs.Vertices.{IsVertex-point}
use Rattle.pc_branch.specs.Licence.{Splits, leaf, split, nodes_of, AreSplitNodes, fractional, too_wide, too_long, HasOpen, no_multipliers, first_bound, IsLicence}
use Rattle.pc_branch.specs.Ends.{HasSmallGains}
use Rattle.pc_branch.proofs.Widths.{no_number}

-- between -m and m
abbrev Within : ℤ → ℤ → Type 0
Within m x = (neg_ℤ m ≤ℤ x) × (x ≤ℤ m)

-- ---- products and sums

product-within : (g : ℤ) (n k : ℕ) → n ≤ k → Within (pos (nat_abs g) *ℤ pos k) (g *ℤ pos n)
product-within (pos a) n k less =
    let more : a * n ≤ a * k = mul-le-mul_left a less in
    (omega (arith, ints, more), omega (arith, ints, more))
product-within (negsuc a) n k less =
    let more : suc a * n ≤ suc a * k = mul-le-mul_left (suc a) less in
    let turned = neg-mul (pos (suc a)) (pos n) in
    (omega (arith, ints, more, turned), omega (arith, ints, more, turned))

-- a count over a denominator
count-within : (g : ℤ) (count cap den : ℕ) → count ≤ cap * den → Within (pos den *ℤ (pos (nat_abs g) *ℤ pos cap)) (g *ℤ pos count)
count-within g count cap den less =
    let here = product-within g count (cap * den) less in
    let moved = mul-pos (pos (nat_abs g)) cap den in
    (omega (arith, ints, here, moved), omega (arith, ints, here, moved))

-- the greater of two
share-within : (r g : ℤ) (floor cap : ℕ) → r ≡ g → floor ≤ cap → Within (pos (nat_abs g) *ℤ pos cap) (int_max (r *ℤ pos floor) (r *ℤ pos cap))
share-within r g floor cap same less =
    let low = product-within g floor cap less in
    let high = product-within g cap cap (omega arith) in
    rw same (omega (arith, ints, clamps, low, high), omega (arith, ints, clamps, low, high))

sum-within : (n : ℕ) (f sizes : ℕ → ℤ) → ((i : ℕ) → i < n → Within (sizes i) (f i)) → Within (sum_below n sizes) (sum_below n f)
sum-within zero f sizes each = rw (sum_below-zero f, sum_below-zero sizes) (omega (arith, ints), omega (arith, ints))
sum-within (suc n) f sizes each =
    let before = sum-within n f sizes (λ i h. each i (omega arith)) in
    let last = each n (omega arith) in
    let first = sum_below-suc n f in
    let second = sum_below-suc n sizes in
    (omega (arith, ints, before, last, first, second), omega (arith, ints, before, last, first, second))

-- ---- quotients

-- what is reached over one denominator is so large over another, rounded down
divided-within : (own raw reached m : ℤ) (den : ℕ) → 1 ≤ den → pos 1 ≤ℤ own → own *ℤ reached ≡ pos den *ℤ raw → Within (pos den *ℤ m) reached
    → Within m (int_div_euclid raw own)
divided-within own raw reached m den some positive reaches within = (le-div_euclid (neg_ℤ m) raw own (omega (arith, ints, positive)) low, high)
  where
    low : (own *ℤ neg_ℤ m) ≤ℤ raw
    low =
        let less : (own *ℤ neg_ℤ (pos den *ℤ m)) ≤ℤ (own *ℤ reached) = mul_mono own (neg_ℤ (pos den *ℤ m)) reached (omega (arith, ints, positive)) within.0 in
        let turned = mul-neg own (pos den *ℤ m) in
        let swapped = mul_swap own (pos den) m in
        let inner = mul-neg own m in
        let outer = mul-neg (pos den) (own *ℤ m) in
        le_cancel (pos den) (own *ℤ neg_ℤ m) raw (omega (arith, ints, some)) (rw inner (omega (arith, ints, less, turned, swapped, outer, reaches)))

    most : raw ≤ℤ (own *ℤ m)
    most =
        let less : (own *ℤ reached) ≤ℤ (own *ℤ (pos den *ℤ m)) = mul_mono own reached (pos den *ℤ m) (omega (arith, ints, positive)) within.1 in
        let swapped = mul_swap own (pos den) m in
        le_cancel (pos den) raw (own *ℤ m) (omega (arith, ints, some)) (omega (arith, ints, less, swapped, reaches))

    high : int_div_euclid raw own ≤ℤ m
    high =
        let rounded = (is_whole_part raw own (omega (arith, ints, positive))).not_above in
        let turned = *ℤ_comm own (int_div_euclid raw own) in
        le_cancel own (int_div_euclid raw own) m (omega (arith, ints, positive)) (omega (arith, ints, rounded, turned, most))

-- ---- bounds

nothing : (x : ℤ) (n : ℕ) → x ≡ pos 0 → x *ℤ pos n ≡ pos 0
nothing x n e = rw e (zero-mul (pos n))

module _ (p : Program) where
  -- the size of a gain times its cap
  abbrev pub gain_size : ℕ → ℤ
  gain_size i = pos (nat_abs (int_at p.gain i)) *ℤ pos (nat_at p.cap i)

  abbrev pub all_gains : ℤ
  all_gains = sum_below (cells_of p) gain_size

  -- a relaxed allocation's worth
  worth-within : (floors caps : List ℕ) (den : ℕ) (counts : List ℕ) → IsBox p floors caps → IsRelaxed p floors caps den counts
      → Within (pos den *ℤ all_gains) (worth p counts)
  worth-within floors caps den counts box relaxed =
      let each : (i : ℕ) → i < cells_of p → Within (pos den *ℤ gain_size i) (int_at p.gain i *ℤ pos (nat_at counts i)) = λ i lt. count-within (int_at p.gain i) (nat_at counts i) (nat_at p.cap i) den (few i lt) in
      let whole = sum-within (cells_of p) (λ i. int_at p.gain i *ℤ pos (nat_at counts i)) (λ i. pos den *ℤ gain_size i) each in
      rw (sum_below-scale (pos den) (cells_of p) gain_size) at whole
    where
      few : (i : ℕ) → i < cells_of p → nat_at counts i ≤ nat_at p.cap i * den
      few i lt =
          let here = (relaxed.within i lt).1 in
          let inside : nat_at caps i * den ≤ nat_at p.cap i * den = mul-le-mul_right den (box.inside i lt).2 in
          omega (arith, here, inside)

  -- the bound where the steps end in a point
  vertex-within : (floors caps : List ℕ) (point : List Frac) (mult : Mult) → IsBox p floors caps → IsVertex p floors caps point mult
      → Within all_gains (bound_of p floors caps mult)
  vertex-within floors caps point mult box v =
      divided-within mult.den (raw_bound p floors caps mult) (worth p v.counts) all_gains v.den v.relaxed.positive v.by.positive v.greatest
      (worth-within floors caps v.den v.counts box v.relaxed)

  -- the bound of the multipliers that are 0
  given-none : (i : ℕ) → sum_below (constraints_of p) (part_of p (no_multipliers p) i) ≡ pos 0
  given-none i = sum_below-none (constraints_of p) (part_of p (no_multipliers p) i)
      (λ j lt. none_chosen (has_bit (nat_at p.masks i) j) (int_at (no_multipliers p).by j) (no_number (constraints_of p) j))

  rest-gain : (i : ℕ) → rest_of p (no_multipliers p) i ≡ int_at p.gain i
  rest-gain i = let none = given-none i in omega (arith, ints, none)

  constraints-none : sum_below (constraints_of p) (constraint_share p (no_multipliers p)) ≡ pos 0
  constraints-none = sum_below-none (constraints_of p) (constraint_share p (no_multipliers p)) (λ j lt. nothing (int_at (no_multipliers p).by j) _ (no_number (constraints_of p) j))

  cells-within : IsProgram p → Within all_gains (sum_below (cells_of p) (cell_share p p.floor p.cap (no_multipliers p)))
  cells-within program = sum-within (cells_of p) (cell_share p p.floor p.cap (no_multipliers p)) gain_size
      (λ i lt. share-within (rest_of p (no_multipliers p) i) (int_at p.gain i) (nat_at p.floor i) (nat_at p.cap i) (rest-gain i) (program.boxed i lt))

  raw-within : IsProgram p → Within all_gains (raw_bound p p.floor p.cap (no_multipliers p))
  raw-within program =
      let none = constraints-none in
      let cells = cells-within program in
      (omega (arith, ints, none, cells), omega (arith, ints, none, cells))

  first-within : IsProgram p → Within all_gains (first_bound p)
  first-within program =
      divided-within (pos 1) (raw_bound p p.floor p.cap (no_multipliers p)) (raw_bound p p.floor p.cap (no_multipliers p)) all_gains 1 (omega arith)
      (omega (arith, ints)) refl (rw (one-mul all_gains) (raw-within program))

  -- ---- trees

  module _ (program : IsProgram p) (least : Option ℤ) (spent : Type 0) (e : ℤ) where
    next-within : (floors caps : List ℕ) (point : List Frac) (mult : Mult) → IsBox p floors caps → IsRelaxation p floors caps (vertex point mult)
        → Within all_gains (bound_of p floors caps mult)
    next-within floors caps point mult box relaxed =
        vertex-within floors caps point mult box (IsVertex-point p floors caps program box point mult relaxed)

    either-within : (first second : Type 0) → (first → Within all_gains e) → (second → Within all_gains e) → first ⊎ second → Within all_gains e
    either-within first second less more (inl h) = less h
    either-within first second less more (inr h) = more h

    open-within : (above : ℤ) (floors caps : List ℕ) (tree : Splits) → IsBox p floors caps → AreSplitNodes p least floors caps tree
        → Within all_gains above → HasOpen p spent e above floors caps tree → Within all_gains e
    open-within above floors caps leaf box splits within (fractional point mult relaxed parted left is) = rw is (next-within floors caps point mult box relaxed)
    open-within above floors caps leaf box splits within (too_wide steps relaxed is) = rw is within
    open-within above floors caps leaf box splits within (too_long steps relaxed is) = rw is within
    open-within above floors caps (split cell at t u) box splits within open_leaf =
        let next = bound_of p floors caps open_leaf.1 in
        let here = next-within floors caps open_leaf.0 open_leaf.1 box open_leaf.2 in
        let low = less_box p floors caps cell at box splits.0.2.less splits.0.2.more in
        let high = more_box p floors caps cell at box splits.0.2.less splits.0.2.more in
        either-within
        (HasOpen p spent e next floors (less_caps caps cell at) t)
        (HasOpen p spent e next (more_floors floors cell at) caps u)
        (open-within next floors (less_caps caps cell at) t low splits.1 here)
        (open-within next (more_floors floors cell at) caps u high splits.2 here)
        open_leaf.3

-- the bound of a licence is at most what all gains can come to, in size
pub licence-within : (p : Program) (budget : ℕ) (e : ℤ) (tree : Splits) → IsProgram p → IsLicence p budget e tree
    → (neg_ℤ (all_gains p) ≤ℤ e) × (e ≤ℤ all_gains p)
licence-within p budget e tree program licence =
    open-within p program (Some e) (budget < nodes_of tree + 2) e (first_bound p) p.floor p.cap tree (whole_box p program)
    licence.search.splits (first-within p program) licence.open_leaf

pub licence-small : (p : Program) (budget : ℕ) (e : ℤ) (tree : Splits) → IsProgram p → HasSmallGains p → IsLicence p budget e tree
    → (neg_ℤ (pos (10 ^ 37)) ≤ℤ e) × (e ≤ℤ pos (10 ^ 37))
licence-small p budget e tree program small licence =
    let all = licence-within p budget e tree program licence in
    let whole = small.sum in
    (omega (arith, ints, all, whole), omega (arith, ints, all, whole))
