-- The two parts of a box, and what multipliers prove of them.
use Rattle.std.proofs.Common.{◌≡◌, ℕ, zero, suc, ◌+◌, ◌*◌, ◌<◌, ◌≤◌, List, [], ◌∷◌, refl, ap, inl, inr, arith}
use Rattle.std.specs.Prelude.{ℤ, pos, ◌*ℤ◌, ◌≤ℤ◌, ◌<ℤ◌, slice_set}
use Rattle.std.specs.Int.{int_max, int_div_euclid}
use Rattle.std.proofs.lemmas.Int.{ints, clamps, by_lt_z}
use Rattle.std.proofs.lemmas.Bool.{cases_eq}
use Rattle.std.proofs.lemmas.List.{get_or-set_other}
use Rattle.std.proofs.Math.IntN.{*ℤ_comm}
use Rattle.std.proofs.Math.Nat.{mul-le-mul_right}
use Rattle.pc_num.specs.declared.Frac.{Frac}
use Rattle.pc_num.proofs.Rounding.{is_whole_part}
use Rattle.pc_model.specs.declared.tree.Mult.{Mult}
use Rattle.pc_program_bound.specs.declared.program.Program.{Program}
use Rattle.pc_program_bound.specs.Sums.{nat_at}
use Rattle.pc_program_bound.specs.Allocation.{IsProgram, IsBox, IsRelaxed, cells_of, worth}
use Rattle.pc_program_bound.specs.Bound.{IsMultiplier, rest_of, cell_share, raw_bound, bound_of}
use Rattle.pc_program_bound.specs.SplitTrees.{less_caps, more_floors}
use Rattle.pc_program_bound.proofs.Ring.{mul_mono, mul_anti, le-div_euclid}
use Rattle.pc_program_bound.proofs.SumBelow.{sum_below_mono}
use Rattle.pc_program_bound.proofs.Duality.{duality}
use Rattle.pc_program_bound.proofs.WalkParts.{less_box, more_box}
use Rattle.pc_simplex_tableau.specs.Point.{vertex, IsRelaxation}
use Rattle.pc_simplex_tableau.proofs.Products.{le_cancel, mul_swap}
use Rattle.pc_simplex.specs.Vertices.{IsVertex}
use Rattle.pc_simplex.proofs.Vertices.{IsVertex-point}

-- ---- a list of which one number was replaced

-- a number is at most one of the list
pub most-set : (xs : List ℕ) (cell at i n : ℕ) → n ≤ nat_at xs i → (i ≡ cell → n ≤ at) → n ≤ nat_at (slice_set xs cell at) i
most-set [] cell at i n before after = before
most-set (x ∷ xs) zero at zero n before after = after refl
most-set (x ∷ xs) zero at (suc i) n before after = before
most-set (x ∷ xs) (suc cell) at zero n before after = before
most-set (x ∷ xs) (suc cell) at (suc i) n before after = most-set xs cell at i n before (λ e. after (ap suc e))

-- and at least one
pub least-set : (xs : List ℕ) (cell at i n : ℕ) → nat_at xs i ≤ n → (i ≡ cell → at ≤ n) → nat_at (slice_set xs cell at) i ≤ n
least-set [] cell at i n before after = before
least-set (x ∷ xs) zero at zero n before after = after refl
least-set (x ∷ xs) zero at (suc i) n before after = before
least-set (x ∷ xs) (suc cell) at zero n before after = before
least-set (x ∷ xs) (suc cell) at (suc i) n before after = least-set xs cell at i n before (λ e. after (ap suc e))

-- the first part's caps are not above the box's, and the second's floors not below
pub caps-fall : (caps : List ℕ) (cell at i : ℕ) → at < nat_at caps cell → nat_at (less_caps caps cell at) i ≤ nat_at caps i
caps-fall caps cell at i more = least-set caps cell at i (nat_at caps i) (omega arith) (λ e. rw e (omega (arith, more)))

pub floors-rise : (floors : List ℕ) (cell at i : ℕ) → nat_at floors cell ≤ at → nat_at floors i ≤ nat_at (more_floors floors cell at) i
floors-rise floors cell at i less = most-set floors cell (at + 1) i (nat_at floors i) (omega arith) (λ e. rw e (omega (arith, less)))

-- each part's range holds a number where the box's does
pub caps-stay : (floors caps : List ℕ) (cell at i : ℕ) → nat_at floors cell ≤ at → nat_at floors i ≤ nat_at caps i → nat_at floors i ≤ nat_at (less_caps caps cell at) i
caps-stay floors caps cell at i less before = most-set caps cell at i (nat_at floors i) before (λ e. rw e (omega (arith, less)))

pub floors-stay : (floors caps : List ℕ) (cell at i : ℕ) → at < nat_at caps cell → nat_at floors i ≤ nat_at caps i → nat_at (more_floors floors cell at) i ≤ nat_at caps i
floors-stay floors caps cell at i more before = least-set floors cell (at + 1) i (nat_at caps i) before (λ e. rw e (omega (arith, more)))

-- ---- the same multipliers

-- a product at a number between two ends
within-ends : (r : ℤ) (low high n : ℕ) → low ≤ n → n ≤ high → (r *ℤ pos n) ≤ℤ int_max (r *ℤ pos low) (r *ℤ pos high)
within-ends r low high n above below = by_lt_z r (pos 0)
    (λ negative. let less : (r *ℤ pos n) ≤ℤ (r *ℤ pos low) = mul_anti r (pos low) (pos n) (omega (arith, ints)) (omega (arith, ints)) in
    omega (arith, ints, clamps, less))
    (λ positive. let less : (r *ℤ pos n) ≤ℤ (r *ℤ pos high) = mul_mono r (pos n) (pos high) positive (omega (arith, ints)) in
    omega (arith, ints, clamps, less))

share-within : (r : ℤ) (low high a b : ℕ) → low ≤ a → a ≤ high → low ≤ b → b ≤ high
    → int_max (r *ℤ pos a) (r *ℤ pos b) ≤ℤ int_max (r *ℤ pos low) (r *ℤ pos high)
share-within r low high a b p q s t =
    let first = within-ends r low high a p q in
    let second = within-ends r low high b s t in
    omega (arith, ints, clamps, first, second)

share-less : (p : Program) (floors caps : List ℕ) (cell at : ℕ) (mult : Mult) → nat_at floors cell ≤ at → at < nat_at caps cell → (i : ℕ)
    → cell_share p floors (less_caps caps cell at) mult i ≤ℤ cell_share p floors caps mult i
share-less p floors caps cell at mult less more i = elim (cases_eq i cell) [
  | inl e ↦
      let here : nat_at floors i ≤ nat_at caps i = rw e (omega (arith, less, more)) in
      share-within (rest_of p mult i) (nat_at floors i) (nat_at caps i) (nat_at floors i) (nat_at (less_caps caps cell at) i)
      (omega arith) here (caps-stay floors caps cell at i less here) (caps-fall caps cell at i more)
  | inr other ↦ rw (get_or-set_other caps cell i at 0 other) (omega (arith, ints))
]

share-more : (p : Program) (floors caps : List ℕ) (cell at : ℕ) (mult : Mult) → nat_at floors cell ≤ at → at < nat_at caps cell → (i : ℕ)
    → cell_share p (more_floors floors cell at) caps mult i ≤ℤ cell_share p floors caps mult i
share-more p floors caps cell at mult less more i = elim (cases_eq i cell) [
  | inl e ↦
      let here : nat_at floors i ≤ nat_at caps i = rw e (omega (arith, less, more)) in
      share-within (rest_of p mult i) (nat_at floors i) (nat_at caps i) (nat_at (more_floors floors cell at) i) (nat_at caps i)
      (floors-rise floors cell at i less) (floors-stay floors caps cell at i more here) here (omega arith)
  | inr other ↦ rw (get_or-set_other floors cell i (at + 1) 0 other) (omega (arith, ints))
]

-- a smaller number has no greater quotient
pub div_mono : (a b d : ℤ) → pos 1 ≤ℤ d → a ≤ℤ b → int_div_euclid a d ≤ℤ int_div_euclid b d
div_mono a b d positive below =
    let above : pos 0 <ℤ d = omega (arith, ints) in
    let under = (is_whole_part a d above).not_above in
    let turned = *ℤ_comm d (int_div_euclid a d) in
    le-div_euclid (int_div_euclid a d) b d above (omega (arith, ints, under, turned, below))

raw_mono : (p : Program) (floors caps lows highs : List ℕ) (mult : Mult) → ((i : ℕ) → cell_share p lows highs mult i ≤ℤ cell_share p floors caps mult i)
    → raw_bound p lows highs mult ≤ℤ raw_bound p floors caps mult
raw_mono p floors caps lows highs mult each =
    let cells = sum_below_mono (cells_of p) (cell_share p lows highs mult) (cell_share p floors caps mult) (λ i h. each i) in
    omega (arith, ints, cells)

pub bound-less : (p : Program) (floors caps : List ℕ) (cell at : ℕ) (mult : Mult) → IsMultiplier p mult → nat_at floors cell ≤ at → at < nat_at caps cell
    → bound_of p floors (less_caps caps cell at) mult ≤ℤ bound_of p floors caps mult
bound-less p floors caps cell at mult by less more =
    div_mono (raw_bound p floors (less_caps caps cell at) mult) (raw_bound p floors caps mult) mult.den by.positive
    (raw_mono p floors caps floors (less_caps caps cell at) mult (share-less p floors caps cell at mult less more))

pub bound-more : (p : Program) (floors caps : List ℕ) (cell at : ℕ) (mult : Mult) → IsMultiplier p mult → nat_at floors cell ≤ at → at < nat_at caps cell
    → bound_of p (more_floors floors cell at) caps mult ≤ℤ bound_of p floors caps mult
bound-more p floors caps cell at mult by less more =
    div_mono (raw_bound p (more_floors floors cell at) caps mult) (raw_bound p floors caps mult) mult.den by.positive
    (raw_mono p floors caps (more_floors floors cell at) caps mult (share-more p floors caps cell at mult less more))

-- ---- multipliers of the part's own

-- counts of a box are counts of each wider one
relaxed-wider : (p : Program) (floors caps lows highs : List ℕ) (den : ℕ) (counts : List ℕ) → ((i : ℕ) → nat_at floors i ≤ nat_at lows i)
    → ((i : ℕ) → nat_at highs i ≤ nat_at caps i) → IsRelaxed p lows highs den counts → IsRelaxed p floors caps den counts
relaxed-wider p floors caps lows highs den counts rise fall relaxed = record {
  positive = relaxed.positive;
  sized = relaxed.sized;
  within = λ i h.
      let here = relaxed.within i h in
      let low : nat_at floors i * den ≤ nat_at lows i * den = mul-le-mul_right den (rise i) in
      let high : nat_at highs i * den ≤ nat_at caps i * den = mul-le-mul_right den (fall i) in
      (omega (arith, here, low), omega (arith, here, high));
  met = relaxed.met;
}

-- what is reached over one denominator, rounded down, is under what bounds it over another
rounded-under : (own above raw whole reached : ℤ) (den : ℕ) → 1 ≤ den → pos 1 ≤ℤ own → pos 1 ≤ℤ above → own *ℤ reached ≡ pos den *ℤ raw
    → (above *ℤ reached) ≤ℤ (pos den *ℤ whole) → int_div_euclid raw own ≤ℤ int_div_euclid whole above
rounded-under own above raw whole reached den some positive also reaches under =
    let q = int_div_euclid raw own in
    let rounded = (is_whole_part raw own (omega (arith, ints))).not_above in
    let turned = *ℤ_comm own q in
    let scaled : (pos den *ℤ (own *ℤ q)) ≤ℤ (pos den *ℤ raw) = mul_mono (pos den) (own *ℤ q) raw (omega (arith, ints)) (omega (arith, ints, rounded, turned)) in
    let swapped = mul_swap own (pos den) q in
    let below : (pos den *ℤ q) ≤ℤ reached = le_cancel own (pos den *ℤ q) reached (omega (arith, ints)) (omega (arith, ints, scaled, swapped, reaches)) in
    let more : (above *ℤ (pos den *ℤ q)) ≤ℤ (above *ℤ reached) = mul_mono above (pos den *ℤ q) reached (omega (arith, ints)) below in
    let moved = mul_swap above (pos den) q in
    let most : (above *ℤ q) ≤ℤ whole = le_cancel (pos den) (above *ℤ q) whole (omega (arith, ints)) (omega (arith, ints, more, moved, under)) in
    le-div_euclid q whole above (omega (arith, ints)) most

bound-own : (p : Program) (floors caps lows highs : List ℕ) (above mult : Mult) (point : List Frac) → IsMultiplier p above
    → ((i : ℕ) → nat_at floors i ≤ nat_at lows i) → ((i : ℕ) → nat_at highs i ≤ nat_at caps i) → IsVertex p lows highs point mult
    → bound_of p lows highs mult ≤ℤ bound_of p floors caps above
bound-own p floors caps lows highs above mult point by rise fall v =
    rounded-under mult.den above.den (raw_bound p lows highs mult) (raw_bound p floors caps above) (worth p v.counts) v.den
    v.relaxed.positive v.by.positive by.positive v.greatest
    (duality p floors caps v.den v.counts above (relaxed-wider p floors caps lows highs v.den v.counts rise fall v.relaxed))

pub bound-own_less : (p : Program) (floors caps : List ℕ) (cell at : ℕ) (above mult : Mult) (point : List Frac) → IsProgram p → IsMultiplier p above
    → IsBox p floors caps → nat_at floors cell ≤ at → at < nat_at caps cell → IsRelaxation p floors (less_caps caps cell at) (vertex point mult)
    → bound_of p floors (less_caps caps cell at) mult ≤ℤ bound_of p floors caps above
bound-own_less p floors caps cell at above mult point program by box less more relaxed =
    bound-own p floors caps floors (less_caps caps cell at) above mult point by (λ i. omega arith) (λ i. caps-fall caps cell at i more)
    (IsVertex-point p floors (less_caps caps cell at) program (less_box p floors caps cell at box less more) point mult relaxed)

pub bound-own_more : (p : Program) (floors caps : List ℕ) (cell at : ℕ) (above mult : Mult) (point : List Frac) → IsProgram p → IsMultiplier p above
    → IsBox p floors caps → nat_at floors cell ≤ at → at < nat_at caps cell → IsRelaxation p (more_floors floors cell at) caps (vertex point mult)
    → bound_of p (more_floors floors cell at) caps mult ≤ℤ bound_of p floors caps above
bound-own_more p floors caps cell at above mult point program by box less more relaxed =
    bound-own p floors caps (more_floors floors cell at) caps above mult point by (λ i. floors-rise floors cell at i less) (λ i. omega arith)
    (IsVertex-point p (more_floors floors cell at) caps program (more_box p floors caps cell at box less more) point mult relaxed)
