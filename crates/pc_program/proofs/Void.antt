-- The multiplier -1 of a constraint that is short shows that there is no allocation.
use Rattle.std.proofs.Common.{◌≡◌, ◌≢◌, ℕ, ◌<◌, ◌≤◌, ◌^◌, Bool, true, false, cond, List, length, set, replicate, inl, inr, refl, ap, ◌∙◌, arith, get_or-set_same, get_or-set_other, length-set}
use Rattle.std.specs.Prelude.{ℤ, pos, negsuc, neg_ℤ, ◌+ℤ◌, ◌-ℤ◌, ◌*ℤ◌, int_lt, nat_abs}
use Rattle.std.specs.Int.{int_max}
use Rattle.std.proofs.lemmas.Int.{ints, clamps}
use Rattle.std.proofs.lemmas.Bool.{cases_eq}
use Rattle.std.proofs.lemmas.List.{length-replicate, get_or-replicate}
use Rattle.pc_model.specs.declared.tree.Mult.{Mult}
use Rattle.pc_program_bound.specs.declared.program.Program.{Program}
use Rattle.pc_program_bound.specs.Sums.{sum_below, nat_at, int_at}
use Rattle.pc_program_bound.specs.Allocation.{cells_of, constraints_of, count_for, total, IsProgram}
use Rattle.pc_program_bound.specs.Bound.{part_of, rest_of, constraint_share, cell_share, raw_bound, without_gain, IsVoid}
use Rattle.pc_program_bound.proofs.SumBelow.{none_chosen, sum_below-same, sum_below-one}
use Rattle.pc_program.specs.Settled.{is_in, HasOneBits, IsShort}
use Rattle.pc_program.proofs.Widths.{fits-small}

-- -1 for one constraint, and 0 for the others
abbrev pub minus_one : ℕ → ℕ → List ℤ
minus_one place n = set (replicate n (pos 0)) place (negsuc 0)

abbrev pub mult_of : List ℤ → Mult
mult_of multipliers = record { by = multipliers; den = pos 1 }

minus_one-here : (place n : ℕ) → place < n → int_at (minus_one place n) place ≡ negsuc 0
minus_one-here place n there =
    let long : place < length (replicate n (pos 0)) = rw (length-replicate n (pos 0)) there in
    get_or-set_same (replicate n (pos 0)) place (negsuc 0) (pos 0) long

minus_one-other : (place n j : ℕ) → j < n → j ≢ place → int_at (minus_one place n) j ≡ pos 0
minus_one-other place n j there apart = get_or-set_other (replicate n (pos 0)) place j (negsuc 0) (pos 0) apart ∙ get_or-replicate n j (pos 0) (pos 0) there

-- what such multipliers take
share-one : (by : ℤ) (least most : ℕ) → by ≡ negsuc 0 → by *ℤ pos (cond (int_lt (pos 0) by) most least) ≡ neg_ℤ (pos least)
share-one by least most e = rw e (taken least)
  where
    taken : (n : ℕ) → negsuc 0 *ℤ pos n ≡ neg_ℤ (pos n)
    taken n = omega (arith, ints)

share-zero : (by : ℤ) (least most : ℕ) → by ≡ pos 0 → by *ℤ pos (cond (int_lt (pos 0) by) most least) ≡ pos 0
share-zero by least most e = rw e (taken least)
  where
    taken : (n : ℕ) → pos 0 *ℤ pos n ≡ pos 0
    taken n = omega (arith, ints)

-- and what is left to a cell
most-left : (test : Bool) (floor cap : ℕ) → floor ≤ cap
    → int_max (cond test (pos 1) (pos 0) *ℤ pos floor) (cond test (pos 1) (pos 0) *ℤ pos cap) ≡ cond test (pos cap) (pos 0)
most-left true floor cap ordered = omega (arith, ints, clamps)
most-left false floor cap ordered = omega (arith, ints, clamps)

module _ (p : Program) (place : ℕ) (program : IsProgram p) (there : place < constraints_of p) where
  abbrev mult : Mult
  mult = mult_of (minus_one place (constraints_of p))

  rest-short : (i : ℕ) → i < cells_of p → rest_of (without_gain p) mult i ≡ cond (is_in p i place) (pos 1) (pos 0)
  rest-short i h =
      let given : sum_below (constraints_of p) (part_of (without_gain p) mult i) ≡ cond (is_in p i place) (negsuc 0) (pos 0) =
      sum_below-one (constraints_of p) place (part_of (without_gain p) mult i) there
      (λ j below apart. none_chosen (is_in p i j) (int_at mult.by j) (minus_one-other place (constraints_of p) j below apart))
      ∙ ap (λ x. cond (is_in p i place) x (pos 0)) (minus_one-here place (constraints_of p) there) in
      let gain : int_at (without_gain p).gain i ≡ pos 0 = get_or-replicate (cells_of p) i (pos 0) (pos 0) h in
      ap (λ g. pos 1 *ℤ g -ℤ sum_below (constraints_of p) (part_of (without_gain p) mult i)) gain
      ∙ ap (λ s. pos 1 *ℤ pos 0 -ℤ s) given ∙ turned (is_in p i place)
    where
      turned : (test : Bool) → pos 1 *ℤ pos 0 -ℤ cond test (negsuc 0) (pos 0) ≡ cond test (pos 1) (pos 0)
      turned true = refl
      turned false = refl

  cell-short : (i : ℕ) → i < cells_of p → cell_share (without_gain p) p.floor p.cap mult i ≡ count_for p p.cap place i
  cell-short i h =
      ap (λ r. int_max (r *ℤ pos (nat_at p.floor i)) (r *ℤ pos (nat_at p.cap i))) (rest-short i h)
      ∙ most-left (is_in p i place) (nat_at p.floor i) (nat_at p.cap i) (program.boxed i h)

  raw-short : raw_bound (without_gain p) p.floor p.cap mult ≡ neg_ℤ (pos (nat_at p.least place)) +ℤ total p p.cap place
  raw-short =
      let constraints : sum_below (constraints_of p) (constraint_share (without_gain p) mult) ≡ neg_ℤ (pos (nat_at p.least place)) =
      sum_below-one (constraints_of p) place (constraint_share (without_gain p) mult) there
      (λ j below apart. share-zero (int_at mult.by j) (nat_at p.least j) (nat_at p.most j) (minus_one-other place (constraints_of p) j below apart))
      ∙ share-one (int_at mult.by place) (nat_at p.least place) (nat_at p.most place) (minus_one-here place (constraints_of p) there) in
      let cells : sum_below (cells_of p) (cell_share (without_gain p) p.floor p.cap mult) ≡ total p p.cap place =
      sum_below-same (cells_of p) (cell_share (without_gain p) p.floor p.cap mult) (count_for p p.cap place) cell-short in
      ap (λ x. x +ℤ sum_below (cells_of p) (cell_share (without_gain p) p.floor p.cap mult)) constraints
      ∙ ap (λ x. neg_ℤ (pos (nat_at p.least place)) +ℤ x) cells

  small-short : (j : ℕ) → j < constraints_of p → nat_abs (int_at mult.by j) ≤ 2 ^ 87
  small-short j below = elim (cases_eq j place) [
    | inl e ↦ rw (e, minus_one-here place (constraints_of p) there) (omega arith)
    | inr apart ↦ rw (minus_one-other place (constraints_of p) j below apart) (omega arith)
  ]

  pub IsVoid-short : HasOneBits p → IsShort p place → IsVoid p p.floor p.cap mult
  IsVoid-short one_bits short = record {
    by = record {
      sized = length-set (replicate (constraints_of p) (pos 0)) place (negsuc 0) ∙ length-replicate (constraints_of p) (pos 0);
      positive = omega (arith, ints);
      wide = fits-small (without_gain p) mult free one_bits.few refl small-short
          (λ i h. rw (get_or-replicate (cells_of p) i (pos 0) (pos 0) h) (omega arith));
    };
    whole = refl;
    below = rw raw-short (omega (arith, ints, short));
  }
    where
      free : IsProgram (without_gain p)
      free = record {
        mosts = program.mosts;
        floors = program.floors;
        caps = program.caps;
        gains = length-replicate (cells_of p) (pos 0);
        few = program.few;
        ordered = program.ordered;
        boxed = program.boxed;
        small_most = program.small_most;
        small_cap = program.small_cap;
      }
