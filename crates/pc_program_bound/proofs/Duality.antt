-- The bound of multipliers is above all that the program allows.
use Rattle.std.proofs.Common.{◌≡◌, ℕ, zero, suc, ◌*◌, ◌≤◌, Bool, true, false, List, replicate, refl, ap, sym, ◌∙◌, arith, cond}
use Rattle.std.specs.Prelude.{ℤ, pos, negsuc, ◌+ℤ◌, ◌-ℤ◌, ◌*ℤ◌, ◌≤ℤ◌, ◌<ℤ◌, int_lt}
use Rattle.std.specs.Int.{int_max}
use Rattle.std.proofs.lemmas.Int.{ints, clamps, by_lt_z}
use Rattle.std.proofs.Math.IntN.{*ℤ_comm}
use Rattle.pc_model.specs.declared.tree.Mult.{Mult}
use Rattle.pc_model.specs.Places.{has_bit}
use Rattle.pc_program_bound.specs.declared.program.Program.{Program}
use Rattle.pc_program_bound.specs.Sums.{sum_below, nat_at, int_at}
use Rattle.pc_program_bound.specs.Allocation.{cells_of, constraints_of, count_for, total, worth, IsAllocation, IsRelaxed}
use Rattle.pc_program_bound.specs.Bound.{part_of, rest_of, constraint_share, cell_share, raw_bound, bound_of, without_gain, IsVoid}
use Rattle.pc_program_bound.proofs.Ring.{mul-add, mul_assoc, mul_mono, mul_anti, mul-pos, le-div_euclid}
use Rattle.pc_program_bound.proofs.SumBelow.{sum_below-same, sum_below-add, sum_below-scale, sum_below-swap, sum_below-zeros, sum_below_mono}

-- ---- one cell and one constraint

-- what is left of a gain, times a count within its ends
cell-most : (r : ℤ) (floor ceiling count den : ℕ) → floor * den ≤ count → count ≤ ceiling * den
    → (r *ℤ pos count) ≤ℤ (pos den *ℤ int_max (r *ℤ pos floor) (r *ℤ pos ceiling))
cell-most r floor ceiling count den above below = by_lt_z r (pos 0) falls rises
  where
    over : (x : ℤ) → x ≤ℤ int_max (r *ℤ pos floor) (r *ℤ pos ceiling)
        → (pos den *ℤ x) ≤ℤ (pos den *ℤ int_max (r *ℤ pos floor) (r *ℤ pos ceiling))
    over x h = mul_mono (pos den) x (int_max (r *ℤ pos floor) (r *ℤ pos ceiling)) (omega (arith, ints)) h

    falls : r <ℤ pos 0 → (r *ℤ pos count) ≤ℤ (pos den *ℤ int_max (r *ℤ pos floor) (r *ℤ pos ceiling))
    falls negative =
        let less : (r *ℤ pos count) ≤ℤ (r *ℤ pos (floor * den)) = mul_anti r (pos (floor * den)) (pos count) (omega (arith, ints)) (omega (arith, ints)) in
        let same = mul-pos r floor den in
        let end = over (r *ℤ pos floor) (omega (arith, ints, clamps)) in
        omega (arith, ints, less, same, end)

    rises : pos 0 ≤ℤ r → (r *ℤ pos count) ≤ℤ (pos den *ℤ int_max (r *ℤ pos floor) (r *ℤ pos ceiling))
    rises positive =
        let less : (r *ℤ pos count) ≤ℤ (r *ℤ pos (ceiling * den)) = mul_mono r (pos count) (pos (ceiling * den)) positive (omega (arith, ints)) in
        let same = mul-pos r ceiling den in
        let end = over (r *ℤ pos ceiling) (omega (arith, ints, clamps)) in
        omega (arith, ints, less, same, end)

-- a multiplier times a total within its ends
constraint-most : (by t : ℤ) (least most den : ℕ) → pos (least * den) ≤ℤ t → t ≤ℤ pos (most * den)
    → (by *ℤ t) ≤ℤ (pos den *ℤ (by *ℤ pos (cond (int_lt (pos 0) by) most least)))
constraint-most by t least most den above below = by_sign (int_lt (pos 0) by) refl
  where
    by_sign : (test : Bool) → int_lt (pos 0) by ≡ test → (by *ℤ t) ≤ℤ (pos den *ℤ (by *ℤ pos (cond test most least)))
    by_sign true e =
        let less : (by *ℤ t) ≤ℤ (by *ℤ pos (most * den)) = mul_mono by t (pos (most * den)) (omega (arith, ints)) below in
        let same = mul-pos by most den in
        omega (arith, ints, less, same)
    by_sign false e =
        let less : (by *ℤ t) ≤ℤ (by *ℤ pos (least * den)) = mul_anti by (pos (least * den)) t (omega (arith, ints)) above in
        let same = mul-pos by least den in
        omega (arith, ints, less, same)

-- ---- a gain, shared between its constraints and what is left of it

shared : (a given c : ℤ) → a *ℤ c ≡ (a -ℤ given) *ℤ c +ℤ c *ℤ given
shared a given c =
    let whole : (a -ℤ given) +ℤ given ≡ a = omega (arith, ints) in
    *ℤ_comm a c ∙ ap (λ x. c *ℤ x) (sym whole) ∙ mul-add c (a -ℤ given) given ∙ ap (λ x. x +ℤ c *ℤ given) (*ℤ_comm c (a -ℤ given))

part-count : (test : Bool) (by : ℤ) (count : ℕ) → pos count *ℤ cond test by (pos 0) ≡ by *ℤ cond test (pos count) (pos 0)
part-count true by count = *ℤ_comm (pos count) by
part-count false by count = omega (arith, ints)

module _ (p : Program) (counts : List ℕ) (mult : Mult) where
  given-count : (i : ℕ) → pos (nat_at counts i) *ℤ sum_below (constraints_of p) (part_of p mult i)
      ≡ sum_below (constraints_of p) (λ j. int_at mult.by j *ℤ count_for p counts j i)
  given-count i =
      sym (sum_below-scale (pos (nat_at counts i)) (constraints_of p) (part_of p mult i))
      ∙ sum_below-same (constraints_of p) (λ j. pos (nat_at counts i) *ℤ part_of p mult i j) (λ j. int_at mult.by j *ℤ count_for p counts j i)
      (λ j h. part-count (has_bit (nat_at p.masks i) j) (int_at mult.by j) (nat_at counts i))

  cell-worth : (i : ℕ) → mult.den *ℤ (int_at p.gain i *ℤ pos (nat_at counts i))
      ≡ rest_of p mult i *ℤ pos (nat_at counts i) +ℤ sum_below (constraints_of p) (λ j. int_at mult.by j *ℤ count_for p counts j i)
  cell-worth i =
      sym (mul_assoc mult.den (int_at p.gain i) (pos (nat_at counts i)))
      ∙ shared (mult.den *ℤ int_at p.gain i) (sum_below (constraints_of p) (part_of p mult i)) (pos (nat_at counts i))
      ∙ ap (λ x. rest_of p mult i *ℤ pos (nat_at counts i) +ℤ x) (given-count i)

  constraint-worth : (j : ℕ) → sum_below (cells_of p) (λ i. int_at mult.by j *ℤ count_for p counts j i) ≡ int_at mult.by j *ℤ total p counts j
  constraint-worth j = sum_below-scale (int_at mult.by j) (cells_of p) (count_for p counts j)

  -- the worth is what the constraints take and what is left
  pub worth-shared : mult.den *ℤ worth p counts
      ≡ sum_below (cells_of p) (λ i. rest_of p mult i *ℤ pos (nat_at counts i)) +ℤ sum_below (constraints_of p) (λ j. int_at mult.by j *ℤ total p counts j)
  worth-shared =
      let left = λ (i : ℕ). rest_of p mult i *ℤ pos (nat_at counts i) in
      let taken = λ (i : ℕ) (j : ℕ). int_at mult.by j *ℤ count_for p counts j i in
      let gains = λ (i : ℕ). int_at p.gain i *ℤ pos (nat_at counts i) in
      let taken_by = λ (i : ℕ). sum_below (constraints_of p) (taken i) in
      sym (sum_below-scale mult.den (cells_of p) gains)
      ∙ sum_below-same (cells_of p) (λ i. mult.den *ℤ gains i) (λ i. left i +ℤ taken_by i) (λ i h. cell-worth i)
      ∙ sum_below-add (cells_of p) left taken_by
      ∙ ap (λ x. sum_below (cells_of p) left +ℤ x) (sum_below-swap (cells_of p) (constraints_of p) taken
      ∙ sum_below-same (constraints_of p) (λ j. sum_below (cells_of p) (λ i. taken i j)) (λ j. int_at mult.by j *ℤ total p counts j) (λ j h. constraint-worth j))

-- ---- the bound

-- every relaxed allocation, given over `den`, is worth at most the bound before rounding
pub duality : (p : Program) (floors caps : List ℕ) (den : ℕ) (counts : List ℕ) (mult : Mult) → IsRelaxed p floors caps den counts
    → (mult.den *ℤ worth p counts) ≤ℤ (pos den *ℤ raw_bound p floors caps mult)
duality p floors caps den counts mult relaxed =
    let left = λ (i : ℕ). rest_of p mult i *ℤ pos (nat_at counts i) in
    let taken = λ (j : ℕ). int_at mult.by j *ℤ total p counts j in
    let cells = sum_below (cells_of p) (cell_share p floors caps mult) in
    let constraints = sum_below (constraints_of p) (constraint_share p mult) in
    let most_left = sum_below_mono (cells_of p) left (λ i. pos den *ℤ cell_share p floors caps mult i)
    (λ i h. cell-most (rest_of p mult i) (nat_at floors i) (nat_at caps i) (nat_at counts i) den (relaxed.within i h).0 (relaxed.within i h).1) in
    let most_taken = sum_below_mono (constraints_of p) taken (λ j. pos den *ℤ constraint_share p mult j)
    (λ j h. constraint-most (int_at mult.by j) (total p counts j) (nat_at p.least j) (nat_at p.most j) den (relaxed.met j h).0 (relaxed.met j h).1) in
    let scaled_cells = sum_below-scale (pos den) (cells_of p) (cell_share p floors caps mult) in
    let scaled_constraints = sum_below-scale (pos den) (constraints_of p) (constraint_share p mult) in
    let whole = worth-shared p counts mult in
    let both = mul-add (pos den) constraints cells in
    omega (arith, ints, whole, both, most_left, most_taken, scaled_cells, scaled_constraints)

-- an allocation is a relaxed one over 1
pub IsRelaxed-from_allocation : (p : Program) (floors caps counts : List ℕ) → IsAllocation p floors caps counts → IsRelaxed p floors caps 1 counts
IsRelaxed-from_allocation p floors caps counts allocation = record {
  positive = omega arith;
  sized = allocation.sized;
  within = λ i h. let fits = allocation.within i h in (omega (arith, fits), omega (arith, fits));
  met = λ j h. let fits = allocation.met j h in (omega (arith, ints, fits), omega (arith, ints, fits));
}

-- every allocation is worth at most the bound
pub worth-le-bound : (p : Program) (floors caps counts : List ℕ) (mult : Mult) → IsAllocation p floors caps counts → pos 0 <ℤ mult.den
    → worth p counts ≤ℤ bound_of p floors caps mult
worth-le-bound p floors caps counts mult allocation positive =
    let most = duality p floors caps 1 counts mult (IsRelaxed-from_allocation p floors caps counts allocation) in
    let one : pos 1 *ℤ raw_bound p floors caps mult ≡ raw_bound p floors caps mult = omega (arith, ints) in
    le-div_euclid (worth p counts) (raw_bound p floors caps mult) mult.den positive (rw one at most)

-- ---- no allocation

no_gain : (n i : ℕ) → int_at (replicate n (pos 0)) i ≡ pos 0
no_gain zero i = refl
no_gain (suc n) zero = refl
no_gain (suc n) (suc i) = no_gain n i

pub worth-none : (p : Program) (counts : List ℕ) → worth (without_gain p) counts ≡ pos 0
worth-none p counts =
    sum_below-same (cells_of p) (λ i. int_at (without_gain p).gain i *ℤ pos (nat_at counts i)) (λ i. pos 0)
    (λ i h. ap (λ x. x *ℤ pos (nat_at counts i)) (no_gain (cells_of p) i) ∙ nothing (nat_at counts i))
    ∙ sum_below-zeros (cells_of p)
  where
    nothing : (n : ℕ) → pos 0 *ℤ pos n ≡ pos 0
    nothing n = omega (arith, ints)

-- a box that is void has no relaxed allocation
pub void-no_relaxed : (p : Program) (floors caps : List ℕ) (den : ℕ) (counts : List ℕ) (mult : Mult) → IsVoid p floors caps mult
    → IsRelaxed p floors caps den counts → ⊥
void-no_relaxed p floors caps den counts mult void relaxed =
    let free : IsRelaxed (without_gain p) floors caps den counts = record {
      positive = relaxed.positive;
      sized = relaxed.sized;
      within = relaxed.within;
      met = relaxed.met;
    } in
    let most = duality (without_gain p) floors caps den counts mult free in
    let none : mult.den *ℤ pos 0 ≡ pos 0 = omega (arith, ints) in
    below_nothing den (raw_bound (without_gain p) floors caps mult) relaxed.positive void.below (rw (worth-none p counts, none) at most)
  where
    below_nothing : (n : ℕ) (z : ℤ) → 1 ≤ n → z <ℤ pos 0 → pos 0 ≤ℤ (pos n *ℤ z) → ⊥
    below_nothing n z some negative positive =
        let scaled : (pos n *ℤ z) ≤ℤ (pos n *ℤ negsuc 0) = mul_mono (pos n) z (negsuc 0) (omega (arith, ints)) (omega (arith, ints)) in
        omega (arith, ints, scaled)

-- nor an allocation
pub void-none : (p : Program) (floors caps counts : List ℕ) (mult : Mult) → IsVoid p floors caps mult → IsAllocation p floors caps counts → ⊥
void-none p floors caps counts mult void allocation =
    void-no_relaxed p floors caps 1 counts mult void (IsRelaxed-from_allocation p floors caps counts allocation)

pub ruleset laws = (worth-le-bound, void-none)
