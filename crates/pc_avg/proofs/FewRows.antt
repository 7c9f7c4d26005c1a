-- How many rows the cells can have: what the constraints allow together, and what the caps allow.
use Rattle.std.proofs.Common.{◌≡◌, ℕ, suc, ◌+◌, ◌*◌, ◌/◌, ◌^◌, ◌<◌, ◌≤◌, min, ℤ, pos, ◌+ℤ◌, ◌*ℤ◌, ◌≤ℤ◌, Bool, true, false, cond, inl, inr, ◌⊎◌, List, [], ◌∷◌, length, map, get_or, All, AllPairs, refl, sym, ap, subst, ◌∙◌, arith}
use Rattle.std.specs.Prelude.{unwrap_or, if◌then◌else◌}
use Rattle.std.specs.List.{reduce}
use Rattle.std.proofs.Math.Nat.{mul-le-mul_right}
use Rattle.std.proofs.Math.Pow.{pow_mono}
use Rattle.std.proofs.lemmas.Int.{ints}
use Rattle.std.proofs.lemmas.List.{length-map}
use Rattle.pc_model.specs.declared.schema.Schema.{Schema}
use Rattle.pc_model.specs.declared.area.Area.{Area}
use Rattle.pc_model.specs.declared.constraint.Constraint.{Constraint}
use Rattle.pc_model.specs.Accepted.{AreConstraints, frequency_limit}
use Rattle.pc_model.specs.Cells.{Class, HasRowOf}
use Rattle.pc_model.specs.Places.{has_bit}
use Rattle.pc_cells_laws.proofs.Masks.{later_bit}
use Rattle.pc_program_bound.specs.declared.program.Program.{Program}
use Rattle.pc_program_bound.specs.Sums.{sum_below, nat_at, int_at}
use Rattle.pc_program_bound.specs.Allocation.{IsAllocation, cells_of, constraints_of, count_for, total, worth}
use Rattle.pc_program_bound.specs.CellPrograms.{members, cap_of, program_with}
use Rattle.pc_program_bound.proofs.CellPlaces.{no_class, no_constraint, cell_inside, constraint_inside, mask_is, cap_is, most_is}
use Rattle.pc_program_bound.proofs.SumBelow.{sum_below-zero, sum_below-same, sum_below-zeros, sum_below-swap, sum_below_mono, sum_below-front}
use Rattle.pc_avg_ratio.specs.Fractional.{most_added, most_room}
use Rattle.pc_agg_search.proofs.CellPrograms.{cap_small}
use Rattle.pc_agg_search.proofs.ManyCells.{many_cells, sum_at_most}
use Rattle.pc_agg_search.proofs.NestedCells.{Differ}

-- ---- a count within the cap is counted by some constraint

abbrev most_of : Constraint → ℕ
most_of c = c.most

module _ (n : ℕ) where
  abbrev if_in : ℕ → ℕ → ℤ
  if_in mask j = cond (has_bit mask j) (pos n) (pos 0)

  some_or_none : (test : Bool) → pos 0 ≤ℤ cond test (pos n) (pos 0)
  some_or_none true = omega (arith, ints)
  some_or_none false = omega (arith, ints)

  some_counted : (mask k : ℕ) → pos 0 ≤ℤ sum_below k (if_in mask)
  some_counted mask k =
      let each = sum_below_mono k (λ i. pos 0) (if_in mask) (λ i h. some_or_none (has_bit mask i)) in
      omega (arith, ints, each, sum_below-zeros k)

  -- the first constraint counts it, or the later ones do
  first_or_later : (mask k : ℕ) → sum_below (suc k) (if_in mask) ≡ if_in mask 0 +ℤ sum_below k (if_in (mask / 2))
  first_or_later mask k =
      sum_below-front k (if_in mask)
      ∙ ap (λ x. if_in mask 0 +ℤ x) (sum_below-same k (λ i. if_in mask (suc i)) (if_in (mask / 2)) (λ i h. ap (λ b. cond b (pos n) (pos 0)) (later_bit mask i)))

  counted : (mask : ℕ) (cs : List Constraint) → n ≤ unwrap_or (reduce min (map most_of (members mask cs))) 0 → pos n ≤ℤ sum_below (length cs) (if_in mask)
  counted mask [] few = omega (arith, ints, few, sum_below-zero (if_in mask))
  counted mask (c ∷ cs) few = by_bit (has_bit mask 0) refl few (λ less. counted (mask / 2) cs less)
    where
      by_bit : (bit : Bool) → has_bit mask 0 ≡ bit → n ≤ unwrap_or (reduce min (map most_of (if bit then c ∷ members (mask / 2) cs else members (mask / 2) cs))) 0 →
          (n ≤ unwrap_or (reduce min (map most_of (members (mask / 2) cs))) 0 → pos n ≤ℤ sum_below (length cs) (if_in (mask / 2))) → pos n ≤ℤ sum_below (suc (length cs)) (if_in mask)
      by_bit true is few later =
          let first : if_in mask 0 ≡ pos n = ap (λ b. cond b (pos n) (pos 0)) is in
          omega (arith, ints, first, first_or_later mask (length cs), some_counted (mask / 2) (length cs))
      by_bit false is few later =
          let first : if_in mask 0 ≡ pos 0 = ap (λ b. cond b (pos n) (pos 0)) is in
          omega (arith, ints, first, first_or_later mask (length cs), later few)

module _ (schema : Schema) (constraints : List Constraint) (are : AreConstraints schema constraints) (classes : List Class) (gains : List ℤ) where
  abbrev p : Program
  p = program_with constraints classes gains

  -- ---- the rows that counts are of

  module _ (counts : List ℕ) (lawful : IsAllocation p p.floor p.cap counts) where
    abbrev count : ℕ → ℤ
    count i = pos (nat_at counts i)

    cell_counted : (i : ℕ) → i < cells_of p → count i ≤ℤ sum_below (constraints_of p) (λ j. count_for p counts j i)
    cell_counted i h =
        let there = cell_inside constraints classes gains i h in
        let class = get_or classes i no_class in
        let few : nat_at counts i ≤ cap_of constraints class = omega (arith, (lawful.within i h).1, cap_is constraints classes gains i there) in
        subst (λ mask. count i ≤ℤ sum_below (constraints_of p) (λ j. cond (has_bit mask j) (count i) (pos 0))) (sym (mask_is constraints classes gains i there))
        (subst (λ m. count i ≤ℤ sum_below m (if_in (nat_at counts i) class.mask)) (sym (length-map constraints (λ (c : Constraint). c.least))) (counted (nat_at counts i) class.mask constraints few))

    total_small : (j : ℕ) → j < constraints_of p → total p counts j ≤ℤ pos 10_000_000
    total_small j h =
        let there = constraint_inside constraints classes gains j h in
        let small = are.small j no_constraint there in
        omega (arith, ints, (lawful.met j h).1, most_is constraints classes gains j there, small)

    all_counted : sum_below (cells_of p) count ≤ℤ sum_below (constraints_of p) (total p counts)
    all_counted =
        let each = sum_below_mono (cells_of p) count (λ i. sum_below (constraints_of p) (λ j. count_for p counts j i)) cell_counted in
        let swapped = sum_below-swap (cells_of p) (constraints_of p) (λ i j. count_for p counts j i) in
        omega (arith, ints, each, swapped)

    few_counted : sum_below (cells_of p) count ≤ℤ pos most_added
    few_counted =
        let all = sum_at_most (constraints_of p) 10_000_000 (total p counts) total_small in
        let few : constraints_of p ≤ 20 = omega (arith, are.few, length-map constraints (λ (c : Constraint). c.least)) in
        let less : constraints_of p * 10_000_000 ≤ 20 * 10_000_000 = mul-le-mul_right 10_000_000 few in
        omega (arith, ints, all, less, all_counted)

    once_at_most : (gain : ℤ) (n : ℕ) → (gain ≡ pos 0) ⊎ (gain ≡ pos 1) → (gain *ℤ pos n) ≤ℤ pos n
    once_at_most gain n (inl none) = rw none (omega (arith, ints))
    once_at_most gain n (inr one) = rw one (omega (arith, ints))

    pub few_rows : ((i : ℕ) → i < cells_of p → (int_at gains i ≡ pos 0) ⊎ (int_at gains i ≡ pos 1)) → worth p counts ≤ℤ pos most_added
    few_rows ones =
        let each = sum_below_mono (cells_of p) (λ i. int_at gains i *ℤ count i) count (λ i h. once_at_most (int_at gains i) (nat_at counts i) (ones i h)) in
        omega (arith, ints, each, few_counted)

  -- ---- the caps of all cells

  module _ (chosen : Area) (rows : All (HasRowOf schema constraints chosen) classes) (differ : AllPairs Differ classes) where
    small_cap : (i : ℕ) → i < cells_of p → pos (nat_at p.cap i) ≤ℤ pos 10_000_000
    small_cap i h =
        let at_most = cap_small frequency_limit (get_or classes i no_class) constraints are.small in
        omega (arith, ints, at_most, cap_is constraints classes gains i (cell_inside constraints classes gains i h))

    pub room : sum_below (cells_of p) (λ i. pos (nat_at p.cap i)) ≤ℤ pos most_room
    room =
        let all = sum_at_most (cells_of p) 10_000_000 (λ i. pos (nat_at p.cap i)) small_cap in
        let many = many_cells schema constraints chosen classes rows differ in
        let most : 2 ^ length constraints ≤ 2 ^ 20 = pow_mono are.few in
        let few : cells_of p ≤ 2_097_152 = omega (arith, many, most, length-map classes (λ (class : Class). class.mask)) in
        let less : cells_of p * 10_000_000 ≤ 2_097_152 * 10_000_000 = mul-le-mul_right 10_000_000 few in
        omega (arith, ints, all, less)
