-- Cells are few enough, and gains small enough, that the numbers of a search fit.
use Rattle.std.proofs.Common.{◌≡◌, ◌≢◌, ℕ, zero, suc, ◌+◌, ◌*◌, ◌^◌, ◌<◌, ◌≤◌, cond, Bool, true, false, true≢false, List, length, map, get_or, All, AllPairs, sym, ap, ap₂, refl, ◌∙◌, arith, eqb-true}
use Rattle.std.specs.Prelude.{ℤ, pos, nat_abs, ◌*ℤ◌, ◌≤ℤ◌}
use Rattle.std.proofs.Math.Nat.{mul-le-mul_left, mul-le-mul_right}
use Rattle.std.proofs.Math.Pow.{pow_mono}
use Rattle.std.proofs.lemmas.Bool.{false_from_ne_true}
use Rattle.std.proofs.lemmas.Int.{ints}
use Rattle.std.proofs.lemmas.List.{length-map, get_or-map}
use Rattle.std.proofs.lemmas.List.Folds.{Any-from_list_any}
use Rattle.std.proofs.lemmas.Map.Keys.{IsDistinct-from_apart}
use Rattle.std.proofs.lemmas.Map.Steps.{length-le_from_distinct_below}
use lib.Dec.{eqb}
use Rattle.pc_model.specs.declared.schema.Schema.{Schema}
use Rattle.pc_model.specs.declared.area.Area.{Area}
use Rattle.pc_model.specs.declared.constraint.Constraint.{Constraint}
use Rattle.pc_model.specs.Accepted.{AreConstraints, frequency_limit}
use Rattle.pc_model.specs.Cells.{Class, HasRowOf}
use Rattle.pc_cells_laws.proofs.Classes.{is_class-from_same}
use Rattle.pc_cells_laws.proofs.Masks.{bit_small, mask_of-small}
use Rattle.pc_program_bound.specs.declared.program.Program.{Program}
use Rattle.pc_program_bound.specs.Sums.{sum_below, nat_at, int_at}
use Rattle.pc_program_bound.specs.Allocation.{cells_of}
use Rattle.pc_program_bound.specs.CellPrograms.{program_with}
use Rattle.pc_program_bound.proofs.CellPlaces.{no_class, cell_inside, cap_is}
use Rattle.pc_program_bound.proofs.SumBelow.{sum_below-zero, sum_below-suc}
use Rattle.pc_branch.specs.Ends.{HasSmallGains}
use Rattle.pc_agg_search.specs.Limits.{greatest_gain, greatest_worth}
use Rattle.pc_agg_search.proofs.CellPrograms.{cap_small}
use Rattle.pc_agg_search.proofs.NestedCells.{Differ}

-- ---- a number for each cell, below twice as many as there are sets of constraints

abbrev number : Class → ℕ
number class = 2 * class.mask + cond class.chosen 1 0

same_parts : (a b : Class) → number a ≡ number b → (a.mask ≡ b.mask) × (a.chosen ≡ b.chosen)
same_parts a b same = (omega (arith, same, bit_small a.chosen, bit_small b.chosen), sides a.chosen b.chosen (omega (arith, same, bit_small a.chosen, bit_small b.chosen)))
  where
    sides : (x y : Bool) → ◌≡◌ {A = ℕ} (cond x 1 0) (cond y 1 0) → x ≡ y
    sides true true e = refl
    sides true false e = absurd (omega (arith, e))
    sides false true e = absurd (omega (arith, e))
    sides false false e = refl

module _ (schema : Schema) (constraints : List Constraint) (chosen : Area) (classes : List Class)
    (rows : All (HasRowOf schema constraints chosen) classes) (differ : AllPairs Differ classes) where
  abbrev class_at : ℕ → Class
  class_at place = get_or classes place no_class

  mask_small : (i : ℕ) → i < length classes → (class_at i).mask < 2 ^ length constraints
  mask_small i h =
      let found = rows i no_class h in
      let small = mask_of-small constraints found.0 in
      let is = ap (λ (class : Class). class.mask) found.1.of_class in
      omega (arith, small, is)

  number_at : (i d : ℕ) → i < length classes → get_or (map number classes) i d ≡ number (class_at i)
  number_at i d h = get_or-map number classes i no_class d h

  numbers_differ : (i j : ℕ) → i < j → j < length classes → number (class_at i) ≢ number (class_at j)
  numbers_differ i j before inside same =
      let parts = same_parts (class_at i) (class_at j) same in
      let alike = is_class-from_same (class_at i) (class_at j) (ap₂ (λ mask chosen. record { mask = mask; chosen = chosen }) parts.0 parts.1) in
      true≢false (sym alike ∙ differ i j no_class before inside)

  numbers_long : length (map number classes) ≡ length classes
  numbers_long = length-map classes number

  pub many_cells : length classes ≤ 2 * 2 ^ length constraints
  many_cells =
      let all = length-le_from_distinct_below (map number classes) (2 * 2 ^ length constraints)
      (IsDistinct-from_apart eqb (map number classes) (λ i j d before inside.
      let there : j < length classes = omega (arith, numbers_long, inside) in
      ap₂ eqb (number_at i d (omega arith)) (number_at j d there)
      ∙ false_from_ne_true (eqb (number (class_at i)) (number (class_at j))) (λ same. numbers_differ i j before there (eqb-true (number (class_at i)) (number (class_at j)) same))))
      (λ q listed.
      let found = Any-from_list_any (eqb q) (map number classes) listed in
      let there : found.0 < length classes = omega (arith, numbers_long, found.2) in
      let same = eqb-true q found.1 found.4 in
      omega (arith, same, found.3, number_at found.0 found.1 there, mask_small found.0 there, bit_small (class_at found.0).chosen)) in
      omega (arith, all, numbers_long)

-- ---- sizes

pub sum_at_most : (n m : ℕ) (f : ℕ → ℤ) → ((i : ℕ) → i < n → f i ≤ℤ pos m) → sum_below n f ≤ℤ pos (n * m)
sum_at_most zero m f each = rw (sum_below-zero f) (omega (arith, ints))
sum_at_most (suc n) m f each =
    let before = sum_at_most n m f (λ i h. each i (omega arith)) in
    let last = each n (omega arith) in
    let longer : suc n * m ≡ n * m + m = omega arith in
    rw (sum_below-suc n f, longer) (omega (arith, ints, before, last))

size_small : (n : ℕ) (g : ℤ) (c : ℕ) → nat_abs g ≤ n → c ≤ frequency_limit → (pos (nat_abs g) *ℤ pos c) ≤ℤ pos (n * frequency_limit)
size_small n g c gain cap =
    let first : nat_abs g * c ≤ nat_abs g * frequency_limit = mul-le-mul_left (nat_abs g) cap in
    let second : nat_abs g * frequency_limit ≤ n * frequency_limit = mul-le-mul_right frequency_limit gain in
    omega (arith, ints, first, second)

module _ (constraints : List Constraint) (classes : List Class) (gains : List ℤ) where
  abbrev program : Program
  program = program_with constraints classes gains

  inside : (i : ℕ) → i < cells_of program → i < length classes
  inside i h = cell_inside constraints classes gains i h

  module _ (schema : Schema) (are : AreConstraints schema constraints) (many : length classes ≤ 2 * 2 ^ length constraints) (sized : length gains ≡ length classes)
      (n : ℕ) (small : All (λ gain. nat_abs gain ≤ n) gains) where
    gain_small : (i : ℕ) → i < cells_of program → nat_abs (int_at gains i) ≤ n
    gain_small i h = let there = inside i h in small i (pos 0) (omega (arith, there, sized))

    cap_at : (i : ℕ) → i < cells_of program → nat_at program.cap i ≤ frequency_limit
    cap_at i h =
        let there = inside i h in
        let at_most = cap_small frequency_limit (get_or classes i no_class) constraints are.small in
        omega (arith, at_most, cap_is constraints classes gains i there)

    few : length constraints ≤ 20
    few = are.few

    cells_small : cells_of program ≤ 2_097_152
    cells_small =
        let most : 2 ^ length constraints ≤ 2 ^ 20 = pow_mono few in
        omega (arith, many, most, length-map classes (λ (class : Class). class.mask))

    -- what all gains can come to
    pub worth_at_most : greatest_worth program ≤ℤ pos (2_097_152 * (n * frequency_limit))
    worth_at_most =
        let all = sum_at_most (cells_of program) (n * frequency_limit) (λ i. pos (nat_abs (int_at gains i)) *ℤ pos (nat_at program.cap i)) (λ i h. size_small n (int_at gains i) (nat_at program.cap i) (gain_small i h) (cap_at i h)) in
        let most : cells_of program * (n * frequency_limit) ≤ 2_097_152 * (n * frequency_limit) = mul-le-mul_right (n * frequency_limit) cells_small in
        omega (arith, ints, all, most)

  pub small_gains : (schema : Schema) → AreConstraints schema constraints → length classes ≤ 2 * 2 ^ length constraints → length gains ≡ length classes → All (λ gain. nat_abs gain ≤ greatest_gain) gains → HasSmallGains program
  small_gains schema are many sized small =
      let all = worth_at_most schema are many sized greatest_gain small in
      record {
        gains = λ i h. let gain = gain_small schema are many sized greatest_gain small i h in omega (arith, gain);
        sum = omega (arith, ints, all);
      }
