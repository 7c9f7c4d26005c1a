-- What the parts of runs add, how many rows they have and how many of these stand somewhere, by the rows of the runs.
use Rattle.std.proofs.Common.{◌≡◌, ◌∙◌, ℕ, zero, suc, ◌+◌, ◌&&◌, ℤ, pos, negsuc, ◌+ℤ◌, ◌*ℤ◌, Bool, true, false, cond, List, [], ◌∷◌, ◌++◌, filter, map, replicate, refl, sym, ap, arith}
use Rattle.std.specs.Prelude.{IsPermutation}
use Rattle.std.specs.List.{count_by, sum_by}
use Rattle.std.proofs.lemmas.Int.{ints}
use Rattle.std.proofs.lemmas.List.{map-append}
use Rattle.std.proofs.lemmas.List.Sums.{sum_by-cons}
use Rattle.std.proofs.lemmas.List.Sorted.{sum_by-IsPermutation}
use lib.IntN.{*ℤ_comm}
use Rattle.pc_model.specs.declared.row.Row.{Row}
use Rattle.pc_model.specs.declared.row.Run.{Run}
use Rattle.pc_model.specs.Aggregate.{int_sum}
use Rattle.pc_model.specs.Runs.{rows_of}
use Rattle.pc_program_bound.proofs.Ring.{mul-more}
use Rattle.pc_proof.proofs.Seen.{int_sum-append, int_sum-filter}
use Rattle.pc_desk_parts.specs.declared.part.Part.{Part}
use Rattle.pc_desk_parts.specs.declared.stands.Stand.{Stand}
use Rattle.pc_desk_parts.specs.Sums.{amount_of, amounts, rows_in, rows_standing, stands_so}
use Rattle.pc_desk_parts.proofs.Runs.{rows_where, times_where}

-- ---- sums over lists

pub amounts-append : (parts more : List Part) → amounts (parts ++ more) ≡ amounts parts +ℤ amounts more
amounts-append parts more =
    let amount : Part → ℤ = λ (part : Part). amount_of part.adds in
    ap int_sum (map-append amount parts more) ∙ int_sum-append (map amount parts) (map amount more)

-- what a number has above 0, and what it has below
abbrev over : ℤ → ℕ
over (pos n) = n
over (negsuc n) = 0

abbrev under : ℤ → ℕ
under (pos n) = 0
under (negsuc n) = suc n

balanced : (z : ℤ) → z +ℤ pos (under z) ≡ pos (over z)
balanced (pos n) = omega (arith, ints)
balanced (negsuc n) = omega (arith, ints)

module _ {X : Type 0} (f : X → ℤ) where
  balance : (xs : List X) → int_sum (map f xs) +ℤ pos (sum_by (λ x. under (f x)) xs) ≡ pos (sum_by (λ x. over (f x)) xs)
  balance [] = refl
  balance (x ∷ xs) = omega (arith, ints, balance xs, balanced (f x), sum_by-cons (λ x. under (f x)) x xs, sum_by-cons (λ x. over (f x)) x xs)

  -- an order does not matter
  int_sum-permutation : (xs ys : List X) → IsPermutation xs ys → int_sum (map f ys) ≡ int_sum (map f xs)
  int_sum-permutation xs ys same =
      omega (arith, ints, balance xs, balance ys, sum_by-IsPermutation (λ x. under (f x)) xs ys same, sum_by-IsPermutation (λ x. over (f x)) xs ys same)

pub amounts-permutation : (parts ordered : List Part) → IsPermutation parts ordered → amounts ordered ≡ amounts parts
amounts-permutation = int_sum-permutation (λ (part : Part). amount_of part.adds)

zero_times : (z : ℤ) → z *ℤ pos 0 ≡ pos 0
zero_times (pos n) = ap pos (omega arith)
zero_times (negsuc n) = omega (arith, ints)

repeated : (f : Row → ℤ) (n : ℕ) (row : Row) → int_sum (map f (replicate n row)) ≡ f row *ℤ pos n
repeated f zero row = sym (zero_times (f row))
repeated f (suc n) row = ap (λ sum. f row +ℤ sum) (repeated f n row) ∙ sym (mul-more (f row) n)

none_times : (n : ℕ) → pos 0 *ℤ pos n ≡ pos 0
none_times n = *ℤ_comm (pos 0) (pos n) ∙ zero_times (pos n)

none_more : (n : ℕ) → n ≡ 0 + n
none_more n = omega arith

module _ (told : Run → Bool) (made : Run → Part) (test : Row → Bool) (told_is : (run : Run) → told run ≡ test run.row) where
  -- ---- amounts
  module _ (value : Row → ℤ) (amount_is : (run : Run) → amount_of (made run).adds ≡ pos run.times *ℤ value run.row) where
    abbrev counted : Row → ℤ
    counted row = cond (test row) (value row) (pos 0)

    first_amount : (b : Bool) (run : Run) (rest : List Run) → told run ≡ b
        → amounts (map made (cond b (run ∷ rest) rest)) ≡ counted run.row *ℤ pos run.times +ℤ amounts (map made rest)
    first_amount true run rest is =
        ap (λ n. n +ℤ amounts (map made rest)) (amount_is run ∙ *ℤ_comm (pos run.times) (value run.row) ∙ ap (λ (b : Bool). cond b (value run.row) (pos 0) *ℤ pos run.times) (sym (sym (told_is run) ∙ is)))
    first_amount false run rest is =
        let none = ap (λ (b : Bool). cond b (value run.row) (pos 0) *ℤ pos run.times) (sym (told_is run) ∙ is) ∙ none_times run.times in
        omega (arith, ints, none)

    each_amount : (runs : List Run) → amounts (map made (filter told runs)) ≡ int_sum (map counted (rows_of runs))
    unfolding rows_of
    each_amount [] = refl
    each_amount (run ∷ runs) =
        first_amount (told run) run (filter told runs) refl
        ∙ ap (λ n. counted run.row *ℤ pos run.times +ℤ n) (each_amount runs)
        ∙ ap (λ n. n +ℤ int_sum (map counted (rows_of runs))) (sym (repeated counted run.times run.row))
        ∙ sym (int_sum-append (map counted (replicate run.times run.row)) (map counted (rows_of runs)))
        ∙ sym (ap int_sum (map-append counted (replicate run.times run.row) (rows_of runs)))

    pub runs_add : (runs : List Run) → amounts (map made (filter told runs)) ≡ int_sum (map value (filter test (rows_of runs)))
    runs_add runs = each_amount runs ∙ sym (int_sum-filter value test (rows_of runs))

  -- ---- rows
  module _ (rows_is : (run : Run) → (made run).rows ≡ run.times) where
    first_rows : (b : Bool) (run : Run) (rest : List Run) → told run ≡ b
        → rows_in (map made (cond b (run ∷ rest) rest)) ≡ cond (test run.row) run.times 0 + rows_in (map made rest)
    first_rows true run rest is =
        sum_by-cons (λ (part : Part). part.rows) (made run) (map made rest)
        ∙ ap (λ n. n + rows_in (map made rest)) (rows_is run ∙ ap (λ (b : Bool). cond b run.times 0) (sym (sym (told_is run) ∙ is)))
    first_rows false run rest is = none_more (rows_in (map made rest)) ∙ ap (λ (b : Bool). cond b run.times 0 + rows_in (map made rest)) (sym (sym (told_is run) ∙ is))

    pub runs_have : (runs : List Run) → rows_in (map made (filter told runs)) ≡ times_where test runs
    runs_have [] = refl
    runs_have (run ∷ runs) =
        first_rows (told run) run (filter told runs) refl ∙ ap (λ n. cond (test run.row) run.times 0 + n) (runs_have runs)
        ∙ sym (sum_by-cons (λ (other : Run). cond (test other.row) other.times 0) run runs)

    -- ---- rows that stand somewhere
    module _ (stand : Stand) (stands : Row → Bool) (stands_is : (run : Run) → stands_so stand (made run).adds ≡ stands run.row) where
      abbrev there : Row → Bool
      there row = test row && stands row

      first_standing : (b : Bool) (run : Run) (rest : List Run) → told run ≡ b
          → rows_standing stand (map made (cond b (run ∷ rest) rest)) ≡ cond (there run.row) run.times 0 + rows_standing stand (map made rest)
      first_standing true run rest is =
          sum_by-cons (λ (part : Part). cond (stands_so stand part.adds) part.rows 0) (made run) (map made rest)
          ∙ ap (λ n. cond (stands_so stand (made run).adds) n 0 + rows_standing stand (map made rest)) (rows_is run)
          ∙ ap (λ (b : Bool). cond b run.times 0 + rows_standing stand (map made rest)) (stands_is run ∙ ap (λ (b : Bool). b && stands run.row) (sym (sym (told_is run) ∙ is)))
      first_standing false run rest is = none_more (rows_standing stand (map made rest)) ∙ ap (λ (b : Bool). cond (b && stands run.row) run.times 0 + rows_standing stand (map made rest)) (sym (sym (told_is run) ∙ is))

      pub runs_stand : (runs : List Run) → rows_standing stand (map made (filter told runs)) ≡ count_by there (rows_of runs)
      runs_stand runs = each_standing runs ∙ sym (rows_where there runs)
        where
          each_standing : (runs : List Run) → rows_standing stand (map made (filter told runs)) ≡ times_where there runs
          each_standing [] = refl
          each_standing (run ∷ runs) =
              first_standing (told run) run (filter told runs) refl ∙ ap (λ n. cond (there run.row) run.times 0 + n) (each_standing runs)
              ∙ sym (sum_by-cons (λ (other : Run). cond (there other.row) other.times 0) run runs)
