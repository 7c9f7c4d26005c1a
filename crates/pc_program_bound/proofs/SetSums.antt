-- The sums of the sets of few numbers: how they are kept in 64 bits, how far they are from 0, and which set a sum is of.
use Rattle.std.proofs.Common.{◌≡◌, ℕ, zero, suc, ◌+◌, ◌-◌, ◌*◌, ◌/◌, ◌%◌, ◌^◌, ◌<◌, ◌≤◌, ◌==◌, Bool, true, false, cond, List, length, refl, sym, ap, ap₂, ◌∙◌, arith, to_z, of_z, FitsSigned}
use Rattle.std.specs.Prelude.{ℤ, pos, ◌+ℤ◌, nat_abs}
use Rattle.std.specs.Int.{w64, bit_at}
use Rattle.std.proofs.lemmas.Int.{ints, to_z-of_z, fits_signed_from_abs}
use Rattle.std.proofs.lemmas.List.{get_or_past}
use Rattle.std.proofs.lemmas.Nat.Bits.{bit_at-suc, bit_at_lowest}
use Rattle.pc_model.specs.Places.{has_bit}
use Rattle.pc_program_bound.specs.declared.tables.Tables.{Tables}
use Rattle.pc_program_bound.specs.Sums.{sum_below, int_at}
use Rattle.pc_program_bound.specs.Parts.{taken}
use Rattle.pc_program_bound.specs.Short.{IsShortNumber, IsSmallTable, AreTables, four_sums, sums_from}
use Rattle.pc_program_bound.proofs.SumBelow.{sum_below-zero, sum_below-more}
use borrow.Author.Differences.{abs_is}

-- a number that 64 bits keep
pub kept : (x : ℤ) → nat_abs x ≤ 2 ^ 63 - 1 → to_z w64 (of_z w64 x) ≡ x
kept x small = to_z-of_z w64 x (fits_signed_from_abs w64 x (omega (arith, small)))

-- a sum of numbers that are at most so far from 0
pub added : (a b : ℤ) (m n : ℕ) → nat_abs a ≤ m → nat_abs b ≤ n → nat_abs (a +ℤ b) ≤ m + n
added a b m n first second = omega (arith, ints, abs_is a, abs_is b, abs_is (a +ℤ b), first, second)

-- ---- how far the sums are from 0

pub small_sums : (one two four eight : ℤ) → IsShortNumber one → IsShortNumber two → IsShortNumber four → IsShortNumber eight → IsSmallTable (four_sums one two four eight)
small_sums one two four eight a b c d = record { each = each }
  where
    each : (set : ℕ) → nat_abs (int_at (four_sums one two four eight) set) ≤ 4 * 2 ^ 57
    each zero = omega arith
    each (suc zero) = omega (arith, ints, a, b, c, d, abs_is one, abs_is two, abs_is four, abs_is eight, abs_is (int_at (four_sums one two four eight) 1))
    each (suc (suc zero)) = omega (arith, ints, a, b, c, d, abs_is one, abs_is two, abs_is four, abs_is eight, abs_is (int_at (four_sums one two four eight) 2))
    each (suc (suc (suc zero))) = omega (arith, ints, a, b, c, d, abs_is one, abs_is two, abs_is four, abs_is eight, abs_is (int_at (four_sums one two four eight) 3))
    each (suc (suc (suc (suc zero)))) = omega (arith, ints, a, b, c, d, abs_is one, abs_is two, abs_is four, abs_is eight, abs_is (int_at (four_sums one two four eight) 4))
    each (suc (suc (suc (suc (suc zero))))) = omega (arith, ints, a, b, c, d, abs_is one, abs_is two, abs_is four, abs_is eight, abs_is (int_at (four_sums one two four eight) 5))
    each (suc (suc (suc (suc (suc (suc zero)))))) = omega (arith, ints, a, b, c, d, abs_is one, abs_is two, abs_is four, abs_is eight, abs_is (int_at (four_sums one two four eight) 6))
    each (suc (suc (suc (suc (suc (suc (suc zero))))))) = omega (arith, ints, a, b, c, d, abs_is one, abs_is two, abs_is four, abs_is eight, abs_is (int_at (four_sums one two four eight) 7))
    each (suc (suc (suc (suc (suc (suc (suc (suc zero)))))))) = omega (arith, ints, a, b, c, d, abs_is one, abs_is two, abs_is four, abs_is eight, abs_is (int_at (four_sums one two four eight) 8))
    each (suc (suc (suc (suc (suc (suc (suc (suc (suc zero))))))))) = omega (arith, ints, a, b, c, d, abs_is one, abs_is two, abs_is four, abs_is eight, abs_is (int_at (four_sums one two four eight) 9))
    each (suc (suc (suc (suc (suc (suc (suc (suc (suc (suc zero)))))))))) = omega (arith, ints, a, b, c, d, abs_is one, abs_is two, abs_is four, abs_is eight, abs_is (int_at (four_sums one two four eight) 10))
    each (suc (suc (suc (suc (suc (suc (suc (suc (suc (suc (suc zero))))))))))) = omega (arith, ints, a, b, c, d, abs_is one, abs_is two, abs_is four, abs_is eight, abs_is (int_at (four_sums one two four eight) 11))
    each (suc (suc (suc (suc (suc (suc (suc (suc (suc (suc (suc (suc zero)))))))))))) = omega (arith, ints, a, b, c, d, abs_is one, abs_is two, abs_is four, abs_is eight, abs_is (int_at (four_sums one two four eight) 12))
    each (suc (suc (suc (suc (suc (suc (suc (suc (suc (suc (suc (suc (suc zero))))))))))))) = omega (arith, ints, a, b, c, d, abs_is one, abs_is two, abs_is four, abs_is eight, abs_is (int_at (four_sums one two four eight) 13))
    each (suc (suc (suc (suc (suc (suc (suc (suc (suc (suc (suc (suc (suc (suc zero)))))))))))))) = omega (arith, ints, a, b, c, d, abs_is one, abs_is two, abs_is four, abs_is eight, abs_is (int_at (four_sums one two four eight) 14))
    each (suc (suc (suc (suc (suc (suc (suc (suc (suc (suc (suc (suc (suc (suc (suc zero))))))))))))))) = omega (arith, ints, a, b, c, d, abs_is one, abs_is two, abs_is four, abs_is eight, abs_is (int_at (four_sums one two four eight) 15))
    each (suc (suc (suc (suc (suc (suc (suc (suc (suc (suc (suc (suc (suc (suc (suc (suc (set))))))))))))))))) = omega arith

-- ---- which set a sum is of

-- what a set takes of four numbers
abbrev pub of_four : ℕ → ℤ → ℤ → ℤ → ℤ → ℤ
of_four set one two four eight =
    cond (has_bit set 0) one (pos 0) +ℤ cond (has_bit set 1) two (pos 0) +ℤ cond (has_bit set 2) four (pos 0) +ℤ cond (has_bit set 3) eight (pos 0)

set_sum : (one two four eight : ℤ) (set : ℕ) → set < 16 → int_at (four_sums one two four eight) set ≡ of_four set one two four eight
set_sum one two four eight zero below = omega (arith, ints)
set_sum one two four eight (suc zero) below = omega (arith, ints)
set_sum one two four eight (suc (suc zero)) below = omega (arith, ints)
set_sum one two four eight (suc (suc (suc zero))) below = omega (arith, ints)
set_sum one two four eight (suc (suc (suc (suc zero)))) below = omega (arith, ints)
set_sum one two four eight (suc (suc (suc (suc (suc zero))))) below = omega (arith, ints)
set_sum one two four eight (suc (suc (suc (suc (suc (suc zero)))))) below = omega (arith, ints)
set_sum one two four eight (suc (suc (suc (suc (suc (suc (suc zero))))))) below = omega (arith, ints)
set_sum one two four eight (suc (suc (suc (suc (suc (suc (suc (suc zero)))))))) below = omega (arith, ints)
set_sum one two four eight (suc (suc (suc (suc (suc (suc (suc (suc (suc zero))))))))) below = omega (arith, ints)
set_sum one two four eight (suc (suc (suc (suc (suc (suc (suc (suc (suc (suc zero)))))))))) below = omega (arith, ints)
set_sum one two four eight (suc (suc (suc (suc (suc (suc (suc (suc (suc (suc (suc zero))))))))))) below = omega (arith, ints)
set_sum one two four eight (suc (suc (suc (suc (suc (suc (suc (suc (suc (suc (suc (suc zero)))))))))))) below = omega (arith, ints)
set_sum one two four eight (suc (suc (suc (suc (suc (suc (suc (suc (suc (suc (suc (suc (suc zero))))))))))))) below = omega (arith, ints)
set_sum one two four eight (suc (suc (suc (suc (suc (suc (suc (suc (suc (suc (suc (suc (suc (suc zero)))))))))))))) below = omega (arith, ints)
set_sum one two four eight (suc (suc (suc (suc (suc (suc (suc (suc (suc (suc (suc (suc (suc (suc (suc zero))))))))))))))) below = omega (arith, ints)
set_sum one two four eight (suc (suc (suc (suc (suc (suc (suc (suc (suc (suc (suc (suc (suc (suc (suc (suc (set))))))))))))))))) below = absurd (omega arith)

-- ---- five sums together

abbrev kept_as : ℤ → ℤ
kept_as x = to_z w64 (of_z w64 x)

abbrev four_kept : ℤ → ℤ → ℤ → ℤ → ℤ
four_kept a b c d = kept_as (kept_as (kept_as (kept_as a +ℤ kept_as b) +ℤ kept_as c) +ℤ kept_as d)

module _ (a b c d e : ℤ) (h : nat_abs a ≤ 4 * 2 ^ 57) (i : nat_abs b ≤ 4 * 2 ^ 57) (j : nat_abs c ≤ 4 * 2 ^ 57) (k : nat_abs d ≤ 4 * 2 ^ 57) (l : nat_abs e ≤ 4 * 2 ^ 57) where
  two_small : nat_abs (a +ℤ b) ≤ 4 * 2 ^ 57 + 4 * 2 ^ 57
  two_small = added a b _ _ h i

  three_small : nat_abs (a +ℤ b +ℤ c) ≤ 4 * 2 ^ 57 + 4 * 2 ^ 57 + 4 * 2 ^ 57
  three_small = added (a +ℤ b) c _ _ two_small j

  four_small : nat_abs (a +ℤ b +ℤ c +ℤ d) ≤ 4 * 2 ^ 57 + 4 * 2 ^ 57 + 4 * 2 ^ 57 + 4 * 2 ^ 57
  four_small = added (a +ℤ b +ℤ c) d _ _ three_small k

  all_small : nat_abs (a +ℤ b +ℤ c +ℤ d +ℤ e) ≤ 20 * 2 ^ 57
  all_small = let sum = added (a +ℤ b +ℤ c +ℤ d) e _ _ four_small l in omega (arith, sum)

  four_same : four_kept a b c d ≡ a +ℤ b +ℤ c +ℤ d
  four_same =
      rw (
        kept a (omega (arith, h)),
        kept b (omega (arith, i)),
        kept c (omega (arith, j)),
        kept d (omega (arith, k)),
        kept (a +ℤ b) (omega (arith, two_small)),
        kept (a +ℤ b +ℤ c) (omega (arith, three_small)),
        kept (a +ℤ b +ℤ c +ℤ d) (omega (arith, four_small)),
      ) refl

  five_same : four_kept a b c d +ℤ kept_as e ≡ a +ℤ b +ℤ c +ℤ d +ℤ e
  five_same = ap₂ (λ x y. x +ℤ y) four_same (kept e (omega (arith, l)))

  pub five_fit : FitsSigned w64 (four_kept a b c d +ℤ kept_as e)
  five_fit = rw five_same (fits_signed_from_abs w64 (a +ℤ b +ℤ c +ℤ d +ℤ e) (omega (arith, all_small)))

  pub five_kept : kept_as (four_kept a b c d +ℤ kept_as e) ≡ a +ℤ b +ℤ c +ℤ d +ℤ e
  five_kept = ap kept_as five_same ∙ kept (a +ℤ b +ℤ c +ℤ d +ℤ e) (omega (arith, all_small))

  pub five_small : nat_abs (kept_as (four_kept a b c d +ℤ kept_as e)) ≤ 20 * 2 ^ 57
  five_small = rw five_kept all_small

-- ---- the bits of a mask by fours

later_bits : (mask j : ℕ) → has_bit mask (suc (suc (suc (suc j)))) ≡ has_bit (mask / 16) j
later_bits mask j =
    let one = bit_at-suc mask (suc (suc (suc j))) in
    let two = bit_at-suc (mask / 2) (suc (suc j)) in
    let three = bit_at-suc (mask / 2 / 2) (suc j) in
    let four = bit_at-suc (mask / 2 / 2 / 2) j in
    let e : mask / 2 / 2 / 2 / 2 ≡ mask / 16 = omega arith in
    ap (λ x. x == 1) (one ∙ two ∙ three ∙ four ∙ ap (λ x. bit_at x j) e)

low_bit : (mask : ℕ) → has_bit (mask % 16) 0 ≡ has_bit mask 0
low_bit mask = let e : mask % 16 % 2 ≡ mask % 2 = omega arith in rw (bit_at_lowest (mask % 16), bit_at_lowest mask, e) refl

second_bit : (mask : ℕ) → has_bit (mask % 16) 1 ≡ has_bit mask 1
second_bit mask =
    let e : mask % 16 / 2 % 2 ≡ mask / 2 % 2 = omega arith in
    rw (bit_at-suc (mask % 16) 0, bit_at-suc mask 0, bit_at_lowest (mask % 16 / 2), bit_at_lowest (mask / 2), e) refl

third_bit : (mask : ℕ) → has_bit (mask % 16) 2 ≡ has_bit mask 2
third_bit mask =
    let e : mask % 16 / 2 / 2 % 2 ≡ mask / 2 / 2 % 2 = omega arith in
    rw (
      bit_at-suc (mask % 16) 1,
      bit_at-suc mask 1,
      bit_at-suc (mask % 16 / 2) 0,
      bit_at-suc (mask / 2) 0,
      bit_at_lowest (mask % 16 / 2 / 2),
      bit_at_lowest (mask / 2 / 2),
      e,
    ) refl

fourth_bit : (mask : ℕ) → has_bit (mask % 16) 3 ≡ has_bit mask 3
fourth_bit mask =
    let e : mask % 16 / 2 / 2 / 2 % 2 ≡ mask / 2 / 2 / 2 % 2 = omega arith in
    rw (
      bit_at-suc (mask % 16) 2,
      bit_at-suc mask 2,
      bit_at-suc (mask % 16 / 2) 1,
      bit_at-suc (mask / 2) 1,
      bit_at-suc (mask % 16 / 2 / 2) 0,
      bit_at-suc (mask / 2 / 2) 0,
      bit_at_lowest (mask % 16 / 2 / 2 / 2),
      bit_at_lowest (mask / 2 / 2 / 2),
      e,
    ) refl

-- what a mask takes of the four multipliers from a place on
abbrev pub group : List ℤ → ℕ → ℕ → ℤ
group by bits place = of_four bits (int_at by place) (int_at by (place + 1)) (int_at by (place + 2)) (int_at by (place + 3))

table_group : (by : List ℤ) (bits place : ℕ) (table : List ℤ) → table ≡ sums_from by place → int_at table (bits % 16) ≡ group by bits place
table_group by bits place table is =
    ap (λ t. int_at t (bits % 16)) is
    ∙ set_sum (int_at by place) (int_at by (place + 1)) (int_at by (place + 2)) (int_at by (place + 3)) (bits % 16) (omega arith)
    ∙ rw (low_bit bits, second_bit bits, third_bit bits, fourth_bit bits) refl

-- a sum over the places, four places further
four_more : (f : ℕ → ℤ) (n : ℕ) → sum_below (n + 4) f ≡ sum_below n f +ℤ (f n +ℤ f (n + 1) +ℤ f (n + 2) +ℤ f (n + 3))
four_more f n =
    let a = sum_below-more n f in
    let b = further (n + 1) (n + 2) (omega arith) in
    let c = further (n + 2) (n + 3) (omega arith) in
    let d = further (n + 3) (n + 4) (omega arith) in
    omega (arith, ints, a, b, c, d)
  where
    further : (m next : ℕ) → next ≡ m + 1 → sum_below next f ≡ sum_below m f +ℤ f m
    further m next e = rw e (sum_below-more m f)

-- a sum that goes on over numbers that do not count
no_more : (f : ℕ → ℤ) (n k : ℕ) → ((j : ℕ) → n ≤ j → f j ≡ pos 0) → sum_below (n + k) f ≡ sum_below n f
no_more f n zero none = let e : n + 0 ≡ n = omega arith in ap (λ m. sum_below m f) e
no_more f n (suc k) none =
    let before = no_more f n k none in
    let last = none (n + k) (omega arith) in
    let e : n + suc k ≡ n + k + 1 = omega arith in
    let more = ap (λ m. sum_below m f) e ∙ sum_below-more (n + k) f in
    omega (arith, ints, before, last, more)

nothing_taken : (mask : ℕ) (by : List ℤ) (j : ℕ) → length by ≤ j → taken mask by j ≡ pos 0
nothing_taken mask by j past = by_test (has_bit mask j)
  where
    by_test : (test : Bool) → cond test (int_at by j) (pos 0) ≡ pos 0
    by_test true = get_or_past by j (pos 0) past
    by_test false = refl

-- ---- what a mask takes of all multipliers

eighth_bits : (mask j : ℕ) → has_bit mask (suc (suc (suc (suc (suc (suc (suc (suc j)))))))) ≡ has_bit (mask / 256) j
eighth_bits mask j =
    let e : mask / 16 / 16 ≡ mask / 256 = omega arith in
    later_bits mask (suc (suc (suc (suc j)))) ∙ later_bits (mask / 16) j ∙ ap (λ x. has_bit x j) e

twelfth_bits : (mask j : ℕ) → has_bit mask (suc (suc (suc (suc (suc (suc (suc (suc (suc (suc (suc (suc j)))))))))))) ≡ has_bit (mask / 4_096) j
twelfth_bits mask j =
    let e : mask / 16 / 256 ≡ mask / 4_096 = omega arith in
    later_bits mask (suc (suc (suc (suc (suc (suc (suc (suc j)))))))) ∙ eighth_bits (mask / 16) j ∙ ap (λ x. has_bit x j) e

sixteenth_bits : (mask j : ℕ) → has_bit mask (suc (suc (suc (suc (suc (suc (suc (suc (suc (suc (suc (suc (suc (suc (suc (suc j)))))))))))))))) ≡ has_bit (mask / 65_536) j
sixteenth_bits mask j =
    let e : mask / 16 / 4_096 ≡ mask / 65_536 = omega arith in
    later_bits mask (suc (suc (suc (suc (suc (suc (suc (suc (suc (suc (suc (suc j)))))))))))) ∙ twelfth_bits (mask / 16) j ∙ ap (λ x. has_bit x j) e

module _ (by : List ℤ) (mask : ℕ) where
  abbrev four_taken : ℕ → ℤ
  four_taken n = taken mask by n +ℤ taken mask by (n + 1) +ℤ taken mask by (n + 2) +ℤ taken mask by (n + 3)

  second_group : group by (mask / 16) 4 ≡ four_taken 4
  second_group = rw (later_bits mask 0, later_bits mask 1, later_bits mask 2, later_bits mask 3) refl

  third_group : group by (mask / 256) 8 ≡ four_taken 8
  third_group = rw (eighth_bits mask 0, eighth_bits mask 1, eighth_bits mask 2, eighth_bits mask 3) refl

  fourth_group : group by (mask / 4_096) 12 ≡ four_taken 12
  fourth_group = rw (twelfth_bits mask 0, twelfth_bits mask 1, twelfth_bits mask 2, twelfth_bits mask 3) refl

  fifth_group : group by (mask / 65_536) 16 ≡ four_taken 16
  fifth_group = rw (sixteenth_bits mask 0, sixteenth_bits mask 1, sixteenth_bits mask 2, sixteenth_bits mask 3) refl

  by_groups : sum_below 20 (taken mask by) ≡ four_taken 0 +ℤ four_taken 4 +ℤ four_taken 8 +ℤ four_taken 12 +ℤ four_taken 16
  by_groups =
      let t = taken mask by in
      let a = four_more t 0 in
      let b = four_more t 4 in
      let c = four_more t 8 in
      let d = four_more t 12 in
      let e = four_more t 16 in
      omega (arith, ints, a, b, c, d, e, sum_below-zero t)

  within_twenty : length by ≤ 20 → sum_below 20 (taken mask by) ≡ sum_below (length by) (taken mask by)
  within_twenty few =
      let e : length by + (20 - length by) ≡ 20 = omega arith in
      ap (λ n. sum_below n (taken mask by)) (sym e) ∙ no_more (taken mask by) (length by) (20 - length by) (nothing_taken mask by)

  pub all_taken : (tables : Tables) → AreTables by tables → length by ≤ 20
      → int_at tables.first (mask % 16) +ℤ int_at tables.second (mask / 16 % 16) +ℤ int_at tables.third (mask / 256 % 16)
      +ℤ int_at tables.fourth (mask / 4_096 % 16) +ℤ int_at tables.fifth (mask / 65_536 % 16) ≡ sum_below (length by) (taken mask by)
  all_taken tables are few =
      let a = table_group by mask 0 tables.first are.first in
      let b = table_group by (mask / 16) 4 tables.second are.second ∙ second_group in
      let c = table_group by (mask / 256) 8 tables.third are.third ∙ third_group in
      let d = table_group by (mask / 4_096) 12 tables.fourth are.fourth ∙ fourth_group in
      let e = table_group by (mask / 65_536) 16 tables.fifth are.fifth ∙ fifth_group in
      rw (a, b, c, d, e) (sym by_groups ∙ within_twenty few)
