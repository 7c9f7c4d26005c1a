-- The periods that rows have, and those between them that no row has.
use Rattle.std.proofs.Common.{◌≡◌, ◌∙◌, ℕ, ◌+◌, ◌<◌, ◌||◌, Bool, true, false, ℤ, pos, nat_abs, ◌≤ℤ◌, ◌-ℤ◌, List, [], ◌∷◌, ◌++◌, All, map, length, if◌then◌else◌, Option, refl, sym, subst, arith, eqb, true≢false}
use Rattle.std.specs.Cmp.{int_eq_equiv}
use Rattle.std.specs.Ordering.{int_eq}
use Rattle.std.specs.Prelude.{fold}
use Rattle.std.specs.List.{AllByRecursion, IsDistinct, list_any}
use Rattle.std.proofs.lemmas.Bool.{false_from_ne_true, or_left, or_right, or_parts}
use Rattle.std.proofs.lemmas.Bool.Decides.{Decides-int_eq, nat_tests}
use Rattle.std.proofs.lemmas.Int.{ints}
use Rattle.std.proofs.lemmas.List.{length-map}
use Rattle.std.proofs.lemmas.List.Elements.{All-cons, All-head, All-nil, All-push, All-tail}
use Rattle.std.proofs.lemmas.List.Folds.{list_any-append}
use Rattle.std.proofs.lemmas.Map.Keys.{IsDistinct-cons, IsDistinct-push}
use Rattle.std.proofs.lemmas.Map.Steps.{length-le_from_distinct_below}
use Rattle.pc_model.specs.declared.row.Row.{Row}
use Rattle.pc_desk_history.specs.Periods.{is_of, period_of, periods_of, with_period}

abbrev with_more : Option ℕ → List ℤ → Row → List ℤ
with_more per periods row = with_period periods (period_of per row)

-- ---- what is listed

int_eq-same : (a : ℤ) → int_eq a a ≡ true
int_eq-same a = (Decides-int_eq a a).1 refl

-- a period that is listed stays so, and the new one is
stays : (periods : List ℤ) (period other : ℤ) → list_any (int_eq other) periods ≡ true → list_any (int_eq other) (with_period periods period) ≡ true
stays periods period other listed = by_test (list_any (int_eq period) periods)
  where
    by_test : (test : Bool) → list_any (int_eq other) (if test then periods else periods ++ period ∷ []) ≡ true
    by_test true = listed
    by_test false = list_any-append (int_eq other) periods (period ∷ []) ∙ or_left (list_any (int_eq other) periods) (list_any (int_eq other) (period ∷ [])) listed

arrives : (periods : List ℤ) (period : ℤ) → list_any (int_eq period) (with_period periods period) ≡ true
arrives periods period = by_test (list_any (int_eq period) periods) refl
  where
    by_test : (test : Bool) → list_any (int_eq period) periods ≡ test → list_any (int_eq period) (if test then periods else periods ++ period ∷ []) ≡ true
    by_test true e = e
    by_test false e =
        list_any-append (int_eq period) periods (period ∷ [])
        ∙ or_right (list_any (int_eq period) periods) (list_any (int_eq period) (period ∷ [])) (or_left (int_eq period period) false (int_eq-same period))

module _ (per : Option ℕ) where
  all_stay : (periods : List ℤ) (rows : List Row) (other : ℤ) → list_any (int_eq other) periods ≡ true → list_any (int_eq other) (fold (with_more per) periods rows) ≡ true
  all_stay periods [] other listed = listed
  all_stay periods (row ∷ rows) other listed = all_stay (with_period periods (period_of per row)) rows other (stays periods (period_of per row) other listed)

  listed_from : (periods : List ℤ) (rows : List Row) (period : ℤ) → list_any (is_of per period) rows ≡ true → list_any (int_eq period) (fold (with_more per) periods rows) ≡ true
  listed_from periods [] period some = absurd (true≢false (sym some))
  listed_from periods (row ∷ rows) period some = by_test (is_of per period row) refl some (listed_from (with_period periods (period_of per row)) rows period)
    where
      by_test : (test : Bool) → is_of per period row ≡ test → (test || list_any (is_of per period) rows) ≡ true →
          (list_any (is_of per period) rows ≡ true → list_any (int_eq period) (fold (with_more per) (with_period periods (period_of per row)) rows) ≡ true) →
          list_any (int_eq period) (fold (with_more per) (with_period periods (period_of per row)) rows) ≡ true
      by_test true e some later =
          let same : period_of per row ≡ period = (Decides-int_eq (period_of per row) period).0 e in
          all_stay (with_period periods (period_of per row)) rows period (subst (λ p. list_any (int_eq p) (with_period periods (period_of per row)) ≡ true) same (arrives periods (period_of per row)))
      by_test false e some later = later some

-- the period of a row is listed
pub is_listed_of : (per : Option ℕ) (rows : List Row) (period : ℤ) → list_any (is_of per period) rows ≡ true → list_any (int_eq period) (periods_of per rows) ≡ true
is_listed_of per rows period some = listed_from per [] rows period some

pub is_unlisted_of : (per : Option ℕ) (rows : List Row) (period : ℤ) → list_any (int_eq period) (periods_of per rows) ≡ false → list_any (is_of per period) rows ≡ false
is_unlisted_of per rows period unlisted =
    false_from_ne_true (list_any (is_of per period) rows) (λ some. true≢false (sym (is_listed_of per rows period some) ∙ unlisted))

-- what holds of the period of each row holds of each that is listed
all_listed : (per : Option ℕ) (P : ℤ → Type 0) (periods : List ℤ) (rows : List Row) → All P periods → All (λ row. P (period_of per row)) rows → All P (fold (with_more per) periods rows)
all_listed per P periods [] before each = before
all_listed per P periods (row ∷ rows) before each =
    all_listed per P (with_period periods (period_of per row)) rows (by_test (list_any (int_eq (period_of per row)) periods))
    (All-tail (λ r. P (period_of per r)) row rows each)
  where
    by_test : (test : Bool) → All P (if test then periods else periods ++ period_of per row ∷ [])
    by_test true = before
    by_test false = All-push P periods (period_of per row) before (All-head (λ r. P (period_of per r)) row rows each)

pub all_periods : (per : Option ℕ) (P : ℤ → Type 0) (rows : List Row) → All (λ row. P (period_of per row)) rows → All P (periods_of per rows)
all_periods per P rows each = all_listed per P [] rows (All-nil P) each

-- ---- none is listed twice

stay_distinct : (per : Option ℕ) (periods : List ℤ) (rows : List Row) → IsDistinct int_eq periods → IsDistinct int_eq (fold (with_more per) periods rows)
stay_distinct per periods [] apart = apart
stay_distinct per periods (row ∷ rows) apart = stay_distinct per (with_period periods (period_of per row)) rows (by_test (list_any (int_eq (period_of per row)) periods) refl)
  where
    by_test : (test : Bool) → list_any (int_eq (period_of per row)) periods ≡ test → IsDistinct int_eq (if test then periods else periods ++ period_of per row ∷ [])
    by_test true e = apart
    by_test false e = IsDistinct-push int_eq_equiv periods (period_of per row) apart e

none_distinct : IsDistinct int_eq []
unfolding IsDistinct
none_distinct = tt

pub periods_distinct : (per : Option ℕ) (rows : List Row) → IsDistinct int_eq (periods_of per rows)
periods_distinct per rows = stay_distinct per [] rows none_distinct

-- ---- there are fewer than numbers from the least to the greatest where one of these has no row

module _ (low : ℤ) where
  abbrev offset : ℤ → ℕ
  offset period = nat_abs (period -ℤ low)

  apart_offsets : (a b : ℤ) → low ≤ℤ a → low ≤ℤ b → int_eq a b ≡ false → eqb (offset a) (offset b) ≡ false
  apart_offsets a b first second apart = by_test (eqb (offset a) (offset b)) refl
    where
      by_test : (test : Bool) → eqb (offset a) (offset b) ≡ test → test ≡ false
      by_test false e = refl
      by_test true e =
          let same : offset a ≡ offset b = grind (arith, nat_tests, e) in
          let equal : a ≡ b = omega (arith, ints, first, second, same) in
          absurd (true≢false (sym ((Decides-int_eq a b).1 equal) ∙ apart))

  none_same : (a : ℤ) (periods : List ℤ) → low ≤ℤ a → All (λ period. low ≤ℤ period) periods → AllByRecursion (λ period. int_eq a period ≡ false) periods →
      AllByRecursion (λ place. eqb (offset a) place ≡ false) (map offset periods)
  none_same a [] first all none = tt
  none_same a (period ∷ periods) first all none =
      (apart_offsets a period first (All-head (λ p. low ≤ℤ p) period periods all) none.0, none_same a periods first (All-tail (λ p. low ≤ℤ p) period periods all) none.1)

  distinct_offsets : (periods : List ℤ) → All (λ period. low ≤ℤ period) periods → IsDistinct int_eq periods → IsDistinct eqb (map offset periods)
  unfolding IsDistinct
  distinct_offsets [] all apart = tt
  distinct_offsets (period ∷ periods) all apart =
      (none_same period periods (All-head (λ p. low ≤ℤ p) period periods all) (All-tail (λ p. low ≤ℤ p) period periods all) apart.0, distinct_offsets periods (All-tail (λ p. low ≤ℤ p) period periods all) apart.1)

  low_offsets : (high : ℤ) (periods : List ℤ) → All (λ period. (low ≤ℤ period) × (period ≤ℤ high)) periods → (q : ℕ) → list_any (eqb q) (map offset periods) ≡ true → q < offset high + 1
  low_offsets high [] all q some = absurd (true≢false (sym some))
  low_offsets high (period ∷ periods) all q some = by_test (eqb q (offset period)) refl some (low_offsets high periods (All-tail (λ p. (low ≤ℤ p) × (p ≤ℤ high)) period periods all) q)
    where
      by_test : (test : Bool) → eqb q (offset period) ≡ test → (test || list_any (eqb q) (map offset periods)) ≡ true →
          (list_any (eqb q) (map offset periods) ≡ true → q < offset high + 1) → q < offset high + 1
      by_test true e some later =
          let same : q ≡ offset period = grind (arith, nat_tests, e) in
          let inside = All-head (λ p. (low ≤ℤ p) × (p ≤ℤ high)) period periods all in
          omega (arith, ints, same, inside.0, inside.1)
      by_test false e some later = later some

none_listed : (period : ℤ) (periods : List ℤ) → list_any (int_eq period) periods ≡ false → AllByRecursion (λ other. int_eq period other ≡ false) periods
none_listed period [] none = tt
none_listed period (other ∷ periods) none =
    let parts = or_parts (int_eq period other) (list_any (int_eq period) periods) none in
    (parts.0, none_listed period periods parts.1)

pub fewer_than_wide : (low high period : ℤ) (periods : List ℤ) → IsDistinct int_eq periods → All (λ p. (low ≤ℤ p) × (p ≤ℤ high)) periods → low ≤ℤ period → period ≤ℤ high →
    list_any (int_eq period) periods ≡ false → pos (length periods) ≤ℤ (high -ℤ low)
fewer_than_wide low high period periods apart all above below none =
    let with_one = period ∷ periods in
    let inside : All (λ p. (low ≤ℤ p) × (p ≤ℤ high)) with_one = All-cons (λ p. (low ≤ℤ p) × (p ≤ℤ high)) period periods (above, below) all in
    let over : All (λ p. low ≤ℤ p) with_one = λ k d there. (inside k d there).0 in
    let distinct = distinct_offsets low with_one over (IsDistinct-cons int_eq period periods (none_listed period periods none) apart) in
    let few = length-le_from_distinct_below (map (offset low) with_one) (offset low high + 1) distinct (low_offsets low high with_one inside) in
    let long = length-map periods (offset low) in
    omega (arith, ints, few, long, above, below)
