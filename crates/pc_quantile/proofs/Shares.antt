-- On which side of a number the quantile of a list is.
use Rattle.std.proofs.Common.{◌≡◌, ℕ, zero, suc, ◌*◌, ◌≤◌, ◌<◌, ℤ, ◌≤ℤ◌, ◌<ℤ◌, Bool, true, List, [], ◌∷◌, length, get_or, filter, fold, All, Contains, Option, Some, None, IfSome, IsSome, IsSomeAnd, refl, sym, subst, arith, leb-true, le-leb}
use Rattle.std.specs.Prelude.{int_le}
use Rattle.std.specs.List.{reduce}
use Rattle.std.specs.Int.{int_max}
use Rattle.std.proofs.lemmas.Bool.{false≢true}
use Rattle.std.proofs.lemmas.Int.{ints, by_lt_z}
use Rattle.std.proofs.lemmas.List.Elements.{Contains-get_or}
use Rattle.std.proofs.lemmas.List.Sums.{length-filter}
use Rattle.std.proofs.Math.Nat.{mul-le-mul_left, mul-le-mul}
use mathlib.Core.List.{map-id}
use Rattle.pc_proof.proofs.Numbers.{All-kept, All-kept_back, least_keeps, greatest_keeps, each_under_greatest, each_over_least}
use Rattle.pc_proof.proofs.RowSums.{count_by-weaker}
use Rattle.pc_quantile.specs.Quantile.{at_most, has_share, quantile}
use Rattle.pc_quantile.proofs.Counted.{count_by-follows, count_by-all}

-- what holds of each that passes, said of the whole list
kept_back : (passes : ℤ → Bool) (P : ℤ → Type 0) (xs : List ℤ) → All P (filter passes xs) → All (λ x. passes x ≡ true → P x) xs
kept_back passes P xs each = All-kept_back passes (λ x. x) P xs (subst (All P) (sym (map-id (filter passes xs))) each)

up_to : (o : Option ℤ) (g v : ℤ) → g ≤ℤ v → IsSomeAnd o (λ w. w ≤ℤ g) → IsSomeAnd o (λ w. w ≤ℤ v)
up_to None g v within found = found
up_to (Some w) g v within found = omega (arith, ints, within, found)

found_if : (o : Option ℤ) (P : ℤ → Type 0) → IsSomeAnd o P → IfSome o P
found_if None P found = tt
found_if (Some w) P found = found

found_some : (o : Option ℤ) (P : ℤ → Type 0) → IsSomeAnd o P → IsSome o
found_some None P found = absurd found
found_some (Some w) P found = refl

some_greatest : (xs : List ℤ) → 0 < length xs → IsSome (reduce int_max xs)
some_greatest [] some = absurd (omega (arith, some))
some_greatest (x ∷ xs) some = refl

some_factor : (q k m : ℕ) → 1 ≤ m → m ≤ q * k → 0 < k
some_factor q zero m some within = absurd (omega (arith, some, within))
some_factor q (suc k) m some within = omega arith

module _ (p q : ℕ) (v : ℤ) (numbers : List ℤ) where
  -- ---- too few are at most v

  above_if : (w : ℤ) → q * at_most v numbers < p * length numbers → has_share p q numbers w ≡ true → v <ℤ w
  above_if w few passed = by_lt_z v w (λ over. over) (λ within. absurd (too_many within))
    where
      too_many : w ≤ℤ v → ⊥
      too_many within =
          let share = leb-true (p * length numbers) (q * at_most w numbers) passed in
          let more : at_most w numbers ≤ at_most v numbers = count_by-weaker (λ n. int_le n w) (λ n. int_le n v) numbers (λ n test. grind (arith, ints, test, within)) in
          let all : q * at_most w numbers ≤ q * at_most v numbers = mul-le-mul_left q more in
          omega (arith, few, share, all)

  pub above : q * at_most v numbers < p * length numbers → IfSome (quantile p q numbers) (λ w. v <ℤ w)
  above few =
      least_keeps (λ w. v <ℤ w) (filter (has_share p q numbers) numbers)
      (All-kept (has_share p q numbers) (λ w. v <ℤ w) numbers (λ place d inside passed. above_if (get_or numbers place d) few passed))

  -- ---- enough are: the greatest of them has the same share

  abbrev within_v : List ℤ
  within_v = filter (λ n. int_le n v) numbers

  -- the quantile is at most it, if it has the share
  abbrev AtLeast : ℤ → Type 0
  AtLeast g = has_share p q numbers g ≡ true → IsSomeAnd (quantile p q numbers) (λ w. w ≤ℤ g)

  by_greatest : (o : Option ℤ) → p * length numbers ≤ q * at_most v numbers → IsSome o → IfSome o (λ g. g ≤ℤ v) →
      IfSome o AtLeast →
      All (λ n. int_le n v ≡ true → IsSomeAnd o (λ g. n ≤ℤ g)) numbers → IsSomeAnd (quantile p q numbers) (λ w. w ≤ℤ v)
  by_greatest None enough some within least each = absurd (false≢true some)
  by_greatest (Some g) enough some within least each =
      let more : at_most v numbers ≤ at_most g numbers =
      count_by-follows (λ n. int_le n v) (λ n. int_le n g) numbers (λ place d inside test. let under = each place d inside test in grind (arith, ints, under)) in
      let all : q * at_most v numbers ≤ q * at_most g numbers = mul-le-mul_left q more in
      up_to (quantile p q numbers) g v within (least (le-leb (p * length numbers) (q * at_most g numbers) (omega (arith, enough, all))))

  pub within_some : 0 < at_most v numbers → p * length numbers ≤ q * at_most v numbers → IsSomeAnd (quantile p q numbers) (λ w. w ≤ℤ v)
  within_some some enough =
      by_greatest (reduce int_max within_v) enough (some_greatest within_v (subst (λ n. 0 < n) (sym (length-filter (λ n. int_le n v) numbers)) some))
      (greatest_keeps (λ g. g ≤ℤ v) within_v (All-kept (λ n. int_le n v) (λ g. g ≤ℤ v) numbers (λ place d inside test. grind (arith, ints, test))))
      (greatest_keeps AtLeast within_v (All-kept (λ n. int_le n v) AtLeast numbers (λ place d inside test. least place d inside)))
      (kept_back (λ n. int_le n v) (λ n. IsSomeAnd (reduce int_max within_v) (λ g. n ≤ℤ g)) numbers (each_under_greatest within_v))
    where
      least : All AtLeast numbers
      least = kept_back (has_share p q numbers) (λ n. IsSomeAnd (quantile p q numbers) (λ w. w ≤ℤ n)) numbers (each_over_least (filter (has_share p q numbers) numbers))

pub within : (p q : ℕ) (v : ℤ) (numbers : List ℤ) → 1 ≤ p → p * length numbers ≤ q * at_most v numbers → IfSome (quantile p q numbers) (λ w. w ≤ℤ v)
within p q v [] some enough = tt
within p q v (x ∷ xs) some enough =
    let there : 1 ≤ length (x ∷ xs) = omega arith in
    let share : 1 ≤ p * length (x ∷ xs) = mul-le-mul some there in
    found_if (quantile p q (x ∷ xs)) (λ w. w ≤ℤ v) (within_some p q v (x ∷ xs) (some_factor q (at_most v (x ∷ xs)) (p * length (x ∷ xs)) share enough) enough)

pub there_is_one : (p q : ℕ) (numbers : List ℤ) → 1 ≤ p → p ≤ q → 0 < length numbers → IsSome (quantile p q numbers)
there_is_one p q [] some most there = absurd (omega (arith, there))
there_is_one p q (x ∷ xs) some most there =
    let under : All (λ n. n ≤ℤ fold int_max x xs) (x ∷ xs) = each_under_greatest (x ∷ xs) in
    let all : length (x ∷ xs) ≤ at_most (fold int_max x xs) (x ∷ xs) =
    count_by-all (λ n. int_le n (fold int_max x xs)) (x ∷ xs) (λ place d inside. let below = under place d inside in grind (arith, ints, below)) in
    found_some (quantile p q (x ∷ xs)) (λ w. w ≤ℤ fold int_max x xs)
    (within_some p q (fold int_max x xs) (x ∷ xs) (omega (arith, all, there)) (mul-le-mul most all))

-- what holds of each number holds of the quantile
pub quantile_keeps : (P : ℤ → Type 0) (p q : ℕ) (numbers : List ℤ) → All P numbers → IfSome (quantile p q numbers) P
quantile_keeps P p q numbers each =
    least_keeps P (filter (has_share p q numbers) numbers) (All-kept (has_share p q numbers) P numbers (λ place d inside passed. each place d inside))

pub among : (p q : ℕ) (numbers : List ℤ) → IfSome (quantile p q numbers) (Contains numbers)
among p q numbers = quantile_keeps (Contains numbers) p q numbers (λ place d inside. Contains-get_or numbers place d inside)
