-- The two sums as one, at either end: what they say of a quantile, and of the numbers of possible lists.
use Rattle.std.proofs.Common.{◌≡◌, ℕ, suc, ◌^◌, ◌≤◌, ◌<◌, ◌==◌, ℤ, pos, neg_ℤ, ◌+ℤ◌, ◌≤ℤ◌, ◌<ℤ◌, Bool, true, false, not, List, [], ◌∷◌, length, IfSome, refl, sym, true≢false, arith}
use Rattle.std.proofs.lemmas.Int.{ints}
use Rattle.std.proofs.lemmas.Option.{IfSome_then}
use Rattle.pc_model.specs.declared.row.Row.{Row}
use Rattle.pc_model.specs.Right.{IsPossibleFor}
use Rattle.pc_program_bound.specs.Allocation.{worth}
use Rattle.pc_proof.specs.Setting.{Setting, seen_numbers}
use Rattle.pc_agg_search.specs.declared.extreme.Extreme.{Extreme}
use Rattle.pc_agg_search.specs.declared.extreme.Extreme.TheVariants.{Low, High}
use Rattle.pc_agg_search.specs.Ends.{signed}
use Rattle.pc_lang.specs.declared.quantile.Quantile.{Quantile}
use Rattle.pc_quantile.specs.Candidates.{StandAt}
use Rattle.pc_quantile.specs.Gains.{lost_counts}
use Rattle.pc_quantile.specs.Licensed.{IsCandidateAt}
use Rattle.pc_quantile.specs.Measure.{has_numbers}
use Rattle.pc_quantile.specs.Measured.{IsAskedIn, numbers_of, quantile_of}
use Rattle.pc_quantile.specs.Past.{IsBounded, end_in, program_past, sum_past}
use Rattle.pc_quantile.specs.Quantile.{quantile}
use Rattle.pc_quantile.proofs.ListSums.{first_above, first_some, second_below, second_some}
use Rattle.pc_quantile.proofs.Outermost.{at_an_end, over_lowest, under_highest}
use Rattle.pc_quantile.proofs.Shares.{quantile_keeps}
use Rattle.pc_quantile.proofs.Within.{bounded_above, bounded_below, first_at_end, second_at_end}

-- ---- numbers with their signs

pub signed_twice : (extreme : Extreme) (n : ℤ) → signed extreme (signed extreme n) ≡ n
signed_twice High n = omega (arith, ints)
signed_twice Low n = omega (arith, ints)

-- ---- whether rows were observed, as their numbers tell

no_numbers : (n : ℕ) → not (suc n == 0) ≡ false → ⊥
no_numbers n none = by_test (suc n == 0) refl none
  where
    by_test : (test : Bool) → (suc n == 0) ≡ test → not test ≡ false → ⊥
    by_test true same none = grind (arith, same)
    by_test false same none = true≢false none

pub seen_some : (numbers : List ℤ) → has_numbers numbers ≡ true → 0 < length numbers
seen_some [] some = absurd (true≢false (sym some))
seen_some (x ∷ xs) some = omega arith

pub seen_none : (numbers : List ℤ) → has_numbers numbers ≡ false → length numbers ≡ 0
seen_none [] none = refl
seen_none (x ∷ xs) none = absurd (no_numbers (length xs) none)

-- ---- lists of numbers

module _ (asked : Quantile) (v : ℤ) (numbers : List ℤ) where
  pub passed : (extreme : Extreme) → 1 ≤ asked.p → length numbers < 2 ^ 36 → pos 1 ≤ℤ sum_past extreme asked v numbers → IfSome (quantile asked.p asked.q numbers) (λ w. signed extreme v <ℤ signed extreme w)
  passed High some few large = first_above asked.p asked.q v numbers large
  passed Low some few large = IfSome_then (quantile asked.p asked.q numbers) (second_below asked.p asked.q v numbers some few large) (λ w below. omega (arith, ints, below))

  pub passed_some : (extreme : Extreme) → pos 1 ≤ℤ sum_past extreme asked v numbers → 0 < length numbers
  passed_some High large = first_some asked.p asked.q v numbers large
  passed_some Low large = second_some asked.p asked.q v numbers large

-- ---- possible lists

module _ (s : Setting) (asked : Quantile) (is : IsAskedIn s asked) (lost : List Row) (possible : IsPossibleFor s.question lost) where
  pub bounded : (extreme : Extreme) (v : ℤ) → IsBounded s (seen_numbers s.question) extreme asked v → IfSome (quantile_of s.question asked lost) (λ w. signed extreme w ≤ℤ signed extreme v)
  bounded High v bounds = bounded_above s asked is lost v possible bounds
  bounded Low v bounds = IfSome_then (quantile_of s.question asked lost) (bounded_below s asked is lost v possible bounds) (λ w from. omega (arith, ints, from))

  -- with the numbers of the cells at an end, the sum is what the counts are worth beside the observed numbers
  pub at_end : (extreme : Extreme) (v : ℤ) → StandAt s (end_in s extreme) lost →
      sum_past extreme asked v (numbers_of s.question lost) ≡ sum_past extreme asked v (seen_numbers s.question) +ℤ worth (program_past s extreme asked v) (lost_counts s lost)
  at_end High v stand = first_at_end s asked is lost v possible stand
  at_end Low v stand = second_at_end s asked is lost v possible stand

  -- what no candidate passes no quantile does
  pub within_candidates : (extreme : Extreme) (key : ℤ) → ((number : ℤ) → IsCandidateAt s extreme number → signed extreme number ≤ℤ key) →
      IfSome (quantile_of s.question asked lost) (λ w. signed extreme w ≤ℤ key)
  within_candidates High key each =
      quantile_keeps (λ w. w ≤ℤ key) asked.p asked.q (numbers_of s.question lost) (under_highest s asked lost is possible key each)
  within_candidates Low key each =
      quantile_keeps (λ w. neg_ℤ w ≤ℤ key) asked.p asked.q (numbers_of s.question lost)
      (λ place d inside.
      let from = over_lowest s asked lost is possible (neg_ℤ key) (λ number candidate. let within = each number candidate in omega (arith, ints, within)) place d inside in
      omega (arith, ints, from))

  -- with those numbers a quantile is a candidate
  pub candidate_at : (extreme : Extreme) → StandAt s (end_in s extreme) lost → IfSome (quantile_of s.question asked lost) (IsCandidateAt s extreme)
  candidate_at extreme stand = quantile_keeps (IsCandidateAt s extreme) asked.p asked.q (numbers_of s.question lost) (at_an_end s asked lost is possible (end_in s extreme) stand)
