-- Right answers to one quantile contain what the other attains.
use Rattle.std.proofs.Common.{arith, ◌≡◌, ℤ, ◌≤ℤ◌, false, true≢false, List, Option, Some, None, IfSome}
use Rattle.std.proofs.lemmas.Int.{ints}
use Rattle.pc_model.specs.declared.row.Run.{Run}
use Rattle.pc_model.specs.Runs.{rows_of}
use Rattle.pc_model.specs.Right.{Question, Relation, Mark, exact, outer, End, Answer, is_outer}
use Rattle.pc_proof.specs.Agreement.{IsExactEnd, LowsAgree, HighsAgree, AnswersAgree}
use Rattle.pc_proof.proofs.Agreeing.{relations_agree}
use Rattle.pc_lang.specs.declared.quantile.Quantile.{Quantile}
use Rattle.pc_quantile.specs.Right.{AreRightEnds, ContainsQuantiles, HasQuantile, IsRight, IsRightMark}

module _ (q : Question) (asked : Quantile) where
  -- what contains the quantiles of all lists contains that of one
  contained : (least greatest number : ℤ) (runs : List Run) → ContainsQuantiles q asked least greatest → HasQuantile q asked number runs → (least ≤ℤ number) × (number ≤ℤ greatest)
  contained least greatest number runs contains has = rw has.has at (contains (rows_of runs) has.by.are_possible)

  exact_contained : (least greatest number : ℤ) (mark : Mark) → ContainsQuantiles q asked least greatest → IsRightMark q asked number mark → is_outer mark ≡ false →
      (least ≤ℤ number) × (number ≤ℤ greatest)
  exact_contained least greatest number (exact runs) contains right is_exact = contained least greatest number runs contains right
  exact_contained least greatest number outer contains right is_exact = absurd (true≢false is_exact)

  module _ (own_relation other_relation : Relation) (own other : End × End) (mine : AreRightEnds q asked own_relation own.0 own.1) (theirs : AreRightEnds q asked other_relation other.0 other.1) where
    low_within : IsExactEnd own.0 → theirs.least ≤ℤ mine.least
    low_within is_exact = (exact_contained theirs.least theirs.greatest mine.least own.0.mark theirs.contains mine.low_end.mark is_exact).0

    high_within : IsExactEnd own.1 → mine.greatest ≤ℤ theirs.greatest
    high_within is_exact = (exact_contained theirs.least theirs.greatest mine.greatest own.1.mark theirs.contains mine.high_end.mark is_exact).1

  ends_agree : (own_relation other_relation : Relation) (own other : Option (End × End)) → IfSome own (λ ends. AreRightEnds q asked own_relation ends.0 ends.1) → IfSome other (λ ends. AreRightEnds q asked other_relation ends.0 ends.1) →
      IfSome own (λ a. IfSome other (λ b. LowsAgree a.0 b.0)) × IfSome own (λ a. IfSome other (λ b. HighsAgree a.1 b.1))
  ends_agree own_relation other_relation None other mine theirs = (tt, tt)
  ends_agree own_relation other_relation (Some own) None mine theirs = (tt, tt)
  ends_agree own_relation other_relation (Some own) (Some other) mine theirs =
      let low = low_within own_relation other_relation own other mine theirs in
      let low_too = low_within other_relation own_relation other own theirs mine in
      let high = high_within own_relation other_relation own other mine theirs in
      let high_too = high_within other_relation own_relation other own theirs mine in (
        record {
          same = λ is_exact is_exact_too. rw (mine.low_end.value, theirs.low_end.value) (omega (arith, ints, low is_exact, low_too is_exact_too));
          contained = λ is_exact. rw (mine.low_end.value, theirs.low_end.value) (omega (arith, ints, low is_exact));
        },
        record {
          same = λ is_exact is_exact_too. rw (mine.high_end.value, theirs.high_end.value) (omega (arith, ints, high is_exact, high_too is_exact_too));
          contained = λ is_exact. rw (mine.high_end.value, theirs.high_end.value) (omega (arith, ints, high is_exact));
        },
      )

  pub right_quantiles_agree : (own other : Answer) → IsRight q asked own → IsRight q asked other → AnswersAgree own other
  right_quantiles_agree own other mine theirs =
      let ends = ends_agree own.relation other.relation own.ends other.ends mine.ends theirs.ends in
      record { relation = relations_agree q own.relation other.relation mine.relation theirs.relation; low = ends.0; high = ends.1 }
