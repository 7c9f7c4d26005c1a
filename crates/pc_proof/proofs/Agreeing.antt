-- Right answers to one question contain what the other attains.
use Rattle.std.proofs.Common.{arith, ◌≡◌, pos, ◌<ℤ◌, false, true≢false, List, Option, Some, None, IfSome, map, refl, ◌++◌}
use Rattle.std.specs.Prelude.{IsSomeAnd}
use Rattle.std.proofs.lemmas.Int.{ints}
use Rattle.pc_model.specs.declared.row.Run.{Run}
use Rattle.pc_model.specs.Aggregate.{Ratio, IsAtMost, IsSame, asked, kept}
use Rattle.pc_model.specs.Runs.{rows_of}
use Rattle.pc_model.specs.Right.{Question, Relation, possible, impossible, undecided, Mark, exact, outer, End, Answer, IsRight, IsRightRelation, IsRightEnd, IsAttained, ContainsAnswers, is_outer, value_for}
use Rattle.pc_proof.specs.Agreement.{IsExactEnd, LowsAgree, HighsAgree, RelationsAgree, AnswersAgree}
use Rattle.pc_proof.proofs.Fractions.{at_most_trans}
use Rattle.pc_proof.proofs.Lacks.{gives_ratio}

module _ (q : Question) where
  -- a value between two ends that is the same as another
  between : (o : Option Ratio) (low high value : Ratio) → pos 0 <ℤ low.den → pos 0 <ℤ high.den → pos 0 <ℤ value.den → IfSome o (λ v. pos 0 <ℤ v.den) →
      IfSome o (λ v. IsAtMost low v × IsAtMost v high) → IsSomeAnd o (λ v. IsSame v value) → IsAtMost low value × IsAtMost value high
  between None low high value low_den high_den value_den dens within same = absurd same
  between (Some v) low high value low_den high_den value_den den within same = (
    at_most_trans low v value low_den den value_den within.0 (omega (arith, ints, same)),
    at_most_trans value v high value_den den high_den (omega (arith, ints, same)) within.1,
  )

  -- ends that contain all values contain one that is attained
  contained : (low high : Ratio) (value : Ratio) (runs : List Run) → pos 0 <ℤ low.den → pos 0 <ℤ high.den → pos 0 <ℤ value.den →
      ContainsAnswers q low high → IsAttained q value runs → IsAtMost low value × IsAtMost value high
  contained low high value runs low_den high_den value_den contains attained =
      between (value_for q (rows_of runs)) low high value low_den high_den value_den
      (gives_ratio q.query.agg (map (asked q.query) (kept q.query q.name (q.observed ++ rows_of runs))))
      (contains (rows_of runs) attained.by.are_possible) attained.gives

  -- those of another answer contain an exact end
  exact_contained : (low high value : Ratio) (mark : Mark) → pos 0 <ℤ low.den → pos 0 <ℤ high.den → pos 0 <ℤ value.den → ContainsAnswers q low high →
      IsRightEnd q (record { value = value; mark = mark }) → is_outer mark ≡ false → IsAtMost low value × IsAtMost value high
  exact_contained low high value (exact runs) low_den high_den value_den contains right is_exact = contained low high value runs low_den high_den value_den contains right
  exact_contained low high value outer low_den high_den value_den contains right is_exact = absurd (true≢false is_exact)

  pub relations_agree : (own other : Relation) → IsRightRelation q own → IsRightRelation q other → RelationsAgree own other
  relations_agree (possible runs) (possible more) mine theirs = refl
  relations_agree (possible runs) impossible mine theirs = absurd (theirs (rows_of runs) mine.are_possible)
  relations_agree (possible runs) undecided mine theirs = refl
  relations_agree impossible other mine theirs = tt
  relations_agree undecided other mine theirs = tt

  -- what a right answer says of its ends
  record AreRight (ends : End × End) : Type 0 where
    low_den : pos 0 <ℤ ends.0.value.den
    high_den : pos 0 <ℤ ends.1.value.den
    contains : ContainsAnswers q ends.0.value ends.1.value
    low : IsRightEnd q ends.0
    high : IsRightEnd q ends.1

  within : (own other : End × End) → AreRight own → AreRight other → (IsExactEnd own.0 → IsAtMost other.0.value own.0.value) × (IsExactEnd own.1 → IsAtMost own.1.value other.1.value)
  within own other mine theirs = (
    λ is_exact. (exact_contained other.0.value other.1.value own.0.value own.0.mark theirs.low_den theirs.high_den mine.low_den theirs.contains mine.low is_exact).0,
    λ is_exact. (exact_contained other.0.value other.1.value own.1.value own.1.mark theirs.low_den theirs.high_den mine.high_den theirs.contains mine.high is_exact).1,
  )

  lows_agree : (own other : End × End) → AreRight own → AreRight other → LowsAgree own.0 other.0
  lows_agree own other mine theirs = record {
    same = λ is_exact is_exact_too. omega (arith, ints, (within own other mine theirs).0 is_exact, (within other own theirs mine).0 is_exact_too);
    contained = (within own other mine theirs).0;
  }

  highs_agree : (own other : End × End) → AreRight own → AreRight other → HighsAgree own.1 other.1
  highs_agree own other mine theirs = record {
    same = λ is_exact is_exact_too. omega (arith, ints, (within own other mine theirs).1 is_exact, (within other own theirs mine).1 is_exact_too);
    contained = (within own other mine theirs).1;
  }

  right_ends : (answer : Answer) (ends : End × End) → IsRight q answer → answer.ends ≡ Some ends → AreRight ends
  right_ends answer ends right same =
      let positive = (rw same at right.positive) in
      record {
        low_den = positive.0;
        high_den = positive.1;
        contains = (rw same at right.contains);
        low = (rw same at right.low).0;
        high = (rw same at right.high).0;
      }

  both : (P : End × End → End × End → Type 0) (own other : Option (End × End)) → ((mine theirs : End × End) → own ≡ Some mine → other ≡ Some theirs → P mine theirs) →
      IfSome own (λ mine. IfSome other (P mine))
  both P None other holds = tt
  both P (Some mine) None holds = tt
  both P (Some mine) (Some theirs) holds = holds mine theirs refl refl

  pub right_answers_agree : (own other : Answer) → IsRight q own → IsRight q other → AnswersAgree own other
  right_answers_agree own other mine theirs = record {
    relation = relations_agree own.relation other.relation mine.relation theirs.relation;
    low = both (λ a b. LowsAgree a.0 b.0) own.ends other.ends (λ a b is is_too. lows_agree a b (right_ends own a mine is) (right_ends other b theirs is_too));
    high = both (λ a b. HighsAgree a.1 b.1) own.ends other.ends (λ a b is is_too. highs_agree a b (right_ends own a mine is) (right_ends other b theirs is_too));
  }
