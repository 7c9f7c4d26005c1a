-- What a proof of an end, of a lack or of no list shows holds of every possible list.
use Rattle.std.proofs.Common.{◌≡◌, ℕ, ℤ, pos, neg_ℤ, ◌+ℤ◌, ◌-ℤ◌, ◌≤ℤ◌, ◌<ℤ◌, Bool, true, false, cond, List, length, get_or, IfSome, IsSome, IsNone, inl, inr, refl, sym, subst, true≢false, arith}
use Rattle.std.specs.List.{reduce}
use Rattle.std.specs.Int.{int_min, int_max}
use Rattle.std.proofs.lemmas.Int.{ints}
use Rattle.pc_model.specs.declared.row.Row.{Row}
use Rattle.pc_model.specs.declared.query.Agg.{Agg}
use Rattle.pc_model.specs.declared.query.Agg.TheVariants.{Count, Sum, Min, Max, Avg}
use Rattle.pc_model.specs.Membership.{is_in}
use Rattle.pc_model.specs.Aggregate.{Ratio, whole, IsAtMost, asked, int_sum, value_of}
use Rattle.pc_model.specs.Right.{IsPossibleFor, value_for, always_has_value}
use Rattle.pc_proof.specs.declared.answer.Proof.{Proof}
use Rattle.pc_proof.specs.declared.answer.Proof.TheVariants as proofs
use Rattle.pc_proof.specs.declared.answer.Bounded.{Bounded}
use Rattle.pc_proof.specs.declared.answer.Why.{Why}
use Rattle.pc_proof.specs.declared.answer.Why.TheVariants as whys
use Rattle.pc_proof.specs.declared.answer.NeverBy.{NeverBy}
use Rattle.pc_proof.specs.declared.answer.NeverBy.TheVariants as nevers
use Rattle.pc_proof.specs.declared.answer.AlwaysBy.{AlwaysBy}
use Rattle.pc_proof.specs.declared.answer.AlwaysBy.TheVariants as alwayses
use Rattle.pc_proof.specs.Setting.{Setting, area_of, seen, seen_count, seen_sum, high_in, low_in, on_chosen}
use Rattle.pc_proof.specs.Table.{ratio_of, IsFormed, HasRatio, none, one, minus_one, minus_low, ShowsHigh, ShowsLow, EndsCross, HasValue, ShowsImpossible, ShowsNever, ShowsAlways}
use Rattle.pc_proof.specs.Unbroken.{IsWellPosed}
use Rattle.pc_proof.proofs.Averages.{avg_high, avg_low, avg_high_at, avg_low_at, avg_high_values, avg_low_values}
use Rattle.pc_proof.proofs.Ends.{AsksNumbers, IsOfNumbers, asks_numbers}
use Rattle.pc_proof.proofs.Extremes.{min_low, max_high, min_high, max_low, min_high_seen, max_low_seen}
use Rattle.pc_proof.proofs.Fractions.{lesser_at_most, greater_at_least}
use Rattle.pc_proof.proofs.Gains.{IsSettledFor, gains_of, shown_gains, none_possible, cross_possible}
use Rattle.pc_proof.proofs.Groups.{keeps_area}
use Rattle.pc_proof.proofs.Kept.{kept_count, kept_sum, kept_some, cell_of, count_is, minus_count_is, between, no_numbers}
use Rattle.pc_proof.proofs.Lacks.{whole_if, none_from, not_crossed, gives_ratio, always_some, some_of, none_of}
use Rattle.pc_proof.proofs.Seen.{keeps, all_numbers, how_many, what_sum, int_sum-neg, int_sum_mono}

-- ---- one row

kept_under : (kept chosen : Bool) (n high : ℤ) → kept ≡ chosen → n ≤ℤ high → cond kept n (pos 0) ≤ℤ cond chosen high (pos 0)
kept_under true true n high same under = under
kept_under false false n high same under = omega (arith, ints)
kept_under true false n high same under = absurd (true≢false same)
kept_under false true n high same under = absurd (true≢false (sym same))

kept_over : (kept chosen : Bool) (n low : ℤ) → kept ≡ chosen → low ≤ℤ n → neg_ℤ (cond kept n (pos 0)) ≤ℤ cond chosen (neg_ℤ low) (pos 0)
kept_over true true n low same over = omega (arith, ints)
kept_over false false n low same over = omega (arith, ints)
kept_over true false n low same over = absurd (true≢false same)
kept_over false true n low same over = absurd (true≢false (sym same))

-- ---- the rows of a possible list

module _ (s : Setting) (posed : IsWellPosed s.question) (tree : IsSettledFor s) (lost : List Row) (possible : IsPossibleFor s.question lost) where
  abbrev numbers : List ℤ
  numbers = all_numbers s.question lost

  asks : (agg : Agg) → s.question.query.agg ≡ agg → IsOfNumbers agg → AsksNumbers s.question.schema s.question.query
  asks agg is of = asks_numbers s.question.schema s.question.query agg posed.query is of

  sum_under : s.question.query.agg ≡ Sum → kept_sum s lost ≤ℤ gains_of s (on_chosen (high_in s)) lost
  sum_under is =
      int_sum_mono (λ (row : Row). cond (keeps s.question row) (asked s.question.query row) (pos 0)) (λ (row : Row). on_chosen (high_in s) (cell_of s row)) lost
      (λ place d inside.
      kept_under (keeps s.question (get_or lost place d)) (is_in (area_of s.question) (get_or lost place d)) (asked s.question.query (get_or lost place d)) (high_in s (cell_of s (get_or lost place d)))
      (keeps_area s.question posed (get_or lost place d)) (between s posed tree lost possible (asks Sum is tt) place d inside).1)

  minus_sum_under : s.question.query.agg ≡ Sum → neg_ℤ (kept_sum s lost) ≤ℤ gains_of s (on_chosen (minus_low s)) lost
  minus_sum_under is =
      subst (λ n. n ≤ℤ gains_of s (on_chosen (minus_low s)) lost) (int_sum-neg (λ (row : Row). cond (keeps s.question row) (asked s.question.query row) (pos 0)) lost)
      (int_sum_mono (λ (row : Row). neg_ℤ (cond (keeps s.question row) (asked s.question.query row) (pos 0))) (λ (row : Row). on_chosen (minus_low s) (cell_of s row)) lost
      (λ place d inside.
      kept_over (keeps s.question (get_or lost place d)) (is_in (area_of s.question) (get_or lost place d)) (asked s.question.query (get_or lost place d)) (low_in s (cell_of s (get_or lost place d)))
      (keeps_area s.question posed (get_or lost place d)) (between s posed tree lost possible (asks Sum is tt) place d inside).0))

  -- ---- the ends

  high_of : (agg : Agg) (v : Ratio) (proof : Proof) → s.question.query.agg ≡ agg → pos 0 <ℤ v.den → HasRatio proof → ShowsHigh s agg v proof →
      IfSome (value_of agg numbers) (λ x. IsAtMost x v)
  high_of Count v (proofs.Tree t) is above ratio shows =
      let found = shown_gains s posed.formed tree lost possible (on_chosen one) t (λ k. IsAtMost (whole (seen_count s.question +ℤ k)) v) shows in
      lesser_at_most (pos (length numbers)) (seen_count s.question +ℤ found.0) v above
      (omega (arith, ints, how_many s.question lost, count_is s posed tree lost possible, found.2)) found.1
  high_of Sum v (proofs.Tree t) is above ratio shows =
      let found = shown_gains s posed.formed tree lost possible (on_chosen (high_in s)) t (λ k. IsAtMost (whole (seen_sum s.question +ℤ k)) v) shows in
      lesser_at_most (int_sum numbers) (seen_sum s.question +ℤ found.0) v above (omega (arith, ints, what_sum s.question lost, sum_under is, found.2)) found.1
  high_of Min v proofs.Rows is above ratio shows =
      whole_if (reduce int_min numbers) (λ x. IsAtMost x v) (min_high_seen s posed tree lost possible (asks Min is tt) v above shows)
  high_of Min v (proofs.Tree t) is above ratio shows =
      whole_if (reduce int_min numbers) (λ x. IsAtMost x v) (min_high s posed tree lost possible (asks Min is tt) v above t shows)
  high_of Max v (proofs.Tree t) is above ratio shows =
      whole_if (reduce int_max numbers) (λ x. IsAtMost x v) (max_high s posed tree lost possible (asks Max is tt) v above t shows.0 shows.1)
  high_of Avg v (proofs.Tree t) is above ratio shows = avg_high s posed tree lost possible (asks Avg is tt) v above t shows
  high_of Avg v (proofs.At r t) is above ratio shows = avg_high_at s posed tree lost possible (asks Avg is tt) v above (ratio_of r) ratio t shows
  high_of Avg v proofs.Values is above ratio shows = avg_high_values s posed tree lost possible (asks Avg is tt) v above shows
  high_of agg v proof is above ratio shows = absurd shows

  low_of : (agg : Agg) (v : Ratio) (proof : Proof) → s.question.query.agg ≡ agg → pos 0 <ℤ v.den → HasRatio proof → ShowsLow s agg v proof →
      IfSome (value_of agg numbers) (λ x. IsAtMost v x)
  low_of Count v (proofs.Tree t) is above ratio shows =
      let found = shown_gains s posed.formed tree lost possible (on_chosen minus_one) t (λ k. IsAtMost v (whole (seen_count s.question -ℤ k))) shows in
      greater_at_least (seen_count s.question -ℤ found.0) (pos (length numbers)) v above
      (omega (arith, ints, how_many s.question lost, minus_count_is s posed tree lost possible, found.2)) found.1
  low_of Sum v (proofs.Tree t) is above ratio shows =
      let found = shown_gains s posed.formed tree lost possible (on_chosen (minus_low s)) t (λ k. IsAtMost v (whole (seen_sum s.question -ℤ k))) shows in
      greater_at_least (seen_sum s.question -ℤ found.0) (int_sum numbers) v above (omega (arith, ints, what_sum s.question lost, minus_sum_under is, found.2)) found.1
  low_of Min v (proofs.Tree t) is above ratio shows =
      whole_if (reduce int_min numbers) (λ x. IsAtMost v x) (min_low s posed tree lost possible (asks Min is tt) v above t shows.0 shows.1)
  low_of Max v proofs.Rows is above ratio shows =
      whole_if (reduce int_max numbers) (λ x. IsAtMost v x) (max_low_seen s posed tree lost possible (asks Max is tt) v above shows)
  low_of Max v (proofs.Tree t) is above ratio shows =
      whole_if (reduce int_max numbers) (λ x. IsAtMost v x) (max_low s posed tree lost possible (asks Max is tt) v above t shows)
  low_of Avg v (proofs.Tree t) is above ratio shows = avg_low s posed tree lost possible (asks Avg is tt) v above t shows
  low_of Avg v (proofs.At r t) is above ratio shows = avg_low_at s posed tree lost possible (asks Avg is tt) v above (ratio_of r) ratio t shows
  low_of Avg v proofs.Values is above ratio shows = avg_low_values s posed tree lost possible (asks Avg is tt) v above shows
  low_of agg v proof is above ratio shows = absurd shows

  pub high_holds : (end : Bounded) → IsFormed end.value end.proof → ShowsHigh s s.question.query.agg (ratio_of end.value) end.proof →
      IfSome (value_for s.question lost) (λ x. IsAtMost x (ratio_of end.value))
  high_holds end formed shows = high_of s.question.query.agg (ratio_of end.value) end.proof refl formed.positive formed.ratio shows

  pub low_holds : (end : Bounded) → IsFormed end.value end.proof → ShowsLow s s.question.query.agg (ratio_of end.value) end.proof →
      IfSome (value_for s.question lost) (λ x. IsAtMost (ratio_of end.value) x)
  low_holds end formed shows = low_of s.question.query.agg (ratio_of end.value) end.proof refl formed.positive formed.ratio shows

  -- ends do not cross where the list gives a value
  pub ends_cross : (low high : Bounded) → IsSome (value_for s.question lost) → EndsCross s low high → ⊥
  ends_cross low high some cross =
      cross.above
      (not_crossed (value_for s.question lost) (ratio_of low.value) (ratio_of high.value) cross.formed.0.positive cross.formed.1.positive some
      (gives_ratio s.question.query.agg numbers) (low_holds low cross.formed.0 cross.low_holds) (high_holds high cross.formed.1 cross.high_holds))

  -- ---- values, and none

  has_value : HasValue s.question → IsSome (value_for s.question lost)
  has_value (inl always) = always_some s.question.query.agg numbers always
  has_value (inr some) = some_of s.question.query.agg numbers (omega (arith, ints, how_many s.question lost, kept_some s lost, some))

  pub never_holds : (by' : NeverBy) → ShowsNever s by' → IsSome (value_for s.question lost)
  never_holds nevers.Rows shows = has_value (inr shows)
  never_holds (nevers.Tree t) shows =
      let found = shown_gains s posed.formed tree lost possible (on_chosen minus_one) t (λ k. k ≤ℤ neg_ℤ (pos 1)) shows in
      some_of s.question.query.agg numbers
      (enough (length (seen s.question)) (kept_count s lost) found.0 (pos (length numbers)) (how_many s.question lost) (omega (arith, ints, minus_count_is s posed tree lost possible, found.2)) found.1)
    where
      enough : (n : ℕ) (kept k count : ℤ) → count ≡ pos n +ℤ kept → neg_ℤ kept ≤ℤ k → k ≤ℤ neg_ℤ (pos 1) → pos 1 ≤ℤ count
      enough n kept k count is within few = omega (arith, ints, is, within, few)

  pub always_holds : (by' : AlwaysBy) → always_has_value s.question.query.agg ≡ false → ShowsAlways s by' → IsNone (value_for s.question lost)
  always_holds (alwayses.Tree t) lacks shows =
      let found = shown_gains s posed.formed tree lost possible (on_chosen one) t (λ k. k ≤ℤ pos 0) shows.1 in
      let empty = no_numbers s lost shows.0 (omega (arith, ints, count_is s posed tree lost possible, found.1, found.2)) in
      subst (λ (xs : List ℤ). IsNone (value_of s.question.query.agg xs)) (sym empty) (none_of s.question.query.agg lacks)
  always_holds (alwayses.Ends low high) lacks shows = none_from (value_for s.question lost) (λ some. ends_cross low high some shows.1)

  -- ---- that there is no such list

  pub impossible_holds : (why : Why) → ShowsImpossible s why → ⊥
  impossible_holds (whys.Void t) shows = none_possible s posed.formed tree lost possible none t shows
  impossible_holds (whys.Cross t u) shows = cross_possible s posed.formed tree lost possible t u shows.0 shows.1 shows.2
  impossible_holds (whys.Ends low high) shows = ends_cross low high (has_value shows.1) shows.0

pub given_ends : (s : Setting) (lost : List Row) (low high : Bounded) → IsWellPosed s.question → IsSettledFor s → IsPossibleFor s.question lost →
    IsSome (value_for s.question lost) → EndsCross s low high → ⊥
given_ends s lost low high posed tree possible some cross = ends_cross s posed tree lost possible low high some cross
