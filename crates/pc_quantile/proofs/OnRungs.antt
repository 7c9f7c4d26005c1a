-- Where an end stands on a rung: no list passes it, and what attains it.
use Rattle.std.proofs.Common.{◌≡◌, ℕ, zero, suc, ◌+◌, ◌-◌, ◌^◌, ◌<◌, ◌≤◌, ℤ, pos, ◌≤ℤ◌, ◌<ℤ◌, ◌⊎◌, inl, inr, List, length, Option, Some, None, IfSome, IsSome, sym, ap, subst, ◌∙◌, arith}
use Rattle.std.proofs.lemmas.Bool.{false≢true, cases_lt}
use Rattle.std.proofs.lemmas.Int.{ints}
use Rattle.std.proofs.lemmas.List.{get_or_default}
use Rattle.pc_model.specs.declared.row.Row.{Row}
use Rattle.pc_model.specs.Right.{IsPossibleFor}
use Rattle.pc_program_bound.specs.Sums.{int_at}
use Rattle.pc_proof.specs.Setting.{Setting, seen_numbers}
use Rattle.pc_agg_search.specs.declared.extreme.Extreme.{Extreme}
use Rattle.pc_agg_search.specs.Ends.{signed}
use Rattle.pc_lang.specs.declared.quantile.Quantile.{Quantile}
use Rattle.pc_quantile.specs.Candidates.{StandAt}
use Rattle.pc_quantile.specs.Climbing.{AreRungs, IsHeldAt, number_on}
use Rattle.pc_quantile.specs.Licensed.{IsCandidateAt, IsInnermost, IsNextTo}
use Rattle.pc_quantile.specs.Measured.{IsAskedIn, numbers_of, quantile_of}
use Rattle.pc_quantile.specs.Past.{end_in, sum_past}
use Rattle.pc_quantile.proofs.Passed.{bounded, candidate_at, passed, passed_some, signed_twice, within_candidates}
use Rattle.pc_quantile.proofs.Shares.{there_is_one}

-- ---- rungs that fall

module _ (rungs : List ℤ) (falling : (place : ℕ) → suc place < length rungs → int_at rungs (suc place) <ℤ int_at rungs place) where
  falls_by : (i n : ℕ) → i + n < length rungs → int_at rungs (i + n) ≤ℤ int_at rungs i
  falls_by i zero inside = let same : i + 0 ≡ i = omega arith in subst (λ j. int_at rungs j ≤ℤ int_at rungs i) (sym same) (omega (arith, ints))
  falls_by i (suc n) inside =
      let before = falls_by i n (omega (arith, inside)) in
      let step = falling (i + n) (omega (arith, inside)) in
      let same : i + suc n ≡ suc (i + n) = omega arith in
      subst (λ j. int_at rungs j ≤ℤ int_at rungs i) (sym same) (omega (arith, ints, before, step))

  pub falls : (i j : ℕ) → i ≤ j → j < length rungs → int_at rungs j ≤ℤ int_at rungs i
  falls i j order inside = let same : i + (j - i) ≡ j = omega (arith, order) in subst (λ k. int_at rungs k ≤ℤ int_at rungs i) same (falls_by i (j - i) (omega (arith, order, inside)))

module _ (s : Setting) (extreme : Extreme) (rungs : List ℤ) (are : AreRungs s (seen_numbers s.question) extreme rungs) where
  -- each candidate stands on a rung
  on_rung : (number : ℤ) → IsCandidateAt s extreme number → (i : ℕ) × (i < length rungs) × (int_at rungs i ≡ signed extreme number)
  on_rung number candidate =
      let there = are.each number candidate in
      (there.0, there.1, get_or_default rungs there.0 (pos 0) (signed extreme number) there.1 ∙ there.2)

  pub up_to_first : (number : ℤ) → IsCandidateAt s extreme number → signed extreme number ≤ℤ int_at rungs 0
  up_to_first number candidate =
      let at = on_rung number candidate in
      let order = falls rungs are.falling 0 at.0 (omega arith) at.1 in
      omega (arith, ints, order, at.2)

  pub signed_on : (place : ℕ) → signed extreme (number_on extreme rungs place) ≡ int_at rungs place
  signed_on place = signed_twice extreme (int_at rungs place)

  module _ (place : ℕ) (inside : place < length rungs) where
    pub candidate_on : IsCandidateAt s extreme (number_on extreme rungs place)
    candidate_on = are.from place (pos 0) inside

    -- past it there is none, or the next rung is the next candidate inwards
    pub innermost : suc place ≡ length rungs → IsInnermost s extreme (number_on extreme rungs place)
    innermost last other candidate =
        let at = on_rung other candidate in
        let order = falls rungs are.falling at.0 place (omega (arith, at.1, last)) inside in
        omega (arith, ints, order, at.2, signed_on place)

    pub next_to : suc place < length rungs → IsNextTo s extreme (number_on extreme rungs place) (number_on extreme rungs (suc place))
    next_to more = record {
      candidate = are.from (suc place) (pos 0) more;
      inwards = let step = are.falling place more in omega (arith, ints, step, signed_on place, signed_on (suc place));
      none_between = λ other candidate. beside other (on_rung other candidate);
    }
      where
        beside : (other : ℤ) → ((i : ℕ) × (i < length rungs) × (int_at rungs i ≡ signed extreme other)) →
            (signed extreme other ≤ℤ signed extreme (number_on extreme rungs (suc place))) ⊎ (signed extreme (number_on extreme rungs place) ≤ℤ signed extreme other)
        beside other at = by_order (cases_lt place at.0)
          where
            by_order : (place < at.0) ⊎ (at.0 ≤ place) → (signed extreme other ≤ℤ signed extreme (number_on extreme rungs (suc place))) ⊎ (signed extreme (number_on extreme rungs place) ≤ℤ signed extreme other)
            by_order (inr before) = let order = falls rungs are.falling at.0 place before inside in inr (omega (arith, ints, order, at.2, signed_on place))
            by_order (inl after) = let order = falls rungs are.falling (suc place) at.0 after at.1 in inl (omega (arith, ints, order, at.2, signed_on (suc place)))

    module _ (asked : Quantile) (is : IsAskedIn s asked) (held : IsHeldAt s (seen_numbers s.question) extreme asked rungs place) (lost : List Row) (possible : IsPossibleFor s.question lost) where
      -- no list has a quantile that is farther out
      pub not_past : IfSome (quantile_of s.question asked lost) (λ w. signed extreme w ≤ℤ int_at rungs place)
      not_past = by_held held
        where
          by_held : IsHeldAt s (seen_numbers s.question) extreme asked rungs place → IfSome (quantile_of s.question asked lost) (λ w. signed extreme w ≤ℤ int_at rungs place)
          by_held (inl first) = subst (λ i. IfSome (quantile_of s.question asked lost) (λ w. signed extreme w ≤ℤ int_at rungs i)) (sym first) (within_candidates s asked is lost possible extreme (int_at rungs 0) up_to_first)
          by_held (inr bounds) =
              subst (λ key. IfSome (quantile_of s.question asked lost) (λ w. signed extreme w ≤ℤ key)) (signed_on place)
              (bounded s asked is lost possible extreme (number_on extreme rungs place) bounds)

      -- a list with the numbers of this end has that of the rung, if it passes the next one, or has any where there is none
      module _ (stand : StandAt s (end_in s extreme) lost) where
        abbrev v : ℤ
        v = number_on extreme rungs place

        one_left : (o : Option ℤ) → IsSome o → IfSome o (λ w. signed extreme w ≤ℤ int_at rungs place) → IfSome o (λ w. int_at rungs place ≤ℤ signed extreme w) → o ≡ Some v
        one_left None some up_to from = absurd (false≢true some)
        one_left (Some w) some up_to from =
            let same : signed extreme w ≡ int_at rungs place = omega (arith, ints, up_to, from) in
            ap Some (sym (signed_twice extreme w) ∙ ap (signed extreme) same)

        both : (o : Option ℤ) → IfSome o (λ w. signed extreme (number_on extreme rungs (suc place)) <ℤ signed extreme w) → IfSome o (IsCandidateAt s extreme) → suc place < length rungs → IfSome o (λ w. int_at rungs place ≤ℤ signed extreme w)
        both None over found more = tt
        both (Some w) over found more = by_side ((next_to more).none_between w found)
          where
            by_side : (signed extreme w ≤ℤ signed extreme (number_on extreme rungs (suc place))) ⊎ (signed extreme (number_on extreme rungs place) ≤ℤ signed extreme w) → int_at rungs place ≤ℤ signed extreme w
            by_side (inl below) = absurd (omega (arith, ints, below, over))
            by_side (inr from) = omega (arith, ints, from, signed_on place)

        pub passing_has : suc place < length rungs → length (numbers_of s.question lost) < 2 ^ 36 → pos 1 ≤ℤ sum_past extreme asked (number_on extreme rungs (suc place)) (numbers_of s.question lost) →
            quantile_of s.question asked lost ≡ Some v
        passing_has more few large =
            one_left (quantile_of s.question asked lost)
            (there_is_one asked.p asked.q (numbers_of s.question lost) is.well.some is.well.most (passed_some asked (number_on extreme rungs (suc place)) (numbers_of s.question lost) extreme large)) not_past
            (both (quantile_of s.question asked lost) (passed asked (number_on extreme rungs (suc place)) (numbers_of s.question lost) extreme is.well.some few large) (candidate_at s asked is lost possible extreme stand) more)

        last_at : (o : Option ℤ) → IfSome o (IsCandidateAt s extreme) → suc place ≡ length rungs → IfSome o (λ w. int_at rungs place ≤ℤ signed extreme w)
        last_at None found last = tt
        last_at (Some w) found last = let from = innermost last w found in omega (arith, ints, from, signed_on place)

        pub last_has : suc place ≡ length rungs → IsSome (quantile_of s.question asked lost) → quantile_of s.question asked lost ≡ Some v
        last_has last some = one_left (quantile_of s.question asked lost) some not_past (last_at (quantile_of s.question asked lost) (candidate_at s asked is lost possible extreme stand) last)
