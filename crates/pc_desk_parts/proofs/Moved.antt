-- Where rows add up, one more like a row moves the end as its pull says.
use Rattle.std.proofs.Common.{◌≡◌, ◌∙◌, ℕ, ◌+◌, ℤ, pos, ◌+ℤ◌, ◌*ℤ◌, ◌<ℤ◌, int_lt, Bool, true, false, true≢false, cond, List, [], ◌∷◌, ◌++◌, filter, map, length, refl, sym, ap, subst, arith}
use Rattle.std.specs.Prelude.{IsSomeAnd}
use Rattle.std.proofs.lemmas.Int.{ints}
use Rattle.std.proofs.lemmas.List.{append_assoc, length_push, map-append}
use Rattle.std.proofs.lemmas.List.Elements.{filter-append}
use lib.IntN.{*ℤ_comm}
use Rattle.pc_num.specs.declared.fraction.Frac.{Frac}
use Rattle.pc_model.specs.declared.row.Row.{Row}
use Rattle.pc_model.specs.declared.query.Agg.{Agg}
use Rattle.pc_model.specs.declared.query.Agg.TheVariants.{Count, Sum, Min, Max, Avg}
use Rattle.pc_model.specs.Aggregate.{IsSame, Ratio, asked, int_sum, value_of, whole}
use Rattle.pc_model.specs.Right.{IsAttained, Question, value_for}
use Rattle.pc_model.specs.Runs.{rows_of}
use Rattle.pc_model.proofs.Folds.{int_sum-push}
use Rattle.pc_program_bound.proofs.Ring.{mul-add, mul_mono}
use Rattle.pc_proof.specs.Table.{ratio_of}
use Rattle.pc_proof.proofs.Seen.{all_numbers, keeps}
use Rattle.pc_desk_parts.specs.declared.asked.Asked.{Asked}
use Rattle.pc_desk_parts.specs.declared.asked.Reached.{Reached}
use Rattle.pc_desk_parts.specs.declared.asked.Side.{Side}
use Rattle.pc_desk_parts.specs.declared.asked.Side.TheVariants.{Low, High}
use Rattle.pc_desk_parts.specs.declared.asked.Seen.{Seen}
use Rattle.pc_desk_parts.specs.declared.asked.Seen.TheVariants as seens
use Rattle.pc_desk_parts.specs.declared.pulls.Way.{Way}
use Rattle.pc_desk_parts.specs.declared.pulls.Way.TheVariants.{Adding, Being, Standing}
use Rattle.pc_desk_parts.specs.declared.stands.Stand.{Stand}
use Rattle.pc_desk_parts.specs.declared.stands.Stand.TheVariants.{Below, At, Above}
use Rattle.pc_desk_parts.specs.Ends.{centre_by, pull_by, pull_of, stand_of, way_for, way_of, worth, worth_by}
use Rattle.pc_desk_parts.specs.Moved.{StandsTo, moved}
use Rattle.pc_desk_parts.specs.Stands.{pull_adding, stand_to}
use Rattle.pc_desk_parts.specs.Sums.{question_of}
use Rattle.pc_desk_parts.proofs.Standing.{times_one}

-- ---- numbers

scaled_less : (k a b : ℤ) → pos 0 <ℤ k → a <ℤ b → (k *ℤ a) <ℤ (k *ℤ b)
scaled_less k a b above less =
    let more = mul_mono k (a +ℤ pos 1) b (omega (arith, ints, above)) (omega (arith, ints, less)) in
    let next = mul-add k a (pos 1) in
    let one = times_one k in
    omega (arith, ints, more, next, one, above)

-- values whose products differ as a number does from a fraction, a number above 0 times
differ_so : (value : Frac) (number k : ℤ) (v w : Ratio) → pos 0 <ℤ k
    → v.num *ℤ w.den +ℤ k *ℤ value.num ≡ w.num *ℤ v.den +ℤ k *ℤ (number *ℤ value.den) → StandsTo (stand_to value number) v w
unfolding stand_to
differ_so value number k v w above same = by_tests (int_lt (number *ℤ value.den) value.num) (int_lt value.num (number *ℤ value.den)) refl refl
  where
    by_tests : (less more : Bool) → int_lt (number *ℤ value.den) value.num ≡ less → int_lt value.num (number *ℤ value.den) ≡ more
        → StandsTo (cond less Below (cond more Above At)) v w
    by_tests true more below over =
        let less : (number *ℤ value.den) <ℤ value.num = grind (arith, ints, below) in
        let scaled = scaled_less k (number *ℤ value.den) value.num above less in
        omega (arith, ints, scaled, same)
    by_tests false true below over =
        let less : value.num <ℤ (number *ℤ value.den) = grind (arith, ints, over) in
        let scaled = scaled_less k value.num (number *ℤ value.den) above less in
        omega (arith, ints, scaled, same)
    by_tests false false below over =
        let equal : number *ℤ value.den ≡ value.num = grind (arith, ints, below, over) in
        let scaled = ap (λ (z : ℤ). k *ℤ z) equal in
        omega (arith, ints, scaled, same)

sum_times : (a b d : ℤ) → (a +ℤ b) *ℤ d ≡ a *ℤ d +ℤ b *ℤ d
sum_times a b d = *ℤ_comm (a +ℤ b) d ∙ mul-add d a b ∙ rw (*ℤ_comm d a, *ℤ_comm d b) refl

zero_product : (k : ℤ) → k *ℤ pos 0 ≡ pos 0
zero_product k = let e = mul-add k (pos 0) (pos 0) in omega (arith, ints, e)

-- a sum that a number is added to
sum_moves : (value : Frac) (sum number : ℤ) → pos 0 <ℤ value.den → IsSame (whole sum) (ratio_of value)
    → StandsTo (stand_to (record { num = pos 0; den = pos 1 }) number) (whole (sum +ℤ number)) (ratio_of value)
sum_moves value sum number above same =
    let product = sum_times sum number value.den in
    let none = zero_product value.den in
    let one = times_one number in
    let turned = ap (λ (z : ℤ). value.den *ℤ z) one ∙ *ℤ_comm value.den number in
    differ_so (record { num = pos 0; den = pos 1 }) number value.den (whole (sum +ℤ number)) (ratio_of value) above (omega (arith, ints, same, product, none, turned))

-- and an average
average_moves : (value : Frac) (sum number : ℤ) (count : ℕ) → IsSame (record { num = sum; den = pos count }) (ratio_of value)
    → StandsTo (stand_to value number) (record { num = sum +ℤ number; den = pos (count + 1) }) (ratio_of value)
average_moves value sum number count same =
    let product = sum_times sum number value.den in
    let longer : pos (count + 1) ≡ pos count +ℤ pos 1 = omega (arith, ints) in
    let other = ap (λ (z : ℤ). value.num *ℤ z) longer ∙ mul-add value.num (pos count) (pos 1) in
    let one = times_one value.num in
    let left = *ℤ_comm (pos 1) value.num ∙ one in
    let right = *ℤ_comm (pos 1) (number *ℤ value.den) ∙ times_one (number *ℤ value.den) in
    differ_so value number (pos 1) (record { num = sum +ℤ number; den = pos (count + 1) }) (ratio_of value) (omega (arith, ints)) (omega (arith, ints, same, product, other, one, left, right))

-- ---- by the aggregate

module _ (value : Frac) (above : pos 0 <ℤ value.den) (numbers : List ℤ) (number : ℤ) where
  abbrev more : List ℤ
  more = numbers ++ number ∷ []

  abbrev Moves : Agg → Type 0
  Moves agg = IsSomeAnd (value_of agg numbers) (λ v. IsSame v (ratio_of value))
      → IsSomeAnd (value_of agg more) (λ v. StandsTo (stand_to (centre_by agg value) (worth_by agg number)) v (ratio_of value))

  count_moves : Moves Count
  count_moves same =
      let longer : pos (length numbers) +ℤ pos 1 ≡ pos (length more) = omega (arith, ints, length_push numbers number) in
      subst (λ (z : ℤ). StandsTo (stand_to (record { num = pos 0; den = pos 1 }) (pos 1)) (whole z) (ratio_of value)) longer (sum_moves value (pos (length numbers)) (pos 1) above same)

  total_moves : Moves Sum
  total_moves same =
      subst (λ (z : ℤ). StandsTo (stand_to (record { num = pos 0; den = pos 1 }) number) (whole z) (ratio_of value)) (sym (int_sum-push numbers number)) (sum_moves value (int_sum numbers) number above same)

mean_moves : (value : Frac) (above : pos 0 <ℤ value.den) (numbers : List ℤ) (number : ℤ) → Moves value above numbers number Avg
mean_moves value above [] number same = absurd same
mean_moves value above (x ∷ xs) number same =
    let longer : length (x ∷ xs) + 1 ≡ length ((x ∷ xs) ++ number ∷ []) = omega (arith, length_push (x ∷ xs) number) in
    rw (int_sum-push (x ∷ xs) number, ← longer) (average_moves value (int_sum (x ∷ xs)) number (length (x ∷ xs)) same)

-- the side that a row's pull leads to is where it stands
pulled : (side : Side) (stand : Stand) → moved side (pull_adding side stand) ≡ stand
pulled Low Below = refl
pulled Low At = refl
pulled Low Above = refl
pulled High Below = refl
pulled High At = refl
pulled High Above = refl

abbrev adds : Way → Bool
adds Adding = true
adds Being = false
adds Standing = false

module _ (ask : Asked) (reached : Reached) (observed : List Row) (row : Row) (adding : way_for ask ≡ Adding) (above : pos 0 <ℤ reached.value.den)
    (counted : keeps (question_of ask observed) row ≡ true) (attained : IsAttained (question_of ask observed) (ratio_of reached.value) reached.runs.now) where
  abbrev q : Question
  q = question_of ask observed

  abbrev lost : List Row
  lost = rows_of reached.runs.now

  abbrev number : ℤ
  number = asked ask.query.now row

  longer : all_numbers q (lost ++ row ∷ []) ≡ all_numbers q lost ++ number ∷ []
  longer =
      ap (λ (rows : List Row). map (asked ask.query.now) (filter (keeps q) rows)) (sym (append_assoc observed lost (row ∷ [])))
      ∙ ap (map (asked ask.query.now)) (filter-append (keeps q) (observed ++ lost) (row ∷ []) ∙ ap (λ (b : Bool). filter (keeps q) (observed ++ lost) ++ cond b (row ∷ []) []) counted)
      ∙ map-append (asked ask.query.now) (filter (keeps q) (observed ++ lost)) (row ∷ [])

  moves : (agg : Agg) (seen : Seen) → way_of agg seen ≡ Adding → Moves reached.value above (all_numbers q lost) number agg
  moves Count seen is = count_moves reached.value above (all_numbers q lost) number
  moves Sum seen is = total_moves reached.value above (all_numbers q lost) number
  moves Avg seen is = mean_moves reached.value above (all_numbers q lost) number
  moves Min (seens.Folded folded) is = absurd (true≢false (sym (ap adds is)))
  moves Min (seens.Numbers numbers) is = absurd (true≢false (sym (ap adds is)))
  moves Max (seens.Folded folded) is = absurd (true≢false (sym (ap adds is)))
  moves Max (seens.Numbers numbers) is = absurd (true≢false (sym (ap adds is)))

  abbrev stand : Stand
  stand = stand_to (centre_by ask.query.now.agg reached.value) (worth ask.query.now row)

  pull_is : moved reached.side (pull_of ask reached row) ≡ stand
  pull_is =
      ap (λ (way : Way). moved reached.side (pull_by way ask.query.now.agg reached.side stand (stand_of ask reached row))) adding ∙ pulled reached.side stand

  pub end_moves : IsSomeAnd (value_for q (lost ++ row ∷ [])) (λ v. StandsTo (moved reached.side (pull_of ask reached row)) v (ratio_of reached.value))
  end_moves =
      rw pull_is
      (subst (λ (numbers : List ℤ). IsSomeAnd (value_of ask.query.now.agg numbers) (λ v. StandsTo stand v (ratio_of reached.value))) (sym longer) (moves ask.query.now.agg ask.seen adding attained.gives))
