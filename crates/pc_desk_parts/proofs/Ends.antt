-- The parts of an end make it up, or tell on which sides rows stand.
use Rattle.std.proofs.Common.{◌≡◌, ◌∙◌, ℕ, ℤ, true, false, true≢false, List, Option, Some, None, refl, sym, ap, subst}
use Rattle.std.specs.Bool.{⊤}
use Rattle.std.specs.Prelude.{IfSome, IsSomeAnd, option_map}
use Rattle.std.specs.Int.{int_max, int_min}
use Rattle.std.specs.List.{reduce}
use Rattle.pc_model.specs.declared.row.Row.{Row}
use Rattle.pc_model.specs.declared.query.Agg.{Agg}
use Rattle.pc_model.specs.declared.query.Agg.TheVariants.{Count, Sum, Min, Max, Avg}
use Rattle.pc_model.specs.declared.query.Folded.{Folded}
use Rattle.pc_model.specs.Accepted.{IsColumnWhere, IsNumeric, IsQuery, Measures}
use Rattle.pc_model.specs.Aggregate.{IsSame, Ratio, value_of, whole}
use Rattle.pc_model.specs.Folds.{IsFold}
use Rattle.pc_model.specs.Right.{IsAttained}
use Rattle.pc_model.specs.Runs.{rows_of}
use Rattle.pc_proof.specs.Table.{ratio_of}
use Rattle.pc_proof.proofs.Observing.{comes}
use Rattle.pc_proof.proofs.Seen.{all_numbers}
use Rattle.pc_desk_parts.specs.declared.asked.Asked.{Asked}
use Rattle.pc_desk_parts.specs.declared.asked.Reached.{Reached}
use Rattle.pc_desk_parts.specs.declared.asked.Seen.{Seen}
use Rattle.pc_desk_parts.specs.declared.asked.Seen.TheVariants as seens
use Rattle.pc_desk_parts.specs.declared.part.Part.{Part}
use Rattle.pc_desk_parts.specs.declared.stands.Stand.{Stand}
use Rattle.pc_desk_parts.specs.Ends.{way_of}
use Rattle.pc_desk_parts.specs.Made.{count_at, seen_parts}
use Rattle.pc_desk_parts.specs.Parts.{ArePartsOf}
use Rattle.pc_desk_parts.specs.Sums.{IsSeen, MakeUp, is_folded, numbers_of, question_of, rows_standing}
use Rattle.pc_desk_parts.proofs.Extremes.{extreme_parts, max_either, min_either}
use Rattle.pc_desk_parts.proofs.MadeUp.{made_averages, made_counts, made_sums}
use Rattle.pc_desk_parts.proofs.Sides.{all_stand}

some_column : (column : Option ℕ) (Fits : ℕ → Type 0) → IsSomeAnd column Fits → IsSomeAnd column (λ (at : ℕ). ⊤)
some_column None Fits there = there
some_column (Some column) Fits there = tt

if_column : {A : Type 0} (column : Option ℕ) → IsSomeAnd column (λ (at : ℕ). ⊤) → IfSome column (λ (at : ℕ). A) → A
if_column None there is = absurd there
if_column (Some column) there is = is

whole_some : (m : Option ℤ) (value : Ratio) → IsSomeAnd (option_map whole m) (λ v. IsSame v value) → IsSomeAnd m (λ n. IsSame (whole n) value)
whole_some None value is = is
whole_some (Some n) value is = is

module _ (ask : Asked) (reached : Reached) (observed : List Row) (parts : List Part) (query : IsQuery ask.schema.now ask.query.now)
    (attained : IsAttained (question_of ask observed) (ratio_of reached.value) reached.runs.now) (are : ArePartsOf ask reached parts) where
  abbrev numbers : List ℤ
  numbers = all_numbers (question_of ask observed) (rows_of reached.runs.now)

  abbrev Given : Agg → Type 0
  Given agg = IsSomeAnd (value_of agg numbers) (λ v. IsSame v (ratio_of reached.value))

  there_is : (agg : Agg) → ask.query.now.agg ≡ agg → Measures ask.schema.now agg ask.query.now.column
  there_is agg is = subst (λ (a : Agg). Measures ask.schema.now a ask.query.now.column) is query.measured

  module _ (folded : Folded) (seen : ask.seen ≡ seens.Folded folded) (fold : IsFold ask.query.now ask.name observed folded) where
    made : (agg : Agg) → ask.query.now.agg ≡ agg → Given agg → MakeUp agg (ratio_of reached.value) parts
    made Count is given = made_counts ask reached observed folded (ratio_of reached.value) seen fold parts are is given
    made Sum is given = made_sums ask reached observed folded (ratio_of reached.value) seen fold parts are is given
    made Avg is given = made_averages ask reached observed folded (ratio_of reached.value) seen fold parts are is given
    made Min is given =
        let there = some_column ask.query.now.column (IsColumnWhere IsNumeric ask.schema.now) (there_is Min is) in
        let being = ap (λ (a : Agg). way_of a ask.seen) is ∙ ap (way_of Min) seen in
        let first = ap (λ (a : Agg). seen_parts a reached.value ask.seen) is ∙ ap (seen_parts Min reached.value) seen in
        extreme_parts ask reached observed being there parts are folded.least first int_min min_either
        (if_column ask.query.now.column there (comes (question_of ask observed) folded fold).least)
        (whole_some (reduce int_min numbers) (ratio_of reached.value) given)
    made Max is given =
        let there = some_column ask.query.now.column (IsColumnWhere IsNumeric ask.schema.now) (there_is Max is) in
        let being = ap (λ (a : Agg). way_of a ask.seen) is ∙ ap (way_of Max) seen in
        let first = ap (λ (a : Agg). seen_parts a reached.value ask.seen) is ∙ ap (seen_parts Max reached.value) seen in
        extreme_parts ask reached observed being there parts are folded.greatest first int_max max_either
        (if_column ask.query.now.column there (comes (question_of ask observed) folded fold).greatest)
        (whole_some (reduce int_max numbers) (ratio_of reached.value) given)

  pub add_up : IsSeen ask observed ask.seen → is_folded ask.seen ≡ true → MakeUp ask.query.now.agg (ratio_of reached.value) parts
  add_up = by_seen ask.seen refl
    where
      by_seen : (seen : Seen) → ask.seen ≡ seen → IsSeen ask observed seen → is_folded seen ≡ true → MakeUp ask.query.now.agg (ratio_of reached.value) parts
      by_seen (seens.Folded folded) seen fold is = made folded seen fold ask.query.now.agg refl attained.gives
      by_seen (seens.Numbers xs) seen own is = absurd (true≢false (sym is))

module _ (ask : Asked) (reached : Reached) (observed : List Row) (parts : List Part) (are : ArePartsOf ask reached parts) (stand : Stand) where
  pub tell_sides : IsSeen ask observed ask.seen → is_folded ask.seen ≡ false → rows_standing stand parts ≡ count_at reached.value stand (numbers_of ask observed (rows_of reached.runs.now))
  tell_sides = by_seen ask.seen refl
    where
      by_seen : (seen : Seen) → ask.seen ≡ seen → IsSeen ask observed seen → is_folded seen ≡ false → rows_standing stand parts ≡ count_at reached.value stand (numbers_of ask observed (rows_of reached.runs.now))
      by_seen (seens.Folded folded) seen fold is = absurd (true≢false is)
      by_seen (seens.Numbers xs) seen own is = all_stand ask reached observed xs seen own parts are stand
