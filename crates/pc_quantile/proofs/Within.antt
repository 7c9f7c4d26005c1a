-- What the numbers of a possible list add, beside what its cells gain.
use Rattle.std.proofs.Common.{◌≡◌, ℤ, pos, ◌+ℤ◌, ◌≤ℤ◌, Bool, true, false, cond, List, map, filter, get_or, All, Option, Some, None, IfSome, refl, sym, ap, ◌∙◌, true≢false, arith}
use Rattle.std.proofs.lemmas.Int.{ints}
use Rattle.std.proofs.lemmas.List.{map-append}
use Rattle.std.proofs.lemmas.List.Elements.{filter-append}
use mathlib.Core.List.{map-map}
use Rattle.pc_model.specs.declared.row.Row.{Row}
use Rattle.pc_model.specs.Aggregate.{asked as asked_of, int_sum}
use Rattle.pc_model.specs.Cells.{Class}
use Rattle.pc_model.specs.Right.{IsPossibleFor}
use Rattle.pc_program_bound.specs.Allocation.{worth, IsAllocation}
use Rattle.pc_proof.specs.Setting.{Setting, seen, seen_numbers, area_of, low_in, high_in, on_chosen, program_for}
use Rattle.pc_proof.proofs.Ends.{AsksNumbers}
use Rattle.pc_proof.proofs.Groups.{keeps_area}
use Rattle.pc_proof.proofs.Kept.{cell_of, between}
use Rattle.pc_proof.proofs.PossibleRows.{rows_are_allocation, rows_are_worth}
use Rattle.pc_proof.proofs.Seen.{keeps, lost_numbers, int_sum-append, int_sum-filter, int_sum_mono}
use Rattle.pc_lang.specs.declared.quantile.Quantile.{Quantile}
use Rattle.pc_quantile.specs.Measured.{IsAskedIn, numbers_of, quantile_of}
use Rattle.pc_quantile.specs.Gains.{BoundsAbove, BoundsBelow, first_added, second_added, first_gain, second_gain, first_sum, second_sum, first_most, second_most, lost_counts}
use Rattle.pc_quantile.specs.Candidates.{StandAt}
use Rattle.pc_quantile.specs.Right.{ContainsQuantiles}
use Rattle.pc_quantile.proofs.ListSums.{first_within, second_from}
use Rattle.pc_quantile.proofs.Added.{first_is, second_is, first_grows, second_falls}

one_row : (kept chosen : Bool) (adds gains : ℤ) → kept ≡ chosen → adds ≤ℤ gains → cond kept adds (pos 0) ≤ℤ cond chosen gains (pos 0)
one_row true true adds gains same within = within
one_row false false adds gains same within = omega (arith, ints)
one_row true false adds gains same within = absurd (true≢false same)
one_row false true adds gains same within = absurd (true≢false (sym same))

same_row : (kept chosen : Bool) (adds gains : ℤ) → kept ≡ chosen → (chosen ≡ true → adds ≡ gains) → cond kept adds (pos 0) ≡ cond chosen gains (pos 0)
same_row true true adds gains same alike = alike refl
same_row false false adds gains same alike = refl
same_row true false adds gains same alike = absurd (true≢false same)
same_row false true adds gains same alike = absurd (true≢false (sym same))

module _ (s : Setting) (asked : Quantile) (is : IsAskedIn s asked) (lost : List Row) where
  pub asks : AsksNumbers s.question.schema s.question.query
  asks = record { column = asked.column; column_is = ap (λ query. query.column) is.query; numeric = is.well.numeric }

  module _ (added : ℤ → ℤ) where
    -- what a lost row adds, where the query keeps it
    abbrev row_added : Row → ℤ
    row_added row = cond (keeps s.question row) (added (asked_of s.question.query row)) (pos 0)

    all_added : int_sum (map added (numbers_of s.question lost)) ≡ int_sum (map added (seen_numbers s.question)) +ℤ int_sum (map row_added lost)
    all_added =
        ap (λ rows. int_sum (map added (map (asked_of s.question.query) rows))) (filter-append (keeps s.question) s.question.observed lost)
        ∙ ap (λ numbers. int_sum (map added numbers)) (map-append (asked_of s.question.query) (seen s.question) (filter (keeps s.question) lost))
        ∙ ap int_sum (map-append added (seen_numbers s.question) (lost_numbers s.question lost))
        ∙ int_sum-append (map added (seen_numbers s.question)) (map added (lost_numbers s.question lost))
        ∙ ap (λ numbers. int_sum (map added (seen_numbers s.question)) +ℤ int_sum numbers) (map-map added (asked_of s.question.query) (filter (keeps s.question) lost))
        ∙ ap (λ n. int_sum (map added (seen_numbers s.question)) +ℤ n) (int_sum-filter (λ row. added (asked_of s.question.query row)) (keeps s.question) lost)

    module _ (gain : Class → ℤ) (possible : IsPossibleFor s.question lost) where
      -- what a lost row gains by its cell
      abbrev row_gain : Row → ℤ
      row_gain row = on_chosen gain (cell_of s row)

      worth_is : worth (program_for s (on_chosen gain)) (lost_counts s lost) ≡ int_sum (map row_gain lost)
      worth_is = rows_are_worth s.question.schema s.question.constraints (area_of s.question) s.nodes (on_chosen gain) lost is.posed.formed is.tree possible

      -- no sum is greater, if no number between the ends of a cell adds more than the cell gains
      pub added_within : ((n : ℤ) (class : Class) → low_in s class ≤ℤ n → n ≤ℤ high_in s class → added n ≤ℤ gain class) →
          int_sum (map added (numbers_of s.question lost)) ≤ℤ (int_sum (map added (seen_numbers s.question)) +ℤ worth (program_for s (on_chosen gain)) (lost_counts s lost))
      added_within most = let below = int_sum_mono row_added row_gain lost each in omega (arith, ints, all_added, worth_is, below)
        where
          each : All (λ row. row_added row ≤ℤ row_gain row) lost
          each place d inside =
              let row = get_or lost place d in
              let ends = between s is.posed is.tree lost possible asks place d inside in
              one_row (keeps s.question row) (cell_of s row).chosen (added (asked_of s.question.query row)) (gain (cell_of s row)) (keeps_area s.question is.posed row)
              (most (asked_of s.question.query row) (cell_of s row) ends.0 ends.1)

      -- and the sum is that, if each row adds what its cell gains
      pub added_alike : All (λ row. (cell_of s row).chosen ≡ true → added (asked_of s.question.query row) ≡ gain (cell_of s row)) lost →
          int_sum (map added (numbers_of s.question lost)) ≡ int_sum (map added (seen_numbers s.question)) +ℤ worth (program_for s (on_chosen gain)) (lost_counts s lost)
      added_alike alike =
          let below = int_sum_mono row_added row_gain lost (λ place d inside. omega (arith, ints, each place d inside)) in
          let above = int_sum_mono row_gain row_added lost (λ place d inside. omega (arith, ints, each place d inside)) in
          omega (arith, ints, all_added, worth_is, below, above)
        where
          each : All (λ row. row_added row ≡ row_gain row) lost
          each place d inside =
              let row = get_or lost place d in
              same_row (keeps s.question row) (cell_of s row).chosen (added (asked_of s.question.query row)) (gain (cell_of s row)) (keeps_area s.question is.posed row)
              (alike place d inside)

  module _ (v : ℤ) (possible : IsPossibleFor s.question lost) where
    pub first_lists : first_sum s asked v lost ≤ℤ first_most s asked v lost
    first_lists =
        let within = added_within (first_added asked.p asked.q v) (first_gain s asked v) possible (λ n class low high. first_grows asked.p asked.q v n (high_in s class) high) in
        rw (first_is asked.p asked.q v (numbers_of s.question lost), first_is asked.p asked.q v (seen_numbers s.question)) within

    pub second_lists : second_sum s asked v lost ≤ℤ second_most s asked v lost
    second_lists =
        let within = added_within (second_added asked.p asked.q v) (second_gain s asked v) possible (λ n class low high. second_falls asked.p asked.q v (low_in s class) n low) in
        rw (second_is asked.p asked.q v (numbers_of s.question lost), second_is asked.p asked.q v (seen_numbers s.question)) within

    -- with the numbers of the cells' ends

    pub first_at_end : StandAt s (high_in s) lost → first_sum s asked v lost ≡ first_most s asked v lost
    first_at_end stand =
        let alike = added_alike (first_added asked.p asked.q v) (first_gain s asked v) possible
        (λ place d inside chosen. ap (first_added asked.p asked.q v) (stand place d inside chosen)) in
        rw (first_is asked.p asked.q v (numbers_of s.question lost), first_is asked.p asked.q v (seen_numbers s.question)) alike

    pub second_at_end : StandAt s (low_in s) lost → second_sum s asked v lost ≡ second_most s asked v lost
    second_at_end stand =
        let alike = added_alike (second_added asked.p asked.q v) (second_gain s asked v) possible
        (λ place d inside chosen. ap (second_added asked.p asked.q v) (stand place d inside chosen)) in
        rw (second_is asked.p asked.q v (numbers_of s.question lost), second_is asked.p asked.q v (seen_numbers s.question)) alike

    -- ---- what the programs say of the quantile

    allocated : (gain : Class → ℤ) → IsAllocation (program_for s (on_chosen gain)) (program_for s (on_chosen gain)).floor (program_for s (on_chosen gain)).cap (lost_counts s lost)
    allocated gain = rows_are_allocation s.question.schema s.question.constraints (area_of s.question) s.nodes (on_chosen gain) lost is.posed.formed is.tree possible

    pub bounded_above : BoundsAbove s asked v → IfSome (quantile_of s.question asked lost) (λ w. w ≤ℤ v)
    bounded_above bounds =
        let most = bounds (lost_counts s lost) (allocated (first_gain s asked v)) in
        first_within asked.p asked.q v (numbers_of s.question lost) is.well.some (omega (arith, ints, most, first_lists))

    pub bounded_below : BoundsBelow s asked v → IfSome (quantile_of s.question asked lost) (λ w. v ≤ℤ w)
    bounded_below bounds =
        let most = bounds (lost_counts s lost) (allocated (second_gain s asked v)) in
        second_from asked.p asked.q v (numbers_of s.question lost) (omega (arith, ints, most, second_lists))

pub contained : (s : Setting) (asked : Quantile) (low high : ℤ) → IsAskedIn s asked → BoundsBelow s asked low → BoundsAbove s asked high → ContainsQuantiles s.question asked low high
contained s asked low high is below above lost possible =
    both_of (quantile_of s.question asked lost) (bounded_below s asked is lost low possible below) (bounded_above s asked is lost high possible above)
  where
    both_of : (o : Option ℤ) → IfSome o (λ v. low ≤ℤ v) → IfSome o (λ v. v ≤ℤ high) → IfSome o (λ v. (low ≤ℤ v) × (v ≤ℤ high))
    both_of None first second = tt
    both_of (Some v) first second = (first, second)
