-- The rows of counts with well-picked rows attain a least or greatest number that is a shown end, and tell whether there is a value.
use Rattle.std.proofs.Common.{◌≡◌, ℕ, ℤ, pos, ◌≤ℤ◌, ◌<ℤ◌, Bool, false, List, length, get_or, All, Option, Some, IfSome, IsNone, ◌⊎◌, inr, ⊎_elim, refl, sym, ap, subst, ◌∙◌, arith}
use Rattle.std.specs.List.{reduce}
use Rattle.std.specs.Int.{int_min, int_max}
use Rattle.std.proofs.lemmas.Int.{ints}
use Rattle.pc_model.specs.declared.row.Row.{Row}
use Rattle.pc_model.specs.declared.row.Run.{Run}
use Rattle.pc_model.specs.declared.query.Agg.TheVariants.{Min, Max}
use Rattle.pc_model.specs.Aggregate.{whole, asked, value_of}
use Rattle.pc_model.specs.Cells.{Class}
use Rattle.pc_model.specs.Right.{ArePossible, IsAttained, always_has_value}
use Rattle.pc_model.specs.Runs.{rows_of, runs_from}
use Rattle.pc_program_bound.specs.Allocation.{IsAllocation, worth}
use Rattle.pc_witness.proofs.Zipped.{AllZip-weaker}
use Rattle.pc_proof.specs.declared.answer.Proof.{Proof}
use Rattle.pc_proof.specs.Setting.{Setting, seen_count, seen_least, seen_greatest, seen_numbers, cells, low_in, high_in, on_chosen, counting, program_for, program_without}
use Rattle.pc_proof.specs.Table.{HasRatio, ShowsHigh, ShowsLow, one, minus_one}
use Rattle.pc_proof.specs.Unbroken.{IsWellPosed, GivesNone, GivesSome}
use Rattle.pc_proof.proofs.Gains.{IsSettledFor}
use Rattle.pc_proof.proofs.Kept.{cell_of, kept_some, no_numbers, count_is, minus_count_is}
use Rattle.pc_proof.proofs.Lacks.{some_of, none_of}
use Rattle.pc_proof.proofs.Numbers.{all_from_least, all_from_greatest, least_keeps, greatest_keeps}
use Rattle.pc_proof.proofs.Seen.{all_numbers, how_many, of_all, of_seen, of_lost, from_lost}
use Rattle.pc_branch_licences.specs.Licensed.{upto_low, from_high, under_high, over_low}
use Rattle.pc_branch_licences.specs.Picked.{IsOfCell, IsLowest, IsHighest, AreOfCells, AreLowest, AreHighest}
use Rattle.pc_branch_licences.specs.Pools.{AreLawful}
use Rattle.pc_branch_licences.proofs.Exact.{lt_fails, not_le, least_reaches, greatest_reaches, from_within, from_from, from_some, attains_number, number_over, number_under, picked_value}
use Rattle.pc_branch_licences.proofs.Picks.{each_made, made_possible, made_worth, open_lawful, open_made}
use Rattle.pc_branch_licences.proofs.Reached.{PassNone, few_pass}

-- ---- picks

lowest_cells : (s : Setting) (picks : List Row) → AreLowest s picks → AreOfCells s picks
lowest_cells s picks picked = AllZip-weaker (IsLowest s) (IsOfCell s) (λ class row pick. pick.of_cell) (cells s) picks picked

highest_cells : (s : Setting) (picks : List Row) → AreHighest s picks → AreOfCells s picks
highest_cells s picks picked = AllZip-weaker (IsHighest s) (IsOfCell s) (λ class row pick. pick.of_cell) (cells s) picks picked

-- ---- one list

module _ (s : Setting) (n : ℤ) (runs : List Run) where
  abbrev numbers : List ℤ
  numbers = all_numbers s.question (rows_of runs)

  module _ (posed : IsWellPosed s.question) (tree : IsSettledFor s) (possible : ArePossible s.question runs) (proof : Proof) (ratio : HasRatio proof) where
    -- what reaches a shown far end attains it
    least_attains : s.question.query.agg ≡ Min → ShowsLow s Min (whole n) proof → (All (λ x. n <ℤ x) numbers → ⊥) → IsAttained s.question (whole n) runs
    least_attains is shows some =
        let valued = picked_value s runs Min (reduce int_min numbers) is refl in
        attains_number s runs (reduce int_min numbers) valued n possible
        (from_within n (reduce int_min numbers) (⊎_elim (λ within. within) (λ over. absurd (some over)) (least_reaches n numbers))
        (number_over s runs (reduce int_min numbers) valued n posed tree possible Min is proof ratio shows))

    greatest_attains : s.question.query.agg ≡ Max → ShowsHigh s Max (whole n) proof → (All (λ x. x <ℤ n) numbers → ⊥) → IsAttained s.question (whole n) runs
    greatest_attains is shows some =
        let valued = picked_value s runs Max (reduce int_max numbers) is refl in
        attains_number s runs (reduce int_max numbers) valued n possible
        (from_from n (reduce int_max numbers) (⊎_elim (λ from. from) (λ under. absurd (some under)) (greatest_reaches n numbers))
        (number_under s runs (reduce int_max numbers) valued n posed tree possible Max is proof ratio shows))

    -- and so does what gives a value and does not fall short of a shown near end
    near_least_attains : s.question.query.agg ≡ Min → ShowsHigh s Min (whole n) proof → pos 1 ≤ℤ pos (length numbers) → All (λ x. n ≤ℤ x) numbers → IsAttained s.question (whole n) runs
    near_least_attains is shows some from =
        let valued = picked_value s runs Min (reduce int_min numbers) is refl in
        attains_number s runs (reduce int_min numbers) valued n possible
        (from_some n int_min numbers some (least_keeps (λ m. n ≤ℤ m) numbers from)
        (number_under s runs (reduce int_min numbers) valued n posed tree possible Min is proof ratio shows))

    near_greatest_attains : s.question.query.agg ≡ Max → ShowsLow s Max (whole n) proof → pos 1 ≤ℤ pos (length numbers) → All (λ x. x ≤ℤ n) numbers → IsAttained s.question (whole n) runs
    near_greatest_attains is shows some within =
        let valued = picked_value s runs Max (reduce int_max numbers) is refl in
        attains_number s runs (reduce int_max numbers) valued n possible
        (from_some n int_max numbers some (number_over s runs (reduce int_max numbers) valued n posed tree possible Max is proof ratio shows)
        (greatest_keeps (λ m. m ≤ℤ n) numbers within))

-- ---- the rows of counts

module _ (s : Setting) (picks : List Row) (counts : List ℕ) (posed : IsWellPosed s.question) (tree : IsSettledFor s) (of_cells : AreOfCells s picks) (lawful : AreLawful s counts) where
  abbrev made : List Row
  made = rows_of (runs_from picks counts)

  -- counts with a row of a cell that passes have one that the query keeps
  some_pass : (passes : Class → Bool) → pos 1 ≤ℤ worth (program_for s (counting passes)) counts → PassNone s posed made passes → ⊥
  some_pass passes enough none =
      let few = few_pass s posed made passes none in
      absurd (omega (arith, ints, few, enough, made_worth s picks counts of_cells lawful (counting passes)))

  -- the list has a number where a row was observed or a chosen one is counted
  some_numbers : (pos 0 <ℤ seen_count s.question) ⊎ (pos 1 ≤ℤ worth (program_for s (on_chosen one)) counts) → pos 1 ≤ℤ pos (length (all_numbers s.question made))
  some_numbers some =
      let many = how_many s.question made in
      ⊎_elim (λ seen. omega (arith, ints, seen, many, kept_some s made))
      (λ enough. omega (arith, ints, enough, many, seen_some, count_is s posed tree made (made_possible s picks counts of_cells lawful).are_possible, made_worth s picks counts of_cells lawful (on_chosen one))) some
    where
      seen_some : pos 0 ≤ℤ seen_count s.question
      seen_some = omega (arith, ints)

  pub lacking : always_has_value s.question.query.agg ≡ false → seen_count s.question ≡ pos 0 → pos 0 ≤ℤ worth (program_for s (on_chosen minus_one)) counts → GivesNone s.question (runs_from picks counts)
  lacking lacks none few =
      let possible = made_possible s picks counts of_cells lawful in
      let empty = no_numbers s made none
      (omega (arith, ints, few, made_worth s picks counts of_cells lawful (on_chosen minus_one), minus_count_is s posed tree made possible.are_possible)) in
      record { by = possible; none = subst (λ (xs : List ℤ). IsNone (value_of s.question.query.agg xs)) (sym empty) (none_of s.question.query.agg lacks) }

  pub giving : pos 1 ≤ℤ worth (program_for s (on_chosen one)) counts → GivesSome s.question (runs_from picks counts)
  giving enough = record { by = made_possible s picks counts of_cells lawful; some = some_of s.question.query.agg (all_numbers s.question made) (some_numbers (inr enough)) }

-- ---- far ends

module _ (s : Setting) (n : ℤ) (proof : Proof) (picks : List Row) (counts : List ℕ) (posed : IsWellPosed s.question) (tree : IsSettledFor s) where
  abbrev runs : List Run
  runs = runs_from picks counts

  abbrev rows : List Row
  rows = rows_of (runs_from picks counts)

  pub far-min_low : s.question.query.agg ≡ Min → HasRatio proof → ShowsLow s Min (whole n) proof → AreLowest s picks → AreLawful s counts →
      pos 1 ≤ℤ worth (program_for s (counting (upto_low s n))) counts → IsAttained s.question (whole n) (runs_from picks counts)
  far-min_low is ratio shows picked lawful enough =
      let of_cells = lowest_cells s picks picked in
      least_attains s n runs posed tree (made_possible s picks counts of_cells lawful) proof ratio is shows
      (λ over. some_pass s picks counts posed tree of_cells lawful (upto_low s n) enough (none over))
    where
      low_is : All (λ (row : Row). asked s.question.query row ≡ low_in s (cell_of s row)) rows
      low_is = each_made s (IsLowest s) (λ (row : Row). asked s.question.query row ≡ low_in s (cell_of s row)) (λ class row pick. pick.number ∙ sym (ap (low_in s) pick.of_cell.of_class)) picks counts picked

      none : All (λ x. n <ℤ x) (all_numbers s.question rows) → PassNone s posed rows (upto_low s n)
      none over place d inside kept =
          let row = get_or rows place d in
          let own = of_lost s.question rows (λ x. n <ℤ x) over place d inside kept in
          let is_low = low_is place d inside in
          not_le (low_in s (cell_of s row)) n (subst (λ k. n <ℤ k) is_low own)

  pub far-max_high : s.question.query.agg ≡ Max → HasRatio proof → ShowsHigh s Max (whole n) proof → AreHighest s picks → AreLawful s counts →
      pos 1 ≤ℤ worth (program_for s (counting (from_high s n))) counts → IsAttained s.question (whole n) (runs_from picks counts)
  far-max_high is ratio shows picked lawful enough =
      let of_cells = highest_cells s picks picked in
      greatest_attains s n runs posed tree (made_possible s picks counts of_cells lawful) proof ratio is shows
      (λ under. some_pass s picks counts posed tree of_cells lawful (from_high s n) enough (none under))
    where
      high_is : All (λ (row : Row). asked s.question.query row ≡ high_in s (cell_of s row)) rows
      high_is = each_made s (IsHighest s) (λ (row : Row). asked s.question.query row ≡ high_in s (cell_of s row)) (λ class row pick. pick.number ∙ sym (ap (high_in s) pick.of_cell.of_class)) picks counts picked

      none : All (λ x. x <ℤ n) (all_numbers s.question rows) → PassNone s posed rows (from_high s n)
      none under place d inside kept =
          let row = get_or rows place d in
          let own = of_lost s.question rows (λ x. x <ℤ n) under place d inside kept in
          let is_high = high_is place d inside in
          not_le n (high_in s (cell_of s row)) (subst (λ k. k <ℤ n) is_high own)

  -- ---- what was observed

  pub observed-min_low : s.question.query.agg ≡ Min → seen_least s.question ≡ Some n → HasRatio proof → ShowsLow s Min (whole n) proof → AreOfCells s picks → AreLawful s counts →
      IsAttained s.question (whole n) (runs_from picks counts)
  observed-min_low is seen_is ratio shows of_cells lawful =
      least_attains s n runs posed tree (made_possible s picks counts of_cells lawful) proof ratio is shows
      (λ over. let beyond : n <ℤ n = subst (λ (o : Option ℤ). IfSome o (λ m. n <ℤ m)) seen_is (least_keeps (λ m. n <ℤ m) (seen_numbers s.question) (of_seen s.question rows (λ m. n <ℤ m) over)) in
      absurd (omega (arith, ints, beyond)))

  pub observed-max_high : s.question.query.agg ≡ Max → seen_greatest s.question ≡ Some n → HasRatio proof → ShowsHigh s Max (whole n) proof → AreOfCells s picks → AreLawful s counts →
      IsAttained s.question (whole n) (runs_from picks counts)
  observed-max_high is seen_is ratio shows of_cells lawful =
      greatest_attains s n runs posed tree (made_possible s picks counts of_cells lawful) proof ratio is shows
      (λ under. let beyond : n <ℤ n = subst (λ (o : Option ℤ). IfSome o (λ g. g <ℤ n)) seen_is (greatest_keeps (λ g. g <ℤ n) (seen_numbers s.question) (of_seen s.question rows (λ g. g <ℤ n) under)) in
      absurd (omega (arith, ints, beyond)))

  -- ---- near ends

  pub near-min_high : s.question.query.agg ≡ Min → IfSome (seen_least s.question) (λ m. n ≤ℤ m) → HasRatio proof → ShowsHigh s Min (whole n) proof → AreHighest s picks →
      IsAllocation (program_without s (under_high s n)) (program_without s (under_high s n)).floor (program_without s (under_high s n)).cap counts →
      ((pos 0 <ℤ seen_count s.question) ⊎ (pos 1 ≤ℤ worth (program_without s (under_high s n)) counts)) → IsAttained s.question (whole n) (runs_from picks counts)
  near-min_high is seen ratio shows picked allocated some =
      let of_cells = highest_cells s picks picked in
      let lawful = open_lawful s (under_high s n) counts allocated in
      near_least_attains s n runs posed tree (made_possible s picks counts of_cells lawful) proof ratio is shows (some_numbers s picks counts posed tree of_cells lawful some)
      (of_all s.question rows (λ m. n ≤ℤ m) (all_from_least (λ m. n ≤ℤ m) (seen_numbers s.question) (λ a b below from. omega (arith, ints, below, from)) seen)
      (from_lost s.question rows (λ m. n ≤ℤ m)
      (open_made s (under_high s n) counts allocated posed (IsHighest s) (λ (row : Row). n ≤ℤ asked s.question.query row) (λ class row pick. pick.of_cell)
      (λ class row pick open'. subst (λ k. n ≤ℤ k) (sym pick.number) (lt_fails (high_in s class) n open')) picks picked)))

  pub near-max_low : s.question.query.agg ≡ Max → IfSome (seen_greatest s.question) (λ g. g ≤ℤ n) → HasRatio proof → ShowsLow s Max (whole n) proof → AreLowest s picks →
      IsAllocation (program_without s (over_low s n)) (program_without s (over_low s n)).floor (program_without s (over_low s n)).cap counts →
      ((pos 0 <ℤ seen_count s.question) ⊎ (pos 1 ≤ℤ worth (program_without s (over_low s n)) counts)) → IsAttained s.question (whole n) (runs_from picks counts)
  near-max_low is seen ratio shows picked allocated some =
      let of_cells = lowest_cells s picks picked in
      let lawful = open_lawful s (over_low s n) counts allocated in
      near_greatest_attains s n runs posed tree (made_possible s picks counts of_cells lawful) proof ratio is shows (some_numbers s picks counts posed tree of_cells lawful some)
      (of_all s.question rows (λ m. m ≤ℤ n) (all_from_greatest (λ m. m ≤ℤ n) (seen_numbers s.question) (λ a b below within. omega (arith, ints, below, within)) seen)
      (from_lost s.question rows (λ m. m ≤ℤ n)
      (open_made s (over_low s n) counts allocated posed (IsLowest s) (λ (row : Row). asked s.question.query row ≤ℤ n) (λ class row pick. pick.of_cell)
      (λ class row pick open'. subst (λ k. k ≤ℤ n) (sym pick.number) (lt_fails n (low_in s class) open')) picks picked)))
