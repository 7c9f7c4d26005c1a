-- Runs that attain the end of a count or a sum: what their rows gain is between what they come to and the greatest worth, which are the same.
use Rattle.std.proofs.Common.{◌≡◌, ℕ, ℤ, pos, neg_ℤ, ◌+ℤ◌, ◌-ℤ◌, ◌*ℤ◌, ◌≤ℤ◌, Bool, true, false, cond, List, get_or, Option, Some, IsSomeAnd, refl, sym, subst, true≢false, arith}
use Rattle.std.proofs.lemmas.Int.{ints}
use Rattle.pc_model.specs.declared.row.Row.{Row}
use Rattle.pc_model.specs.declared.row.Run.{Run}
use Rattle.pc_model.specs.declared.query.Agg.{Agg}
use Rattle.pc_model.specs.declared.query.Agg.TheVariants.{Count, Sum, Min, Max, Avg}
use Rattle.pc_model.specs.Membership.{is_in}
use Rattle.pc_model.specs.Aggregate.{Ratio, whole, IsSame, asked}
use Rattle.pc_model.specs.Cells.{Class}
use Rattle.pc_model.specs.Right.{IsPossibleFor, IsAttained, value_for, always_has_value}
use Rattle.pc_model.specs.Runs.{rows_of}
use Rattle.pc_program_bound.specs.Allocation.{worth}
use Rattle.pc_program_bound.specs.CellPrograms.{counts_of}
use Rattle.pc_branch.specs.Outcome.{IsMost}
use Rattle.pc_proof.proofs.PossibleRows.{rows_are_allocation, rows_are_worth}
use Rattle.pc_proof.specs.Setting.{Setting, area_of, seen_count, seen_sum, cells, high_in, on_chosen, program_for}
use Rattle.pc_proof.specs.Table.{one, minus_one, minus_low, high_program, low_program}
use Rattle.pc_proof.specs.Unbroken.{IsWellPosed}
use Rattle.pc_proof.proofs.Ends.{AsksNumbers, sum_asks_numbers}
use Rattle.pc_proof.proofs.Gains.{IsSettledFor, gains_of}
use Rattle.pc_proof.proofs.Groups.{keeps_area}
use Rattle.pc_proof.proofs.Kept.{kept_count, kept_sum, cell_of, count_is, minus_count_is, between}
use Rattle.pc_proof.proofs.Seen.{keeps, value-count, value-sum, int_sum-neg, int_sum_mono}
use Rattle.pc_branch_licences.specs.Shown.{counts_of_runs}
use Rattle.pc_branch_licences.specs.Totals.{seen_value}

-- ---- one row

kept_under : (kept chosen : Bool) (n high : ℤ) → kept ≡ chosen → n ≤ℤ high → cond kept n (pos 0) ≤ℤ cond chosen high (pos 0)
kept_under true true n high same under = under
kept_under false false n high same under = omega (arith, ints)
kept_under true false n high same under = absurd (true≢false same)
kept_under false true n high same under = absurd (true≢false (sym same))

neg_kept : (kept : Bool) (n : ℤ) → neg_ℤ (cond kept n (pos 0)) ≡ cond kept (neg_ℤ n) (pos 0)
neg_kept true n = refl
neg_kept false n = refl

-- ---- what an attained value says

added : (o : Option Ratio) (x y : ℤ) → o ≡ Some (whole x) → IsSomeAnd o (λ v. IsSame v (whole y)) → x ≡ y
added o x y is gives =
    let same : x *ℤ pos 1 ≡ y *ℤ pos 1 = subst (λ (a : Option Ratio). IsSomeAnd a (λ v. IsSame v (whole y))) is gives in
    omega (arith, ints, same)

-- ---- the rows of a possible list

module _ (s : Setting) (posed : IsWellPosed s.question) (tree : IsSettledFor s) (lost : List Row) (possible : IsPossibleFor s.question lost) where
  -- the counts of the rows by cell
  abbrev counts : List ℕ
  counts = counts_of s.question.constraints (area_of s.question) (cells s) lost

  worth_is : (gain : Class → ℤ) → worth (program_for s gain) counts ≡ gains_of s gain lost
  worth_is gain = rows_are_worth s.question.schema s.question.constraints (area_of s.question) s.nodes gain lost posed.formed tree possible

  within : (gain : Class → ℤ) (most : ℤ) → IsMost (program_for s gain) most → worth (program_for s gain) counts ≤ℤ most
  within gain most is = is counts (rows_are_allocation s.question.schema s.question.constraints (area_of s.question) s.nodes gain lost posed.formed tree possible)

  -- the sum of the kept numbers is between what the rows gain at each end of their cells
  sum_under : (asks : AsksNumbers s.question.schema s.question.query) → kept_sum s lost ≤ℤ gains_of s (on_chosen (high_in s)) lost
  sum_under asks =
      int_sum_mono (λ (row : Row). cond (keeps s.question row) (asked s.question.query row) (pos 0)) (λ (row : Row). on_chosen (high_in s) (cell_of s row)) lost
      (λ place d inside. let row = get_or lost place d in
      kept_under (keeps s.question row) (is_in (area_of s.question) row) (asked s.question.query row) (high_in s (cell_of s row)) (keeps_area s.question posed row)
      (between s posed tree lost possible asks place d inside).1)

  minus_sum_under : (asks : AsksNumbers s.question.schema s.question.query) → neg_ℤ (kept_sum s lost) ≤ℤ gains_of s (on_chosen (minus_low s)) lost
  minus_sum_under asks =
      subst (λ n. n ≤ℤ gains_of s (on_chosen (minus_low s)) lost) (int_sum-neg (λ (row : Row). cond (keeps s.question row) (asked s.question.query row) (pos 0)) lost)
      (int_sum_mono (λ (row : Row). neg_ℤ (cond (keeps s.question row) (asked s.question.query row) (pos 0))) (λ (row : Row). on_chosen (minus_low s) (cell_of s row)) lost
      (λ place d inside. let row = get_or lost place d in
      let low = (between s posed tree lost possible asks place d inside).0 in
      let under = kept_under (keeps s.question row) (is_in (area_of s.question) row) (neg_ℤ (asked s.question.query row)) (minus_low s (cell_of s row)) (keeps_area s.question posed row)
      (omega (arith, ints, low)) in
      subst (λ n. n ≤ℤ on_chosen (minus_low s) (cell_of s row)) (sym (neg_kept (keeps s.question row) (asked s.question.query row))) under))

  high_worth : (agg : Agg) (v : Ratio) (most : ℤ) → s.question.query.agg ≡ agg → always_has_value agg ≡ true → IsMost (high_program s agg v) most →
      IsSomeAnd (value_for s.question lost) (λ x. IsSame x (whole (seen_value agg s +ℤ most))) → worth (high_program s agg v) counts ≡ most
  high_worth Count v most is valued greatest gives =
      let total = added (value_for s.question lost) (seen_count s.question +ℤ kept_count s lost) (seen_count s.question +ℤ most) (value-count s.question lost is) gives in
      omega (arith, ints, total, count_is s posed tree lost possible, worth_is (on_chosen one))
  high_worth Sum v most is valued greatest gives =
      let total = added (value_for s.question lost) (seen_sum s.question +ℤ kept_sum s lost) (seen_sum s.question +ℤ most) (value-sum s.question lost is) gives in
      let under = sum_under (sum_asks_numbers s.question.schema s.question.query posed.query is) in
      omega (arith, ints, total, under, worth_is (on_chosen (high_in s)), within (on_chosen (high_in s)) most greatest)
  high_worth Min v most is valued greatest gives = absurd (true≢false (sym valued))
  high_worth Max v most is valued greatest gives = absurd (true≢false (sym valued))
  high_worth Avg v most is valued greatest gives = absurd (true≢false (sym valued))

  low_worth : (agg : Agg) (v : Ratio) (most : ℤ) → s.question.query.agg ≡ agg → always_has_value agg ≡ true → IsMost (low_program s agg v) most →
      IsSomeAnd (value_for s.question lost) (λ x. IsSame x (whole (seen_value agg s -ℤ most))) → worth (low_program s agg v) counts ≡ most
  low_worth Count v most is valued greatest gives =
      let total = added (value_for s.question lost) (seen_count s.question +ℤ kept_count s lost) (seen_count s.question -ℤ most) (value-count s.question lost is) gives in
      omega (arith, ints, total, minus_count_is s posed tree lost possible, worth_is (on_chosen minus_one))
  low_worth Sum v most is valued greatest gives =
      let total = added (value_for s.question lost) (seen_sum s.question +ℤ kept_sum s lost) (seen_sum s.question -ℤ most) (value-sum s.question lost is) gives in
      let under = minus_sum_under (sum_asks_numbers s.question.schema s.question.query posed.query is) in
      omega (arith, ints, total, under, worth_is (on_chosen (minus_low s)), within (on_chosen (minus_low s)) most greatest)
  low_worth Min v most is valued greatest gives = absurd (true≢false (sym valued))
  low_worth Max v most is valued greatest gives = absurd (true≢false (sym valued))
  low_worth Avg v most is valued greatest gives = absurd (true≢false (sym valued))

-- ---- the laws

pub high-attained : (s : Setting) (v : Ratio) (most : ℤ) (runs : List Run) → IsWellPosed s.question → IsSettledFor s → always_has_value s.question.query.agg ≡ true →
    IsMost (high_program s s.question.query.agg v) most → IsAttained s.question (whole (seen_value s.question.query.agg s +ℤ most)) runs →
    worth (high_program s s.question.query.agg v) (counts_of_runs s runs) ≡ most
high-attained s v most runs posed tree valued greatest attained =
    high_worth s posed tree (rows_of runs) attained.by.are_possible s.question.query.agg v most refl valued greatest attained.gives

pub low-attained : (s : Setting) (v : Ratio) (most : ℤ) (runs : List Run) → IsWellPosed s.question → IsSettledFor s → always_has_value s.question.query.agg ≡ true →
    IsMost (low_program s s.question.query.agg v) most → IsAttained s.question (whole (seen_value s.question.query.agg s -ℤ most)) runs →
    worth (low_program s s.question.query.agg v) (counts_of_runs s runs) ≡ most
low-attained s v most runs posed tree valued greatest attained =
    low_worth s posed tree (rows_of runs) attained.by.are_possible s.question.query.agg v most refl valued greatest attained.gives
