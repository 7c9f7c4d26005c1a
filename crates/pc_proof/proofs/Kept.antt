-- The lost rows that a query keeps: how many they are, and what their numbers are beside those of their cells.
use Rattle.std.proofs.Common.{◌≡◌, ℤ, pos, neg_ℤ, ◌≤ℤ◌, Bool, true, false, cond, ◌&&◌, List, [], map, get_or, All, Contains, refl, sym, ap, ◌∙◌, true≢false, arith}
use Rattle.std.proofs.lemmas.Int.{ints}
use Rattle.pc_model.specs.declared.row.Row.{Row}
use Rattle.pc_model.specs.declared.tree.Tree.{Tree}
use Rattle.pc_model.specs.Membership.{is_in}
use Rattle.pc_model.specs.Aggregate.{asked, int_sum}
use Rattle.pc_model.specs.Right.{IsPossibleFor}
use Rattle.pc_model.specs.Cells.{Class, class_of}
use Rattle.pc_proof.proofs.RowSums.{int_sum-same}
use Rattle.pc_proof.proofs.PossibleRows.{rows_in_cells}
use Rattle.pc_proof.specs.Setting.{Setting, area_of, seen_count, cells, low_in, high_in, on_chosen, counting, program_for}
use Rattle.pc_proof.specs.Table.{one, minus_one, Shows}
use Rattle.pc_proof.specs.Unbroken.{IsWellPosed}
use Rattle.pc_proof.proofs.Ends.{AsksNumbers, asked_between}
use Rattle.pc_proof.proofs.Gains.{IsSettledFor, gains_of, shown_gains}
use Rattle.pc_proof.proofs.Groups.{keeps_area}
use Rattle.pc_proof.proofs.Numbers.{sum_some, sum_none, none_from_length}
use Rattle.pc_proof.proofs.Seen.{keeps, all_numbers, how_many, int_sum-neg}

-- ---- one row

neg_of_kept : (kept chosen : Bool) → kept ≡ chosen → cond chosen (neg_ℤ (pos 1)) (pos 0) ≡ neg_ℤ (cond kept (pos 1) (pos 0))
neg_of_kept true true same = omega (arith, ints)
neg_of_kept false false same = omega (arith, ints)
neg_of_kept true false same = absurd (true≢false same)
neg_of_kept false true same = absurd (true≢false (sym same))

pub one_is_some : (kept : Bool) → pos 0 ≤ℤ cond kept (pos 1) (pos 0)
one_is_some true = omega (arith, ints)
one_is_some false = omega (arith, ints)

-- a chosen row that does not count does not pass
pub passes_not : (chosen passes : Bool) → cond (chosen && passes) (pos 1) (pos 0) ≤ℤ pos 0 → chosen ≡ true → passes ≡ false
passes_not true true few is = absurd (omega (arith, ints))
passes_not true false few is = refl
passes_not false passes few is = absurd (true≢false (sym is))

-- ---- the rows of a possible list

-- how many lost rows the query keeps, and the sum of their numbers
abbrev pub kept_count : Setting → List Row → ℤ
kept_count s lost = int_sum (map (λ (row : Row). cond (keeps s.question row) (pos 1) (pos 0)) lost)

abbrev pub kept_sum : Setting → List Row → ℤ
kept_sum s lost = int_sum (map (λ (row : Row). cond (keeps s.question row) (asked s.question.query row) (pos 0)) lost)

abbrev pub cell_of : Setting → Row → Class
cell_of s row = class_of s.question.constraints (area_of s.question) row

pub kept_some : (s : Setting) (lost : List Row) → pos 0 ≤ℤ kept_count s lost
kept_some s lost =
    sum_some (λ (row : Row). cond (keeps s.question row) (pos 1) (pos 0)) lost (λ place d inside. one_is_some (keeps s.question (get_or lost place d)))

pub no_numbers : (s : Setting) (lost : List Row) → seen_count s.question ≡ pos 0 → kept_count s lost ≤ℤ pos 0 → all_numbers s.question lost ≡ []
no_numbers s lost none few = none_from_length (all_numbers s.question lost) (omega (arith, ints, none, few, how_many s.question lost))

module _ (s : Setting) (posed : IsWellPosed s.question) (tree : IsSettledFor s) (lost : List Row) (possible : IsPossibleFor s.question lost) where
  pub count_is : kept_count s lost ≡ gains_of s (on_chosen one) lost
  count_is =
      int_sum-same (λ (row : Row). cond (keeps s.question row) (pos 1) (pos 0)) (λ (row : Row). on_chosen one (cell_of s row)) lost
      (λ (row : Row). ap (λ test. cond test (pos 1) (pos 0)) (keeps_area s.question posed row))

  pub minus_count_is : gains_of s (on_chosen minus_one) lost ≡ neg_ℤ (kept_count s lost)
  minus_count_is =
      int_sum-same (λ (row : Row). on_chosen minus_one (cell_of s row)) (λ (row : Row). neg_ℤ (cond (keeps s.question row) (pos 1) (pos 0))) lost
      (λ (row : Row). neg_of_kept (keeps s.question row) (is_in (area_of s.question) row) (keeps_area s.question posed row))
      ∙ int_sum-neg (λ (row : Row). cond (keeps s.question row) (pos 1) (pos 0)) lost

  -- no row that the query keeps passes where the rows of the chosen cells that pass are none
  pub none_counted : (passes : Class → Bool) (t : Tree) → Shows (program_for s (counting passes)) t (λ k. k ≤ℤ pos 0) →
      All (λ (row : Row). keeps s.question row ≡ true → passes (cell_of s row) ≡ false) lost
  none_counted passes t shows =
      let found = shown_gains s posed.formed tree lost possible (counting passes) t (λ k. k ≤ℤ pos 0) shows in
      let each = sum_none (λ (row : Row). counting passes (cell_of s row)) lost
      (λ place d inside. one_is_some ((cell_of s (get_or lost place d)).chosen && passes (cell_of s (get_or lost place d)))) (omega (arith, ints, found.1, found.2)) in
      λ place d inside kept.
      passes_not (is_in (area_of s.question) (get_or lost place d)) (passes (cell_of s (get_or lost place d))) (each place d inside)
      (sym (keeps_area s.question posed (get_or lost place d)) ∙ kept)

  -- each row is in a cell
  pub in_cells : All (λ (row : Row). Contains (cells s) (cell_of s row)) lost
  in_cells = rows_in_cells s.question.schema s.question.constraints (area_of s.question) s.nodes lost posed.formed tree possible

  module _ (asks : AsksNumbers s.question.schema s.question.query) where
    pub between : All (λ (row : Row). (low_in s (cell_of s row) ≤ℤ asked s.question.query row) × (asked s.question.query row ≤ℤ high_in s (cell_of s row))) lost
    between = asked_between s posed.formed tree asks lost possible
