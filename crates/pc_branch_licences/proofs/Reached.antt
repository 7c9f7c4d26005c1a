-- Runs that attain a least or greatest number: their counts have a row of a cell that reaches it, and none of a cell that falls short.
use Rattle.std.proofs.Common.{◌≡◌, ℕ, ℤ, pos, ◌≤ℤ◌, ◌<ℤ◌, Bool, true, false, cond, ◌&&◌, List, [], ◌∷◌, length, map, get_or, All, Option, IfSome, IsSomeAnd, refl, sym, ◌∙◌, true≢false, arith}
use Rattle.std.specs.List.{reduce}
use Rattle.std.specs.Int.{int_min, int_max}
use Rattle.std.proofs.lemmas.Int.{ints, by_lt_z}
use Rattle.std.proofs.lemmas.List.Elements.{All-head, All-tail}
use Rattle.pc_model.specs.declared.row.Row.{Row}
use Rattle.pc_model.specs.declared.row.Run.{Run}
use Rattle.pc_model.specs.declared.query.Agg.TheVariants.{Min, Max}
use Rattle.pc_model.specs.Aggregate.{whole, int_sum}
use Rattle.pc_model.specs.Membership.{is_in}
use Rattle.pc_model.specs.Cells.{Class}
use Rattle.pc_model.specs.Right.{IsPossibleFor, IsAttained}
use Rattle.pc_model.specs.Runs.{rows_of}
use Rattle.pc_program_bound.specs.Allocation.{IsAllocation, worth}
use Rattle.pc_program_bound.specs.CellPrograms.{counts_of}
use Rattle.pc_proof.proofs.PossibleRows.{rows_are_worth}
use Rattle.pc_proof.specs.Setting.{Setting, area_of, seen_count, seen_least, seen_greatest, seen_numbers, cells, low_in, high_in, on_chosen, counting, program_for, program_without}
use Rattle.pc_proof.specs.Table.{one}
use Rattle.pc_proof.specs.Unbroken.{IsWellPosed}
use Rattle.pc_proof.proofs.Closed.{open_within}
use Rattle.pc_proof.proofs.Ends.{AsksNumbers, asks_numbers}
use Rattle.pc_proof.proofs.Gains.{IsSettledFor, gains_of}
use Rattle.pc_proof.proofs.Groups.{keeps_area}
use Rattle.pc_proof.proofs.Kept.{one_is_some, passes_not, cell_of, between, count_is}
use Rattle.pc_proof.proofs.Numbers.{sum_none, all_from_least, all_from_greatest, least_keeps, greatest_keeps}
use Rattle.pc_proof.proofs.Seen.{keeps, all_numbers, how_many, of_all, of_lost, from_lost}
use Rattle.pc_branch_licences.specs.Licensed.{upto_low, from_high, under_high, over_low}
use Rattle.pc_branch_licences.specs.Shown.{counts_of_runs}
use Rattle.pc_branch_licences.proofs.Exact.{apart, and_if, le_fails, not_lt, attained_number, picked_value}

-- ---- rows of cells that pass

not_counted : (chosen passes : Bool) → (chosen ≡ true → passes ≡ false) → cond (chosen && passes) (pos 1) (pos 0) ≤ℤ pos 0
not_counted true true so = absurd (true≢false (so refl))
not_counted true false so = omega (arith, ints)
not_counted false passes so = omega (arith, ints)

sum_few : {X : Type 0} (f : X → ℤ) (xs : List X) → All (λ x. f x ≤ℤ pos 0) xs → int_sum (map f xs) ≤ℤ pos 0
sum_few f [] each = omega (arith, ints)
sum_few f (x ∷ xs) each = omega (arith, ints, All-head (λ y. f y ≤ℤ pos 0) x xs each, sum_few f xs (All-tail (λ y. f y ≤ℤ pos 0) x xs each))

module _ (s : Setting) (posed : IsWellPosed s.question) (lost : List Row) (passes : Class → Bool) where
  -- no row that the query keeps is in a cell that passes
  abbrev pub PassNone : Type 0
  PassNone = All (λ (row : Row). keeps s.question row ≡ true → passes (cell_of s row) ≡ false) lost

  pub none_pass : gains_of s (counting passes) lost ≤ℤ pos 0 → PassNone
  none_pass few =
      let each = sum_none (λ (row : Row). counting passes (cell_of s row)) lost
      (λ place d inside. one_is_some ((cell_of s (get_or lost place d)).chosen && passes (cell_of s (get_or lost place d)))) few in
      λ place d inside kept.
      passes_not (is_in (area_of s.question) (get_or lost place d)) (passes (cell_of s (get_or lost place d))) (each place d inside)
      (sym (keeps_area s.question posed (get_or lost place d)) ∙ kept)

  pub few_pass : PassNone → gains_of s (counting passes) lost ≤ℤ pos 0
  few_pass none =
      sum_few (λ (row : Row). counting passes (cell_of s row)) lost
      (λ place d inside.
      not_counted (is_in (area_of s.question) (get_or lost place d)) (passes (cell_of s (get_or lost place d)))
      (λ chosen. none place d inside (keeps_area s.question posed (get_or lost place d) ∙ chosen)))

-- a list with a least or a greatest number is not empty
some_length : (pick : ℤ → ℤ → ℤ) (xs : List ℤ) (P : ℤ → Type 0) → IsSomeAnd (reduce pick xs) P → pos 1 ≤ℤ pos (length xs)
some_length pick [] P some = absurd some
some_length pick (x ∷ xs) P some = omega (arith, ints)

-- ---- the rows of a possible list

module _ (s : Setting) (posed : IsWellPosed s.question) (tree : IsSettledFor s) (lost : List Row) (possible : IsPossibleFor s.question lost) where
  abbrev counts : List ℕ
  counts = counts_of s.question.constraints (area_of s.question) (cells s) lost

  abbrev numbers : List ℤ
  numbers = all_numbers s.question lost

  worth_is : (gain : Class → ℤ) → worth (program_for s gain) counts ≡ gains_of s gain lost
  worth_is gain = rows_are_worth s.question.schema s.question.constraints (area_of s.question) s.nodes gain lost posed.formed tree possible

  -- a row is counted, or none passes
  some_worth : (passes : Class → Bool) → (PassNone s posed lost passes → ⊥) → pos 1 ≤ℤ worth (program_for s (counting passes)) counts
  some_worth passes some =
      by_lt_z (gains_of s (counting passes) lost) (pos 1) (λ few. absurd (some (none_pass s posed lost passes (omega (arith, ints, few)))))
      (λ enough. omega (arith, ints, enough, worth_is (counting passes)))

  -- where no row was observed, a list with a number has a chosen row
  some_chosen : pos 1 ≤ℤ pos (length numbers) → seen_count s.question ≡ pos 0 → pos 1 ≤ℤ worth (program_for s (on_chosen one)) counts
  some_chosen some none = omega (arith, ints, some, none, how_many s.question lost, count_is s posed tree lost possible, worth_is (on_chosen one))

  module _ (asks : AsksNumbers s.question.schema s.question.query) (n : ℤ) where
    reached_low : IfSome (seen_least s.question) (λ m. n <ℤ m) → IsSomeAnd (reduce int_min numbers) (λ m. m ≡ n) → pos 1 ≤ℤ worth (program_for s (counting (upto_low s n))) counts
    reached_low beyond least =
        some_worth (upto_low s n)
        (λ none. apart (reduce int_min numbers) (λ m. m ≡ n) (λ m. n <ℤ m) (λ m is over. omega (arith, ints, is, over)) least
        (least_keeps (λ m. n <ℤ m) numbers
        (of_all s.question lost (λ m. n <ℤ m) (all_from_least (λ m. n <ℤ m) (seen_numbers s.question) (λ a b below over. omega (arith, ints, below, over)) beyond)
        (from_lost s.question lost (λ m. n <ℤ m)
        (λ place d inside kept. let row = get_or lost place d in
        let over = le_fails (low_in s (cell_of s row)) n (none place d inside kept) in
        omega (arith, ints, over, (between s posed tree lost possible asks place d inside).0))))))

    reached_high : IfSome (seen_greatest s.question) (λ g. g <ℤ n) → IsSomeAnd (reduce int_max numbers) (λ g. g ≡ n) → pos 1 ≤ℤ worth (program_for s (counting (from_high s n))) counts
    reached_high beyond greatest =
        some_worth (from_high s n)
        (λ none. apart (reduce int_max numbers) (λ g. g ≡ n) (λ g. g <ℤ n) (λ g is under. omega (arith, ints, is, under)) greatest
        (greatest_keeps (λ g. g <ℤ n) numbers
        (of_all s.question lost (λ g. g <ℤ n) (all_from_greatest (λ g. g <ℤ n) (seen_numbers s.question) (λ a b below under. omega (arith, ints, below, under)) beyond)
        (from_lost s.question lost (λ g. g <ℤ n)
        (λ place d inside kept. let row = get_or lost place d in
        let under = le_fails n (high_in s (cell_of s row)) (none place d inside kept) in
        omega (arith, ints, under, (between s posed tree lost possible asks place d inside).1))))))

    -- no number is below the least, so no row is in a cell that falls short of it
    open_high : IsSomeAnd (reduce int_min numbers) (λ m. m ≡ n) → PassNone s posed lost (under_high s n)
    open_high least place d inside kept =
        let row = get_or lost place d in
        let all = all_from_least (λ m. n ≤ℤ m) numbers (λ a b below from. omega (arith, ints, below, from)) (and_if (reduce int_min numbers) (λ m. m ≡ n) (λ m. n ≤ℤ m) (λ m is. omega (arith, ints, is)) least) in
        let own = of_lost s.question lost (λ m. n ≤ℤ m) all place d inside kept in
        not_lt (high_in s (cell_of s row)) n (omega (arith, ints, own, (between s posed tree lost possible asks place d inside).1))

    open_low : IsSomeAnd (reduce int_max numbers) (λ g. g ≡ n) → PassNone s posed lost (over_low s n)
    open_low greatest place d inside kept =
        let row = get_or lost place d in
        let all = all_from_greatest (λ g. g ≤ℤ n) numbers (λ a b below within. omega (arith, ints, below, within)) (and_if (reduce int_max numbers) (λ g. g ≡ n) (λ g. g ≤ℤ n) (λ g is. omega (arith, ints, is)) greatest) in
        let own = of_lost s.question lost (λ g. g ≤ℤ n) all place d inside kept in
        not_lt n (low_in s (cell_of s row)) (omega (arith, ints, own, (between s posed tree lost possible asks place d inside).0))

    abbrev IsOpenAt : (Class → Bool) → Type 0
    IsOpenAt closed =
        IsAllocation (program_without s closed) (program_without s closed).floor (program_without s closed).cap counts
        × (seen_count s.question ≡ pos 0 → pos 1 ≤ℤ worth (program_without s closed) counts)

    avoided_under : IsSomeAnd (reduce int_min numbers) (λ m. m ≡ n) → IsOpenAt (under_high s n)
    avoided_under least = (
      open_within s posed tree lost possible (under_high s n) (open_high least),
      some_chosen (some_length int_min numbers (λ m. m ≡ n) least),
    )

    avoided_over : IsSomeAnd (reduce int_max numbers) (λ g. g ≡ n) → IsOpenAt (over_low s n)
    avoided_over greatest = (
      open_within s posed tree lost possible (over_low s n) (open_low greatest),
      some_chosen (some_length int_max numbers (λ g. g ≡ n) greatest),
    )

-- ---- the laws

module _ (s : Setting) (n : ℤ) (runs : List Run) (posed : IsWellPosed s.question) (tree : IsSettledFor s) where
  abbrev least : Option ℤ
  least = reduce int_min (all_numbers s.question (rows_of runs))

  abbrev greatest : Option ℤ
  greatest = reduce int_max (all_numbers s.question (rows_of runs))

  asks_min : s.question.query.agg ≡ Min → AsksNumbers s.question.schema s.question.query
  asks_min is = asks_numbers s.question.schema s.question.query Min posed.query is tt

  asks_max : s.question.query.agg ≡ Max → AsksNumbers s.question.schema s.question.query
  asks_max is = asks_numbers s.question.schema s.question.query Max posed.query is tt

  least_is : s.question.query.agg ≡ Min → IsAttained s.question (whole n) runs → IsSomeAnd least (λ m. m ≡ n)
  least_is is = attained_number s runs least (picked_value s runs Min least is refl) n

  greatest_is : s.question.query.agg ≡ Max → IsAttained s.question (whole n) runs → IsSomeAnd greatest (λ g. g ≡ n)
  greatest_is is = attained_number s runs greatest (picked_value s runs Max greatest is refl) n

  pub attained-min_low : s.question.query.agg ≡ Min → IfSome (seen_least s.question) (λ m. n <ℤ m) → IsAttained s.question (whole n) runs →
      pos 1 ≤ℤ worth (program_for s (counting (upto_low s n))) (counts_of_runs s runs)
  attained-min_low is beyond attained = reached_low s posed tree (rows_of runs) attained.by.are_possible (asks_min is) n beyond (least_is is attained)

  pub attained-max_high : s.question.query.agg ≡ Max → IfSome (seen_greatest s.question) (λ g. g <ℤ n) → IsAttained s.question (whole n) runs →
      pos 1 ≤ℤ worth (program_for s (counting (from_high s n))) (counts_of_runs s runs)
  attained-max_high is beyond attained = reached_high s posed tree (rows_of runs) attained.by.are_possible (asks_max is) n beyond (greatest_is is attained)

  pub attained-min_high : s.question.query.agg ≡ Min → IsAttained s.question (whole n) runs →
      IsAllocation (program_without s (under_high s n)) (program_without s (under_high s n)).floor (program_without s (under_high s n)).cap (counts_of_runs s runs)
      × (seen_count s.question ≡ pos 0 → pos 1 ≤ℤ worth (program_without s (under_high s n)) (counts_of_runs s runs))
  attained-min_high is attained = avoided_under s posed tree (rows_of runs) attained.by.are_possible (asks_min is) n (least_is is attained)

  pub attained-max_low : s.question.query.agg ≡ Max → IsAttained s.question (whole n) runs →
      IsAllocation (program_without s (over_low s n)) (program_without s (over_low s n)).floor (program_without s (over_low s n)).cap (counts_of_runs s runs)
      × (seen_count s.question ≡ pos 0 → pos 1 ≤ℤ worth (program_without s (over_low s n)) (counts_of_runs s runs))
  attained-max_low is attained = avoided_over s posed tree (rows_of runs) attained.by.are_possible (asks_max is) n (greatest_is is attained)
