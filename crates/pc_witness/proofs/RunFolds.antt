-- The fold of the rows of some runs, and that with the rows of one run more.
use Rattle.std.proofs.Common.{◌≡◌, ◌∙◌, ℕ, zero, suc, ◌+◌, ◌*◌, ◌^◌, ◌<◌, ◌≤◌, ◌&&◌, Bool, true, false, ℤ, pos, ◌+ℤ◌, ◌*ℤ◌, nat_abs, List, [], ◌∷◌, ◌++◌, length, map, take, get_or, replicate, Option, Some, None, refl, ap, sym, subst, arith}
use Rattle.std.specs.List.{reduce, fold, filter, flat_map, sum_by}
use Rattle.std.specs.Int.{int_min, int_max}
use Rattle.std.proofs.lemmas.Int.{ints, clamps}
use Rattle.std.proofs.lemmas.List.{length-append, length-replicate, append-nil, take_more}
use Rattle.std.proofs.lemmas.List.Elements.{filter-append}
use Rattle.std.proofs.lemmas.List.Concat.{flat_map-append}
use Rattle.std.proofs.lemmas.List.Sums.{sum_by_more}
use Rattle.pc_model.specs.declared.row.Row.{Row}
use Rattle.pc_model.specs.declared.row.Run.{Run}
use Rattle.pc_model.specs.declared.query.Query.{Query}
use Rattle.pc_model.specs.declared.query.Folded.{Folded}
use Rattle.pc_model.specs.Aggregate.{int_sum, is_in_group, kept, number_at}
use Rattle.pc_model.specs.Membership.{is_in}
use Rattle.pc_model.specs.Folds.{sum_at, best_at, better, IsFold}
use Rattle.pc_model.specs.Runs.{rows_of}
use Rattle.pc_model.proofs.Folds.{any_group, fold_empty, fold_same}
use Rattle.pc_program_bound.proofs.Ring.{mul-more}
use Rattle.pc_witness.specs.RunFolds.{sum_with, best_with, IsWithRun}

-- ---- which of a row's repeats are kept

filter_all : (test : Row → Bool) (n : ℕ) (row : Row) → test row ≡ true → filter test (replicate n row) ≡ replicate n row
filter_all test zero row passes = refl
filter_all test (suc n) row passes = rw passes (ap (λ rows. row ∷ rows) (filter_all test n row passes))

filter_none : (test : Row → Bool) (n : ℕ) (row : Row) → test row ≡ false → filter test (replicate n row) ≡ []
filter_none test zero row fails = refl
filter_none test (suc n) row fails = rw fails (filter_none test n row fails)

abbrev keeps : Query → Row → Bool
keeps query row = is_in query.chosen row && is_in_group query.group None row

kept_yes : (query : Query) (rows : List Row) (n : ℕ) (row : Row) → is_in query.chosen row ≡ true → kept query None (rows ++ replicate n row) ≡ kept query None rows ++ replicate n row
kept_yes query rows n row chosen =
    let passes : keeps query row ≡ true = rw (chosen, any_group query.group row) refl in
    filter-append (keeps query) rows (replicate n row) ∙ ap (λ more. kept query None rows ++ more) (filter_all (keeps query) n row passes)

kept_no : (query : Query) (rows : List Row) (n : ℕ) (row : Row) → is_in query.chosen row ≡ false → kept query None (rows ++ replicate n row) ≡ kept query None rows
kept_no query rows n row other =
    let fails : keeps query row ≡ false = rw other refl in
    filter-append (keeps query) rows (replicate n row) ∙ ap (λ more. kept query None rows ++ more) (filter_none (keeps query) n row fails) ∙ append-nil (kept query None rows)

-- ---- what the repeats add to the sum, and to the least and the greatest

module _ (value : Row → ℤ) where
  sum-replicate : (n : ℕ) (row : Row) → int_sum (map value (replicate n row)) ≡ value row *ℤ pos n
  sum-replicate zero row = omega (arith, ints)
  sum-replicate (suc n) row = omega (arith, ints, sum-replicate n row, mul-more (value row) n)

  sum-repeats : (rows : List Row) (n : ℕ) (row : Row) → int_sum (map value (rows ++ replicate n row)) ≡ int_sum (map value rows) +ℤ (value row *ℤ pos n)
  sum-repeats [] n row = omega (arith, ints, sum-replicate n row)
  sum-repeats (first ∷ rows) n row = omega (arith, ints, sum-repeats rows n row)

  module _ (pick : ℤ → ℤ → ℤ) (again : (a b : ℤ) → pick (pick a b) b ≡ pick a b) (same : (b : ℤ) → pick b b ≡ b) where
    fold-still : (n : ℕ) (row : Row) (best : ℤ) → pick best (value row) ≡ best → fold pick best (map value (replicate n row)) ≡ best
    fold-still zero row best still = refl
    fold-still (suc n) row best still = subst (λ found. fold pick found (map value (replicate n row)) ≡ best) (sym still) (fold-still n row best still)

    fold-repeats : (rows : List Row) (n : ℕ) (row : Row) (best : ℤ) → fold pick best (map value (rows ++ replicate (suc n) row)) ≡ pick (fold pick best (map value rows)) (value row)
    fold-repeats [] n row best = fold-still n row (pick best (value row)) (again best (value row))
    fold-repeats (first ∷ rows) n row best = fold-repeats rows n row (pick best (value first))

    reduce-repeats : (rows : List Row) (n : ℕ) (row : Row) → reduce pick (map value (rows ++ replicate (suc n) row)) ≡ Some (better pick (reduce pick (map value rows)) (value row))
    reduce-repeats [] n row = ap Some (fold-still n row (value row) (same (value row)))
    reduce-repeats (first ∷ rows) n row = ap Some (fold-repeats rows n row (value first))

sum_at-repeats : (column : Option ℕ) (rows : List Row) (run : Run) → sum_at column (rows ++ replicate run.times run.row) ≡ sum_with column (sum_at column rows) run
sum_at-repeats None rows run = refl
sum_at-repeats (Some column) rows run = sum-repeats (λ (found : Row). number_at found column) rows run.times run.row

best_at-times : (pick : ℤ → ℤ → ℤ) → ((a b : ℤ) → pick (pick a b) b ≡ pick a b) → ((b : ℤ) → pick b b ≡ b) → (column : ℕ) (rows : List Row) (row : Row) (n : ℕ) → 0 < n →
    best_at pick (Some column) (rows ++ replicate n row) ≡ Some (better pick (best_at pick (Some column) rows) (number_at row column))
best_at-times pick again same column rows row zero some = absurd (omega arith)
best_at-times pick again same column rows row (suc n) some = reduce-repeats (λ (found : Row). number_at found column) pick again same rows n row

best_at-repeats : (pick : ℤ → ℤ → ℤ) → ((a b : ℤ) → pick (pick a b) b ≡ pick a b) → ((b : ℤ) → pick b b ≡ b) → (column : Option ℕ) (rows : List Row) (run : Run) → 0 < run.times →
    best_at pick column (rows ++ replicate run.times run.row) ≡ best_with pick column (best_at pick column rows) run
best_at-repeats pick again same None rows run some = refl
best_at-repeats pick again same (Some column) rows run some = best_at-times pick again same column rows run.row run.times some

min_again : (a b : ℤ) → int_min (int_min a b) b ≡ int_min a b
min_again a b = omega (arith, ints, clamps)

min_same : (b : ℤ) → int_min b b ≡ b
min_same b = omega (arith, ints, clamps)

max_again : (a b : ℤ) → int_max (int_max a b) b ≡ int_max a b
max_again a b = omega (arith, ints, clamps)

max_same : (b : ℤ) → int_max b b ≡ b
max_same b = omega (arith, ints, clamps)

-- ---- the fold with one run more

pub fold_yes : (query : Query) (run : Run) (folded more : Folded) → 0 < run.times → is_in query.chosen run.row ≡ true → IsWithRun query.column folded run more → (rows : List Row) → IsFold query None rows folded → IsFold query None (rows ++ replicate run.times run.row) more
fold_yes query run folded more some chosen with rows before =
    let old : List Row = kept query None rows in
    let longer : kept query None (rows ++ replicate run.times run.row) ≡ kept query None rows ++ replicate run.times run.row = kept_yes query rows run.times run.row chosen in
    record {
      count = rw longer (omega (arith, with.count, before.count, length-append old (replicate run.times run.row), length-replicate run.times run.row));
      sum = with.sum ∙ rw (before.sum, longer) (sym (sum_at-repeats query.column old run));
      least = with.least ∙ rw (before.least, longer) (sym (best_at-repeats int_min min_again min_same query.column old run some));
      greatest = with.greatest ∙ rw (before.greatest, longer) (sym (best_at-repeats int_max max_again max_same query.column old run some));
    }

pub fold_no : (query : Query) (run : Run) (folded : Folded) → is_in query.chosen run.row ≡ false → (rows : List Row) → IsFold query None rows folded → IsFold query None (rows ++ replicate run.times run.row) folded
fold_no query run folded other rows before =
    fold_same query None rows (rows ++ replicate run.times run.row) folded (kept_no query rows run.times run.row other) before

pub with_some : (column : Option ℕ) (at : ℕ) (folded : Folded) (run : Run) (number sum least greatest : ℤ) → column ≡ Some at → number ≡ number_at run.row at → sum ≡ folded.sum +ℤ (number *ℤ pos run.times) → least ≡ better int_min folded.least number → greatest ≡ better int_max folded.greatest number →
    IsWithRun column folded run (record { count = folded.count + run.times; sum = sum; least = Some least; greatest = Some greatest })
with_some column at folded run number sum least greatest is number_is sum_is least_is greatest_is = rw is (record {
  count = refl;
  sum = rw (← number_is) sum_is;
  least = rw (← number_is) (ap Some least_is);
  greatest = rw (← number_is) (ap Some greatest_is);
})

-- ---- the fold of the runs before a place

pub record IsFoldedTo (query : Query) (runs : List Run) (place : ℕ) (folded : Folded) : Type 0 where
  pub few : folded.count ≤ sum_by (λ (run : Run). run.times) (take place runs)
  pub small : nat_abs folded.sum ≤ folded.count * 2 ^ 63
  pub before : IsFold query None (rows_of (take place runs)) folded

rows_of-push : (runs : List Run) (run : Run) → rows_of (runs ++ run ∷ []) ≡ rows_of runs ++ replicate run.times run.row
unfolding rows_of
rows_of-push runs run =
    let repeats : Run → List Row = λ (found : Run). replicate found.times found.row in
    flat_map-append repeats runs (run ∷ []) ∙ ap (λ more. flat_map repeats runs ++ more) (append-nil (replicate run.times run.row))

no_rows : rows_of [] ≡ []
unfolding rows_of
no_rows = refl

pub fold_none : (query : Query) (runs : List Run) → IsFoldedTo query runs 0 (record { count = 0; sum = pos 0; least = None; greatest = None })
fold_none query runs = record { few = omega arith; small = omega (arith, ints); before = rw no_rows (fold_empty query None) }

pub fold_more : (query : Query) (runs : List Run) (place : ℕ) (run : Run) (folded more : Folded) → place < length runs → run ≡ get_or runs place run → IsFoldedTo query runs place folded →
    ((rows : List Row) → IsFold query None rows folded → IsFold query None (rows ++ replicate run.times run.row) more) →
    more.count ≤ folded.count + run.times → nat_abs more.sum ≤ more.count * 2 ^ 63 → IsFoldedTo query runs (place + 1) more
fold_more query runs place run folded more below is folded_to step few small =
    let rows : List Row = rows_of (take place runs) in
    let times : run.times ≡ (get_or runs place run).times = ap (λ found. found.times) is in
    record {
      few = omega (arith, few, times, folded_to.few, sum_by_more (λ (found : Run). found.times) runs place run below);
      small = small;
      before = rw (take_more runs place run below, rows_of-push (take place runs) (get_or runs place run))
          (subst (λ found. IsFold query None (rows ++ replicate found.times found.row) more) is (step rows folded_to.before));
    }
