-- The observed rows of a query, of a name where it is grouped, have a small sum.
use Rattle.std.proofs.Common.{◌≡◌, ℕ, ◌*◌, ◌≤◌, ℤ, List, [], ◌∷◌, length, map, get_or, All, Option, Some, None, refl, ap, subst, ◌∙◌, arith}
use Rattle.std.specs.Prelude.{nat_abs, ◌&&◌}
use Rattle.std.specs.List.{AllPass, AllZip}
use Rattle.std.proofs.lemmas.Int.{ints}
use Rattle.std.proofs.lemmas.List.Elements.{All-head, All-tail, All-filter, All-nil, All-cons}
use Rattle.pc_num.specs.Scaled.{greatest_size}
use Rattle.pc_model.specs.declared.schema.Schema.{Schema}
use Rattle.pc_model.specs.declared.row.Row.{Row}
use Rattle.pc_model.specs.declared.query.Query.{Query}
use Rattle.pc_model.specs.declared.query.Folded.{Folded}
use Rattle.pc_model.specs.Aggregate.{asked, kept, is_in_group, int_sum, number_at}
use Rattle.pc_model.specs.Folds.{IsFold, sum_at}
use Rattle.pc_model.specs.Membership.{in_domain, is_in}
use Rattle.pc_model.specs.WellFormed.{IsWellFormed}
use Rattle.pc_proof.proofs.RowNumbers.{asked_small}

sum_small : (f : Row → ℤ) (rows : List Row) → All (λ row. nat_abs (f row) ≤ greatest_size) rows → nat_abs (int_sum (map f rows)) ≤ length rows * greatest_size
sum_small f [] each = omega arith
sum_small f (row ∷ rows) each =
    let first = All-head (λ row. nat_abs (f row) ≤ greatest_size) row rows each in
    let rest = sum_small f rows (All-tail (λ row. nat_abs (f row) ≤ greatest_size) row rows each) in
    omega (arith, ints, first, rest)

asked_at : (query : Query) (column : ℕ) (row : Row) → query.column ≡ Some column → asked query row ≡ number_at row column
asked_at query column row is = rw is refl

module _ (schema : Schema) (query : Query) (rows : List Row) (formed : IsWellFormed schema) (allowed : AllPass (in_domain schema) rows) where
  kept_small : (name : Option ℕ) → All (λ row. nat_abs (asked query row) ≤ greatest_size) (kept query name rows)
  kept_small name =
      All-filter (λ row. is_in query.chosen row && is_in_group query.group name row) (λ row. nat_abs (asked query row) ≤ greatest_size) rows
      (λ place d inside. asked_small schema query (get_or rows place d) formed (allowed place d inside))

  pub seen_small : (name : Option ℕ) (seen : Folded) → IsFold query name rows seen → seen.count ≤ 1_000_000 → nat_abs seen.sum ≤ 1_000_000 * greatest_size
  seen_small name seen fold few = by_column query.column refl
    where
      by_column : (column : Option ℕ) → query.column ≡ column → nat_abs seen.sum ≤ 1_000_000 * greatest_size
      by_column None is =
          let none = fold.sum ∙ ap (λ c. sum_at c (kept query name rows)) is in
          omega (arith, ints, none)
      by_column (Some column) is =
          let sum : seen.sum ≡ int_sum (map (λ (row : Row). number_at row column) (kept query name rows)) = fold.sum ∙ ap (λ c. sum_at c (kept query name rows)) is in
          let small : nat_abs (int_sum (map (λ (row : Row). number_at row column) (kept query name rows))) ≤ length (kept query name rows) * greatest_size =
          sum_small (λ (row : Row). number_at row column) (kept query name rows)
          (λ place d inside. subst (λ n. nat_abs n ≤ greatest_size) (asked_at query column (get_or (kept query name rows) place d) is) (kept_small name place d inside)) in
          omega (arith, ints, sum, small, fold.count, few)

  -- so have those of each name
  pub each_small : (names : List ℕ) (folds : List Folded) → AllZip (λ (name : ℕ) (folded : Folded). IsFold query (Some name) rows folded) names folds →
      All (λ (folded : Folded). folded.count ≤ 1_000_000) folds → All (λ (folded : Folded). nat_abs folded.sum ≤ 1_000_000 * greatest_size) folds
  each_small [] [] each few = All-nil (λ (folded : Folded). nat_abs folded.sum ≤ 1_000_000 * greatest_size)
  each_small [] (folded ∷ folds) each few = absurd each
  each_small (name ∷ names) [] each few = absurd each
  each_small (name ∷ names) (folded ∷ folds) each few =
      let first = All-head (λ (f : Folded). f.count ≤ 1_000_000) folded folds few in
      let rest = All-tail (λ (f : Folded). f.count ≤ 1_000_000) folded folds few in
      All-cons (λ (f : Folded). nat_abs f.sum ≤ 1_000_000 * greatest_size) folded folds (seen_small (Some name) folded each.0 first) (each_small names folds each.1 rest)
