-- What the fold of some rows for the query without a group says of a question over these rows.
use Rattle.std.proofs.Common.{◌≡◌, ℕ, ◌*◌, ◌≤◌, ◌^◌, ℤ, List, [], ◌∷◌, length, map, get_or, All, Option, Some, None, refl, sym, ap, subst, ◌∙◌, arith}
use Rattle.std.specs.Prelude.{nat_abs, ◌&&◌}
use Rattle.std.specs.Int.{int_min, int_max}
use Rattle.std.specs.List.{AllPass}
use Rattle.std.proofs.Math.Bool.{and-true}
use Rattle.std.proofs.lemmas.Int.{ints}
use Rattle.std.proofs.lemmas.List.Elements.{All-head, All-tail, All-filter, filter_agree}
use Rattle.std.proofs.lemmas.List.Sums.{length-filter, count_by-le-length}
use Rattle.std.proofs.lemmas.Nat.{mul-le}
use Rattle.pc_num.specs.Scaled.{greatest_size}
use Rattle.pc_model.specs.declared.schema.Schema.{Schema}
use Rattle.pc_model.specs.declared.row.Row.{Row}
use Rattle.pc_model.specs.declared.query.Query.{Query}
use Rattle.pc_model.specs.declared.query.Folded.{Folded}
use Rattle.pc_model.specs.Aggregate.{asked, kept, is_in_group, int_sum, number_at}
use Rattle.pc_model.specs.Folds.{IsFold, sum_at, best_at}
use Rattle.pc_model.specs.Membership.{in_domain, is_in}
use Rattle.pc_model.specs.Right.{Question}
use Rattle.pc_model.specs.WellFormed.{IsWellFormed}
use Rattle.pc_proof.specs.Setting.{area_of}
use Rattle.pc_proof.specs.Observed.{ComesTo}
use Rattle.pc_proof.specs.Unbroken.{IsWellPosed}
use Rattle.pc_proof.proofs.Groups.{keeps_area}
use Rattle.pc_proof.proofs.Observing.{comes}
use Rattle.pc_proof.proofs.RowNumbers.{asked_small}
use Rattle.pc_proof.proofs.Seen.{keeps}
use Rattle.pc_check.specs.Totals.{question_over}
use Rattle.pc_check.specs.Verdicts.{asked_of}

-- the query without a group keeps the rows that the query keeps for its name
same_rows : (q : Question) (rows : List Row) → IsWellPosed q → kept (asked_of q) None rows ≡ kept q.query q.name rows
same_rows q rows posed =
    filter_agree (λ row. is_in (area_of q) row && is_in_group None None row) (keeps q)
    (λ row. and-true (is_in (area_of q) row) ∙ sym (keeps_area q posed row)) rows

same_fold : (q : Question) (rows : List Row) (lost : Folded) → IsWellPosed q → IsFold (asked_of q) None rows lost → IsFold q.query q.name rows lost
same_fold q rows lost posed fold =
    let same = same_rows q rows posed in
    record {
      count = fold.count ∙ ap length same;
      sum = fold.sum ∙ ap (λ list. sum_at q.query.column list) same;
      least = subst (λ list. lost.least ≡ best_at int_min q.query.column list) same fold.least;
      greatest = subst (λ list. lost.greatest ≡ best_at int_max q.query.column list) same fold.greatest;
    }

pub lost_come : (q : Question) (rows : List Row) (lost : Folded) → IsWellPosed q → IsFold (asked_of q) None rows lost → ComesTo (question_over q rows) lost
lost_come q rows lost posed fold = comes (question_over q rows) lost (same_fold q rows lost posed fold)

-- ---- sizes

pub fold_few : (query : Query) (name : Option ℕ) (rows : List Row) (folded : Folded) → IsFold query name rows folded → folded.count ≤ length rows
fold_few query name rows folded fold =
    let keep = λ (row : Row). is_in query.chosen row && is_in_group query.group name row in
    omega (arith, fold.count, length-filter keep rows, count_by-le-length keep rows)

sum_within : (f : Row → ℤ) (rows : List Row) → All (λ row. nat_abs (f row) ≤ greatest_size) rows → nat_abs (int_sum (map f rows)) ≤ length rows * greatest_size
sum_within f [] each = omega arith
sum_within f (row ∷ rows) each =
    let first = All-head (λ other. nat_abs (f other) ≤ greatest_size) row rows each in
    let rest = sum_within f rows (All-tail (λ other. nat_abs (f other) ≤ greatest_size) row rows each) in
    omega (arith, ints, first, rest)

asked_at : (query : Query) (column : ℕ) (row : Row) → query.column ≡ Some column → asked query row ≡ number_at row column
asked_at query column row is = rw is refl

pub fold_small : (schema : Schema) (query : Query) (rows : List Row) (folded : Folded) → IsWellFormed schema → AllPass (in_domain schema) rows → IsFold query None rows folded
    → length rows ≤ 20 * 1_000_000_000 → nat_abs folded.sum ≤ 2 * 10 ^ 25
fold_small schema query rows folded formed allowed fold few = by_column query.column refl
  where
    by_column : (column : Option ℕ) → query.column ≡ column → nat_abs folded.sum ≤ 2 * 10 ^ 25
    by_column None is =
        let none = fold.sum ∙ ap (λ c. sum_at c (kept query None rows)) is in
        omega (arith, ints, none)
    by_column (Some column) is =
        let list = kept query None rows in
        let sum : folded.sum ≡ int_sum (map (λ (row : Row). number_at row column) list) = fold.sum ∙ ap (λ c. sum_at c list) is in
        let each : All (λ (row : Row). nat_abs (asked query row) ≤ greatest_size) list =
        All-filter (λ row. is_in query.chosen row && is_in_group query.group None row) (λ row. nat_abs (asked query row) ≤ greatest_size) rows
        (λ place d inside. asked_small schema query (get_or rows place d) formed (allowed place d inside)) in
        let within : nat_abs (int_sum (map (λ (row : Row). number_at row column) list)) ≤ length list * greatest_size =
        sum_within (λ (row : Row). number_at row column) list
        (λ place d inside. subst (λ n. nat_abs n ≤ greatest_size) (asked_at query column (get_or list place d) is) (each place d inside)) in
        let all : length list * greatest_size ≤ (20 * 1_000_000_000) * greatest_size = mul-le (length list) (greatest_size) (20 * 1_000_000_000) (greatest_size) (omega (arith, fold.count, few, fold_few query None rows folded fold)) (omega arith) in
        omega (arith, ints, sum, within, all)
