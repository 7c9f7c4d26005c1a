-- Possible rows are few: each is under a constraint, and each constraint allows few.
use Rattle.std.proofs.Common.{◌≡◌, ℕ, ◌+◌, ◌*◌, ◌≤◌, Bool, true, false, ◌||◌, cond, List, [], ◌∷◌, length, All, refl, sym, subst, true≢false, arith}
use Rattle.std.specs.List.{sum_by, count_by, list_any, AllPass}
use Rattle.std.proofs.lemmas.List.Elements.{All-head, All-tail}
use Rattle.std.proofs.lemmas.List.Sums.{sum_by-cons, sum_by-le}
use Rattle.std.proofs.lemmas.Nat.{mul-le}
use Rattle.pc_model.specs.declared.schema.Schema.{Schema}
use Rattle.pc_model.specs.declared.row.Row.{Row}
use Rattle.pc_model.specs.declared.constraint.Constraint.{Constraint}
use Rattle.pc_model.specs.Membership.{is_under}
use Rattle.pc_model.specs.Possible.{IsPossible, count_of}

-- ---- rows under constraints, each as one of all

module _ (all : List Constraint) where
  abbrev is_under_some : List Constraint → Row → Bool
  is_under_some constraints row = list_any (λ (c : Constraint). is_under all c row) constraints

  -- how many of the constraints the row is under
  abbrev covers : List Constraint → Row → ℕ
  covers constraints row = count_by (λ (c : Constraint). is_under all c row) constraints

  -- how many rows are under each constraint, all together
  abbrev under_all : List Constraint → List Row → ℕ
  under_all constraints rows = sum_by (λ (c : Constraint). count_of all c rows) constraints

  covered_once : (constraints : List Constraint) (row : Row) → is_under_some constraints row ≡ true → 1 ≤ covers constraints row
  covered_once [] row covered = absurd (true≢false (sym covered))
  covered_once (c ∷ constraints) row covered =
      subst (λ n. 1 ≤ n) (sym (sum_by-cons (λ (d : Constraint). cond (is_under all d row) 1 0) c constraints)) (by_test (is_under all c row) (covered_once constraints row) covered)
    where
      by_test : (test : Bool) → (is_under_some constraints row ≡ true → 1 ≤ covers constraints row) → (test || is_under_some constraints row) ≡ true → 1 ≤ cond test 1 0 + covers constraints row
      by_test true later covered' = omega arith
      by_test false later covered' = let found = later covered' in omega (arith, found)

  under_none : (constraints : List Constraint) → under_all constraints [] ≡ 0
  under_none [] = refl
  under_none (c ∷ constraints) = omega (arith, sum_by-cons (λ (d : Constraint). count_of all d []) c constraints, under_none constraints)

  under_more : (constraints : List Constraint) (row : Row) (rows : List Row) → under_all constraints (row ∷ rows) ≡ covers constraints row + under_all constraints rows
  under_more [] row rows = refl
  under_more (c ∷ constraints) row rows =
      let each = sum_by-cons (λ (d : Constraint). count_of all d (row ∷ rows)) c constraints in
      let first = sum_by-cons (λ (other : Row). cond (is_under all c other) 1 0) row rows in
      let once = sum_by-cons (λ (d : Constraint). cond (is_under all d row) 1 0) c constraints in
      let rest = sum_by-cons (λ (d : Constraint). count_of all d rows) c constraints in
      let later = under_more constraints row rows in
      omega (arith, each, first, once, rest, later)

  covered_rows : (constraints : List Constraint) (rows : List Row) → AllPass (is_under_some constraints) rows → length rows ≤ under_all constraints rows
  covered_rows constraints [] each = omega arith
  covered_rows constraints (row ∷ rows) each =
      let first = covered_once constraints row (All-head (λ other. is_under_some constraints other ≡ true) row rows each) in
      let later = covered_rows constraints rows (All-tail (λ other. is_under_some constraints other ≡ true) row rows each) in
      omega (arith, first, later, under_more constraints row rows)

pub possible_few : (schema : Schema) (constraints : List Constraint) (rows : List Row) (most : ℕ) → length constraints ≤ 20 → All (λ (c : Constraint). c.most ≤ most) constraints → IsPossible schema constraints rows →
    length rows ≤ 20 * most
possible_few schema constraints rows most few small possible =
    let each : All (λ (c : Constraint). count_of constraints c rows ≤ most) constraints =
    (λ place d inside. omega (arith, (possible.meets place d inside).not_more, small place d inside)) in
    let all = sum_by-le (λ (c : Constraint). count_of constraints c rows) most constraints each in
    let product = mul-le (length constraints) most 20 most few (omega arith) in
    omega (arith, all, product, covered_rows constraints constraints rows possible.covered)
