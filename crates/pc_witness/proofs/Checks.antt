-- What the tests of runs say of the rows that the runs stand for.
use Rattle.std.proofs.Common.{◌≡◌, ℕ, ◌≤◌, Bool, true, false, ◌&&◌, ◌||◌, ◌↔◌, not, List, refl, sym, subst, ◌∙◌, leb}
use Rattle.std.specs.List.{list_all, All}
use Rattle.std.proofs.lemmas.Bool.{and_parts, and_from, leb-true, le-leb}
use Rattle.std.proofs.lemmas.List.Elements.{All-weaker}
use Rattle.std.proofs.lemmas.List.Sums.{AllPass-from_list_all, list_all-from_AllPass}
use Rattle.pc_model.specs.declared.schema.Schema.{Schema}
use Rattle.pc_model.specs.declared.row.Row.{Row}
use Rattle.pc_model.specs.declared.row.Run.{Run}
use Rattle.pc_model.specs.declared.constraint.Constraint.{Constraint}
use Rattle.pc_model.specs.Membership.{in_domain, has, is_under}
use Rattle.pc_model.specs.Possible.{Meets, IsPossible, is_covered, count_of}
use Rattle.pc_model.specs.Runs.{rows_of, AreRuns}
use Rattle.pc_witness.specs.Checks.{is_allowed, keeps_values, rows_under, is_met}
use Rattle.pc_witness.proofs.Repeats.{All-repeats, All-from_repeats, count_by-repeats}

abbrev times : Run → ℕ
times run = run.times

abbrev row : Run → Row
row run = run.row

pub All-rows_of : (P : Row → Type 0) (runs : List Run) → All (λ run. P (row run)) runs → All P (rows_of runs)
unfolding rows_of
All-rows_of P runs each = All-repeats times row P runs each

All-from_rows_of : (P : Row → Type 0) (runs : List Run) → AreRuns runs → All P (rows_of runs) → All (λ run. P (row run)) runs
unfolding rows_of
All-from_rows_of P runs stand each = All-from_repeats times row P runs stand each

pub count-rows_of : (constraints : List Constraint) (c : Constraint) (runs : List Run) → count_of constraints c (rows_of runs) ≡ rows_under constraints c runs
unfolding rows_of
count-rows_of constraints c runs = count_by-repeats times row (is_under constraints c) runs

or_implies : (a b : Bool) → (not a || b) ≡ true → a ≡ true → b ≡ true
or_implies true b either is = either
or_implies false b either is = cc

implies_or : (a b : Bool) → (a ≡ true → b ≡ true) → (not a || b) ≡ true
implies_or true b so = so refl
implies_or false b so = refl

-- the rows meet the constraint as the test says
meets_from : (constraints : List Constraint) (c : Constraint) (runs : List Run) → is_met constraints c runs ≡ true → Meets constraints c (rows_of runs)
meets_from constraints c runs met =
    let parts : (list_all (keeps_values constraints c) runs ≡ true) × ((leb c.least (rows_under constraints c runs) && leb (rows_under constraints c runs) c.most) ≡ true) = and_parts (list_all (keeps_values constraints c) runs) (leb c.least (rows_under constraints c runs) && leb (rows_under constraints c runs) c.most) met in
    let ends : (leb c.least (rows_under constraints c runs) ≡ true) × (leb (rows_under constraints c runs) c.most ≡ true) = and_parts (leb c.least (rows_under constraints c runs)) (leb (rows_under constraints c runs) c.most) parts.1 in
    let count : count_of constraints c (rows_of runs) ≡ rows_under constraints c runs = count-rows_of constraints c runs in
    record {
      in_values = All-rows_of (λ row. is_under constraints c row ≡ true → has c.values row ≡ true) runs (All-weaker (λ run. keeps_values constraints c run ≡ true) (λ run. is_under constraints c run.row ≡ true → has c.values run.row ≡ true) (λ run. or_implies (is_under constraints c run.row) (has c.values run.row)) runs (AllPass-from_list_all (keeps_values constraints c) runs parts.0));
      enough = subst (λ n. c.least ≤ n) (sym count) (leb-true c.least (rows_under constraints c runs) ends.0);
      not_more = subst (λ n. n ≤ c.most) (sym count) (leb-true (rows_under constraints c runs) c.most ends.1);
    }

met_from : (constraints : List Constraint) (c : Constraint) (runs : List Run) → AreRuns runs → Meets constraints c (rows_of runs) → is_met constraints c runs ≡ true
met_from constraints c runs stand meets =
    let count : count_of constraints c (rows_of runs) ≡ rows_under constraints c runs = count-rows_of constraints c runs in
    and_from (list_all (keeps_values constraints c) runs) (leb c.least (rows_under constraints c runs) && leb (rows_under constraints c runs) c.most)
    (list_all-from_AllPass (keeps_values constraints c) runs
    (All-weaker (λ run. is_under constraints c run.row ≡ true → has c.values run.row ≡ true) (λ run. keeps_values constraints c run ≡ true) (λ run. implies_or (is_under constraints c run.row) (has c.values run.row)) runs
    (All-from_rows_of (λ row. is_under constraints c row ≡ true → has c.values row ≡ true) runs stand meets.in_values)))
    (and_from (leb c.least (rows_under constraints c runs)) (leb (rows_under constraints c runs) c.most)
    (le-leb c.least (rows_under constraints c runs) (subst (λ n. c.least ≤ n) count meets.enough))
    (le-leb (rows_under constraints c runs) c.most (subst (λ n. n ≤ c.most) count meets.not_more)))

-- the parts of the test of a run
record IsAllowed (schema : Schema) (constraints : List Constraint) (run : Run) : Type 0 where
  pub stands : 1 ≤ run.times
  pub inside : in_domain schema run.row ≡ true
  pub under : is_covered constraints run.row ≡ true

allowed_from : (schema : Schema) (constraints : List Constraint) (run : Run) → is_allowed schema constraints run ≡ true → IsAllowed schema constraints run
allowed_from schema constraints run passed =
    let parts : (leb 1 run.times ≡ true) × ((in_domain schema run.row && is_covered constraints run.row) ≡ true) = and_parts (leb 1 run.times) (in_domain schema run.row && is_covered constraints run.row) passed in
    let rest : (in_domain schema run.row ≡ true) × (is_covered constraints run.row ≡ true) = and_parts (in_domain schema run.row) (is_covered constraints run.row) parts.1 in
    record { stands = leb-true 1 run.times parts.0; inside = rest.0; under = rest.1 }

possible_from : (schema : Schema) (constraints : List Constraint) (runs : List Run) → list_all (is_allowed schema constraints) runs ≡ true → list_all (λ c. is_met constraints c runs) constraints ≡ true → AreRuns runs × IsPossible schema constraints (rows_of runs)
possible_from schema constraints runs allowed met =
    let each : All (IsAllowed schema constraints) runs = All-weaker (λ run. is_allowed schema constraints run ≡ true) (IsAllowed schema constraints) (allowed_from schema constraints) runs (AllPass-from_list_all (is_allowed schema constraints) runs allowed) in (
      All-weaker (IsAllowed schema constraints) (λ run. 1 ≤ run.times) (λ run w. w.stands) runs each,
      record {
        allowed = All-rows_of (λ row. in_domain schema row ≡ true) runs (All-weaker (IsAllowed schema constraints) (λ run. in_domain schema run.row ≡ true) (λ run w. w.inside) runs each);
        covered = All-rows_of (λ row. is_covered constraints row ≡ true) runs (All-weaker (IsAllowed schema constraints) (λ run. is_covered constraints run.row ≡ true) (λ run w. w.under) runs each);
        meets = All-weaker (λ c. is_met constraints c runs ≡ true) (λ c. Meets constraints c (rows_of runs)) (λ c. meets_from constraints c runs) constraints (AllPass-from_list_all (λ c. is_met constraints c runs) constraints met);
      },
    )

allowed_all_from : (schema : Schema) (constraints : List Constraint) (runs : List Run) → AreRuns runs → IsPossible schema constraints (rows_of runs) → list_all (is_allowed schema constraints) runs ≡ true
allowed_all_from schema constraints runs stand possible =
    let inside : All (λ run. in_domain schema (row run) ≡ true) runs = All-from_rows_of (λ row. in_domain schema row ≡ true) runs stand possible.allowed in
    let under : All (λ run. is_covered constraints (row run) ≡ true) runs = All-from_rows_of (λ row. is_covered constraints row ≡ true) runs stand possible.covered in
    list_all-from_AllPass (is_allowed schema constraints) runs
    (λ k d here. and_from _ _ (le-leb 1 _ (stand k d here)) (and_from _ _ (inside k d here) (under k d here)))

met_all_from : (schema : Schema) (constraints : List Constraint) (runs : List Run) → AreRuns runs → IsPossible schema constraints (rows_of runs) → list_all (λ c. is_met constraints c runs) constraints ≡ true
met_all_from schema constraints runs stand possible =
    list_all-from_AllPass (λ c. is_met constraints c runs) constraints
    (All-weaker (λ c. Meets constraints c (rows_of runs)) (λ c. is_met constraints c runs ≡ true) (λ c. met_from constraints c runs stand) constraints possible.meets)

pub decides : (schema : Schema) (constraints : List Constraint) (runs : List Run) (answer : Bool) → answer ≡ (list_all (is_allowed schema constraints) runs && list_all (λ c. is_met constraints c runs) constraints) → (answer ≡ true) ↔ (AreRuns runs × IsPossible schema constraints (rows_of runs))
decides schema constraints runs answer is =
    let allowed : Bool = list_all (is_allowed schema constraints) runs in
    let met : Bool = list_all (λ c. is_met constraints c runs) constraints in (
      λ passed. let parts : (allowed ≡ true) × (met ≡ true) = and_parts allowed met (sym is ∙ passed) in possible_from schema constraints runs parts.0 parts.1,
      λ w. is ∙ and_from allowed met (allowed_all_from schema constraints runs w.0 w.1) (met_all_from schema constraints runs w.0 w.1),
    )
