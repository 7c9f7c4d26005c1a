-- A table that keeps the constraints, with no row under none of them, is a list of rows that could be lost.
use Rattle.std.proofs.Common.{◌≡◌, ◌∙◌, ◌↔◌, ℕ, ◌≤◌, ◌==◌, ◌&&◌, Bool, true, false, cond, not, List, All, count_by, refl, sym, ap, arith, eqb-true, true≢false}
use Rattle.std.specs.List.{AllPass}
use Rattle.std.proofs.lemmas.Bool.{and_from, and_parts}
use Rattle.std.proofs.lemmas.List.Elements.{All-weaker}
use Rattle.std.proofs.lemmas.List.Folds.{list_all-map, sum_by-zero}
use Rattle.std.proofs.lemmas.List.Sums.{AllPass-from_list_all, list_all-from_AllPass}
use Rattle.pc_model.specs.declared.constraint.Constraint.{Constraint}
use Rattle.pc_model.specs.declared.row.Row.{Row}
use Rattle.pc_model.specs.declared.schema.Schema.{Schema}
use Rattle.pc_model.specs.Membership.{has, in_domain, is_under}
use Rattle.pc_model.specs.Possible.{IsPossible, Meets, count_of, is_covered}
use Rattle.pc_desk_try.specs.declared.tried.Tried.{Tried}
use Rattle.pc_desk_try.specs.Trials.{breaks, is_kept, is_kept_by, is_under_none, is_within, million, trial_of, tried_by, under_none}

-- ---- a test that no row passes

abbrev fails : (Row → Bool) → Row → Bool
fails test row = cond (test row) 1 0 == 0

none_pass : (test : Row → Bool) (rows : List Row) → count_by test rows ≡ 0 → AllPass (fails test) rows
none_pass test rows none = AllPass-from_list_all (fails test) rows (sym (sum_by-zero (λ (row : Row). cond (test row) 1 0) rows) ∙ ap (λ (n : ℕ). n == 0) none)

pass_none : (test : Row → Bool) (rows : List Row) → AllPass (fails test) rows → count_by test rows ≡ 0
pass_none test rows all = eqb-true (count_by test rows) 0 (sum_by-zero (λ (row : Row). cond (test row) 1 0) rows ∙ list_all-from_AllPass (fails test) rows all)

holds_there : (under held : Bool) → (cond (under && not held) 1 0 == 0) ≡ true → under ≡ true → held ≡ true
holds_there true true fails there = refl
holds_there true false fails there = absurd (true≢false (sym fails))
holds_there false held fails there = absurd (true≢false (sym there))

fails_there : (under held : Bool) → (under ≡ true → held ≡ true) → (cond (under && not held) 1 0 == 0) ≡ true
fails_there true true holds = refl
fails_there true false holds = absurd (true≢false (sym (holds refl)))
fails_there false held holds = refl

is_there : (here : Bool) → (cond (not here) 1 0 == 0) ≡ true → here ≡ true
is_there true fails = refl
is_there false fails = absurd (true≢false (sym fails))

not_there : (here : Bool) → here ≡ true → (cond (not here) 1 0 == 0) ≡ true
not_there true here = refl
not_there false here = absurd (true≢false (sym here))

-- ---- one constraint

module _ (constraints : List Constraint) (rows : List Row) where
  abbrev tried : Constraint → Tried
  tried c = tried_by million constraints rows c

  abbrev Holds : Constraint → Row → Type 0
  Holds c row = is_under constraints c row ≡ true → has c.values row ≡ true

  least_met : (c : Constraint) (n : ℕ) → is_within million c n ≡ true → (c.least ≤ n) × (n ≤ c.most)
  least_met c n within = (grind (arith, within), grind (arith, within))

  met_within : (c : Constraint) (n : ℕ) → c.least ≤ n → n ≤ c.most → is_within million c n ≡ true
  met_within c n enough few = grind (arith, enough, few)

  meets : (c : Constraint) → is_kept_by (tried c) ≡ true → Meets constraints c rows
  meets c kept =
      let parts = and_parts _ _ kept in
      let limits = least_met c (count_of constraints c rows) parts.1 in
      record {
        in_values = All-weaker _ (Holds c) (λ row. holds_there (is_under constraints c row) (has c.values row)) rows (none_pass (breaks constraints c) rows (eqb-true _ 0 parts.0));
        enough = limits.0;
        not_more = limits.1;
      }

  keeps : (c : Constraint) → Meets constraints c rows → is_kept_by (tried c) ≡ true
  keeps c met =
      let none = pass_none (breaks constraints c) rows (All-weaker (Holds c) _ (λ row. fails_there (is_under constraints c row) (has c.values row)) rows met.in_values) in
      and_from _ _ (ap (λ (n : ℕ). n == 0) none) (met_within c (count_of constraints c rows) met.enough met.not_more)

  -- ---- all of them

  all_meet : is_kept (trial_of million constraints rows) ≡ true → All (λ c. Meets constraints c rows) constraints
  all_meet kept =
      All-weaker _ (λ c. Meets constraints c rows) meets constraints
      (AllPass-from_list_all (λ c. is_kept_by (tried c)) constraints (sym (list_all-map is_kept_by tried constraints) ∙ kept))

  all_kept : All (λ c. Meets constraints c rows) constraints → is_kept (trial_of million constraints rows) ≡ true
  all_kept met =
      list_all-map is_kept_by tried constraints
      ∙ list_all-from_AllPass (λ c. is_kept_by (tried c)) constraints (All-weaker (λ c. Meets constraints c rows) _ keeps constraints met)

  all_covered : under_none constraints rows ≡ 0 → AllPass (is_covered constraints) rows
  all_covered none = All-weaker _ _ (λ row. is_there (is_covered constraints row)) rows (none_pass (is_under_none constraints) rows none)

  none_uncovered : AllPass (is_covered constraints) rows → under_none constraints rows ≡ 0
  none_uncovered covered = pass_none (is_under_none constraints) rows (All-weaker _ _ (λ row. not_there (is_covered constraints row)) rows covered)

pub kept_tables_are_possible : (schema : Schema) (constraints : List Constraint) (rows : List Row) → AllPass (in_domain schema) rows
    → ((is_kept (trial_of million constraints rows) ≡ true) × ((trial_of million constraints rows).under_none ≡ 0)) ↔ IsPossible schema constraints rows
kept_tables_are_possible schema constraints rows own = (
  λ kept. record { allowed = own; covered = all_covered constraints rows kept.1; meets = all_meet constraints rows kept.0 },
  λ possible. (all_kept constraints rows possible.meets, none_uncovered constraints rows possible.covered),
)
