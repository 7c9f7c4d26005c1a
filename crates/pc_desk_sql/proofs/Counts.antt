-- A statement counts what is to be counted.
use Rattle.std.proofs.Common.{◌≡◌, ◌∙◌, ℕ, ◌+◌, ℤ, Bool, false, cond, not, is_none, is_some, List, [], ◌∷◌, All, Option, Some, None, count_by, length, map, refl, sym, ap, ap₂, subst, arith}
use Rattle.std.specs.List.{cons_option}
use Rattle.std.specs.Option.{option_map}
use Rattle.std.proofs.lemmas.List.Elements.{All-head, All-tail}
use Rattle.pc_model.specs.declared.constraint.Constraint.{Constraint}
use Rattle.pc_model.specs.declared.row.Row.{Row}
use Rattle.pc_model.specs.declared.schema.Schema.{Schema}
use Rattle.pc_model.specs.Boxes.{IsServable}
use Rattle.pc_model.specs.Membership.{is_under, row_from}
use Rattle.pc_model.specs.WellFormed.{IsWellFormed}
use Rattle.pc_model.proofs.Tallies.{count_by-cons}
use Rattle.pc_desk_sql.proofs.Fields.{Tells}
use Rattle.pc_desk_sql.proofs.Truth.{broken_tells, own_tells, under_tells}
use Rattle.pc_desk_sql.specs.Holding.{Counted, answers, breaks, counted, holds, is_counted, is_foreign, is_told, is_true, line_counts, wanted}
use Rattle.pc_desk_sql.specs.Statement.{broken_of, line_of, statement_of}
use Rattle.pc_desk_sql.specs.Tests.{known, under_of}
use Rattle.pc_desk_sql.specs.Values.{Fields, cells_in, rows_in, values_of}

abbrev numbers : ℕ → ℕ → Counted
numbers rows broken = record { rows = rows; broken = broken }

-- ---- numbers of rows

same_counts : {X : Type 0} (test other : X → Bool) → ((x : X) → test x ≡ other x) → (xs : List X) → count_by test xs ≡ count_by other xs
same_counts test other same [] = refl
same_counts test other same (x ∷ xs) =
    count_by-cons test x xs ∙ ap₂ (λ (here : Bool) (later : ℕ). cond here 1 0 + later) (same x) (same_counts test other same xs) ∙ sym (count_by-cons other x xs)

module _ (test : Row → Bool) where
  abbrev of_cells : List ℤ → Bool
  of_cells cells = test (row_from cells)

  one_more : (found : Option (List ℤ)) (held : Option Bool) (rows : List Row) (count : ℕ) → Tells of_cells found held → count ≡ count_by test rows
      → cond (is_true held) 1 0 + count ≡ count_by test (cons_option (option_map row_from found) rows)
  one_more None held rows count tells e = ap₂ (λ (here : Bool) (later : ℕ). cond here 1 0 + later) tells e ∙ nothing_more (count_by test rows)
    where
      nothing_more : (n : ℕ) → 0 + n ≡ n
      nothing_more n = omega arith
  one_more (Some cells) held rows count tells e =
      ap₂ (λ (here : Bool) (later : ℕ). cond here 1 0 + later) (ap is_true tells) e ∙ sym (count_by-cons test (row_from cells) rows)

  rows_counted : (schema : Schema) (held : Fields → Option Bool) → ((fields : Fields) → Tells of_cells (cells_in schema.columns fields) (held fields))
      → (table : List Fields) → count_by (λ fields. is_true (held fields)) table ≡ count_by test (rows_in schema table)
  rows_counted schema held tells [] = refl
  rows_counted schema held tells (fields ∷ table) =
      count_by-cons (λ fields. is_true (held fields)) fields table
      ∙ one_more (cells_in schema.columns fields) (held fields) (rows_in schema table) (count_by (λ fields. is_true (held fields)) table) (tells fields) (rows_counted schema held tells table)

-- ---- a row with a field that is no value of its column

not_some : (found : Option (List ℤ)) → not (is_some found) ≡ is_none found
not_some None = refl
not_some (Some cells) = refl

pub foreign_are_told : (schema : Schema) (fields : Fields) → is_told schema.columns (known schema.columns) fields ≡ is_foreign schema fields
foreign_are_told schema fields = ap (λ held. not (is_true held)) (own_tells schema.columns fields) ∙ not_some (cells_in schema.columns fields)

pub foreign_are_under_none : (schema : Schema) (constraints : List Constraint) (fields : Fields) (c : Constraint) → IsWellFormed schema → All (IsServable schema) constraints → IsServable schema c
    → cells_in schema.columns fields ≡ None → is_counted schema.columns (under_of schema.columns constraints c.when) fields ≡ false
foreign_are_under_none schema constraints fields c formed servable is none =
    subst (λ found. Tells (λ cells. is_under constraints c (row_from cells)) found (holds (under_of schema.columns constraints c.when) (values_of schema.columns fields))) none
    (under_tells schema formed.columns.all fields constraints c.when servable is.when_area)

-- ---- the whole

module _ (schema : Schema) (formed : IsWellFormed schema) (all : List Constraint) (servable : All (IsServable schema) all) (table : List Fields) where
  line_counted : (c : Constraint) → IsServable schema c → line_counts schema.columns table (line_of schema.columns all c) ≡ counted all (rows_in schema table) c
  line_counted c is =
      ap₂ (λ (rows broken : ℕ). numbers rows broken)
      (rows_counted (is_under all c) schema (λ fields. holds (under_of schema.columns all c.when) (values_of schema.columns fields)) (λ fields. under_tells schema formed.columns.all fields all c.when servable is.when_area) table)
      (rows_counted (breaks all c) schema (λ fields. holds (broken_of schema.columns all c) (values_of schema.columns fields)) (λ fields. broken_tells schema formed.columns.all fields all c servable is) table)

  lines_counted : (constraints : List Constraint) → All (IsServable schema) constraints
      → map (line_counts schema.columns table) (map (line_of schema.columns all) constraints) ≡ map (counted all (rows_in schema table)) constraints
  lines_counted [] each = refl
  lines_counted (c ∷ constraints) each =
      ap₂ (λ (here : Counted) (later : List Counted). here ∷ later) (line_counted c (All-head (IsServable schema) c constraints each)) (lines_counted constraints (All-tail (IsServable schema) c constraints each))

pub statement_counts_as_try : (schema : Schema) (constraints : List Constraint) (table : List Fields) → IsWellFormed schema → All (IsServable schema) constraints
    → answers (statement_of schema constraints) table ≡ wanted schema constraints table
statement_counts_as_try schema constraints table formed servable =
    ap₂ (λ (here : Counted) (later : List Counted). here ∷ later)
    (ap (λ (broken : ℕ). numbers (length table) broken) (same_counts _ _ (foreign_are_told schema) table))
    (lines_counted schema formed constraints servable table constraints servable)
