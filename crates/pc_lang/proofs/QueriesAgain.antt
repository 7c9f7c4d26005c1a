-- The canonical question of a query stands for that query.
use Rattle.std.proofs.Common.{◌≡◌, ◌≢◌, ℕ, zero, suc, ◌+◌, ◌-◌, ◌==◌, Bool, true, false, List, [], ◌∷◌, All, AllPairs, refl, ap, ◌∙◌, arith, Ok, Option, Some, None, slice_get, IsSomeAnd, IfSome}
use Rattle.std.proofs.lemmas.Bool.{ne_eqb}
use Rattle.std.proofs.lemmas.List.Elements.{All-head, All-tail}
use Rattle.pc_model.specs.declared.schema.Kind.{Kind}
use Rattle.pc_model.specs.declared.schema.Kind.TheVariants.{Int, Dec, Cat}
use Rattle.pc_model.specs.declared.schema.Column.{Column}
use Rattle.pc_model.specs.declared.schema.Schema.{Schema}
use Rattle.pc_model.specs.declared.query.Agg.{Agg}
use Rattle.pc_model.specs.declared.query.Agg.TheVariants as aggs
use Rattle.pc_model.specs.declared.query.Query.{Query}
use Rattle.pc_model.specs.Accepted.{HasNames, IsColumnWhere, IsNumeric, IsQuery, Measures}
use Rattle.pc_model.specs.WellFormed.{IsWellFormed}
use Rattle.pc_lang.specs.Canonical.{group_for, measure_for, name_at, question_for}
use Rattle.pc_lang.specs.Meaning.{grouping_of, has_names, is_numeric, measured, names_place, numeric_place, place_from, query_of}
use Rattle.pc_model.proofs.Lists.{AllPairs-head, AllPairs-tail, bytes_eq-other, bytes_eq-same}
use Rattle.pc_lang.proofs.AreasAgain.{chosen_again}

abbrev HaveOwnNames : Column → Column → Type 0
HaveOwnNames a b = a.name ≢ b.name

pub name_at-suc : (column : Column) (columns : List Column) (place : ℕ) → name_at (column ∷ columns) (suc place) ≡ name_at columns place
unfolding name_at
name_at-suc column columns place =
    let later : (suc place == 0) ≡ false = ne_eqb (suc place) 0 (λ none. omega (arith, none)) in
    let before : suc place - 1 ≡ place = omega arith in
    rw (later, before) refl

pub name_at-zero : (column : Column) (columns : List Column) → name_at (column ∷ columns) 0 ≡ column.name
unfolding name_at
name_at-zero column columns = refl

module _ (fits : Kind → Bool) (Fits : Kind → Type 0) (fit : (kind : Kind) → Fits kind → fits kind ≡ true) where
  FitsAt : List Column → ℕ → Type 0
  FitsAt columns place = IsSomeAnd (slice_get columns place) (λ (column : Column). Fits column.kind)

  other_name : (column : Column) (columns : List Column) (place : ℕ) → All (HaveOwnNames column) columns → FitsAt columns place → column.name ≢ name_at columns place
  unfolding FitsAt
  other_name column [] place own at = absurd at
  other_name column (next ∷ rest) zero own at = λ same. All-head (HaveOwnNames column) next rest own (same ∙ name_at-zero next rest)
  other_name column (next ∷ rest) (suc place) own at = λ same. other_name column rest place (All-tail (HaveOwnNames column) next rest own) at (same ∙ name_at-suc next rest place)

  place_from-here : (start : ℕ) (column : Column) (rest : List Column) → Fits column.kind → place_from fits start (column ∷ rest) column.name ≡ Ok start
  unfolding place_from
  place_from-here start column rest is = rw (bytes_eq-same column.name, fit column.kind is) refl

  place_from-later : (start : ℕ) (column : Column) (rest : List Column) (name : List ℕ) → column.name ≢ name → place_from fits start (column ∷ rest) name ≡ place_from fits (start + 1) rest name
  unfolding place_from
  place_from-later start column rest name other = rw (bytes_eq-other column.name name other) refl

  -- a column is found by its name
  place_again : (start : ℕ) (columns : List Column) (place : ℕ) → AllPairs HaveOwnNames columns → FitsAt columns place → place_from fits start columns (name_at columns place) ≡ Ok (start + place)
  unfolding FitsAt
  place_again start [] place own at = absurd at
  place_again start (column ∷ rest) zero own at =
      let here : start ≡ start + 0 = omega arith in
      rw (name_at-zero column rest) (place_from-here start column rest at ∙ ap (λ (n : ℕ). Ok n) here)
  place_again start (column ∷ rest) (suc place) own at =
      let further : start + 1 + place ≡ start + suc place = omega arith in
      rw (name_at-suc column rest place)
      (place_from-later start column rest (name_at rest place) (other_name column rest place (AllPairs-head HaveOwnNames column rest own) at)
      ∙ place_again (start + 1) rest place (AllPairs-tail HaveOwnNames column rest own) at
      ∙ ap (λ (n : ℕ). Ok n) further)

  place_of_name : (columns : List Column) (place : ℕ) → AllPairs HaveOwnNames columns → FitsAt columns place → place_from fits 0 columns (name_at columns place) ≡ Ok place
  place_of_name columns place own at = let same : 0 + place ≡ place = omega arith in place_again 0 columns place own at ∙ ap (λ (n : ℕ). Ok n) same

numeric_fits : (kind : Kind) → IsNumeric kind → is_numeric kind ≡ true
numeric_fits (Int low high) is = refl
numeric_fits (Dec scale low high) is = refl
numeric_fits (Cat names) is = absurd is

names_fit : (kind : Kind) → HasNames kind → has_names kind ≡ true
names_fit (Int low high) is = absurd is
names_fit (Dec scale low high) is = absurd is
names_fit (Cat names) is = refl

pub numeric_again : (schema : Schema) (place : ℕ) → IsWellFormed schema → IsColumnWhere IsNumeric schema place → numeric_place schema (name_at schema.columns place) ≡ Ok place
unfolding FitsAt
numeric_again schema place is at = place_of_name is_numeric IsNumeric numeric_fits schema.columns place is.columns.own_names at

names_again : (schema : Schema) (place : ℕ) → IsWellFormed schema → IsColumnWhere HasNames schema place → names_place schema (name_at schema.columns place) ≡ Ok place
unfolding FitsAt
names_again schema place is at = place_of_name has_names HasNames names_fit schema.columns place is.columns.own_names at

measured_again : (schema : Schema) (agg : Agg) (column : Option ℕ) → IsWellFormed schema → Measures schema agg column → measured schema (measure_for schema agg column) ≡ Ok (agg, column)
unfolding measured measure_for
measured_again schema aggs.Count column is none = rw none refl
measured_again schema aggs.Sum (Some place) is at = rw (numeric_again schema place is at) refl
measured_again schema aggs.Min (Some place) is at = rw (numeric_again schema place is at) refl
measured_again schema aggs.Max (Some place) is at = rw (numeric_again schema place is at) refl
measured_again schema aggs.Avg (Some place) is at = rw (numeric_again schema place is at) refl
measured_again schema aggs.Sum None is at = absurd at
measured_again schema aggs.Min None is at = absurd at
measured_again schema aggs.Max None is at = absurd at
measured_again schema aggs.Avg None is at = absurd at

grouped_again : (schema : Schema) (group : Option ℕ) → IsWellFormed schema → IfSome group (IsColumnWhere HasNames schema) → grouping_of schema (group_for schema group) ≡ Ok group
grouped_again schema None is at = refl
grouped_again schema (Some place) is at = rw (names_again schema place is at) refl

pub query_again : (schema : Schema) (q : Query) → IsWellFormed schema → IsQuery schema q → query_of schema (question_for schema q) ≡ Ok q
unfolding query_of question_for
query_again schema q is asked =
    rw (measured_again schema q.agg q.column is asked.measured, chosen_again schema q.chosen is asked.chosen, grouped_again schema q.group is asked.grouped) refl
