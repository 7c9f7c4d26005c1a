-- A question stands for a query that is well-formed.
use Rattle.std.proofs.Common.{◌≡◌, ℕ, suc, ◌+◌, Bool, true, false, true≢false, if◌then◌else◌, List, [], ◌∷◌, bytes_eq, Option, Some, None, Result, Ok, Err, IfOk, refl, sym, subst, arith}
use Rattle.std.specs.Prelude.{slice_get, IsSomeAnd, IfSome}
use Rattle.pc_model.specs.declared.fault.Reason.{Reason}
use Rattle.pc_model.specs.declared.fault.Reason.TheVariants as reasons
use Rattle.pc_model.specs.declared.fault.ReadStop.{ReadStop}
use Rattle.pc_model.specs.declared.schema.Kind.{Kind}
use Rattle.pc_model.specs.declared.schema.Kind.TheVariants.{Int, Dec, Cat}
use Rattle.pc_model.specs.declared.schema.Column.{Column}
use Rattle.pc_model.specs.declared.schema.Schema.{Schema}
use Rattle.pc_model.specs.declared.area.Area.{Area}
use Rattle.pc_model.specs.declared.query.Agg.{Agg}
use Rattle.pc_model.specs.declared.query.Agg.TheVariants as aggs
use Rattle.pc_model.specs.declared.query.Query.{Query}
use Rattle.pc_model.specs.Accepted.{HasNames, IsColumnWhere, IsNumeric, IsQuery, Measures}
use Rattle.pc_model.specs.Boxes.{IsAreaOf}
use Rattle.pc_model.specs.Refusals.{◌>>=◌, Answers}
use Rattle.pc_model.specs.Regions.{whole_area}
use Rattle.pc_model.specs.WellFormed.{IsWellFormed}
use Rattle.pc_lang_grammar.specs.declared.syntax.Ways.{Ways}
use Rattle.pc_lang_grammar.specs.declared.syntax.Measure.{Measure}
use Rattle.pc_lang_grammar.specs.declared.syntax.Measure.TheVariants as measures
use Rattle.pc_lang_grammar.specs.declared.syntax.Question.{Question}
use Rattle.pc_lang.specs.Meaning.{chosen_of, grouping_of, has_names, is_numeric, measured, names_place, numeric_place, of_column, place_from, query, query_of, some_place}
use Rattle.pc_lang.proofs.Bound.{bound, granted}
use Rattle.pc_model.proofs.Areas.{whole_is_area}
use Rattle.pc_lang.proofs.AreasOfParts.{is_area}

-- a place among these columns, counted from a number, of a column of such a kind
abbrev Within : (Kind → Type 0) → ℕ → List Column → ℕ → Type 0
Within Fits start columns place = (k : ℕ) × (place ≡ start + k) × IsSomeAnd (slice_get columns k) (λ (column : Column). Fits column.kind)

by_name : (fits : Kind → Bool) (Fits : Kind → Type 0) → ((kind : Kind) → fits kind ≡ true → Fits kind) → (start : ℕ) (column : Column) (columns : List Column) (name : List ℕ) (place : ℕ) (test : Bool) →
    (if test then (if fits column.kind then Ok start else Err reasons.WrongKind) else place_from fits (start + 1) columns name) ≡ Ok place →
    (place_from fits (start + 1) columns name ≡ Ok place → Within Fits (start + 1) columns place) → Within Fits start (column ∷ columns) place
by_name fits Fits mean start column columns name place true e rest =
    let p = granted (fits column.kind) reasons.WrongKind (Ok start) place e in
    let same : start ≡ place = (let is = p.1 in cc) in
    (0, omega (arith, same), mean column.kind p.0)
by_name fits Fits mean start column columns name place false e rest =
    let later = rest e in
    (suc later.0, omega (arith, later.1), later.2)

place_within : (fits : Kind → Bool) (Fits : Kind → Type 0) → ((kind : Kind) → fits kind ≡ true → Fits kind) → (start : ℕ) (columns : List Column) (name : List ℕ) (place : ℕ) → place_from fits start columns name ≡ Ok place → Within Fits start columns place
unfolding place_from
place_within fits Fits mean start [] name place e = cc
place_within fits Fits mean start (column ∷ columns) name place e =
    by_name fits Fits mean start column columns name place (bytes_eq column.name name) e (place_within fits Fits mean (start + 1) columns name place)

place_is : (fits : Kind → Bool) (Fits : Kind → Type 0) → ((kind : Kind) → fits kind ≡ true → Fits kind) → (schema : Schema) (name : List ℕ) (place : ℕ) → place_from fits 0 schema.columns name ≡ Ok place → IsColumnWhere Fits schema place
place_is fits Fits mean schema name place e =
    let found = place_within fits Fits mean 0 schema.columns name place e in
    let same : found.0 ≡ place = omega (arith, found.1) in
    subst (IsColumnWhere Fits schema) same found.2

are_numeric : (kind : Kind) → is_numeric kind ≡ true → IsNumeric kind
are_numeric (Int low high) e = tt
are_numeric (Dec scale low high) e = tt
are_numeric (Cat names) e = true≢false (sym e)

have_names : (kind : Kind) → has_names kind ≡ true → HasNames kind
have_names (Int low high) e = true≢false (sym e)
have_names (Dec scale low high) e = true≢false (sym e)
have_names (Cat names) e = tt

pub is_column : (schema : Schema) (name : List ℕ) (place : ℕ) → numeric_place schema name ≡ Ok place → IsColumnWhere IsNumeric schema place
is_column schema name place e = place_is is_numeric IsNumeric are_numeric schema name place e

-- an aggregate other than a count
abbrev IsOfNumbers : Schema → Agg → Agg × Option ℕ → Type 0
IsOfNumbers schema agg measure = (measure.0 ≡ agg) × IsSomeAnd measure.1 (IsColumnWhere IsNumeric schema)

of_numbers : (schema : Schema) (agg : Agg) (name : List ℕ) (measure : Agg × Option ℕ) → (numeric_place schema name >>= of_column agg) ≡ Ok measure → IsOfNumbers schema agg measure
of_numbers schema agg name measure e =
    let b = bound (of_column agg) (numeric_place schema name) measure e in
    let same : (agg, Some b.value) ≡ measure = (let gives = b.gives in cc) in
    subst (IsOfNumbers schema agg) same (refl, is_column schema name b.value b.is)

abbrev IsMeasure : Schema → Agg × Option ℕ → Type 0
IsMeasure schema measure = Measures schema measure.0 measure.1

is_measure : (schema : Schema) (measure : Measure) (found : Agg × Option ℕ) → measured schema measure ≡ Ok found → IsMeasure schema found
unfolding measured
is_measure schema measures.Count found e = let same : (aggs.Count, None) ≡ found = cc in subst (IsMeasure schema) same refl
is_measure schema measures.CountOfAll found e = let same : (aggs.Count, None) ≡ found = cc in subst (IsMeasure schema) same refl
is_measure schema (measures.Sum name) found e = let p = of_numbers schema aggs.Sum name found e in rw p.0 p.1
is_measure schema (measures.Min name) found e = let p = of_numbers schema aggs.Min name found e in rw p.0 p.1
is_measure schema (measures.Max name) found e = let p = of_numbers schema aggs.Max name found e in rw p.0 p.1
is_measure schema (measures.Avg name) found e = let p = of_numbers schema aggs.Avg name found e in rw p.0 p.1

pub is_chosen : (schema : Schema) (ways : Option Ways) (found : Area) → IsWellFormed schema → chosen_of schema ways ≡ Ok found → IsAreaOf schema found
is_chosen schema None found formed e = let same : whole_area schema ≡ found = cc in subst (IsAreaOf schema) same (whole_is_area schema formed)
is_chosen schema (Some ways) found formed e = is_area schema ways found formed e

is_group : (schema : Schema) (name : Option (List ℕ)) (group : Option ℕ) → grouping_of schema name ≡ Ok group → IfSome group (IsColumnWhere HasNames schema)
is_group schema None group e = let same : None ≡ group = cc in subst (λ (g : Option ℕ). IfSome g (IsColumnWhere HasNames schema)) same tt
is_group schema (Some name) group e =
    let b = bound some_place (names_place schema name) group e in
    let same : Some b.value ≡ group = (let gives = b.gives in cc) in
    subst (λ (g : Option ℕ). IfSome g (IsColumnWhere HasNames schema)) same (place_is has_names HasNames have_names schema name b.value b.is)

abbrev after_chosen : Schema → Question → Agg × Option ℕ → Area → Result Query Reason
after_chosen schema question measure chosen = grouping_of schema question.group >>= query measure chosen

abbrev after_measure : Schema → Question → Agg × Option ℕ → Result Query Reason
after_measure schema question measure = chosen_of schema question.chosen >>= after_chosen schema question measure

pub is_query : (schema : Schema) (question : Question) (found : Query) → IsWellFormed schema → query_of schema question ≡ Ok found → IsQuery schema found
unfolding query_of
is_query schema question found formed e =
    let measure = bound (after_measure schema question) (measured schema question.measure) found e in
    let chosen = bound (after_chosen schema question measure.value) (chosen_of schema question.chosen) found measure.gives in
    let group = bound (query measure.value chosen.value) (grouping_of schema question.group) found chosen.gives in
    let made : Query = record { agg = measure.value.0; column = measure.value.1; chosen = chosen.value; group = group.value } in
    let same : made ≡ found = (let gives = group.gives in cc) in
    subst (λ (q : Query). IsQuery schema q) same (record {
      chosen = is_chosen schema question.chosen chosen.value formed chosen.is;
      measured = is_measure schema question.measure measure.value measure.is;
      grouped = is_group schema question.group group.value group.is;
    })

pub question_is_query : (schema : Schema) (question : Question) (result : Result Query ReadStop) → IsWellFormed schema → Answers result (query_of schema question) → IfOk result (IsQuery schema)
question_is_query schema question (Ok query) formed e = is_query schema question query formed e
question_is_query schema question (Err stop) formed e = tt
