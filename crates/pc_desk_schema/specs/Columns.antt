-- Which column a name of the header begins, or why it begins none.
use Rattle.std.specs.Prelude.{ℕ, ◌+◌, not, List, drop, map, Option, Some, None, is_some, Result, Ok, Err, if◌then◌else◌}
use Rattle.pc_model.specs.declared.schema.Kind.{Kind}
use Rattle.pc_model.specs.declared.schema.Column.{Column}
use Rattle.pc_model.specs.Texts.{is_name}
use Rattle.pc_records.specs.Fields.{field}
use Rattle.pc_rows.specs.RowFile.{place_from}
use Rattle.pc_schema.specs.SchemaFile.{is_taken}
use Rattle.pc_desk_schema.specs.declared.column.Fitted.{Fitted}
use Rattle.pc_desk_schema.specs.declared.said.Said.{Said}
use Rattle.pc_desk_schema.specs.declared.said.Said.TheVariants as saids
use Rattle.pc_desk_schema.specs.Fits.{fit_of, zero_of}

-- the fields of records at a place
abbrev pub texts_at : ℕ → List (List (List ℕ)) → List (List ℕ)
texts_at place rows = map (λ (fields : List (List ℕ)). field fields place) rows

abbrev pub only_place : List ℕ → List (List ℕ) → Option ℕ → Option ℕ
only_place name header None = None
only_place name header (Some place) = if is_some (place_from (place + 1) name (drop (place + 1) header)) then None else Some place

-- where the name stands in the header, if it stands there once
unfoldable pub place_of : List ℕ → List (List ℕ) → Option ℕ
place_of name header = only_place name header (place_from 0 name header)

abbrev pub with_kind : List ℕ → List (List ℕ) → Result Kind Said → Result Fitted Said
with_kind name texts (Ok kind) = Ok (record { column = record { name = name; kind = kind }; zero = zero_of texts kind })
with_kind name texts (Err why) = Err why

abbrev pub fitted_over : List ℕ → List (List ℕ) → Result Fitted Said
fitted_over name texts = with_kind name texts (fit_of texts)

abbrev pub fitted_at : List ℕ → List (List (List ℕ)) → Option ℕ → Result Fitted Said
fitted_at name rows None = Err saids.Repeated
fitted_at name rows (Some place) = fitted_over name (texts_at place rows)

-- the column of a name over these rows, beside these columns
unfoldable pub column_of : List (List ℕ) → List (List (List ℕ)) → List Column → List ℕ → Result Fitted Said
column_of header rows columns name =
    if not (is_name name) then Err saids.BadName
    else if is_taken columns name then Err saids.Repeated
    else fitted_at name rows (place_of name header)
