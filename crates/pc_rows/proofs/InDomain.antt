-- Each row that is read is in the domain.
use Rattle.std.proofs.Common.{◌≡◌, ◌∙◌, ℕ, ℤ, pos, ◌==◌, not, Bool, true, false, cond, length, drop, get_or, List, [], ◌∷◌, ◌++◌, Option, Some, None, Result, Ok, Err, refl, sym, ◌+◌, lt-ltb, arith}
use Rattle.std.specs.Prelude.{IfOk, nat_le, position}
use Rattle.std.specs.Cmp.Lexicographic.{pointwise}
use Rattle.std.specs.List.{AllPass}
use Rattle.std.specs.Str.{bytes_eq}
use Rattle.std.proofs.lemmas.List.{append-nil, append_assoc}
use Rattle.std.proofs.lemmas.List.Elements.{All-push}
use Rattle.std.proofs.lemmas.List.Quantifiers.{position-Some}
use Rattle.csv.specs.Reading.{default_config, records, strip_bom}
use Rattle.pc_model.specs.declared.fault.FileKind.TheVariants as files
use Rattle.pc_model.specs.declared.fault.Fault.{Fault}
use Rattle.pc_model.specs.declared.fault.Reason.{Reason}
use Rattle.pc_model.specs.declared.fault.Reason.TheVariants as reasons
use Rattle.pc_model.specs.declared.fault.ReadStop.{ReadStop}
use Rattle.pc_model.specs.declared.fault.Refusal.{Refusal}
use Rattle.pc_model.specs.declared.row.Row.{Row}
use Rattle.pc_model.specs.declared.schema.Kind.{Kind}
use Rattle.pc_model.specs.declared.schema.Kind.TheVariants.{Int, Dec, Cat}
use Rattle.pc_model.specs.declared.schema.Column.{Column}
use Rattle.pc_model.specs.declared.schema.Schema.{Schema}
use Rattle.pc_model.specs.Membership.{allows, in_domain, is_between, row_from as row}
use Rattle.pc_model.specs.Places.{is_below}
use Rattle.pc_model.specs.Numbers.{number_of}
use Rattle.pc_model.specs.Refusals.{◌>>=◌, Answers, Gives, fault_at, placed}
use Rattle.pc_model.specs.Texts.{text_of}
use Rattle.pc_rows.specs.Stored.{row_limit}
use Rattle.pc_records.specs.Fields.{field}
use Rattle.pc_rows.specs.Record.{only_record, places_below, row_of}
use Rattle.pc_rows.specs.RowFile.{without_spaces, in_span, place_number, cell_of, cells_from, cells_of, cells_at, places_from, rows_from, rows_under, rows_of}

-- one number per column, each allowed by its kind
abbrev pub Allowed : List Column → List ℤ → Type 0
Allowed columns cells = pointwise (λ (column : Column). allows column.kind) columns cells ≡ true

in_between : (low high cell : ℤ) (number : Result ℤ Reason) → (number >>= in_span low high) ≡ Ok cell → is_between low high cell ≡ true
in_between low high cell (Err reason) found = cc
in_between low high cell (Ok number) found = chosen (is_between low high number) refl found
  where
    chosen : (b : Bool) → is_between low high number ≡ b → cond b (Ok number) (Err reasons.OutsideDomain) ≡ Ok cell → is_between low high cell ≡ true
    chosen true e is = let same : number ≡ cell = cc in rw (← same) e
    chosen false e is = cc

place_below : (names : List (List ℕ)) (text : List ℕ) (cell : ℤ) (place : Option ℕ) → position (bytes_eq text) names ≡ place → place_number place ≡ Ok cell → is_below (length names) cell ≡ true
place_below names text cell None e found = cc
place_below names text cell (Some place) e found =
    let same : pos place ≡ cell = cc in
    rw (← same) (lt-ltb _ _ (position-Some (bytes_eq text) names place [] e).0)

cell_allowed : (kind : Kind) (text : List ℕ) (cell : ℤ) → cell_of kind text ≡ Ok cell → allows kind cell ≡ true
unfolding cell_of allows
cell_allowed (Int low high) text cell found = in_between low high cell (number_of 0 (without_spaces text)) found
cell_allowed (Dec scale low high) text cell found = in_between low high cell (number_of scale (without_spaces text)) found
cell_allowed (Cat names) text cell found = place_below names text cell (position (bytes_eq text) names) refl found

-- the numbers after those before
abbrev Added : List Column → List ℤ → List ℤ → Type 0
Added columns before cells = (more : List ℤ) × (cells ≡ before ++ more) × Allowed columns more

one_added : (column : Column) (columns : List Column) (before cells : List ℤ) (found : Result ℤ Reason) (go : ℤ → Result (List ℤ) Reason) → ((cell : ℤ) → found ≡ Ok cell → allows column.kind cell ≡ true) → ((cell : ℤ) → go cell ≡ Ok cells → Added columns (before ++ cell ∷ []) cells) → (found >>= go) ≡ Ok cells → Added (column ∷ columns) before cells
one_added column columns before cells (Err reason) go allowed goes e = cc
one_added column columns before cells (Ok cell) go allowed goes e =
    let rest = goes cell e in
    (cell ∷ rest.0, rest.1 ∙ append_assoc before (cell ∷ []) rest.0, rw (allowed cell refl, rest.2) refl)

cells_added : (columns : List Column) (before : List ℤ) (places : List ℕ) (fields : List (List ℕ)) (cells : List ℤ) → cells_from before columns places fields ≡ Ok cells → Added columns before cells
unfolding cells_from
cells_added [] before places fields cells found = let same : before ≡ cells = cc in ([], sym same ∙ sym (append-nil before), refl)
cells_added (column ∷ columns) before places fields cells found =
    one_added column columns before cells (cell_of column.kind (field fields (get_or places 0 0))) (λ cell. cells_from (before ++ cell ∷ []) columns (drop 1 places) fields) (cell_allowed column.kind (field fields (get_or places 0 0)))
    (λ cell. cells_added columns (before ++ cell ∷ []) (drop 1 places) fields cells) found

cells_allowed : (columns : List Column) (places : List ℕ) (width : ℕ) (fields : List (List ℕ)) (cells : List ℤ) → cells_of columns places width fields ≡ Ok cells → Allowed columns cells
unfolding cells_of
cells_allowed columns places width fields cells found = chosen (not (length fields == width)) found
  where
    chosen : (b : Bool) → cond b (Err reasons.FieldCount) (cells_from [] columns places fields) ≡ Ok cells → Allowed columns cells
    chosen true e = cc
    chosen false e = let added = cells_added columns [] places fields cells e in rw added.1 added.2

placed_allowed : (columns : List Column) (cells : List ℤ) (place : ℕ) (found : Result (List ℤ) Reason) → ((given : List ℤ) → found ≡ Ok given → Allowed columns given) → placed files.Rows place found ≡ Ok cells → Allowed columns cells
placed_allowed columns cells place (Err reason) allowed e = cc
placed_allowed columns cells place (Ok given) allowed e = let same : given ≡ cells = cc in rw (← same) (allowed given refl)

row_allowed : (columns : List Column) (places : List ℕ) (width count : ℕ) (fields : List (List ℕ)) (cells : List ℤ) → cells_at columns places width count fields ≡ Ok cells → Allowed columns cells
unfolding cells_at
row_allowed columns places width count fields cells found = chosen (nat_le row_limit count) found
  where
    chosen : (b : Bool) → cond b (Err (fault_at files.Rows (count + 2) reasons.TooMany)) (placed files.Rows (count + 2) (cells_of columns places width fields)) ≡ Ok cells → Allowed columns cells
    chosen true e = cc
    chosen false e = placed_allowed columns cells (count + 2) (cells_of columns places width fields) (cells_allowed columns places width fields) e

-- a row more that is in the domain
one_more : (schema : Schema) (before rows : List Row) (found : Result (List ℤ) Fault) (go : List ℤ → Result (List Row) Fault) → ((cells : List ℤ) → found ≡ Ok cells → Allowed schema.columns cells) → ((cells : List ℤ) → AllPass (in_domain schema) (before ++ row cells ∷ []) → go cells ≡ Ok rows → AllPass (in_domain schema) rows) → AllPass (in_domain schema) before → (found >>= go) ≡ Ok rows → AllPass (in_domain schema) rows
unfolding in_domain
one_more schema before rows (Err fault) go allowed goes inside e = cc
one_more schema before rows (Ok cells) go allowed goes inside e = goes cells (All-push (λ (other : Row). in_domain schema other ≡ true) before (row cells) inside (allowed cells refl)) e

rows_inside : (schema : Schema) (places : List ℕ) (width : ℕ) (table : List (List (List ℕ))) (before rows : List Row) → AllPass (in_domain schema) before → rows_from schema.columns places width before table ≡ Ok rows → AllPass (in_domain schema) rows
unfolding rows_from
rows_inside schema places width [] before rows inside found = let same : before ≡ rows = cc in rw (← same) inside
rows_inside schema places width (fields ∷ rest) before rows inside found =
    one_more schema before rows (cells_at schema.columns places width (length before) fields) (λ cells. rows_from schema.columns places width (before ++ row cells ∷ []) rest) (row_allowed schema.columns places width (length before) fields)
    (λ cells. rows_inside schema places width rest (before ++ row cells ∷ []) rows) inside found

after_header : (schema : Schema) (width : ℕ) (rest : List (List (List ℕ))) (rows : List Row) (places : Result (List ℕ) Fault) → (places >>= (λ places. rows_from schema.columns places width [] rest)) ≡ Ok rows → AllPass (in_domain schema) rows
after_header schema width rest rows (Err fault) e = cc
after_header schema width rest rows (Ok places) e = rows_inside schema places width rest [] rows (λ k d below. absurd (omega arith)) e

table_inside : (schema : Schema) (table : List (List (List ℕ))) (rows : List Row) → rows_under schema.columns table ≡ Ok rows → AllPass (in_domain schema) rows
unfolding rows_under
table_inside schema [] rows found = cc
table_inside schema (header ∷ rest) rows found = after_header schema (length header) rest rows (placed files.Rows 1 (places_from [] schema.columns header)) found

text_inside : (schema : Schema) (rows : List Row) (text : Result (List ℕ) Fault) → (text >>= (λ text. rows_under schema.columns (records default_config (strip_bom text)))) ≡ Ok rows → AllPass (in_domain schema) rows
text_inside schema rows (Err fault) e = cc
text_inside schema rows (Ok text) e = table_inside schema (records default_config (strip_bom text)) rows e

file_inside : (schema : Schema) (bytes : List ℕ) (rows : List Row) → rows_of schema bytes ≡ Ok rows → AllPass (in_domain schema) rows
unfolding rows_of
file_inside schema bytes rows found = text_inside schema rows (placed files.Rows 0 (text_of bytes)) found

pub read_in_domain : (schema : Schema) (bytes : List ℕ) (result : Result (List Row) Refusal) → Gives result (rows_of schema bytes) → IfOk result (AllPass (in_domain schema))
read_in_domain schema bytes (Ok rows) gives = file_inside schema bytes rows gives
read_in_domain schema bytes (Err refusal) gives = tt

-- a row of one record is
record_allowed : (schema : Schema) (found : Row) (fields : Result (List (List ℕ)) Reason) → (fields >>= (λ fields. cells_of schema.columns (places_below (length schema.columns)) (length schema.columns) fields >>= λ cells. Ok (row cells))) ≡ Ok found → in_domain schema found ≡ true
unfolding in_domain
record_allowed schema found (Err reason) e = cc
record_allowed schema found (Ok fields) e = of_cells (cells_of schema.columns (places_below (length schema.columns)) (length schema.columns) fields) refl e
  where
    of_cells : (cells : Result (List ℤ) Reason) → cells_of schema.columns (places_below (length schema.columns)) (length schema.columns) fields ≡ cells → (cells >>= λ cells. Ok (row cells)) ≡ Ok found → in_domain schema found ≡ true
    of_cells (Err reason) is e = cc
    of_cells (Ok cells) is e =
        let same : row cells ≡ found = cc in
        rw (← same) (cells_allowed schema.columns (places_below (length schema.columns)) (length schema.columns) fields cells is)

pub record_in_domain : (schema : Schema) (bytes : List ℕ) (result : Result Row ReadStop) → Answers result (row_of schema bytes) → IfOk result (λ found. in_domain schema found ≡ true)
unfolding row_of
record_in_domain schema bytes (Ok found) answers = record_allowed schema found (only_record (records default_config (strip_bom bytes))) answers
record_in_domain schema bytes (Err stop) answers = tt
