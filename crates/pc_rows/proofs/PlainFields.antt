-- The plain fields of rows are read as those rows.
use Rattle.std.proofs.Common.{◌≡◌, ◌∙◌, ℕ, ℤ, ◌+◌, ◌==◌, ◌<◌, ◌≤◌, List, [], ◌∷◌, ◌++◌, length, get_or, map, All, true, false, nat_le, Ok, refl, sym, ap, arith, length-append, append_assoc}
use Rattle.std.specs.Cmp.Lexicographic.{pointwise}
use Rattle.std.specs.List.{AllPass}
use Rattle.std.proofs.lemmas.Bool.{and_parts, eq-eqb, false≢true}
use Rattle.std.proofs.lemmas.Bool.Decides.{nat_tests}
use Rattle.std.proofs.lemmas.List.{append-nil, length-map}
use Rattle.std.proofs.lemmas.List.Elements.{All-tail}
use Rattle.std.proofs.Math.Seq.{get_or-append_seam}
use Rattle.csv.specs.Reading.{strip_bom}
use Rattle.pc_model.specs.declared.row.Row.{Row}
use Rattle.pc_model.specs.declared.schema.Column.{Column}
use Rattle.pc_model.specs.declared.schema.Schema.{Schema}
use Rattle.pc_model.specs.Membership.{allows, in_domain, row_from as row}
use Rattle.pc_model.specs.WellFormed.{IsColumn}
use Rattle.pc_records.proofs.PlainLines.{records_of_lines}
use Rattle.pc_rows.specs.Plain.{SpellsByLines, SpellsPlainly, cell_field, header_fields, row_fields}
use Rattle.pc_rows.specs.RowFile.{cells_at, cells_from, cells_of, rows_from, rows_of, rows_under}
use Rattle.pc_rows.specs.Stored.{row_limit}
use Rattle.pc_rows.proofs.InDomain.{Allowed}
use Rattle.pc_rows.proofs.PlainCells.{cell_again}
use Rattle.pc_rows.proofs.PlainHeader.{places_again, places_at}

pub fields_length : (columns : List Column) (cells : List ℤ) → Allowed columns cells → length (row_fields columns cells) ≡ length columns
unfolding row_fields
fields_length [] cells allowed = refl
fields_length (column ∷ columns) [] allowed = absurd (false≢true allowed)
fields_length (column ∷ columns) (cell ∷ cells) allowed =
    omega (arith, fields_length columns cells (and_parts (allows column.kind cell) (pointwise (λ (other : Column). allows other.kind) columns cells) allowed).1)

row_fields-cons : (column : Column) (columns : List Column) (cell : ℤ) (cells : List ℤ) → row_fields (column ∷ columns) (cell ∷ cells) ≡ cell_field column.kind cell ∷ row_fields columns cells
unfolding row_fields
row_fields-cons column columns cell cells = refl

cells_again : (columns : List Column) (before cells : List ℤ) (first fields : List (List ℕ)) (place : ℕ) → fields ≡ first ++ row_fields columns cells → place ≡ length first → All IsColumn columns → Allowed columns cells → cells_from before columns (places_at place columns) fields ≡ Ok (before ++ cells)
unfolding cells_from
cells_again [] before [] first fields place e at all allowed = rw (append-nil before) refl
cells_again [] before (cell ∷ cells) first fields place e at all allowed = absurd (false≢true allowed)
cells_again (column ∷ columns) before [] first fields place e at all allowed = absurd (false≢true allowed)
cells_again (column ∷ columns) before (cell ∷ cells) first fields place e at all allowed =
    let parts = and_parts (allows column.kind cell) (pointwise (λ (other : Column). allows other.kind) columns cells) allowed in
    let own = cell_field column.kind cell in
    let split : fields ≡ first ++ own ∷ row_fields columns cells = e ∙ ap (λ (more : List (List ℕ)). first ++ more) (row_fields-cons column columns cell cells) in
    let here : get_or fields place [] ≡ own = rw (split, at) (get_or-append_seam first own (row_fields columns cells) []) in
    let is : IsColumn column = all 0 column (omega arith) in
    rw (here, cell_again column.kind cell is.kind parts.0)
    (cells_again columns (before ++ cell ∷ []) cells (first ++ own ∷ []) fields (place + 1) (split ∙ sym (append_assoc first (own ∷ []) (row_fields columns cells))) (omega (arith, at, length-append first (own ∷ []))) (All-tail IsColumn column columns all) parts.1
    ∙ ap Ok (append_assoc before (cell ∷ []) cells))

row_again : (columns : List Column) (cells : List ℤ) (width count : ℕ) → width ≡ length columns → count < row_limit → All IsColumn columns → Allowed columns cells → cells_at columns (places_at 0 columns) width count (row_fields columns cells) ≡ Ok cells
unfolding cells_at cells_of
row_again columns cells width count wide few all allowed =
    let room : nat_le row_limit count ≡ false = grind (arith, nat_tests) in
    let full : (length (row_fields columns cells) == width) ≡ true = eq-eqb _ _ (fields_length columns cells allowed ∙ sym wide) in
    rw (room, full, cells_again columns [] cells [] (row_fields columns cells) 0 refl refl all allowed) refl

pub allowed_row : (schema : Schema) (own : Row) → in_domain schema own ≡ true → Allowed schema.columns own.cells
unfolding in_domain
allowed_row schema own inside = inside

rows_again : (schema : Schema) (rows before : List Row) (width : ℕ) → width ≡ length schema.columns → All IsColumn schema.columns → AllPass (in_domain schema) rows → length before + length rows ≤ row_limit → rows_from schema.columns (places_at 0 schema.columns) width before (map (λ (own : Row). row_fields schema.columns own.cells) rows) ≡ Ok (before ++ rows)
unfolding rows_from
rows_again schema [] before width wide all inside few = rw (append-nil before) refl
rows_again schema (own ∷ rows) before width wide all inside few =
    let allowed : Allowed schema.columns own.cells = allowed_row schema own (inside 0 own (omega arith)) in
    rw (row_again schema.columns own.cells width (length before) wide (omega arith) all allowed)
    (rows_again schema rows (before ++ row own.cells ∷ []) width wide all (All-tail (λ (other : Row). in_domain schema other ≡ true) own rows inside) (omega (arith, length-append before (own ∷ [])))
    ∙ ap Ok (append_assoc before (own ∷ []) rows))

pub reads_plain_fields : (bytes text : List ℕ) (schema : Schema) (rows : List Row) → SpellsPlainly bytes text schema rows → rows_of schema bytes ≡ Ok rows
unfolding rows_of rows_under
reads_plain_fields bytes text schema rows spells =
    let columns = schema.columns in
    let own = spells.own in
    rw (spells.of_bytes, spells.fields, places_again columns [] [] 0 (header_fields columns) refl refl own.well_formed.columns.own_names)
    (rows_again schema rows [] (length (header_fields columns)) (length-map columns (λ (column : Column). column.name)) own.well_formed.columns.all own.inside (omega (arith, own.few)))

pub reads_plain_lines : (bytes text : List ℕ) (schema : Schema) (rows : List Row) → SpellsByLines bytes text schema rows → rows_of schema bytes ≡ Ok rows
reads_plain_lines bytes text schema rows spells =
    reads_plain_fields bytes text schema rows (record {
      own = spells.own;
      of_bytes = spells.of_bytes;
      fields = records_of_lines (strip_bom text) spells.plain ∙ spells.fields;
    })
