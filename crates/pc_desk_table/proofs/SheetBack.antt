-- A sheet that was written as a table is read back.
use Rattle.std.specs.List.{flat_map}
use Rattle.std.proofs.Common.{◌≡◌, ◌<◌, ◌≤◌, ◌==◌, Bool, true, false, ℕ, List, [], ◌∷◌, ◌++◌, All, Some, length, map, refl, sym, ap, subst, ◌∙◌, arith}
use Rattle.std.specs.Prelude.{if◌then◌else◌}
use Rattle.std.proofs.lemmas.List.Elements.{All-head, All-tail}
use Rattle.csv.specs.Machine.{next_record}
use Rattle.csv.specs.Reading.{AreRecords, Reached, default_config, is_bom, strip_bom}
use Rattle.csv.specs.Writing.{default_writer, needs_quotes, read_back, row_text}
use Rattle.csv.specs.declared.parser.State.TheVariants as st
use Rattle.csv.proofs.RoundTrip.{read-write}
use Rattle.pc_desk_table.specs.declared.sheet.Cell.{Cell}
use Rattle.pc_desk_table.specs.declared.sheet.Sheet.{Sheet}
use Rattle.pc_desk_table.specs.declared.sheet.Title.{Title}
use Rattle.pc_desk_table.specs.Reading.{IsReadAs, IsSheet, IsTitled, StartsPlain, sheet_rows}
use Rattle.pc_desk_table.specs.Sheets.{row_fields, sheet_row, sheet_table, title_cells}

row_stays : (row : List Cell) → 1 ≤ length row → read_back (row_fields row) ≡ row_fields row
row_stays [] some = absurd (omega (arith, some))
row_stays (cell ∷ row) some = refl

titles_stay : (titles : List Title) → IsTitled titles → read_back (row_fields (title_cells titles)) ≡ row_fields (title_cells titles)
titles_stay [] titled = absurd titled
titles_stay (title ∷ titles) titled = refl

-- ---- no mark of an order of bytes is dropped

no_mark : (byte next last : ℕ) → byte < 128 → is_bom byte next last ≡ false
no_mark byte next last low = let other : (byte == 239) ≡ false = grind (arith, low) in rw other refl

kept : (byte : ℕ) (rest : List ℕ) → byte < 128 → strip_bom (byte ∷ rest) ≡ byte ∷ rest
unfolding strip_bom
kept byte [] low = refl
kept byte (next ∷ []) low = refl
kept byte (next ∷ last ∷ rest) low = ap (λ test. if test then rest else byte ∷ next ∷ last ∷ rest) (no_mark byte next last low)

titles_kept : (titles : List Title) (after : List ℕ) → IsTitled titles → strip_bom (sheet_row (title_cells titles) ++ after) ≡ sheet_row (title_cells titles) ++ after
titles_kept [] after titled = absurd titled
titles_kept (title ∷ titles) after titled = by title.name titled (needs_quotes default_writer title.name) refl
  where
    by : (name : List ℕ) → StartsPlain name → (quotes : Bool) → needs_quotes default_writer name ≡ quotes → strip_bom (row_text default_writer (name ∷ row_fields (title_cells titles)) ++ after) ≡ row_text default_writer (name ∷ row_fields (title_cells titles)) ++ after
    by [] plain quotes is = absurd plain
    by (byte ∷ rest) plain true is = rw is (kept 34 _ (omega arith))
    by (byte ∷ rest) plain false is = rw is (kept byte _ plain)

-- ---- each row is read back

rows_back : (rows : List (List Cell)) → All (λ (row : List Cell). 1 ≤ length row) rows
    → Reached default_config st.StartRecord (flat_map sheet_row rows) (map row_fields rows) st.StartRecord []
unfolding Reached
rows_back [] filled = (refl, refl)
rows_back (row ∷ rows) filled =
    let after = flat_map sheet_row rows in
    let F = λ (row : List Cell). 1 ≤ length row in (
      (row_fields row, st.StartRecord, after),
      read-write (row_fields row) after ∙ ap (λ fields. Some (fields, st.StartRecord, after)) (row_stays row (All-head F row rows filled)),
      refl,
      rows_back rows (All-tail F row rows filled),
    )

sheet_back : (sheet : Sheet) → IsSheet sheet → AreRecords default_config st.StartRecord (sheet_table sheet) (sheet_rows sheet)
unfolding Reached next_record sheet_table sheet_rows
sheet_back sheet is =
    let titles = row_fields (title_cells sheet.titles) in
    let after = flat_map sheet_row sheet.rows in (
      st.StartRecord,
      [],
      (
        (titles, st.StartRecord, after),
        read-write titles after ∙ ap (λ fields. Some (fields, st.StartRecord, after)) (titles_stay sheet.titles is.titled),
        refl,
        rows_back sheet.rows is.filled,
      ),
      refl,
    )

pub sheets_are_read_back : (sheet : Sheet) → IsSheet sheet → IsReadAs (sheet_table sheet) (sheet_rows sheet)
unfolding IsReadAs sheet_table
sheets_are_read_back sheet is =
    subst (λ text. AreRecords default_config st.StartRecord text (sheet_rows sheet)) (sym (titles_kept sheet.titles (flat_map sheet_row sheet.rows) is.titled)) (sheet_back sheet is)
