-- A file is read under the schema that is drafted for it.
use Rattle.std.proofs.Common.{◌≡◌, ◌∙◌, ℕ, ◌+◌, ◌==◌, ◌&&◌, not, ℤ, Bool, true, false, cond, List, [], ◌∷◌, ◌++◌, length, get_or, drop, All, Option, Some, None, Result, Ok, Err, is_ok, is_some, refl, sym, ap, subst, arith, length-append, append_assoc, append-nil, nat_le}
use Rattle.std.specs.List.{list_all}
use Rattle.std.proofs.lemmas.Bool.{and_from, and_parts, false≢true}
use Rattle.std.proofs.lemmas.List.Elements.{All-push, All-tail}
use Rattle.csv.specs.Reading.{default_config, records, strip_bom}
use Rattle.pc_model.specs.declared.fault.FileKind.TheVariants as files
use Rattle.pc_model.specs.declared.fault.Fault.{Fault}
use Rattle.pc_model.specs.declared.fault.Reason.{Reason}
use Rattle.pc_model.specs.declared.fault.Reason.TheVariants as reasons
use Rattle.pc_model.specs.declared.row.Row.{Row}
use Rattle.pc_model.specs.declared.schema.Kind.{Kind}
use Rattle.pc_model.specs.declared.schema.Kind.TheVariants.{Cat}
use Rattle.pc_model.specs.declared.schema.Column.{Column}
use Rattle.pc_model.specs.Membership.{row_from as row}
use Rattle.pc_model.specs.Refusals.{◌>>=◌, fault_at, placed}
use Rattle.pc_model.specs.Texts.{is_name, text_of}
use Rattle.pc_records.specs.Fields.{field}
use Rattle.pc_rows.specs.RowFile.{cell_of, cells_at, cells_from, cells_of, place_from, place_in, places_from, rows_from, rows_of, rows_under}
use Rattle.pc_rows.specs.RowFile.{only_place as place_by}
use Rattle.pc_rows.specs.Stored.{row_limit}
use Rattle.pc_schema.specs.SchemaFile.{is_taken}
use Rattle.pc_desk_schema.specs.declared.column.Fitted.{Fitted}
use Rattle.pc_desk_schema.specs.declared.draft.Draft.{Draft}
use Rattle.pc_desk_schema.specs.declared.found.Found.{Found}
use Rattle.pc_desk_schema.specs.declared.said.Said.{Said}
use Rattle.pc_desk_schema.specs.declared.said.Said.TheVariants as saids
use Rattle.pc_desk_schema.specs.Columns.{column_of, fitted_at, only_place, place_of, texts_at, with_kind}
use Rattle.pc_desk_schema.specs.Draft.{column_limit, draft_over, drafted_of, drafted_under, found_for, is_field_of, nothing_found, wanted, with_column, with_drafted, with_further, with_next, with_outcome}
use Rattle.pc_desk_schema.specs.Fits.{fit_of, name_or, number_or, zero_of}
use Rattle.pc_desk_schema.specs.Names.{names_of}
use Rattle.pc_desk_schema.specs.Numbers.{number_kind}
use Rattle.pc_desk_schema.proofs.NumbersFit.{all_read, list_all_both, numbers_read}
use Rattle.pc_desk_schema.proofs.NamesFit.{names_read}

-- ---- a column stands in the header once, and each of its fields is read

record IsRead (header : List (List ℕ)) (rows : List (List (List ℕ))) (column : Column) : Type 0 where
  place : ℕ
  stands : place_in column.name header ≡ Ok place
  reads : all_read column.kind (texts_at place rows) ≡ true

names_or_read : (texts : List (List ℕ)) (kind : Kind) (names : Option (List (List ℕ))) → names_of texts ≡ names → name_or texts names ≡ Ok kind → all_read kind texts ≡ true
names_or_read texts kind None e is = cc
names_or_read texts kind (Some names) e is = let same : Cat names ≡ kind = cc in rw (← same) (names_read names texts e)

numbers_or_read : (texts : List (List ℕ)) (kind : Kind) (numbers : Option Kind) → number_kind texts ≡ numbers → number_or texts numbers ≡ Ok kind → all_read kind texts ≡ true
numbers_or_read texts kind None e is = names_or_read texts kind (names_of texts) refl is
numbers_or_read texts kind (Some found) e is = let same : found ≡ kind = cc in rw (← same) (numbers_read texts found e)

fit_reads : (texts : List (List ℕ)) (kind : Kind) → fit_of texts ≡ Ok kind → all_read kind texts ≡ true
unfolding fit_of
fit_reads texts kind is = numbers_or_read texts kind (number_kind texts) refl is

only_once : (name : List ℕ) (header : List (List ℕ)) (first : Option ℕ) (place : ℕ) → only_place name header first ≡ Some place → place_by name header first ≡ Ok place
only_once name header None place is = cc
only_once name header (Some at) place is = by_test (is_some (place_from (at + 1) name (drop (at + 1) header))) is
  where
    by_test : (again : Bool) → cond again None (Some at) ≡ Some place → cond again (Err reasons.RepeatedName) (Ok at) ≡ Ok place
    by_test true is = cc
    by_test false is = cc

place_same : (name : List ℕ) (header : List (List ℕ)) (place : ℕ) → place_of name header ≡ Some place → place_in name header ≡ Ok place
unfolding place_of place_in
place_same name header place is = only_once name header (place_from 0 name header) place is

kind_reads : (header : List (List ℕ)) (rows : List (List (List ℕ))) (name : List ℕ) (place : ℕ) (fitted : Fitted) (fit : Result Kind Said) → place_in name header ≡ Ok place → fit_of (texts_at place rows) ≡ fit → with_kind name (texts_at place rows) fit ≡ Ok fitted → IsRead header rows fitted.column
kind_reads header rows name place fitted (Err why) stands e is = cc
kind_reads header rows name place fitted (Ok kind) stands e is =
    let same : ◌≡◌ {A = Fitted} (record { column = record { name = name; kind = kind }; zero = zero_of (texts_at place rows) kind }) fitted = cc in
    subst (λ (fitted : Fitted). IsRead header rows fitted.column) same (record { place = place; stands = stands; reads = fit_reads (texts_at place rows) kind e })

fitted_reads : (header : List (List ℕ)) (rows : List (List (List ℕ))) (name : List ℕ) (fitted : Fitted) (place : Option ℕ) → place_of name header ≡ place → fitted_at name rows place ≡ Ok fitted → IsRead header rows fitted.column
fitted_reads header rows name fitted None e is = cc
fitted_reads header rows name fitted (Some place) e is = kind_reads header rows name place fitted (fit_of (texts_at place rows)) (place_same name header place e) refl is

column_reads : (header : List (List ℕ)) (rows : List (List (List ℕ))) (columns : List Column) (name : List ℕ) (fitted : Fitted) → column_of header rows columns name ≡ Ok fitted → IsRead header rows fitted.column
unfolding column_of
column_reads header rows columns name fitted is = by_tests (not (is_name name)) (is_taken columns name) is
  where
    by_tests : (bad taken : Bool) → cond bad (Err saids.BadName) (cond taken (Err saids.Repeated) (fitted_at name rows (place_of name header))) ≡ Ok fitted → IsRead header rows fitted.column
    by_tests true taken is = cc
    by_tests false true is = cc
    by_tests false false is = fitted_reads header rows name fitted (place_of name header) refl is

-- ---- so is each column that is found

abbrev AreRead : List (List ℕ) → List (List (List ℕ)) → List Column → Type 0
AreRead header rows columns = All (IsRead header rows) columns

column_added : (header : List (List ℕ)) (rows : List (List (List ℕ))) (found : Found) (fitted : Fitted) → AreRead header rows found.columns → IsRead header rows fitted.column → AreRead header rows (with_column found fitted).columns
unfolding with_column
column_added header rows found fitted are is = by_test (nat_le column_limit (length found.columns))
  where
    by_test : (full : Bool) → AreRead header rows (cond full (with_further found) (with_drafted found fitted)).columns
    by_test true = are
    by_test false = All-push (IsRead header rows) found.columns fitted.column are is

outcome_added : (header : List (List ℕ)) (rows : List (List (List ℕ))) (found : Found) (name : List ℕ) (outcome : Result Fitted Said) → column_of header rows found.columns name ≡ outcome → AreRead header rows found.columns → AreRead header rows (with_outcome found name outcome).columns
outcome_added header rows found name (Ok fitted) e are = column_added header rows found fitted are (column_reads header rows found.columns name fitted e)
outcome_added header rows found name (Err what) e are = are

next_added : (header : List (List ℕ)) (rows : List (List (List ℕ))) (found : Found) (name : List ℕ) → AreRead header rows found.columns → AreRead header rows (with_next header rows found name).columns
unfolding with_next
next_added header rows found name are = outcome_added header rows found name (column_of header rows found.columns name) refl are

all_added : (header : List (List ℕ)) (rows : List (List (List ℕ))) (found : Found) (names : List (List ℕ)) → AreRead header rows found.columns → AreRead header rows (found_for header rows found names).columns
all_added header rows found [] are = are
all_added header rows found (name ∷ names) are = all_added header rows (with_next header rows found name) names (next_added header rows found name are)

-- ---- the places of such columns, and the records in them

abbrev fits_row : List Column → List ℕ → List (List ℕ) → Bool
fits_row [] places fields = true
fits_row (column ∷ columns) places fields = is_ok (cell_of column.kind (field fields (get_or places 0 0))) && fits_row columns (drop 1 places) fields

record HavePlaces (header : List (List ℕ)) (rows : List (List (List ℕ))) (columns : List Column) : Type 0 where
  places : List ℕ
  stand : (before : List ℕ) → places_from before columns header ≡ Ok (before ++ places)
  fit : list_all (fits_row columns places) rows ≡ true

all_true : (rows : List (List (List ℕ))) → list_all (λ fields. true) rows ≡ true
all_true [] = refl
all_true (fields ∷ rows) = all_true rows

mapped_read : (kind : Kind) (place : ℕ) (rows : List (List (List ℕ))) → all_read kind (texts_at place rows) ≡ true → list_all (λ fields. is_ok (cell_of kind (field fields place))) rows ≡ true
mapped_read kind place [] is = refl
mapped_read kind place (fields ∷ rows) is =
    let parts = and_parts (is_ok (cell_of kind (field fields place))) (all_read kind (texts_at place rows)) is in
    and_from (is_ok (cell_of kind (field fields place))) (list_all (λ fields. is_ok (cell_of kind (field fields place))) rows) parts.0 (mapped_read kind place rows parts.1)

one_stands : (header : List (List ℕ)) (column : Column) (columns : List Column) (place : ℕ) (places before : List ℕ) → place_in column.name header ≡ Ok place → ((before : List ℕ) → places_from before columns header ≡ Ok (before ++ places)) → places_from before (column ∷ columns) header ≡ Ok (before ++ place ∷ places)
unfolding places_from
one_stands header column columns place places before is rest = rw is (rest (before ++ place ∷ []) ∙ ap Ok (append_assoc before (place ∷ []) places))

no_columns : (header : List (List ℕ)) (before : List ℕ) → places_from before [] header ≡ Ok (before ++ [])
unfolding places_from
no_columns header before = ap Ok (sym (append-nil before))

have_places : (header : List (List ℕ)) (rows : List (List (List ℕ))) (columns : List Column) → AreRead header rows columns → HavePlaces header rows columns
have_places header rows [] are = record { places = []; stand = no_columns header; fit = all_true rows }
have_places header rows (column ∷ columns) are =
    let first : IsRead header rows column = are 0 column (omega arith) in
    let rest : HavePlaces header rows columns = have_places header rows columns (All-tail (IsRead header rows) column columns are) in
    record {
      places = first.place ∷ rest.places;
      stand = λ before. one_stands header column columns first.place rest.places before first.stands rest.stand;
      fit = list_all_both (λ fields. is_ok (cell_of column.kind (field fields first.place))) (fits_row columns rest.places) rows (mapped_read column.kind first.place rows first.reads) rest.fit;
    }

-- ---- each record is read

cells_read : (columns : List Column) (places : List ℕ) (fields : List (List ℕ)) (before : List ℤ) → fits_row columns places fields ≡ true → is_ok (cells_from before columns places fields) ≡ true
unfolding cells_from
cells_read [] places fields before fits = refl
cells_read (column ∷ columns) places fields before fits =
    let parts = and_parts (is_ok (cell_of column.kind (field fields (get_or places 0 0)))) (fits_row columns (drop 1 places) fields) fits in
    by_cell (cell_of column.kind (field fields (get_or places 0 0))) parts.0 (λ (cell : ℤ). cells_read columns (drop 1 places) fields (before ++ cell ∷ []) parts.1)
  where
    by_cell : (found : Result ℤ Reason) → is_ok found ≡ true → ((cell : ℤ) → is_ok (cells_from (before ++ cell ∷ []) columns (drop 1 places) fields) ≡ true) → is_ok (found >>= (λ cell. cells_from (before ++ cell ∷ []) columns (drop 1 places) fields)) ≡ true
    by_cell (Ok cell) is rest = rest cell
    by_cell (Err reason) is rest = absurd (false≢true is)

placed_well : {A : Type 0} (place : ℕ) (found : Result A Reason) → is_ok found ≡ true → is_ok (placed files.Rows place found) ≡ true
placed_well place (Ok value) is = refl
placed_well place (Err reason) is = absurd (false≢true is)

one_read : (columns : List Column) (places : List ℕ) (width count : ℕ) (fields : List (List ℕ)) → is_ok (cells_at [] [] width count fields) ≡ true → fits_row columns places fields ≡ true → is_ok (cells_at columns places width count fields) ≡ true
unfolding cells_at cells_of
one_read columns places width count fields is fits = by_tests (nat_le row_limit count) (not (length fields == width)) is
  where
    by_tests : (full odd : Bool) → is_ok (cond full (Err (fault_at files.Rows (count + 2) reasons.TooMany)) (placed files.Rows (count + 2) (cond odd (Err reasons.FieldCount) (cells_from [] [] [] fields)))) ≡ true → is_ok (cond full (Err (fault_at files.Rows (count + 2) reasons.TooMany)) (placed files.Rows (count + 2) (cond odd (Err reasons.FieldCount) (cells_from [] columns places fields)))) ≡ true
    by_tests true odd is = absurd (false≢true is)
    by_tests false true is = absurd (false≢true is)
    by_tests false false is = placed_well (count + 2) (cells_from [] columns places fields) (cells_read columns places fields [] fits)

row_then : (own cells : Result (List ℤ) Fault) (f g : List ℤ → Result (List Row) Fault) → (is_ok own ≡ true → is_ok cells ≡ true) → ((a b : List ℤ) → is_ok (f a) ≡ true → is_ok (g b) ≡ true) → is_ok (own >>= f) ≡ true → is_ok (cells >>= g) ≡ true
row_then (Ok a) (Ok b) f g reads later is = later a b is
row_then (Ok a) (Err fault) f g reads later is = absurd (false≢true (reads refl))
row_then (Err fault) cells f g reads later is = absurd (false≢true is)

-- a table that is read whatever its columns is read in these too
rows_read : (columns : List Column) (places : List ℕ) (width : ℕ) (before known : List Row) (rows : List (List (List ℕ))) → length before ≡ length known → is_ok (rows_from [] [] width known rows) ≡ true → list_all (fits_row columns places) rows ≡ true → is_ok (rows_from columns places width before rows) ≡ true
unfolding rows_from
rows_read columns places width before known [] same is fit = refl
rows_read columns places width before known (fields ∷ rows) same is fit =
    let parts = and_parts (fits_row columns places fields) (list_all (fits_row columns places) rows) fit in
    row_then (cells_at [] [] width (length known) fields) (cells_at columns places width (length before) fields)
    (λ cells. rows_from [] [] width (known ++ row cells ∷ []) rows) (λ cells. rows_from columns places width (before ++ row cells ∷ []) rows)
    (λ own. rw same (one_read columns places width (length known) fields own parts.0))
    (λ a b later. rows_read columns places width (before ++ row b ∷ []) (known ++ row a ∷ []) rows (omega (arith, same, length-append before (row b ∷ []), length-append known (row a ∷ []))) later parts.1)
    is

bare : (header : List (List ℕ)) (rows : List (List (List ℕ))) → rows_under [] (header ∷ rows) ≡ rows_from [] [] (length header) [] rows
unfolding rows_under places_from
bare header rows = refl

under_read : (columns : List Column) (header : List (List ℕ)) (rows : List (List (List ℕ))) → AreRead header rows columns → is_ok (rows_under [] (header ∷ rows)) ≡ true → is_ok (rows_under columns (header ∷ rows)) ≡ true
unfolding rows_under
under_read columns header rows are is =
    let have : HavePlaces header rows columns = have_places header rows columns are in
    rw (have.stand []) (rows_read columns have.places (length header) [] [] rows refl (ap is_ok (sym (bare header rows)) ∙ is) have.fit)

-- ---- the draft

none_read : (header : List (List ℕ)) (rows : List (List (List ℕ))) → AreRead header rows []
none_read header rows = λ k d below. absurd (omega arith)

table_read : (names : List (List ℕ)) (table : List (List (List ℕ))) (draft : Draft) → drafted_under names table ≡ Ok draft → is_ok (rows_under [] table) ≡ true → is_ok (rows_under draft.schema.columns table) ≡ true
table_read names [] draft is read = cc
table_read names (header ∷ rows) draft is read = by_test (list_all (is_field_of header) names) is
  where
    by_test : (known : Bool) → cond known (Ok (draft_over header rows names)) (Err (fault_at files.Rows 1 reasons.MissingColumn)) ≡ Ok draft → is_ok (rows_under draft.schema.columns (header ∷ rows)) ≡ true
    by_test true is =
        let same : draft_over header rows names ≡ draft = cc in
        subst (λ (draft : Draft). is_ok (rows_under draft.schema.columns (header ∷ rows)) ≡ true) same
        (under_read (draft_over header rows names).schema.columns header rows (all_added header rows nothing_found (wanted names header) (none_read header rows)) read)
    by_test false is = cc

after_rows : (names : List (List ℕ)) (table : List (List (List ℕ))) (draft : Draft) (rows : Result (List Row) Fault) → rows_under [] table ≡ rows → (rows >>= (λ rows. drafted_under names table)) ≡ Ok draft → is_ok (rows_under draft.schema.columns table) ≡ true
after_rows names table draft (Ok rows) e is = table_read names table draft is (ap is_ok e)
after_rows names table draft (Err fault) e is = cc

after_text : (names : List (List ℕ)) (draft : Draft) (text : Result (List ℕ) Reason) → (placed files.Rows 0 text >>= (λ text. rows_under [] (records default_config (strip_bom text)) >>= (λ rows. drafted_under names (records default_config (strip_bom text))))) ≡ Ok draft → is_ok (placed files.Rows 0 text >>= (λ text. rows_under draft.schema.columns (records default_config (strip_bom text)))) ≡ true
after_text names draft (Ok text) is = after_rows names (records default_config (strip_bom text)) draft (rows_under [] (records default_config (strip_bom text))) refl is
after_text names draft (Err reason) is = cc

pub drafts_read : (bytes : List ℕ) (names : List (List ℕ)) (draft : Draft) → drafted_of bytes names ≡ Ok draft → is_ok (rows_of draft.schema bytes) ≡ true
unfolding drafted_of rows_of
drafts_read bytes names draft is = after_text names draft (text_of bytes) is
