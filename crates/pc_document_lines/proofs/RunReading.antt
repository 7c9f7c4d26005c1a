-- A run is read from the tokens of its line, column by column.
use Rattle.std.proofs.Common.{◌≡◌, ◌≤◌, ◌<◌, ◌&&◌, ℕ, suc, ◌+◌, ◌*◌, Bool, true, false, List, [], ◌∷◌, ◌++◌, length, get_or, drop, Option, Some, None, arith, refl, sym, ap, ◌∙◌, append_assoc, add-one, drop-cons}
use Rattle.std.specs.Prelude.{ℤ, bytes_eq, nat_lt, IfSome}
use Rattle.std.proofs.lemmas.Bool.{le-ltb}
use Rattle.std.proofs.lemmas.List.{append-nil, drop_all}
use Rattle.pc_model.specs.declared.schema.Column.{Column}
use Rattle.pc_model.specs.declared.schema.Schema.{Schema}
use Rattle.pc_model.specs.declared.row.Run.{Run}
use Rattle.pc_lang_tokens.specs.Lexing.{tokens_of}
use Rattle.pc_document_format.specs.Formats.{if_spelled}
use Rattle.pc_document_lines.specs.TokenLines.{Tokens, are_cells, field_number, fields_at, is_cell, is_run, likely_run, place_in, read_run, run_of_tokens, run_text, token_at, tokens_if}
use Rattle.pc_document_lines.proofs.Keeping.{none_kept}

-- ---- the line

-- where no likely run is good, none is read
pub run_none : (schema : Schema) (line : List ℕ) (list : Tokens) → list ≡ tokens_if (tokens_of line) → IfSome (run_of_tokens schema list) (λ run. is_run schema run ≡ false) → None ≡ read_run schema line
unfolding read_run likely_run
run_none schema line list is refused = none_kept (run_text schema) (is_run schema) line _ (rw is at refused)

-- a likely run is read if it is spelled so
pub run_some : (schema : Schema) (line : List ℕ) (list : Tokens) (run : Run) (found : Option Run) → list ≡ tokens_if (tokens_of line) → run_of_tokens schema list ≡ Some run → found ≡ if_spelled (run_text schema) (is_run schema) line (Some run) → found ≡ read_run schema line
unfolding read_run likely_run
run_some schema line list run found is likely spelled =
    spelled ∙ sym (ap (if_spelled (run_text schema) (is_run schema) line) (ap (run_of_tokens schema) (sym is) ∙ likely))

pub ruleset steps = (run_none, run_some)

-- ---- the parts of a run

-- two tests fail where the second fails
pub both_false : (test other : Bool) → other ≡ false → (test && other) ≡ false
both_false true other e = e
both_false false other e = refl

pub ruleset run_steps = (both_false)

-- ---- the fields

-- the place of the field of a column, by the column's
abbrev pub field_place : ℕ → ℕ
field_place place = 2 * place + 3

-- the place of the next field
next_place : (place : ℕ) → field_place place + 2 ≡ field_place (suc place)
next_place place = omega arith

-- the field of a column, and those after it
fields_opened : (columns : List Column) (list : Tokens) (i : ℕ) (column : Column) → i < length columns → fields_at (drop i columns) (field_place i) list ≡ field_number (get_or columns i column).kind (token_at list (field_place i)) ∷ fields_at (drop (suc i) columns) (field_place (suc i)) list
unfolding fields_at
fields_opened columns list i column inside =
    rw (drop-cons columns i column inside)
    (ap (λ n. field_number (get_or columns i column).kind (token_at list (field_place i)) ∷ fields_at (drop (suc i) columns) n list) (next_place i))

-- a number more
pub cells_more : (cells : List ℤ) (columns : List Column) (list : Tokens) (i : ℕ) (column : Column) (cell : ℤ) → i < length columns → column ≡ get_or columns i column → cell ≡ field_number column.kind (token_at list (field_place i)) → (cells ++ cell ∷ []) ++ fields_at (drop (i + 1) columns) (field_place (i + 1)) list ≡ cells ++ fields_at (drop i columns) (field_place i) list
cells_more cells columns list i column cell inside at is =
    let number : cell ≡ field_number (get_or columns i column).kind (token_at list (field_place i)) = is ∙ ap (λ (other : Column). field_number other.kind (token_at list (field_place i))) at in
    rw (add-one, fields_opened columns list i column inside) (append_assoc cells (cell ∷ []) _ ∙ ap (λ (x : ℤ). cells ++ x ∷ fields_at (drop (suc i) columns) (field_place (suc i)) list) number)

-- no column is left
pub cells_end : (cells : List ℤ) (columns : List Column) (list : Tokens) (i : ℕ) → length columns ≤ i → cells ++ fields_at (drop i columns) (field_place i) list ≡ cells
unfolding fields_at
cells_end cells columns list i past = rw (drop_all i columns past) (append-nil cells)

-- whether the numbers that are left may stand
abbrev rest_kept : List Column → Tokens → ℕ → Bool
rest_kept columns list i = are_cells (drop i columns) (fields_at (drop i columns) (field_place i) list)

-- whether the number of a column may stand, and those after it
kept_opened : (columns : List Column) (list : Tokens) (i : ℕ) (column : Column) → i < length columns → rest_kept columns list i ≡ (is_cell (get_or columns i column).kind (field_number (get_or columns i column).kind (token_at list (field_place i))) && rest_kept columns list (suc i))
unfolding are_cells
kept_opened columns list i column inside = rw (fields_opened columns list i column inside, drop-cons columns i column inside) refl

-- one that may stand
pub kept_more : (columns : List Column) (list : Tokens) (i : ℕ) (column : Column) → i < length columns → column ≡ get_or columns i column → is_cell column.kind (field_number column.kind (token_at list (field_place i))) ≡ true → rest_kept columns list (i + 1) ≡ rest_kept columns list i
kept_more columns list i column inside at kept =
    let here : is_cell (get_or columns i column).kind (field_number (get_or columns i column).kind (token_at list (field_place i))) ≡ true = sym (ap (λ (other : Column). is_cell other.kind (field_number other.kind (token_at list (field_place i)))) at) ∙ kept in
    rw add-one (sym (kept_opened columns list i column inside ∙ ap (λ (test : Bool). test && rest_kept columns list (suc i)) here))

-- one that may not
pub kept_none : (columns : List Column) (list : Tokens) (i : ℕ) (column : Column) → i < length columns → column ≡ get_or columns i column → is_cell column.kind (field_number column.kind (token_at list (field_place i))) ≡ false → rest_kept columns list i ≡ false
kept_none columns list i column inside at refused =
    let here : is_cell (get_or columns i column).kind (field_number (get_or columns i column).kind (token_at list (field_place i))) ≡ false = sym (ap (λ (other : Column). is_cell other.kind (field_number other.kind (token_at list (field_place i)))) at) ∙ refused in
    kept_opened columns list i column inside ∙ ap (λ (test : Bool). test && rest_kept columns list (suc i)) here

-- none is left
pub kept_end : (columns : List Column) (list : Tokens) (i : ℕ) → length columns ≤ i → rest_kept columns list i ≡ true
unfolding are_cells fields_at
kept_end columns list i past = rw (drop_all i columns past) refl

pub ruleset cells_steps = (cells_more, cells_end, kept_more, kept_none, kept_end)

-- ---- the place of a name

-- the name that is looked for
pub place_here : (names : List (List ℕ)) (name : List ℕ) (i : ℕ) (other : List ℕ) → i < length names → other ≡ get_or names i other → bytes_eq other name ≡ true → i + place_in (drop i names) name ≡ i
unfolding place_in
place_here names name i other inside at same = rw (drop-cons names i other inside, ← at, same) (omega arith)

-- another name
pub place_later : (names : List (List ℕ)) (name : List ℕ) (i : ℕ) (other : List ℕ) → i < length names → other ≡ get_or names i other → bytes_eq other name ≡ false → (i + 1) + place_in (drop (i + 1) names) name ≡ i + place_in (drop i names) name
unfolding place_in
place_later names name i other inside at differs = rw (drop-cons names i other inside, ← at, differs, add-one) (omega arith)

-- no name is left
pub place_none : (names : List (List ℕ)) (name : List ℕ) (i : ℕ) → length names ≤ i → nat_lt (i + place_in (drop i names) name) (length names) ≡ false
unfolding place_in
place_none names name i past = rw (drop_all i names past) (le-ltb (i + 0) (length names) (omega (arith, past)))

pub ruleset place_steps = (place_here, place_later, place_none)
