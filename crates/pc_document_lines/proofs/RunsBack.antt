-- The line of a run is read as that run.
use Rattle.std.proofs.Common.{◌≡◌, ◌≤◌, ◌/◌, ◌^◌, ℕ, suc, ◌+◌, true, false, List, [], ◌∷◌, ◌++◌, length, All, Some, arith, refl, sym, ap, ap₂, ◌∙◌, append_assoc}
use Rattle.std.specs.Prelude.{ℤ, pos, negsuc, codes, decimal, nat_abs, nat_le}
use Rattle.std.specs.List.{AllZip, list_all}
use Rattle.std.proofs.lemmas.Bool.{and_from, and_parts, false≢true, le-leb, leb-true, lt-ltb, ltb-true}
use Rattle.std.proofs.lemmas.List.{append-nil}
use Rattle.std.proofs.lemmas.List.Elements.{All-head, All-tail}
use Rattle.pc_num.specs.Scaled.{greatest_size}
use Rattle.pc_num.specs.Put.{scaled_text}
use Rattle.pc_model.specs.declared.schema.Kind.{Kind}
use Rattle.pc_model.specs.declared.schema.Kind.TheVariants.{Int, Dec, Cat}
use Rattle.pc_model.specs.declared.schema.Column.{Column}
use Rattle.pc_model.specs.declared.schema.Schema.{Schema}
use Rattle.pc_model.specs.declared.row.Run.{Run}
use Rattle.pc_model.specs.Places.{is_below}
use Rattle.pc_model.specs.Texts.{is_name}
use Rattle.pc_model.specs.WellFormed.{AreValues, IsColumn, IsKind, IsWellFormed}
use Rattle.pc_model.proofs.Names.{is_name_of}
use Rattle.pc_lang_tokens.specs.declared.token.Symbol.TheVariants as symbols
use Rattle.pc_lang_tokens.specs.declared.token.Token.{Token}
use Rattle.pc_lang_tokens.specs.declared.token.Token.TheVariants as tokens
use Rattle.pc_lang_tokens.specs.Spelling.{is_bare, is_reserved, is_word, reserved}
use Rattle.pc_lang_tokens.specs.Texts.{is_close, is_open, is_spelled, texts_after, token_text, tokens_text}
use Rattle.pc_lang_tokens.proofs.ScaledTexts.{numbers_are_spelled}
use Rattle.pc_lang_tokens.proofs.TokensBack.{after_cons, after_nil}
use Rattle.pc_document_format.specs.Formats.{IsLine, IsSpelled}
use Rattle.pc_document_format.specs.Lines.{feeds_in}
use Rattle.pc_document_format.proofs.Spelled.{spelled_line}
use Rattle.pc_proof.specs.Form.{IsFormedCell, IsFormedCellOf, IsFormedRun}
use Rattle.pc_report.specs.RunLines as report
use Rattle.pc_document_lines.specs.Numbers.{count_text}
use Rattle.pc_document_lines.specs.TokenLines.{Tokens, are_cells, begins_run, field_number, fields_at, is_cell, is_run, likely_run, read_run, run_of_tokens, run_text}
use Rattle.pc_document_lines.proofs.NumbersBack.{numbers_again}
use Rattle.pc_document_lines.proofs.TokensOf.{AreSpelled, bare_name, bare_text, count_again, place_again, spelled_more, text_opens, tokens_again, tokens_plain}

-- ---- the tokens of a run

-- a number with the column's decimals, or the name at a place
abbrev field_token : Kind → ℤ → Token
field_token (Int low high) cell = tokens.Number (scaled_text cell 0)
field_token (Dec scale low high) cell = tokens.Number (scaled_text cell scale)
field_token (Cat names) cell = tokens.Name (report.name_at names cell)

-- the fields with a comma before each
next_tokens : List Column → List ℤ → Tokens
next_tokens [] cells = []
next_tokens (column ∷ columns) [] = []
next_tokens (column ∷ columns) (cell ∷ cells) = tokens.Symbol symbols.Comma ∷ field_token column.kind cell ∷ next_tokens columns cells

-- the fields of a run
abbrev fields_tokens : List Column → List ℤ → Tokens
fields_tokens [] cells = []
fields_tokens (column ∷ columns) [] = []
fields_tokens (column ∷ columns) (cell ∷ cells) = field_token column.kind cell ∷ next_tokens columns cells

-- what a run begins with, and its fields
abbrev head_tokens : ℕ → Tokens → Tokens
head_tokens times list = tokens.Name (codes "run") ∷ tokens.Number (count_text times) ∷ tokens.Symbol symbols.Colon ∷ list

-- the tokens of a run
abbrev run_tokens : Schema → Run → Tokens
run_tokens schema run = head_tokens run.times (fields_tokens schema.columns run.row.cells)

-- ---- the line is the text of its tokens

-- a count is written as its digits
count_is : (n : ℕ) → count_text n ≡ decimal n
unfolding scaled_text
count_is n = let one : n / 1 ≡ n = omega arith in append-nil (decimal (n / 1)) ∙ ap decimal one

-- the word of a run is written as it stands
run_is_bare : is_bare (codes "run") ≡ true
unfolding is_bare is_word is_reserved reserved
run_is_bare = refl

-- a number is its text
number_text : (text : List ℕ) → token_text (tokens.Number text) ≡ text
unfolding token_text
number_text text = refl

-- the text of a colon
colon_text : token_text (tokens.Symbol symbols.Colon) ≡ codes ":"
unfolding token_text
colon_text = refl

-- the text of a comma
comma_text : token_text (tokens.Symbol symbols.Comma) ≡ codes ","
unfolding token_text
comma_text = refl

-- a field is the text of its token
field_written : (kind : Kind) (cell : ℤ) → token_text (field_token kind cell) ≡ report.field_text kind cell
unfolding token_text report.field_text
field_written (Int low high) cell = refl
field_written (Dec scale low high) cell = refl
field_written (Cat names) cell = refl

-- no field stands close to what is before or after it
field_apart : (kind : Kind) (cell : ℤ) → (is_open (field_token kind cell) ≡ false) × (is_close (field_token kind cell) ≡ false)
field_apart (Int low high) cell = (refl, refl)
field_apart (Dec scale low high) cell = (refl, refl)
field_apart (Cat names) cell = (refl, refl)

-- a comma and a field after a token
comma_then : (last field : Token) (rest : Tokens) → is_open last ≡ false → is_close field ≡ false → texts_after last (tokens.Symbol symbols.Comma ∷ field ∷ rest) ≡ (codes ", " ++ token_text field) ++ texts_after field rest
comma_then last field rest joins apart =
    rw (after_cons last (tokens.Symbol symbols.Comma) (field ∷ rest), joins, after_cons (tokens.Symbol symbols.Comma) field rest, apart, comma_text) refl

-- the fields with a comma before each
next_written : (last : Token) (columns : List Column) (cells : List ℤ) → is_open last ≡ false → texts_after last (next_tokens columns cells) ≡ report.next_fields_text columns cells
unfolding next_tokens report.next_fields_text
next_written last [] cells joins = after_nil last
next_written last (column ∷ columns) [] joins = after_nil last
next_written last (column ∷ columns) (cell ∷ cells) joins =
    let apart = field_apart column.kind cell in
    comma_then last (field_token column.kind cell) (next_tokens columns cells) joins apart.1
    ∙ ap₂ (λ (field rest : List ℕ). (codes ", " ++ field) ++ rest) (field_written column.kind cell) (next_written (field_token column.kind cell) columns cells apart.0)

-- what a run begins with, and the field after it
head_written : (times : ℕ) (field : Token) (rest : Tokens) → is_close field ≡ false → tokens_text (head_tokens times (field ∷ rest)) ≡ (codes "run " ++ decimal times ++ codes ": ") ++ (token_text field ++ texts_after field rest)
head_written times field rest apart =
    rw (text_opens (tokens.Name (codes "run")) (tokens.Number (count_text times) ∷ tokens.Symbol symbols.Colon ∷ field ∷ rest), bare_text (codes "run") run_is_bare)
    (rw (after_cons (tokens.Name (codes "run")) (tokens.Number (count_text times)) (tokens.Symbol symbols.Colon ∷ field ∷ rest), after_cons (tokens.Number (count_text times)) (tokens.Symbol symbols.Colon) (field ∷ rest))
    (rw (after_cons (tokens.Symbol symbols.Colon) field rest, apart, number_text (count_text times), colon_text, count_is times, append_assoc (decimal times) (codes ": ") (token_text field ++ texts_after field rest)) refl))

-- A line of a run is the text of its tokens.
run_written : (schema : Schema) (run : Run) → 1 ≤ length schema.columns → AllZip IsFormedCellOf schema.columns run.row.cells → run_text schema run ≡ tokens_text (run_tokens schema run)
unfolding run_text
run_written schema run some formed = by_fields schema.columns run.row.cells some formed
  where
    by_fields : (columns : List Column) (cells : List ℤ) → 1 ≤ length columns → AllZip IsFormedCellOf columns cells → (codes "run " ++ decimal run.times ++ codes ": ") ++ report.fields_text columns cells ≡ tokens_text (head_tokens run.times (fields_tokens columns cells))
    by_fields [] cells are zipped = absurd (omega arith)
    by_fields (column ∷ columns) [] are zipped = absurd zipped
    by_fields (column ∷ columns) (cell ∷ cells) are zipped =
        let apart = field_apart column.kind cell in
        sym (head_written run.times (field_token column.kind cell) (next_tokens columns cells) apart.1
        ∙ ap₂ (λ (field rest : List ℕ). (codes "run " ++ decimal run.times ++ codes ": ") ++ (field ++ rest)) (field_written column.kind cell) (next_written (field_token column.kind cell) columns cells apart.0))

-- ---- the tokens are spelled

-- the name at a place of a column is a name
name_at_place : (names : List (List ℕ)) (cell : ℤ) → AreValues names → is_below (length names) cell ≡ true → is_name (report.name_at names cell) ≡ true
name_at_place names (pos place) are below = is_name_of _ (are.own.all place [] (ltb-true place (length names) below))
name_at_place names (negsuc rest) are below = absurd (false≢true below)

-- a field in form is spelled
field_spelled : (kind : Kind) (cell : ℤ) → IsKind kind → IsFormedCell kind cell → is_spelled (field_token kind cell) ≡ true
field_spelled (Int low high) cell is formed = numbers_are_spelled cell 0
field_spelled (Dec scale low high) cell is formed = numbers_are_spelled cell scale
field_spelled (Cat names) cell is formed = name_at_place names cell is formed

-- fields in form are spelled, with a comma before each
next_spelled : (columns : List Column) (cells : List ℤ) → All IsColumn columns → AllZip IsFormedCellOf columns cells → AreSpelled (next_tokens columns cells)
unfolding next_tokens
next_spelled [] cells are formed = refl
next_spelled (column ∷ columns) [] are formed = refl
next_spelled (column ∷ columns) (cell ∷ cells) are formed =
    and_from (is_spelled (field_token column.kind cell)) (list_all is_spelled (next_tokens columns cells))
    (field_spelled column.kind cell (All-head IsColumn column columns are).kind formed.0) (next_spelled columns cells (All-tail IsColumn column columns are) formed.1)

-- fields in form are spelled
fields_spelled : (columns : List Column) (cells : List ℤ) → All IsColumn columns → AllZip IsFormedCellOf columns cells → AreSpelled (fields_tokens columns cells)
fields_spelled [] cells are formed = refl
fields_spelled (column ∷ columns) [] are formed = refl
fields_spelled (column ∷ columns) (cell ∷ cells) are formed =
    and_from (is_spelled (field_token column.kind cell)) (list_all is_spelled (next_tokens columns cells))
    (field_spelled column.kind cell (All-head IsColumn column columns are).kind formed.0) (next_spelled columns cells (All-tail IsColumn column columns are) formed.1)

-- a run in form is spelled
run_spelled : (schema : Schema) (run : Run) → IsWellFormed schema → IsFormedRun schema run → AreSpelled (run_tokens schema run)
run_spelled schema run formed is =
    let rest = fields_spelled schema.columns run.row.cells formed.columns.all is.cells in
    let counted = and_from (is_spelled (tokens.Number (count_text run.times))) (list_all is_spelled (fields_tokens schema.columns run.row.cells)) (numbers_are_spelled (pos run.times) 0) rest in
    spelled_more (tokens.Number (count_text run.times) ∷ tokens.Symbol symbols.Colon ∷ fields_tokens schema.columns run.row.cells) (codes "run") (bare_name (codes "run") run_is_bare) counted

-- ---- the numbers of the tokens

-- the number of a field in form is that number
field_again : (kind : Kind) (cell : ℤ) → IsKind kind → IsFormedCell kind cell → field_number kind (field_token kind cell) ≡ cell
field_again (Int low high) cell is formed = numbers_again cell 0 (omega (arith, formed))
field_again (Dec scale low high) cell is formed = numbers_again cell scale (omega (arith, formed))
field_again (Cat names) cell is formed = by_place cell formed
  where
    by_place : (n : ℤ) → is_below (length names) n ≡ true → field_number (Cat names) (tokens.Name (report.name_at names n)) ≡ n
    by_place (pos place) below = ap pos (place_again names place is.own.different (ltb-true place (length names) below))
    by_place (negsuc rest) below = absurd (false≢true below)

-- two tokens before all others
fields_past : (columns : List Column) (place : ℕ) (a b : Token) (list : Tokens) → fields_at columns (suc (suc place)) (a ∷ b ∷ list) ≡ fields_at columns place list
unfolding fields_at
fields_past [] place a b list = refl
fields_past (column ∷ columns) place a b list =
    let further : suc (suc place) + 2 ≡ suc (suc (place + 2)) = omega arith in
    rw (further, fields_past columns (place + 2) a b list) refl

-- the numbers of the fields after a comma each
next_again : (columns : List Column) (cells : List ℤ) → All IsColumn columns → AllZip IsFormedCellOf columns cells → fields_at columns 1 (next_tokens columns cells) ≡ cells
unfolding fields_at next_tokens
next_again [] [] are formed = refl
next_again [] (cell ∷ cells) are formed = absurd formed
next_again (column ∷ columns) [] are formed = absurd formed
next_again (column ∷ columns) (cell ∷ cells) are formed =
    ap₂ (λ (x : ℤ) (xs : List ℤ). x ∷ xs) (field_again column.kind cell (All-head IsColumn column columns are).kind formed.0)
    (fields_past columns 1 _ _ (next_tokens columns cells) ∙ next_again columns cells (All-tail IsColumn column columns are) formed.1)

-- the numbers of all fields
fields_again : (times : ℕ) (columns : List Column) (cells : List ℤ) → All IsColumn columns → AllZip IsFormedCellOf columns cells → fields_at columns 3 (head_tokens times (fields_tokens columns cells)) ≡ cells
unfolding fields_at
fields_again times [] [] are formed = refl
fields_again times [] (cell ∷ cells) are formed = absurd formed
fields_again times (column ∷ columns) [] are formed = absurd formed
fields_again times (column ∷ columns) (cell ∷ cells) are formed =
    ap₂ (λ (x : ℤ) (xs : List ℤ). x ∷ xs) (field_again column.kind cell (All-head IsColumn column columns are).kind formed.0)
    (fields_past columns 3 _ _ _ ∙ fields_past columns 1 _ _ (next_tokens columns cells) ∙ next_again columns cells (All-tail IsColumn column columns are) formed.1)

-- the run of the tokens of a run is that run
run_again : (schema : Schema) (run : Run) → IsWellFormed schema → IsFormedRun schema run → run_of_tokens schema (run_tokens schema run) ≡ Some run
unfolding run_of_tokens
run_again schema run formed is =
    let few = is.times in
    ap₂ (λ (cells : List ℤ) (times : ℕ). Some (record { row = record { cells = cells }; times = times }))
    (fields_again run.times schema.columns run.row.cells formed.columns.all is.cells) (count_again run.times (omega (arith, few)))

-- the likely run of a run's line is that run
run_back : (schema : Schema) (run : Run) → IsWellFormed schema → IsFormedRun schema run → likely_run schema (run_text schema run) ≡ Some run
unfolding likely_run
run_back schema run formed is =
    rw (run_written schema run formed.some is.cells, tokens_again (run_tokens schema run) (run_spelled schema run formed is)) (run_again schema run formed is)

-- ---- sizes

-- a number in form passes the test
cell_tested : (kind : Kind) (cell : ℤ) → IsFormedCell kind cell → is_cell kind cell ≡ true
cell_tested (Int low high) cell formed = le-leb (nat_abs cell) greatest_size formed
cell_tested (Dec scale low high) cell formed = le-leb (nat_abs cell) greatest_size formed
cell_tested (Cat names) cell formed = formed

-- a number that passes the test is in form
tested_cell : (kind : Kind) (cell : ℤ) → is_cell kind cell ≡ true → IsFormedCell kind cell
tested_cell (Int low high) cell e = leb-true (nat_abs cell) greatest_size e
tested_cell (Dec scale low high) cell e = leb-true (nat_abs cell) greatest_size e
tested_cell (Cat names) cell e = e

-- numbers in form pass the test
cells_tested : (columns : List Column) (cells : List ℤ) → AllZip IsFormedCellOf columns cells → are_cells columns cells ≡ true
unfolding are_cells
cells_tested [] [] formed = refl
cells_tested [] (cell ∷ cells) formed = absurd formed
cells_tested (column ∷ columns) [] formed = absurd formed
cells_tested (column ∷ columns) (cell ∷ cells) formed =
    and_from (is_cell column.kind cell) (are_cells columns cells) (cell_tested column.kind cell formed.0) (cells_tested columns cells formed.1)

-- numbers that pass the test are in form
tested_cells : (columns : List Column) (cells : List ℤ) → are_cells columns cells ≡ true → AllZip IsFormedCellOf columns cells
unfolding are_cells
tested_cells [] [] e = tt
tested_cells [] (cell ∷ cells) e = absurd (false≢true e)
tested_cells (column ∷ columns) [] e = absurd (false≢true e)
tested_cells (column ∷ columns) (cell ∷ cells) e =
    let parts = and_parts (is_cell column.kind cell) (are_cells columns cells) e in
    (tested_cell column.kind cell parts.0, tested_cells columns cells parts.1)

-- a run in form passes the test
run_tested : (schema : Schema) (run : Run) → IsFormedRun schema run → is_run schema run ≡ true
unfolding is_run
run_tested schema run is =
    and_from (nat_le run.times (10 ^ 18)) (are_cells schema.columns run.row.cells) (le-leb run.times (10 ^ 18) is.times) (cells_tested schema.columns run.row.cells is.cells)

-- a run that passes the test is in form
tested_run : (schema : Schema) (run : Run) → is_run schema run ≡ true → IsFormedRun schema run
unfolding is_run
tested_run schema run e =
    let parts = and_parts (nat_le run.times (10 ^ 18)) (are_cells schema.columns run.row.cells) e in
    record { times = leb-true run.times (10 ^ 18) parts.0; cells = tested_cells schema.columns run.row.cells parts.1 }

-- ---- some run

-- the number 0 in each column
zeros : List Column → List ℤ
zeros [] = []
zeros (column ∷ columns) = pos 0 ∷ zeros columns

-- 0 is in form in every column
zero_formed : (kind : Kind) → IsKind kind → IsFormedCell kind (pos 0)
zero_formed (Int low high) is = omega arith
zero_formed (Dec scale low high) is = omega arith
zero_formed (Cat names) is = let some = is.some in lt-ltb 0 (length names) (omega (arith, some))

-- a row of zeros is in form
zeros_formed : (columns : List Column) → All IsColumn columns → AllZip IsFormedCellOf columns (zeros columns)
unfolding zeros
zeros_formed [] are = tt
zeros_formed (column ∷ columns) are = (zero_formed column.kind (All-head IsColumn column columns are).kind, zeros_formed columns (All-tail IsColumn column columns are))

-- what is asked of a line that is written again and compared
spelled : (schema : Schema) → IsWellFormed schema → IsSpelled (IsFormedRun schema) (run_text schema) (is_run schema) (likely_run schema)
spelled schema formed = record {
  some = record { row = record { cells = zeros schema.columns }; times = 0 };
  some_good = record { times = omega arith; cells = zeros_formed schema.columns formed.columns.all };
  tested = run_tested schema;
  holds = λ line run e tested. tested_run schema run tested;
  plain = λ run is. ap feeds_in (run_written schema run formed.some is.cells) ∙ tokens_plain (run_tokens schema run) (run_spelled schema run formed is);
  back = λ run is. run_back schema run formed is;
}

-- The line of a run is read as that run, and nothing else is.
pub run_line : (schema : Schema) → IsWellFormed schema → IsLine (IsFormedRun schema) (run_text schema) (read_run schema)
unfolding read_run
run_line schema formed = spelled_line (run_text schema) (is_run schema) (likely_run schema) (spelled schema formed)

-- It begins as one.
pub run_begins : (schema : Schema) (run : Run) → begins_run (run_text schema run) ≡ true
unfolding run_text
run_begins schema run = refl
