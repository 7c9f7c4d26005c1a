-- Which lines a script has, or its first fault.
use Rattle.std.specs.Prelude.{ℕ, ℤ, ◌+◌, ◌-◌, Bool, true, false, ◌&&◌, unsigned_abs, List, [], ◌∷◌, ◌++◌, length, take, drop, codes, bytes_eq, nat_le, nat_lt, count_by, position, Option, Some, None, Result, Ok, Err, if◌then◌else◌}
use Rattle.std.specs.Char.{is_ascii_digit}
use Rattle.std.specs.List.{list_all, position_or_len, prefix_len}
use Rattle.pc_model.specs.declared.fault.FileKind.TheVariants as files
use Rattle.pc_model.specs.declared.fault.Fault.{Fault}
use Rattle.pc_model.specs.declared.fault.Reason.{Reason}
use Rattle.pc_model.specs.declared.fault.Reason.TheVariants as reasons
use Rattle.pc_model.specs.declared.schema.Schema.{Schema}
use Rattle.pc_model.specs.declared.constraint.Constraint.{Constraint}
use Rattle.pc_model.specs.Numbers.{number_of}
use Rattle.pc_model.specs.Refusals.{◌>>=◌, placed}
use Rattle.pc_model.specs.Texts.{text_of}
use Rattle.pc_rows.specs.Stored.{row_limit}
use Rattle.pc_rows.specs.Record.{row_of}
use Rattle.pc_lang_tokens.specs.Lexing.{is_blank}
use Rattle.pc_lang.specs.Files.{constraint_from, is_passed_over, lines_of, query_from, rule_from, without_return}
use Rattle.pc_session.specs.Edited.{Held, held_after}
use Rattle.pc_session.specs.declared.line.Edit.TheVariants.{AddRow, DropRow, AddRule, DropRule}
use Rattle.pc_session.specs.declared.line.Line.{Line}
use Rattle.pc_session.specs.declared.line.Line.TheVariants.{Edits, Asks}
use Rattle.pc_script.specs.declared.known.Known.{Known}

-- the most lines that are not passed over, and the most questions among them
abbrev pub line_limit : ℕ
line_limit = 10000

abbrev pub question_limit : ℕ
question_limit = 1000

-- ---- words

-- a text without the blanks before it
abbrev pub after_blanks : List ℕ → List ℕ
after_blanks text = drop (prefix_len is_blank text) text

-- the bytes up to the first blank, and what stands from there on
abbrev pub up_to_blank : List ℕ → List ℕ
up_to_blank text = take (position_or_len is_blank text) text

abbrev pub from_blank : List ℕ → List ℕ
from_blank text = drop (position_or_len is_blank text) text

-- the first word of a text, and what stands after it
unfoldable pub first_word : List ℕ → List ℕ
first_word text = up_to_blank (after_blanks text)

unfoldable pub after_word : List ℕ → List ℕ
after_word text = from_blank (after_blanks text)

-- ---- places

-- the place from 0, among so many, that a number counts from 1
abbrev pub place_among : ℕ → ℕ → Result ℕ Reason
place_among count number = if nat_lt 0 number && nat_le number count then Ok (number - 1) else Err reasons.OutsideDomain

-- .. of a number that was read, or is past the limit of numbers and so too great
abbrev pub place_in : ℕ → Result ℤ Reason → Result ℕ Reason
place_in count (Ok number) = place_among count (unsigned_abs number)
place_in count (Err reasons.PastLimit) = Err reasons.OutsideDomain
place_in count (Err reason) = Err reason

-- .. which one word of digits alone spells
unfoldable pub place_of : ℕ → List ℕ → Result ℕ Reason
place_of count text =
    if list_all is_ascii_digit (first_word text) && list_all is_blank (after_word text) then place_in count (number_of 0 (first_word text)) else Err reasons.BadNumber

abbrev pub known_place : Option ℕ → Result ℕ Reason
known_place None = Err reasons.UnknownName
known_place (Some place) = Ok place

-- the place of the constraint of a name, which is empty for the one on the rows outside
unfoldable pub rule_place : List Constraint → List ℕ → Result ℕ Reason
rule_place constraints name = known_place (position (λ (c : Constraint). bytes_eq c.name name) constraints)

-- ---- one line, by what stands after its first words

-- a row, which one blank parts from the words; so many rows are held
unfoldable pub added_row : Schema → ℕ → List ℕ → Result Line Reason
added_row schema rows text =
    if nat_le row_limit rows then Err reasons.TooMany
    else (row_of schema (drop 1 text) >>= λ row. Ok (Edits (AddRow row)))

unfoldable pub dropped_row : ℕ → List ℕ → Result Line Reason
dropped_row rows text = place_of rows text >>= λ at. Ok (Edits (DropRow at))

unfoldable pub added_rule : Schema → List Constraint → List ℕ → Result Line Reason
added_rule schema constraints text = constraint_from schema constraints text >>= λ c. Ok (Edits (AddRule c))

unfoldable pub dropped_rule : List Constraint → List ℕ → Result Line Reason
dropped_rule constraints text = do
  name ← rule_from text
  at ← rule_place constraints name
  Ok (Edits (DropRule at))

-- a question, after so many
unfoldable pub asked : Schema → ℕ → List ℕ → Result Line Reason
asked schema questions text =
    if nat_le question_limit questions then Err reasons.TooMany
    else (query_from schema text >>= λ query. Ok (Asks query))

unfoldable pub added : Schema → Known → List ℕ → Result Line Reason
added schema known text =
    if bytes_eq (first_word text) (codes "row") then added_row schema known.rows (after_word text)
    else (if bytes_eq (first_word text) (codes "rule") then added_rule schema known.constraints (after_word text)
    else Err reasons.Unexpected)

unfoldable pub dropped : Known → List ℕ → Result Line Reason
dropped known text =
    if bytes_eq (first_word text) (codes "row") then dropped_row known.rows (after_word text)
    else (if bytes_eq (first_word text) (codes "rule") then dropped_rule known.constraints (after_word text)
    else Err reasons.Unexpected)

-- a line, with what is known of those before it
unfoldable pub line_of : Schema → Known → List ℕ → Result Line Reason
line_of schema known text =
    if bytes_eq (first_word text) (codes "ask") then asked schema known.questions (after_word text)
    else (if bytes_eq (first_word text) (codes "add") then added schema known (after_word text)
    else (if bytes_eq (first_word text) (codes "drop") then dropped known (after_word text)
    else Err reasons.Unexpected))

-- ---- the script

abbrev pub is_question : Line → Bool
is_question (Edits change) = false
is_question (Asks query) = true

-- how many rows and which constraints are held after lines, and how many of these ask
abbrev pub known_after : Held → List Line → Known
known_after start before = record { rows = length (held_after start before).rows; constraints = (held_after start before).constraints; questions = count_by is_question before }

-- a line after so many
unfoldable pub line_at : Schema → ℕ → Known → List ℕ → Result Line Reason
line_at schema count known text = if nat_le line_limit count then Err reasons.TooMany else line_of schema known text

-- the lines with that of a text, if it has one
unfoldable pub with_line : Schema → Held → List Line → List ℕ → Result (List Line) Reason
with_line schema start before text =
    if is_passed_over text then Ok before
    else (line_at schema (length before) (known_after start before) text >>= λ line. Ok (before ++ line ∷ []))

-- the lines of texts from a place on, after those before
unfoldable pub lines_from : Schema → Held → ℕ → List Line → List (List ℕ) → Result (List Line) Fault
lines_from schema start place before [] = Ok before
lines_from schema start place before (text ∷ rest) =
    placed files.Script place (with_line schema start before (without_return text)) >>= λ after. lines_from schema start (place + 1) after rest

-- the lines of a script over what is held at its start
unfoldable pub script_of : Schema → Held → List ℕ → Result (List Line) Fault
script_of schema start bytes = placed files.Script 0 (text_of bytes) >>= λ text. lines_from schema start 1 [] (lines_of text)
