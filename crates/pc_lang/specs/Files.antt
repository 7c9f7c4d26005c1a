-- Which constraints a file stands for and which query a text, or the first fault.
use Rattle.std.specs.Prelude.{ℕ, zero, suc, Option, Some, None, ◌+◌, ◌-◌, ◌==◌, Bool, true, List, [], ◌∷◌, ◌++◌, length, take, get_or, Result, Ok, Err, if◌then◌else◌}
use Rattle.std.specs.List.{slice_split}
use Rattle.pc_model.specs.declared.fault.FileKind.TheVariants as files
use Rattle.pc_model.specs.declared.fault.Reason.{Reason}
use Rattle.pc_model.specs.declared.fault.Fault.{Fault}
use Rattle.pc_model.specs.declared.fault.Refusal.{Refusal}
use Rattle.pc_model.specs.declared.fault.Refusal.TheVariants as refusals
use Rattle.pc_model.specs.declared.schema.Schema.{Schema}
use Rattle.pc_model.specs.declared.constraint.Constraint.{Constraint}
use Rattle.pc_model.specs.declared.query.Query.{Query}
use Rattle.pc_model.specs.Refusals.{◌>>=◌, placed}
use Rattle.pc_model.specs.Texts.{text_of}
use Rattle.pc_lang_tokens.specs.Lexing.{is_blank, tokens_of}
use Rattle.pc_lang_grammar.specs.declared.syntax.Line.{Line}
use Rattle.pc_lang_grammar.specs.declared.syntax.Question.{Question}
use Rattle.pc_lang_grammar.specs.Parsing.{line_of, question_of, rule_of}
use Rattle.pc_lang.specs.Meaning.{constraint_of, query_of}

-- what stands between the line feeds, without a carriage return at the end
abbrev pub ends_with_return : List ℕ → Bool
ends_with_return line = get_or line (length line - 1) 0 == 13

unfoldable pub without_return : List ℕ → List ℕ
without_return line = if ends_with_return line then take (length line - 1) line else line

-- blanks alone, or `#` after blanks or none
unfoldable pub is_passed_over : List ℕ → Bool
is_passed_over [] = true
is_passed_over (byte ∷ rest) = if is_blank byte then is_passed_over rest else byte == 35

-- the line, or the question, that a text spells
unfoldable pub line_from : List ℕ → Result Line Reason
line_from text = tokens_of text >>= line_of

unfoldable pub question_from : List ℕ → Result Question Reason
question_from text = tokens_of text >>= question_of

-- .. or the name of a constraint, which `outside` has empty
unfoldable pub rule_from : List ℕ → Result (List ℕ) Reason
rule_from text = tokens_of text >>= rule_of

-- the constraint that the text of a line spells, after those before it
unfoldable pub constraint_from : Schema → List Constraint → List ℕ → Result Constraint Reason
constraint_from schema before line = line_from line >>= constraint_of schema before

-- the constraints with that of a line, if it has one
unfoldable pub with_line : Schema → List Constraint → List ℕ → Result (List Constraint) Reason
with_line schema before line =
    if is_passed_over line then Ok before else (constraint_from schema before line >>= λ c. Ok (before ++ c ∷ []))

-- .. of the line at a place of a file
abbrev pub with_line_at : Schema → ℕ → List Constraint → List ℕ → Result (List Constraint) Fault
with_line_at schema place before line = placed files.Constraints place (with_line schema before (without_return line))

-- the constraints of the lines from a place on, after those before
unfoldable pub constraints_from : Schema → ℕ → List Constraint → List (List ℕ) → Result (List Constraint) Fault
constraints_from schema place before [] = Ok before
constraints_from schema place before (line ∷ rest) =
    with_line_at schema place before line >>= λ after. constraints_from schema (place + 1) after rest

abbrev pub lines_of : List ℕ → List (List ℕ)
lines_of text = slice_split (λ byte. byte == 10) text

-- the constraints of a file, after those before
unfoldable pub constraints_after : Schema → List Constraint → List ℕ → Result (List Constraint) Fault
constraints_after schema before bytes = placed files.Constraints 0 (text_of bytes) >>= λ text. constraints_from schema 1 before (lines_of text)

-- the constraints of a file
abbrev pub constraints_of : Schema → List ℕ → Result (List Constraint) Fault
constraints_of schema bytes = constraints_after schema [] bytes

abbrev pub of_limits : Fault → Fault
of_limits fault = record fault { file = files.Limits }

abbrev pub refusal_of_limits : Refusal → Refusal
refusal_of_limits (refusals.Fault fault) = refusals.Fault (of_limits fault)
refusal_of_limits refusals.Memory = refusals.Memory

-- what is read of a file of limits, as it would be of one of constraints
abbrev pub as_limits : {X : Type 0} → Result X Fault → Result X Fault
as_limits (Ok x) = Ok x
as_limits (Err fault) = Err (of_limits fault)

-- constraints, and after them the lines of a file of limits, whose names are none of theirs
unfoldable pub limits_of : Schema → List Constraint → List ℕ → Result (List Constraint) Fault
limits_of schema before bytes = as_limits (constraints_after schema before bytes)

-- the query of a text, at its place among the queries
unfoldable pub query_from : Schema → List ℕ → Result Query Reason
query_from schema text = question_from text >>= query_of schema

abbrev pub query_at : Schema → ℕ → List ℕ → Result Query Fault
query_at schema place text = placed files.Query place (query_from schema text)

-- the numbers of the lines that have a constraint, among lines from a number on
unfoldable pub constraint_lines : ℕ → List (List ℕ) → List ℕ
constraint_lines number [] = []
constraint_lines number (line ∷ rest) =
    if is_passed_over (without_return line) then constraint_lines (number + 1) rest else number ∷ constraint_lines (number + 1) rest

abbrev one_less : ℕ → Option ℕ
one_less zero = None
one_less (suc n) = Some n

-- how many constraints stand before one after this line, of so many before the line; none where the line has that one
unfoldable pub left_after : List ℕ → ℕ → Option ℕ
left_after line before = if is_passed_over (without_return line) then Some before else one_less before

abbrev pub number_in : ℕ → Result (List ℕ) Reason → ℕ
number_in place (Ok text) = get_or (constraint_lines 1 (lines_of text)) place 0
number_in place (Err reason) = 0

-- the number of the line of the constraint at a place from 0, in a file that is accepted
abbrev pub line_number : List ℕ → ℕ → ℕ
line_number bytes place = number_in place (text_of bytes)
