-- A script that is read has as many lines as numbers.
use Rattle.std.proofs.Common.{◌≡◌, ℕ, ◌+◌, Bool, true, false, List, [], ◌∷◌, ◌++◌, length, Result, Ok, Err, refl, sym, ap, ◌∙◌, arith}
use Rattle.std.proofs.lemmas.List.{length-append}
use Rattle.pc_model.specs.declared.fault.FileKind.TheVariants as files
use Rattle.pc_model.specs.declared.fault.Fault.{Fault}
use Rattle.pc_model.specs.declared.fault.Reason.{Reason}
use Rattle.pc_model.specs.declared.fault.ReadStop.TheVariants as stops
use Rattle.pc_model.specs.declared.schema.Schema.{Schema}
use Rattle.pc_model.specs.Refusals.{◌>>=◌, placed}
use Rattle.pc_model.specs.Texts.{text_of}
use Rattle.pc_lang.specs.Files.{constraint_lines, is_passed_over, lines_of, without_return}
use Rattle.pc_session.specs.Edited.{Held}
use Rattle.pc_session.specs.declared.line.Line.{Line}
use Rattle.pc_script.specs.Numbers.{said_from, said_in, said_lines}
use Rattle.pc_script.specs.Script.{known_after, line_at, lines_from, script_of, with_line}
use Rattle.pc_script.proofs.ScriptLines.{line_passed, line_read, line_stopped}

module _ (schema : Schema) (start : Held) (place : ℕ) (before : List Line) (text : List ℕ) (rest : List (List ℕ)) (lines : List Line) where
  abbrev goes_on : Result (List Line) Fault → Result (List Line) Fault
  goes_on read = read >>= λ after. lines_from schema start (place + 1) after rest

  abbrev AreAsMany : List Line → Type 0
  AreAsMany after = lines_from schema start (place + 1) after rest ≡ Ok lines → length after + length (said_from (place + 1) rest) ≡ length lines

  after_passed : ((after : List Line) → AreAsMany after) → is_passed_over (without_return text) ≡ true → lines_from schema start place before (text ∷ rest) ≡ Ok lines → length before + length (said_from place (text ∷ rest)) ≡ length lines
  unfolding lines_from constraint_lines
  after_passed later passed read =
      let read_on : goes_on (placed files.Script place (with_line schema start before (without_return text))) ≡ Ok lines = read in
      rw passed (later before (rw (line_passed schema start before (without_return text) passed) at read_on))

  after_kept : ((after : List Line) → AreAsMany after) → is_passed_over (without_return text) ≡ false → (line : Result Line Reason) → line_at schema (length before) (known_after start before) (without_return text) ≡ line →
      lines_from schema start place before (text ∷ rest) ≡ Ok lines → length before + length (said_from place (text ∷ rest)) ≡ length lines
  unfolding lines_from constraint_lines
  after_kept later kept (Ok line) is read =
      let read_on : goes_on (placed files.Script place (with_line schema start before (without_return text))) ≡ Ok lines = read in
      let many = later (before ++ line ∷ []) (rw (line_read schema start before (without_return text) line kept is) at read_on) in
      let one_more = length-append before (line ∷ []) in
      rw kept (omega (arith, many, one_more))
  after_kept later kept (Err reason) is read =
      let read_on : goes_on (placed files.Script place (with_line schema start before (without_return text))) ≡ Ok lines = read in
      let none = rw (line_stopped schema start before (without_return text) (stops.Reason reason) kept is) at read_on in
      let no : ⊥ = cc in absurd no

  after_text : ((after : List Line) → AreAsMany after) → (passed : Bool) → is_passed_over (without_return text) ≡ passed → lines_from schema start place before (text ∷ rest) ≡ Ok lines → length before + length (said_from place (text ∷ rest)) ≡ length lines
  after_text later true passed read = after_passed later passed read
  after_text later false kept read = after_kept later kept (line_at schema (length before) (known_after start before) (without_return text)) refl read

as_many : (schema : Schema) (start : Held) (place : ℕ) (before : List Line) (texts : List (List ℕ)) (lines : List Line) → lines_from schema start place before texts ≡ Ok lines → length before + length (said_from place texts) ≡ length lines
unfolding lines_from constraint_lines
as_many schema start place before [] lines read =
    let same : before ≡ lines = cc in
    let many = ap length same in
    omega (arith, many)
as_many schema start place before (text ∷ rest) lines read =
    after_text schema start place before text rest lines (λ after on. as_many schema start (place + 1) after rest lines on) (is_passed_over (without_return text)) refl read

in_text : (schema : Schema) (start : Held) (text : Result (List ℕ) Reason) (lines : List Line) → (placed files.Script 0 text >>= λ text. lines_from schema start 1 [] (lines_of text)) ≡ Ok lines → length (said_in text) ≡ length lines
in_text schema start (Ok text) lines read =
    let many : 0 + length (said_from 1 (lines_of text)) ≡ length lines = as_many schema start 1 [] (lines_of text) lines read in
    omega (arith, many)
in_text schema start (Err reason) lines read = let no : ⊥ = cc in absurd no

pub as_many_numbers : (schema : Schema) (start : Held) (bytes : List ℕ) (lines : List Line) → script_of schema start bytes ≡ Ok lines → length (said_lines bytes) ≡ length lines
unfolding script_of
as_many_numbers schema start bytes lines read = in_text schema start (text_of bytes) lines read
