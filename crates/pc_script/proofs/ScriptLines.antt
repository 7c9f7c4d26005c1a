-- The lines of a script, as far as a loop has come.
use Rattle.std.proofs.Common.{◌≡◌, ℕ, ◌+◌, true, false, List, [], ◌∷◌, ◌++◌, length, Result, Ok, Err, refl}
use Rattle.pc_model.specs.declared.fault.FileKind.TheVariants as files
use Rattle.pc_model.specs.declared.fault.Fault.{Fault}
use Rattle.pc_model.specs.declared.fault.ReadStop.{ReadStop}
use Rattle.pc_model.specs.declared.fault.ReadStop.TheVariants as stops
use Rattle.pc_model.specs.declared.fault.Reason.{Reason}
use Rattle.pc_model.specs.declared.fault.Refusal.{Refusal}
use Rattle.pc_model.specs.declared.fault.Refusal.TheVariants as refusals
use Rattle.pc_model.specs.declared.schema.Schema.{Schema}
use Rattle.pc_model.specs.Refusals.{◌>>=◌, placed, RefusesAs, StopsAs}
use Rattle.pc_lang.specs.Files.{is_passed_over, lines_of, without_return}
use Rattle.pc_session.specs.Edited.{Held}
use Rattle.pc_session.specs.declared.line.Line.{Line}
use Rattle.pc_script.specs.Script.{known_after, line_at, lines_from, with_line}

module _ (schema : Schema) (start : Held) (before : List Line) (text : List ℕ) where
  pub line_passed : is_passed_over text ≡ true → with_line schema start before text ≡ Ok before
  unfolding with_line
  line_passed passed = rw passed refl

  pub line_read : (line : Line) → is_passed_over text ≡ false → line_at schema (length before) (known_after start before) text ≡ Ok line → with_line schema start before text ≡ Ok (before ++ line ∷ [])
  unfolding with_line
  line_read line kept read = rw (kept, read) refl

  reason_of : (reason : Reason) → is_passed_over text ≡ false → line_at schema (length before) (known_after start before) text ≡ Err reason → with_line schema start before text ≡ Err reason
  unfolding with_line
  reason_of reason kept read = rw (kept, read) refl

  pub line_stopped : (stop : ReadStop) → is_passed_over text ≡ false → StopsAs stop (line_at schema (length before) (known_after start before) text) → StopsAs stop (with_line schema start before text)
  line_stopped (stops.Reason reason) kept stopped = reason_of reason kept stopped
  line_stopped stops.Memory kept stopped = tt

module _ (schema : Schema) (start : Held) (place : ℕ) (before : List Line) where
  -- the lines after one that is read
  pub script_step : (text line rest : List ℕ) (after : List Line) → lines_of text ≡ line ∷ lines_of rest → placed files.Script place (with_line schema start before (without_return line)) ≡ Ok after → lines_from schema start place before (lines_of text) ≡ lines_from schema start (place + 1) after (lines_of rest)
  unfolding lines_from
  script_step text line rest after split read = rw (split, read) refl

  script_fault : (text line rest : List ℕ) (fault : Fault) → lines_of text ≡ line ∷ lines_of rest → placed files.Script place (with_line schema start before (without_return line)) ≡ Err fault → lines_from schema start place before (lines_of text) ≡ Err fault
  unfolding lines_from
  script_fault text line rest fault split refused = rw (split, refused) refl

  -- a line that is refused
  pub script_refused : (text line rest : List ℕ) (refusal : Refusal) → lines_of text ≡ line ∷ lines_of rest → RefusesAs refusal (placed files.Script place (with_line schema start before (without_return line))) → RefusesAs refusal (lines_from schema start place before (lines_of text))
  script_refused text line rest (refusals.Fault fault) split refused = script_fault text line rest fault split refused
  script_refused text line rest refusals.Memory split refused = tt

  last_of : (read : Result (List Line) Fault) → (read >>= λ after. lines_from schema start (place + 1) after []) ≡ read
  unfolding lines_from
  last_of (Ok after) = refl
  last_of (Err fault) = refl

  -- the last line
  pub script_last : (text : List ℕ) → lines_of text ≡ text ∷ [] → lines_from schema start place before (lines_of text) ≡ placed files.Script place (with_line schema start before (without_return text))
  unfolding lines_from
  script_last text split = rw split (last_of (placed files.Script place (with_line schema start before (without_return text))))

pub ruleset one_line = (line_passed, line_read, line_stopped)
