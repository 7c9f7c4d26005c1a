-- What the reader of a script has come to.
use Rattle.std.specs.Prelude.{◌≡◌, ◌<◌, ⊤, ◌+◌, ◌-◌, true, List, [], ◌∷◌, ◌++◌, length, Result, Ok, Err}
use Rattle.std.specs.List.{remove}
use Rattle.pc_model.specs.declared.fault.Fault.{Fault}
use Rattle.pc_model.specs.declared.fault.ReadStop.{ReadStop}
use Rattle.pc_model.specs.declared.fault.Refusal.{Refusal}
use Rattle.pc_model.specs.declared.fault.Reason.{Reason}
use Rattle.pc_model.specs.declared.schema.Schema.{Schema}
use Rattle.pc_model.specs.Accepted.{AreConstraints, IsQuery}
use Rattle.pc_model.specs.Membership.{in_domain}
use Rattle.pc_model.specs.Refusals.{RefusesAs, StopsAs}
use Rattle.pc_rows.specs.Stored.{row_limit}
use Rattle.pc_session.specs.Edited.{Held, CanFollowAll}
use Rattle.pc_session.specs.declared.line.Edit.TheVariants.{AddRow, DropRow, AddRule, DropRule}
use Rattle.pc_session.specs.declared.line.Line.{Line}
use Rattle.pc_session.specs.declared.line.Line.TheVariants.{Edits, Asks}
use Rattle.pc_script.specs.declared.known.Known.{Known}
use Rattle.pc_script.specs.declared.script.Reading.{Reading}
use Rattle.pc_script.specs.Script.{known_after, question_limit}

-- what is known after one line more
abbrev pub known_then : Known → Line → Known
known_then known (Edits (AddRow row)) = record known { rows = known.rows + 1 }
known_then known (Edits (DropRow at)) = record known { rows = known.rows - 1 }
known_then known (Edits (AddRule c)) = record known { constraints = known.constraints ++ c ∷ [] }
known_then known (Edits (DropRule at)) = record known { constraints = remove known.constraints at }
known_then known (Asks query) = record known { questions = known.questions + 1 }

-- what was read, with one line more
abbrev pub reading_then : Reading → Line → Reading
reading_then before line = record { lines = before.lines ++ line ∷ []; known = known_then before.known line }

-- the line can be followed there, and a question is not one too many
abbrev pub CanTake : Schema → Known → Line → Type 0
CanTake schema known (Edits (AddRow row)) = (known.rows < row_limit) × (in_domain schema row ≡ true)
CanTake schema known (Edits (DropRow at)) = at < known.rows
CanTake schema known (Edits (AddRule c)) = AreConstraints schema (known.constraints ++ c ∷ [])
CanTake schema known (Edits (DropRule at)) = at < length known.constraints
CanTake schema known (Asks query) = (known.questions < question_limit) × IsQuery schema query

-- its numbers are such
abbrev pub HasRoom : Known → Line → Type 0
HasRoom known (Edits (AddRow row)) = known.rows < row_limit
HasRoom known (Edits (DropRow at)) = at < known.rows
HasRoom known (Edits (AddRule c)) = ⊤
HasRoom known (Edits (DropRule at)) = at < length known.constraints
HasRoom known (Asks query) = known.questions < question_limit

-- the lines that were read can be followed from the start on, and what is known is what they leave
pub record IsReadingOf (schema : Schema) (start : Held) (reading : Reading) : Type 0 where
  pub known : reading.known ≡ known_after start reading.lines
  pub can : CanFollowAll schema start reading.lines

-- the lines are those that are wanted, unless memory ran out
abbrev pub ReadsOn : Schema → Held → Result Reading ReadStop → Result (List Line) Reason → Type 0
ReadsOn schema start (Ok reading) wanted = (wanted ≡ Ok reading.lines) × IsReadingOf schema start reading
ReadsOn schema start (Err stop) wanted = StopsAs stop wanted

abbrev pub GivesLines : Schema → Held → Result Reading Refusal → Result (List Line) Fault → Type 0
GivesLines schema start (Ok reading) wanted = (wanted ≡ Ok reading.lines) × IsReadingOf schema start reading
GivesLines schema start (Err refusal) wanted = RefusesAs refusal wanted
