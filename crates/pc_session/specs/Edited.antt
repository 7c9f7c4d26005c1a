-- The rows and constraints that are held after each line of a script: two plain lists, with no tree.
use Rattle.std.specs.Prelude.{◌≡◌, ◌<◌, true, ⊤, List, [], ◌∷◌, ◌++◌, length}
use Rattle.std.specs.List.{remove}
use Rattle.pc_model.specs.declared.schema.Schema.{Schema}
use Rattle.pc_model.specs.declared.row.Row.{Row}
use Rattle.pc_model.specs.declared.constraint.Constraint.{Constraint}
use Rattle.pc_model.specs.declared.query.Query.{Query}
use Rattle.pc_model.specs.Accepted.{AreConstraints, IsQuery}
use Rattle.pc_model.specs.Membership.{in_domain}
use Rattle.pc_rows.specs.declared.case.Case.{Case}
use Rattle.pc_rows.specs.Stored.{row_limit}
use Rattle.pc_session.specs.declared.line.Edit.{Edit}
use Rattle.pc_session.specs.declared.line.Edit.TheVariants.{AddRow, DropRow, AddRule, DropRule}
use Rattle.pc_session.specs.declared.line.Line.{Line}
use Rattle.pc_session.specs.declared.line.Line.TheVariants.{Edits, Asks}

-- what is held: observed rows, and constraints on the lost ones
pub record Held : Type 0 where
  pub rows : List Row
  pub constraints : List Constraint

-- a row or a constraint goes to the end, or out of its list, where those after it close up
abbrev pub edited : Held → Edit → Held
edited held (AddRow row) = record { rows = held.rows ++ row ∷ []; constraints = held.constraints }
edited held (DropRow at) = record { rows = remove held.rows at; constraints = held.constraints }
edited held (AddRule c) = record { rows = held.rows; constraints = held.constraints ++ c ∷ [] }
edited held (DropRule at) = record { rows = held.rows; constraints = remove held.constraints at }

-- a question changes nothing
abbrev pub after_line : Held → Line → Held
after_line held (Edits edit) = edited held edit
after_line held (Asks query) = held

-- what is held after all of the lines
unfoldable pub held_after : Held → List Line → Held
held_after held [] = held
held_after held (line ∷ lines) = held_after (after_line held line) lines

-- the case of what is held, and one query
abbrev pub asked_case : Schema → Held → Query → Case
asked_case schema held query = record { schema = schema; rows = held.rows; constraints = held.constraints; queries = query ∷ [] }

-- a question asks about it
abbrev pub case_at : Schema → Held → Line → List Case
case_at schema held (Edits edit) = []
case_at schema held (Asks query) = asked_case schema held query ∷ []

-- the cases that the lines ask about, in their order
unfoldable pub cases_of : Schema → Held → List Line → List Case
cases_of schema held [] = []
cases_of schema held (line ∷ lines) = case_at schema held line ++ cases_of schema (after_line held line) lines

-- ---- lines that can be followed

-- the edit keeps the limits; its places, from 0, are there; and the name of a constraint that is added is new
abbrev pub CanEdit : Schema → Held → Edit → Type 0
CanEdit schema held (AddRow row) = (length held.rows < row_limit) × (in_domain schema row ≡ true)
CanEdit schema held (DropRow at) = at < length held.rows
CanEdit schema held (AddRule c) = AreConstraints schema (held.constraints ++ c ∷ [])
CanEdit schema held (DropRule at) = at < length held.constraints

abbrev pub CanFollow : Schema → Held → Line → Type 0
CanFollow schema held (Edits edit) = CanEdit schema held edit
CanFollow schema held (Asks query) = IsQuery schema query

-- each line can be followed with what the lines before it leave
unfoldable pub CanFollowAll : Schema → Held → List Line → Type 0
CanFollowAll schema held [] = ⊤
CanFollowAll schema held (line ∷ lines) = CanFollow schema held line × CanFollowAll schema (after_line held line) lines
