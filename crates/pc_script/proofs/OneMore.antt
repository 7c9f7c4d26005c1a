-- A line more of a script: what is known then, and that it can be followed.
use Rattle.std.proofs.Common.{◌≡◌, ◌∙◌, ℕ, ◌-◌, List, [], ◌∷◌, ◌++◌, length, cond, refl, sym, ap, arith}
use Rattle.std.specs.Prelude.{count_by}
use Rattle.std.specs.List.{remove}
use Rattle.std.proofs.lemmas.List.{length-append}
use Rattle.std.proofs.lemmas.List.Edits.{length-remove}
use Rattle.std.proofs.lemmas.List.Sums.{sum_by_push}
use Rattle.pc_model.specs.declared.schema.Schema.{Schema}
use Rattle.pc_model.specs.Accepted.{AreConstraints}
use Rattle.pc_session.specs.Edited.{Held, CanFollow, CanFollowAll, after_line, held_after}
use Rattle.pc_session.specs.HeldWell.{IsHeldWell}
use Rattle.pc_session.specs.declared.line.Edit.{Edit}
use Rattle.pc_session.specs.declared.line.Edit.TheVariants.{AddRow, DropRow, AddRule, DropRule}
use Rattle.pc_session.specs.declared.line.Line.{Line}
use Rattle.pc_session.specs.declared.line.Line.TheVariants.{Edits, Asks}
use Rattle.pc_session.proofs.Followed.{held_after_push, follow_one_more}
use Rattle.pc_session.proofs.Remains.{edit_keeps}
use Rattle.pc_script.specs.declared.known.Known.{Known}
use Rattle.pc_script.specs.declared.script.Reading.{Reading}
use Rattle.pc_script.specs.Script.{is_question, known_after}
use Rattle.pc_script.specs.Reading.{CanTake, HasRoom, IsReadingOf, known_then, reading_then}

pub room_of : (schema : Schema) (known : Known) (line : Line) → CanTake schema known line → HasRoom known line
room_of schema known (Edits (AddRow row)) can = can.0
room_of schema known (Edits (DropRow at)) can = can
room_of schema known (Edits (AddRule c)) can = tt
room_of schema known (Edits (DropRule at)) can = can
room_of schema known (Asks query) can = can.0

-- what is held, with so many questions before
abbrev known_of : Held → ℕ → Known
known_of held questions = record { rows = length held.rows; constraints = held.constraints; questions = questions }

followed : (schema : Schema) (held : Held) (questions : ℕ) (line : Line) → CanTake schema (known_of held questions) line → CanFollow schema held line
followed schema held questions (Edits (AddRow row)) can = can
followed schema held questions (Edits (DropRow at)) can = can
followed schema held questions (Edits (AddRule c)) can = can
followed schema held questions (Edits (DropRule at)) can = can
followed schema held questions (Asks query) can = can.1

as_many : (before : List Line) (edit : Edit) → count_by is_question (before ++ Edits edit ∷ []) ≡ count_by is_question before
as_many before edit = omega (arith, sum_by_push (λ line. cond (is_question line) 1 0) before (Edits edit))

-- .. with one line more
known_held : (schema : Schema) (held : Held) (before : List Line) (line : Line) → CanFollow schema held line → known_of (after_line held line) (count_by is_question (before ++ line ∷ [])) ≡ known_then (known_of held (count_by is_question before)) line
known_held schema held before (Edits (AddRow row)) can = rw (as_many before (AddRow row), length-append held.rows (row ∷ [])) refl
known_held schema held before (Edits (DropRow at)) can =
    let fewer : length (remove held.rows at) ≡ length held.rows - 1 = omega (arith, length-remove held.rows at can) in
    rw (as_many before (DropRow at), fewer) refl
known_held schema held before (Edits (AddRule c)) can = rw (as_many before (AddRule c)) refl
known_held schema held before (Edits (DropRule at)) can = rw (as_many before (DropRule at)) refl
known_held schema held before (Asks query) can = rw (sum_by_push (λ line. cond (is_question line) 1 0) before (Asks query)) refl

pub one_more : (schema : Schema) (start : Held) (before : Reading) (line : Line) → CanTake schema before.known line → IsReadingOf schema start before → IsReadingOf schema start (reading_then before line)
one_more schema start before line can reading =
    let takes : CanTake schema (known_after start before.lines) line = rw (← reading.known) can in
    let follows = followed schema (held_after start before.lines) (count_by is_question before.lines) line takes in
    record {
      known =
          ap (λ known. known_then known line) reading.known
          ∙ sym (known_held schema (held_after start before.lines) before.lines line follows)
          ∙ ap (λ held. known_of held (count_by is_question (before.lines ++ line ∷ []))) (sym (held_after_push start before.lines line));
      can = follow_one_more schema start before.lines line reading.can follows;
    }

-- no line was read
pub begun : (schema : Schema) (start : Held) → IsReadingOf schema start (record { lines = []; known = known_of start 0 })
unfolding held_after CanFollowAll
begun schema start = record { known = refl; can = tt }

-- the constraints stay accepted
pub still_accepted : (schema : Schema) (known : Known) (line : Line) → AreConstraints schema known.constraints → CanTake schema known line → AreConstraints schema (known_then known line).constraints
still_accepted schema known (Edits (AddRow row)) are can = are
still_accepted schema known (Edits (DropRow at)) are can = are
still_accepted schema known (Edits (AddRule c)) are can = can
still_accepted schema known (Edits (DropRule at)) are can =
    let held : Held = record { rows = []; constraints = known.constraints } in
    let well : IsHeldWell schema held = record { few = omega arith; seen = λ k d below. absurd (omega arith); accepted = are } in
    (edit_keeps schema held (DropRule at) well can).accepted
still_accepted schema known (Asks query) are can = are

pub ruleset steps = (room_of, still_accepted)
