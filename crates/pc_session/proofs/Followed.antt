-- A line more of a script: what is held then, that it can be followed, and the case that it asks about.
use Rattle.std.proofs.Common.{◌≡◌, List, [], ◌∷◌, ◌++◌, refl, sym, ap, ◌∙◌, append-nil, append_assoc}
use Rattle.pc_model.specs.declared.schema.Schema.{Schema}
use Rattle.pc_session.specs.declared.line.Line.{Line}
use Rattle.pc_session.specs.Edited.{Held, CanFollow, CanFollowAll, after_line, case_at, cases_of, held_after}

pub held_after_push : (held : Held) (lines : List Line) (line : Line) → held_after held (lines ++ line ∷ []) ≡ after_line (held_after held lines) line
unfolding held_after
held_after_push held [] line = refl
held_after_push held (first ∷ lines) line = held_after_push (after_line held first) lines line

pub follow_one_more : (schema : Schema) (held : Held) (lines : List Line) (line : Line) → CanFollowAll schema held lines → CanFollow schema (held_after held lines) line → CanFollowAll schema held (lines ++ line ∷ [])
unfolding held_after CanFollowAll
follow_one_more schema held [] line can more = (more, tt)
follow_one_more schema held (first ∷ lines) line can more = (can.0, follow_one_more schema (after_line held first) lines line can.1 more)

pub cases_of_push : (schema : Schema) (held : Held) (lines : List Line) (line : Line) → cases_of schema held (lines ++ line ∷ []) ≡ cases_of schema held lines ++ case_at schema (held_after held lines) line
unfolding held_after cases_of
cases_of_push schema held [] line = append-nil (case_at schema held line)
cases_of_push schema held (first ∷ lines) line =
    ap (λ rest. case_at schema held first ++ rest) (cases_of_push schema (after_line held first) lines line)
    ∙ sym (append_assoc (case_at schema held first) (cases_of schema (after_line held first) lines) (case_at schema (held_after (after_line held first) lines) line))
