-- What is shown of the questions of a session, as far as a loop has come over its lines.
use Rattle.std.proofs.Common.{◌≡◌, ℕ, suc, ◌+◌, List, [], ◌∷◌, ◌++◌, get_or, length, map, refl, sym, ap, arith, subst, ◌∙◌, append-nil, append_assoc}
use Rattle.pc_model.specs.declared.schema.Schema.{Schema}
use Rattle.pc_session.specs.declared.line.Line.{Line}
use Rattle.pc_session.specs.Edited.{CanFollow, CanFollowAll, Held, after_line, held_after}
use Rattle.pc_session.proofs.Followed.{held_after_push}
use Rattle.pc_group.specs.Wanted.{Wanted}
use Rattle.pc_desk_table.specs.declared.entry.Entry.{Entry}
use Rattle.pc_desk_answers.specs.Blocks.{AreShown, ArePosed, Ground, Posed, Shows, block, posed_at, posed_from, posed_with}
use Rattle.pc_desk_answers.proofs.Shown.{zipped_append}

-- what is shown of a query, as of a question of what is held
pub posed_shown : (ground : Ground) (ws : List Wanted) (entries : List Entry) → AreShown ground (map block ws) entries → ArePosed (map (posed_with ground) ws) entries
posed_shown ground [] [] shown = tt
posed_shown ground [] (entry ∷ entries) shown = absurd shown
posed_shown ground (w ∷ ws) [] shown = absurd shown
posed_shown ground (w ∷ ws) (entry ∷ entries) shown = (shown.0, posed_shown ground ws entries shown.1)

-- how far a loop has come over the lines: what is held by then, and what was shown
pub record HasShown (schema : Schema) (start : Held) (nodes : ℕ) (numbers : List ℕ) (lines : List Line) (held : Held) (entries : List Entry) : Type 0 where
  pub held_is : held ≡ held_after start lines
  pub shown : ArePosed (posed_from schema nodes numbers start 0 lines) entries

module _ (schema : Schema) (nodes : ℕ) (numbers : List ℕ) where
  -- what a line asks that has this place among the numbers
  abbrev posed_here : Held → ℕ → Line → List Posed
  posed_here held place line = posed_at schema nodes held (get_or numbers place 0) line

  one_on : (place n : ℕ) → place + 1 + n ≡ place + suc n
  one_on place n = omega arith

  pub posed_push : (start : Held) (place : ℕ) (lines : List Line) (line : Line) →
      posed_from schema nodes numbers start place (lines ++ line ∷ []) ≡ posed_from schema nodes numbers start place lines ++ posed_here (held_after start lines) (place + length lines) line
  unfolding posed_from held_after
  posed_push start place [] line = append-nil (posed_here start place line) ∙ ap (λ (n : ℕ). posed_here start n line) (let none : place ≡ place + 0 = omega arith in none)
  posed_push start place (first ∷ lines) line =
      let front = posed_here start place first in
      let start_then = after_line start first in
      ap (λ (rest : List Posed). front ++ rest) (posed_push start_then (place + 1) lines line ∙ ap (λ (n : ℕ). posed_from schema nodes numbers start_then (place + 1) lines ++ posed_here (held_after start_then lines) n line) (one_on place (length lines)))
      ∙ sym (append_assoc front (posed_from schema nodes numbers start_then (place + 1) lines) (posed_here (held_after start_then lines) (place + suc (length lines)) line))

module _ (schema : Schema) (start : Held) (nodes : ℕ) (numbers : List ℕ) where
  pub shows_none : HasShown schema start nodes numbers [] start []
  unfolding held_after posed_from
  shows_none = record { held_is = refl; shown = tt }

  pub shows_line : (lines : List Line) (held : Held) (entries : List Entry) (line : Line) (more : List Entry) → HasShown schema start nodes numbers lines held entries → ArePosed (posed_at schema nodes held (get_or numbers (length lines) 0) line) more →
      HasShown schema start nodes numbers (lines ++ line ∷ []) (after_line held line) (entries ++ more)
  shows_line lines held entries line more followed shown =
      let none : 0 + length lines ≡ length lines = omega arith in
      let pushed = posed_push schema nodes numbers start 0 lines line ∙ ap (λ (n : ℕ). posed_from schema nodes numbers start 0 lines ++ posed_at schema nodes (held_after start lines) (get_or numbers n 0) line) none in
      record {
        held_is = ap (λ now. after_line now line) followed.held_is ∙ sym (held_after_push start lines line);
        shown = rw pushed
            (zipped_append (λ (p : Posed). Shows p.ground p.asked) (posed_from schema nodes numbers start 0 lines) entries (posed_at schema nodes (held_after start lines) (get_or numbers (length lines) 0) line) more followed.shown
            (subst (λ (now : Held). ArePosed (posed_at schema nodes now (get_or numbers (length lines) 0) line) more) followed.held_is shown));
      }

-- the next of lines that can be followed can be
pub next_follows : (schema : Schema) (start : Held) (before : List Line) (line : Line) (rest : List Line) → CanFollowAll schema start (before ++ line ∷ rest) → CanFollow schema (held_after start before) line
unfolding held_after CanFollowAll
next_follows schema start [] line rest can = can.0
next_follows schema start (first ∷ before) line rest can = next_follows schema (after_line start first) before line rest can.1
