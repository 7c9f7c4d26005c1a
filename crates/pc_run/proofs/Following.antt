-- The reports of the questions of a session, as far as a loop has come over its lines.
use Rattle.std.proofs.Common.{◌≡◌, ℕ, List, [], ◌∷◌, ◌++◌, refl, sym, ap, subst, ◌∙◌, append-nil}
use Rattle.std.specs.List.{AllZip, concat}
use Rattle.std.proofs.lemmas.List.Folds.{concat-append}
use Rattle.pc_model.specs.declared.schema.Schema.{Schema}
use Rattle.pc_rows.specs.declared.case.Case.{Case}
use Rattle.pc_session.specs.declared.line.Line.{Line}
use Rattle.pc_session.specs.Edited.{Held, CanFollow, CanFollowAll, after_line, case_at, cases_of, held_after}
use Rattle.pc_session.proofs.Followed.{cases_of_push, held_after_push}
use Rattle.pc_run.specs.Replies.{SaysReport, SaysReports}

zipped_both : {A B : Type 0} (R : A → B → Type 0) (xs more : List A) (ys others : List B) → AllZip R xs ys → AllZip R more others → AllZip R (xs ++ more) (ys ++ others)
zipped_both R [] more [] others pairs later = later
zipped_both R [] more (y ∷ ys) others pairs later = absurd pairs
zipped_both R (x ∷ xs) more [] others pairs later = absurd pairs
zipped_both R (x ∷ xs) more (y ∷ ys) others pairs later = (pairs.0, zipped_both R xs more ys others pairs.1 later)

-- no report, one, and those of more cases after others
pub says_none : (nodes : ℕ) → SaysReports nodes [] []
says_none nodes = record { texts = []; each = tt; joined = refl }

pub says_one : (nodes : ℕ) (case : Case) (text : List ℕ) → SaysReport nodes case text → SaysReports nodes (case ∷ []) text
says_one nodes case text report = record { texts = text ∷ []; each = (report, tt); joined = sym (append-nil text) }

says_both : (nodes : ℕ) (cases others : List Case) (text more : List ℕ) → SaysReports nodes cases text → SaysReports nodes others more → SaysReports nodes (cases ++ others) (text ++ more)
says_both nodes cases others text more says later = record {
  texts = says.texts ++ later.texts;
  each = zipped_both (SaysReport nodes) cases others says.texts later.texts says.each later.each;
  joined = ap (λ front. front ++ more) says.joined ∙ ap (λ back. concat says.texts ++ back) later.joined ∙ sym (concat-append says.texts later.texts);
}

-- how far a loop has come over the lines: what is held by then, and what was said
pub record HasFollowed (schema : Schema) (start : Held) (nodes : ℕ) (lines : List Line) (held : Held) (text : List ℕ) : Type 0 where
  pub held_is : held ≡ held_after start lines
  pub says : SaysReports nodes (cases_of schema start lines) text

module _ (schema : Schema) (start : Held) (nodes : ℕ) where
  pub follows_none : HasFollowed schema start nodes [] start []
  unfolding held_after cases_of
  follows_none = record { held_is = refl; says = says_none nodes }

  pub follows_line : (lines : List Line) (held : Held) (text : List ℕ) (line : Line) (more : List ℕ) → HasFollowed schema start nodes lines held text → SaysReports nodes (case_at schema held line) more →
      HasFollowed schema start nodes (lines ++ line ∷ []) (after_line held line) (text ++ more)
  follows_line lines held text line more followed says = record {
    held_is = ap (λ now. after_line now line) followed.held_is ∙ sym (held_after_push start lines line);
    says = rw (cases_of_push schema start lines line)
        (says_both nodes (cases_of schema start lines) (case_at schema (held_after start lines) line) text more followed.says (subst (λ (now : Held). SaysReports nodes (case_at schema now line) more) followed.held_is says));
  }

-- the next of lines that can be followed can be
pub next_follows : (schema : Schema) (start : Held) (before : List Line) (line : Line) (rest : List Line) → CanFollowAll schema start (before ++ line ∷ rest) → CanFollow schema (held_after start before) line
unfolding held_after CanFollowAll
next_follows schema start [] line rest can = can.0
next_follows schema start (first ∷ before) line rest can = next_follows schema (after_line start first) before line rest can.1
