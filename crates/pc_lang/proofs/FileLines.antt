-- The lines of a file of constraints, as far as a loop has come.
use Rattle.std.proofs.Common.{◌≡◌, ℕ, ◌+◌, Bool, true, false, List, [], ◌∷◌, get_or, zero, suc, Some, None, Result, Ok, Err, refl}
use Rattle.pc_model.specs.declared.fault.FileKind.TheVariants as files
use Rattle.pc_model.specs.declared.fault.Fault.{Fault}
use Rattle.pc_model.specs.declared.schema.Schema.{Schema}
use Rattle.pc_model.specs.declared.constraint.Constraint.{Constraint}
use Rattle.pc_model.specs.declared.fault.Reason.{Reason}
use Rattle.pc_model.specs.declared.fault.Refusal.{Refusal}
use Rattle.pc_model.specs.declared.fault.Refusal.TheVariants as refusals
use Rattle.pc_model.specs.Refusals.{◌>>=◌, fault_at, placed, RefusesAs}
use Rattle.pc_model.specs.Texts.{text_of}
use Rattle.pc_lang.specs.Files.{is_passed_over, without_return, lines_of, constraint_lines, as_limits, constraints_after, constraints_from, left_after, of_limits, refusal_of_limits, with_line}

some_differs : {X : Type 0} (x : X) → Some x ≡ None → ⊥
some_differs x e = cc

-- a line without the constraint that is looked for
number_on : (line : List ℕ) (lines : List (List ℕ)) (number before left : ℕ) → left_after line before ≡ Some left → get_or (constraint_lines number (line ∷ lines)) before 0 ≡ get_or (constraint_lines (number + 1) lines) left 0
unfolding constraint_lines left_after
number_on line lines number before left e = by_test (is_passed_over (without_return line)) refl before e
  where
    by_test : (test : Bool) → is_passed_over (without_return line) ≡ test → (k : ℕ) → left_after line k ≡ Some left → get_or (constraint_lines number (line ∷ lines)) k 0 ≡ get_or (constraint_lines (number + 1) lines) left 0
    by_test true t k e = let same : k ≡ left = (let f = rw t at e in cc) in rw (t, same) refl
    by_test false t zero e = absurd (let f = rw t at e in cc)
    by_test false t (suc k) e = let same : k ≡ left = (let f = rw t at e in cc) in rw (t, same) refl

-- the line with it
number_here : (line : List ℕ) (lines : List (List ℕ)) (number before : ℕ) → left_after line before ≡ None → get_or (constraint_lines number (line ∷ lines)) before 0 ≡ number
unfolding constraint_lines left_after
number_here line lines number before e = by_test (is_passed_over (without_return line)) refl before e
  where
    by_test : (test : Bool) → is_passed_over (without_return line) ≡ test → (k : ℕ) → left_after line k ≡ None → get_or (constraint_lines number (line ∷ lines)) k 0 ≡ number
    by_test true t k e = absurd (let f = rw t at e in cc)
    by_test false t zero e = rw t refl
    by_test false t (suc k) e = absurd (let f = rw t at e in cc)

pub number_step : (text line rest : List ℕ) (number before left : ℕ) → lines_of text ≡ line ∷ lines_of rest → left_after line before ≡ Some left → get_or (constraint_lines number (lines_of text)) before 0 ≡ get_or (constraint_lines (number + 1) (lines_of rest)) left 0
number_step text line rest number before left split e = rw split (number_on line (lines_of rest) number before left e)

pub number_found : (text line rest : List ℕ) (number before : ℕ) → lines_of text ≡ line ∷ lines_of rest → left_after line before ≡ None → get_or (constraint_lines number (lines_of text)) before 0 ≡ number
number_found text line rest number before split e = rw split (number_here line (lines_of rest) number before e)

pub number_last : (text : List ℕ) (number before left : ℕ) → lines_of text ≡ text ∷ [] → left_after text before ≡ Some left → get_or (constraint_lines number (lines_of text)) before 0 ≡ 0
unfolding constraint_lines
number_last text number before left split e = rw split (number_on text [] number before left e)

pub number_in_last : (text : List ℕ) (number before : ℕ) → lines_of text ≡ text ∷ [] → left_after text before ≡ None → get_or (constraint_lines number (lines_of text)) before 0 ≡ number
number_in_last text number before split e = rw split (number_here text [] number before e)

pub ruleset numbers = (number_step, number_found, number_last, number_in_last)

module _ (schema : Schema) (place : ℕ) (before : List Constraint) where
  -- the lines after one that is read
  pub file_step : (text line rest : List ℕ) (after : List Constraint) → lines_of text ≡ line ∷ lines_of rest → placed files.Constraints place (with_line schema before (without_return line)) ≡ Ok after → constraints_from schema place before (lines_of text) ≡ constraints_from schema (place + 1) after (lines_of rest)
  unfolding constraints_from
  file_step text line rest after split read = rw (split, read) refl

  -- a line that is refused
  pub file_refused : (text line rest : List ℕ) (fault : Fault) → lines_of text ≡ line ∷ lines_of rest → placed files.Constraints place (with_line schema before (without_return line)) ≡ Err fault → constraints_from schema place before (lines_of text) ≡ Err fault
  unfolding constraints_from
  file_refused text line rest fault split refused = rw (split, refused) refl

  last_of : (read : Result (List Constraint) Fault) → (read >>= λ after. constraints_from schema (place + 1) after []) ≡ read
  unfolding constraints_from
  last_of (Ok after) = refl
  last_of (Err fault) = refl

  -- the last line
  pub file_last : (text : List ℕ) → lines_of text ≡ text ∷ [] → constraints_from schema place before (lines_of text) ≡ placed files.Constraints place (with_line schema before (without_return text))
  unfolding constraints_from
  file_last text split = rw split (last_of (placed files.Constraints place (with_line schema before (without_return text))))

  pub refusal_step : (text line rest : List ℕ) (refusal : Refusal) → lines_of text ≡ line ∷ lines_of rest → RefusesAs refusal (placed files.Constraints place (with_line schema before (without_return line))) → RefusesAs refusal (constraints_from schema place before (lines_of text))
  refusal_step text line rest (refusals.Fault fault) split refused = file_refused text line rest fault split refused
  refusal_step text line rest refusals.Memory split refused = tt

-- a file that has a text
pub text_read : (schema : Schema) (before : List Constraint) (bytes text : List ℕ) → text_of bytes ≡ Ok text → constraints_after schema before bytes ≡ constraints_from schema 1 before (lines_of text)
unfolding constraints_after
text_read schema before bytes text e = rw e refl

-- a file that has none
pub no_text : (schema : Schema) (before : List Constraint) (bytes : List ℕ) (reason : Reason) → text_of bytes ≡ Err reason → constraints_after schema before bytes ≡ Err (fault_at files.Constraints 0 reason)
unfolding constraints_after
no_text schema before bytes reason e = rw e refl

-- a refusal of limits
pub limits_refused : {X : Type 0} (refusal : Refusal) (wanted : Result X Fault) → RefusesAs refusal wanted → RefusesAs (refusal_of_limits refusal) (as_limits wanted)
limits_refused (refusals.Fault fault) wanted is = rw is refl
limits_refused refusals.Memory wanted is = tt

pub ruleset texts = (text_read, no_text)
