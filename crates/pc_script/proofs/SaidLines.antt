-- The numbers of the lines that are not passed over, as far as a loop has come.
use Rattle.std.proofs.Common.{◌≡◌, ℕ, ◌+◌, Bool, true, false, List, [], ◌∷◌, ◌++◌, if◌then◌else◌, append-nil, append_assoc, refl, sym, ap, ◌∙◌}
use Rattle.pc_lang.specs.Files.{constraint_lines, is_passed_over, lines_of, without_return}
use Rattle.pc_script.specs.Numbers.{said_at, said_from}

one_or_none : (passed : Bool) (number : ℕ) (rest : List ℕ) → (if passed then rest else number ∷ rest) ≡ (if passed then [] else number ∷ []) ++ rest
one_or_none true number rest = refl
one_or_none false number rest = refl

said_next : (number : ℕ) (text : List ℕ) (rest : List (List ℕ)) → said_from number (text ∷ rest) ≡ said_at number text ++ said_from (number + 1) rest
unfolding constraint_lines
said_next number text rest = one_or_none (is_passed_over (without_return text)) number (said_from (number + 1) rest)

module _ (before : List ℕ) (number : ℕ) (text : List ℕ) where
  -- the numbers after a line
  pub said_step : (line rest : List ℕ) → lines_of text ≡ line ∷ lines_of rest → before ++ said_from number (lines_of text) ≡ (before ++ said_at number line) ++ said_from (number + 1) (lines_of rest)
  said_step line rest split = rw (split, said_next number line (lines_of rest)) (sym (append_assoc before (said_at number line) (said_from (number + 1) (lines_of rest))))

  -- the last line
  pub said_last : lines_of text ≡ text ∷ [] → before ++ said_from number (lines_of text) ≡ before ++ said_at number text
  unfolding constraint_lines
  said_last split = rw (split, said_next number text [], append-nil (said_at number text)) refl

pub ruleset steps = (said_step, said_last)
