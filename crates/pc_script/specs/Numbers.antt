-- On which lines of a file a script says something.
use Rattle.std.specs.Prelude.{ℕ, List, [], ◌∷◌, ◌++◌, Result, Ok, Err, if◌then◌else◌}
use Rattle.pc_model.specs.declared.fault.Reason.{Reason}
use Rattle.pc_model.specs.Texts.{text_of}
use Rattle.pc_lang.specs.Files.{constraint_lines, is_passed_over, lines_of, without_return}

-- The numbers of the lines that are not passed over, among lines from a number on: those on which a file of constraints would
-- have them.
abbrev pub said_from : ℕ → List (List ℕ) → List ℕ
said_from number texts = constraint_lines number texts

-- .. of one line
abbrev pub said_at : ℕ → List ℕ → List ℕ
said_at number text = if is_passed_over (without_return text) then [] else number ∷ []

abbrev pub said_in : Result (List ℕ) Reason → List ℕ
said_in (Ok text) = said_from 1 (lines_of text)
said_in (Err reason) = []

-- the numbers, from 1, of the lines of a file that are not passed over
abbrev pub said_lines : List ℕ → List ℕ
said_lines bytes = said_in (text_of bytes)
