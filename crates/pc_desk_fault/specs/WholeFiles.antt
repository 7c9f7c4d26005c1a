-- What is told of a file as a whole.
use Rattle.std.specs.Prelude.{ℕ, ◌+◌, ◌==◌, List, [], ◌∷◌, ◌++◌, length, codes, decimal, take, nat_le, Result, Ok, Err, if◌then◌else◌}
use Rattle.std.specs.List.{concat}
use Rattle.std.specs.Str.{is_utf8}
use Rattle.std.specs.Str.Lossy.{utf8_valid_len}
use Rattle.pc_model.specs.declared.fault.Reason.{Reason}
use Rattle.pc_model.specs.declared.fault.Reason.TheVariants as reasons
use Rattle.pc_desk_wants.specs.Told.{line_break}
use Rattle.pc_desk_fault.specs.Sentences.{sentence_line}

-- the text of a file, or its bytes where it is none
abbrev pub plain_text : Result (List ℕ) Reason → List ℕ → List ℕ
plain_text (Ok text) bytes = text
plain_text (Err reason) bytes = bytes

abbrev pub one_for : ℕ → ℕ
one_for byte = if byte == 10 then 1 else 0

unfoldable pub feeds_in : List ℕ → ℕ
feeds_in [] = 0
feeds_in (byte ∷ rest) = one_for byte + feeds_in rest

-- the line on which a place is, from 1
abbrev pub line_at : ℕ → List ℕ → ℕ
line_at place text = feeds_in (take place text) + 1

abbrev pub spoiled_line : ℕ → List ℕ
spoiled_line line = concat (codes " (line " ∷ decimal line ∷ codes ")" ∷ line_break ∷ [])

abbrev pub spoiled_at : ℕ → List ℕ → List ℕ
spoiled_at place bytes = if nat_le (length bytes) place then line_break else spoiled_line (line_at place bytes)

-- the line of the first byte that is no UTF-8
unfoldable pub spoiled_text : List ℕ → List ℕ
spoiled_text bytes = if is_utf8 bytes then line_break else spoiled_at (utf8_valid_len bytes) bytes

abbrev pub file_text : Reason → List ℕ → List ℕ
file_text reasons.NotUtf8 bytes = spoiled_text bytes
file_text reason bytes = line_break

unfoldable pub whole_text : Reason → List ℕ → List ℕ
whole_text reason bytes = file_text reason bytes ++ sentence_line reason
