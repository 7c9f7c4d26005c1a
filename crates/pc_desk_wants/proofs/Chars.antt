-- The characters of bytes.
use Rattle.std.proofs.Common.{◌≡◌, ℕ, ◌<◌, true, false, List, length, get_or, sym, arith}
use Rattle.std.specs.List.{position_or_len}
use Rattle.std.proofs.lemmas.List.Sums.{position_or_len_is}
use Rattle.pc_desk_wants.specs.Shown.{begins_char}

pub char_at : (text : List ℕ) (place : ℕ) → place < length text → ((k : ℕ) → k < place → begins_char (get_or text k 0) ≡ false) → begins_char (get_or text place 0) ≡ true → place ≡ position_or_len begins_char text
char_at text place inside before here = sym (position_or_len_is begins_char text place 0 (omega arith) before (λ _. here))

pub no_char : (text : List ℕ) → ((k : ℕ) → k < length text → begins_char (get_or text k 0) ≡ false) → length text ≡ position_or_len begins_char text
no_char text before = sym (position_or_len_is begins_char text (length text) 0 (omega arith) before (λ inside. absurd (omega arith)))

pub ruleset rest_steps = (char_at, no_char)
