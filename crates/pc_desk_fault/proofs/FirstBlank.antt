-- The first blank of a text.
use Rattle.std.proofs.Common.{◌≡◌, ℕ, ◌<◌, true, false, List, length, get_or, sym, arith}
use Rattle.std.specs.List.{position_or_len}
use Rattle.std.proofs.lemmas.List.Sums.{position_or_len_is}
use Rattle.pc_lang_tokens.specs.Lexing.{is_blank}

pub blank_at : (text : List ℕ) (place : ℕ) → place < length text → ((k : ℕ) → k < place → is_blank (get_or text k 0) ≡ false) → is_blank (get_or text place 0) ≡ true → place ≡ position_or_len is_blank text
blank_at text place inside before here = sym (position_or_len_is is_blank text place 0 (omega arith) before (λ _. here))

pub no_blank : (text : List ℕ) → ((k : ℕ) → k < length text → is_blank (get_or text k 0) ≡ false) → length text ≡ position_or_len is_blank text
no_blank text before = sym (position_or_len_is is_blank text (length text) 0 (omega arith) before (λ inside. absurd (omega arith)))

pub ruleset steps = (blank_at, no_blank)
