-- Bare names are text.
use Rattle.std.proofs.Common.{◌≡◌, ℕ, ◌<◌, ◌&&◌, not, leb, length, true, List, [], ◌∷◌, arith}
use Rattle.std.specs.List.{list_all}
use Rattle.std.specs.Str.{IsAscii, IsUtf8}
use Rattle.std.proofs.lemmas.Bool.{and_parts}
use Rattle.std.proofs.lemmas.Bool.Decides.{nat_tests}
use Rattle.std.proofs.lemmas.Str.{IsUtf8-from_ascii}
use Rattle.std.proofs.lemmas.Str.Ascii.{IsAscii-nil, IsAscii-cons}
use Rattle.pc_lang_tokens.specs.Spelling.{begins_as_word, is_word_byte, is_word, is_reserved, is_bare}

word_byte_is_ascii : (byte : ℕ) → is_word_byte byte ≡ true → byte < 128
word_byte_is_ascii byte word = grind (arith, nat_tests)

words_are_ascii : (text : List ℕ) → list_all is_word_byte text ≡ true → IsAscii text
words_are_ascii [] all = IsAscii-nil
words_are_ascii (byte ∷ rest) all =
    let parts = and_parts (is_word_byte byte) (list_all is_word_byte rest) all in
    IsAscii-cons byte rest (word_byte_is_ascii byte parts.0) (words_are_ascii rest parts.1)

word_is_ascii : (text : List ℕ) → is_word text ≡ true → IsAscii text
unfolding is_word
word_is_ascii text word =
    let front = and_parts (begins_as_word text && list_all is_word_byte text) (leb (length text) 64) word in
    words_are_ascii text (and_parts (begins_as_word text) (list_all is_word_byte text) front.0).1

pub word_is_text : (text : List ℕ) → is_word text ≡ true → IsUtf8 text
word_is_text text word = IsUtf8-from_ascii text (word_is_ascii text word)

pub bare_is_text : (text : List ℕ) → is_bare text ≡ true → IsUtf8 text
unfolding is_bare
bare_is_text text bare = word_is_text text (and_parts (is_word text) (not (is_reserved text)) bare).0

pub bare_is_word : (text : List ℕ) → is_bare text ≡ true → is_word text ≡ true
unfolding is_bare
bare_is_word text bare = (and_parts (is_word text) (not (is_reserved text)) bare).0
