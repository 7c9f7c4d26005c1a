-- What is read from a line is spelled: real numbers and names.
use Rattle.std.proofs.Common.{◌≡◌, ℕ, zero, suc, ◌-◌, ◌==◌, ◌&&◌, Bool, true, false, List, [], ◌∷◌, ◌++◌, take, get_or, Option, Some, None, Result, Ok, Err, refl}
use Rattle.std.specs.Prelude.{⊤, if◌then◌else◌, nat_lt}
use Rattle.std.proofs.lemmas.Bool.{ltb-true}
use Rattle.std.proofs.lemmas.List.Folds.{list_all-append}
use Rattle.pc_model.specs.declared.fault.Reason.{Reason}
use Rattle.pc_model.specs.Refusals.{◌>>=◌}
use Rattle.pc_model.specs.Texts.{is_name}
use Rattle.pc_model.proofs.Names.{is_name_of}
use Rattle.pc_lang_tokens.specs.declared.token.Token.{Token}
use Rattle.pc_lang_tokens.specs.declared.token.Word.{Word}
use Rattle.pc_lang_tokens.specs.Lexing.{is_blank, number_len, other_token, quoted_from, quoted_token, symbol_token, token_at, tokens_from, tokens_of, word_from, word_len, word_token, Found}
use Rattle.pc_lang_tokens.specs.Spelling.{is_bare, is_reserved, is_word, reserved}
use Rattle.pc_lang_tokens.specs.Texts.{are_spelled, is_spelled}
use Rattle.pc_lang_tokens.proofs.Fronts.{bare_is_name}
use Rattle.pc_lang_tokens.proofs.Numbers.{front_number, number_is}

-- what is found is spelled
abbrev IsSound : Found → Type 0
IsSound (Ok found) = is_spelled found.0 ≡ true
IsSound (Err reason) = ⊤

sound_test : (test : Bool) (x y : Found) → (test ≡ true → IsSound x) → IsSound y → IsSound (if test then x else y)
sound_test true x y first other = first refl
sound_test false x y first other = other

sound_if : (test : Bool) (x y : Found) → IsSound x → IsSound y → IsSound (if test then x else y)
sound_if true x y first other = first
sound_if false x y first other = other

symbol_sound : (byte next : ℕ) → IsSound (symbol_token byte next)
unfolding symbol_token
symbol_sound byte next =
    sound_if (byte == 58) _ _ refl
    (sound_if (byte == 44) _ _ refl
    (sound_if (byte == 123) _ _ refl
    (sound_if (byte == 125) _ _ refl
    (sound_if (byte == 40) _ _ refl
    (sound_if (byte == 41) _ _ refl
    (sound_if (byte == 42) _ _ refl
    (sound_if (byte == 61) _ _ (sound_if (next == 62) _ _ refl refl)
    (sound_if (byte == 62) _ _ (sound_if (next == 61) _ _ refl refl)
    (sound_if (byte == 60) _ _ (sound_if (next == 61) _ _ refl refl)
    (sound_if ((byte == 46) && (next == 46)) _ _ refl tt))))))))))

quoted_sound : (found : Option (List ℕ × ℕ)) → IsSound (quoted_token found)
quoted_sound None = tt
quoted_sound (Some found) = sound_test (is_name found.0) _ _ (λ e. e) tt

other_sound : (text : List ℕ) → IsSound (other_token text)
other_sound [] = tt
other_sound (byte ∷ rest) = sound_if (byte == 34) _ _ (quoted_sound (quoted_from false 1 [] rest)) (symbol_sound byte (get_or rest 0 0))

bare_of : (text : List ℕ) → is_word text ≡ true → reserved text ≡ None → is_bare text ≡ true
unfolding is_bare is_reserved
bare_of text word none = rw (word, none) refl

from_word_sound : (text : List ℕ) (found : Option Word) → reserved text ≡ found → IsSound (word_from text found)
from_word_sound text (Some word) e = refl
from_word_sound text None e = sound_test (is_word text) _ _ (λ word. is_name_of text (bare_is_name text (bare_of text word e))) tt

word_sound : (text : List ℕ) → IsSound (word_token text)
unfolding word_token
word_sound text = from_word_sound text (reserved text) refl

token_sound : (text : List ℕ) → IsSound (token_at text)
unfolding token_at
token_sound text =
    sound_test (nat_lt 0 (number_len text)) _ _ (λ some. number_is _ (front_number text (ltb-true 0 (number_len text) some)))
    (sound_if (nat_lt 0 (word_len text)) _ _ (word_sound (take (word_len text) text)) (other_sound text))

none_spelled : are_spelled [] ≡ true
unfolding are_spelled
none_spelled = refl

one_more_spelled : (before : List Token) (token : Token) → are_spelled before ≡ true → is_spelled token ≡ true → are_spelled (before ++ token ∷ []) ≡ true
unfolding are_spelled
one_more_spelled before token all is = rw (list_all-append is_spelled before (token ∷ []), all, is) refl

same_ok : (x y : List Token) → ◌≡◌ {A = Result (List Token) Reason} (Ok x) (Ok y) → x ≡ y
same_ok x y e = cc

not_ok : (reason : Reason) (x : List Token) → ◌≡◌ {A = Result (List Token) Reason} (Err reason) (Ok x) → ⊥
not_ok reason x e = cc

tokens_sound : (text : List ℕ) (before : List Token) (skip : ℕ) (list : List Token) → tokens_from before skip text ≡ Ok list → are_spelled before ≡ true → are_spelled list ≡ true
unfolding tokens_from
tokens_sound [] before skip list e all = let same = same_ok before list e in rw (← same) all
tokens_sound (byte ∷ rest) before (suc skip) list e all = tokens_sound rest before skip list e all
tokens_sound (byte ∷ rest) before zero list e all = by_tests (is_blank byte) (token_at (byte ∷ rest)) e (token_sound (byte ∷ rest)) (λ read skip. tokens_sound rest read skip list)
  where
    by_tests : (blank : Bool) (found : Found) → (if blank then tokens_from before 0 rest else (found >>= λ found. tokens_from (before ++ found.0 ∷ []) (found.1 - 1) rest)) ≡ Ok list → IsSound found → ((read : List Token) (skip : ℕ) → tokens_from read skip rest ≡ Ok list → are_spelled read ≡ true → are_spelled list ≡ true) → are_spelled list ≡ true
    by_tests true found e sound after = after before 0 e all
    by_tests false (Ok found) e sound after = after (before ++ found.0 ∷ []) (found.1 - 1) e (one_more_spelled before found.0 all sound)
    by_tests false (Err reason) e sound after = absurd (not_ok reason list e)

pub tokens_are_spelled : (text : List ℕ) (list : List Token) → tokens_of text ≡ Ok list → are_spelled list ≡ true
tokens_are_spelled text list e = tokens_sound text [] 0 list e none_spelled
