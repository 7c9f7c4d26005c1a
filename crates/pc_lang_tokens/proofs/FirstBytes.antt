-- A line that begins with a name, or with `outside`, is not passed over, and no byte order mark stands before it.
use Rattle.std.specs.Prelude.{codes}
use Rattle.std.proofs.Common.{◌≡◌, ℕ, ◌==◌, Bool, true, false, List, [], ◌∷◌, ◌++◌, refl, arith}
use Rattle.std.proofs.lemmas.Bool.{false≢true}
use Rattle.std.proofs.lemmas.Bool.Decides.{nat_tests}
use Rattle.pc_lang_tokens.specs.declared.token.Word.TheVariants as words
use Rattle.pc_lang_tokens.specs.declared.token.Token.{Token}
use Rattle.pc_lang_tokens.specs.declared.token.Token.TheVariants as tokens
use Rattle.pc_lang_tokens.specs.Lexing.{is_blank}
use Rattle.pc_lang_tokens.specs.Spelling.{begins_as_word, doubled, is_bare, name_text}
use Rattle.pc_lang_tokens.specs.Texts.{texts_after, token_text, tokens_text}
use Rattle.pc_lang_tokens.proofs.Fronts.{text_bare, text_quoted}
use Rattle.pc_lang_tokens.proofs.ReadingBack.{word_parts}
use Rattle.pc_lang_tokens.proofs.Words.{bare_is_word}

-- The first byte is no blank, no `#` and not the first one of a byte order mark.
pub record BeginsPlainly (text : List ℕ) : Type 0 where
  pub byte : ℕ
  pub rest : List ℕ
  pub form : text ≡ byte ∷ rest
  pub no_blank : is_blank byte ≡ false
  pub no_comment : (byte == 35) ≡ false
  pub no_mark : (byte == 239) ≡ false

bare_begins : (name after : List ℕ) → begins_as_word name ≡ true → BeginsPlainly (name ++ after)
bare_begins [] after e = absurd (false≢true e)
bare_begins (byte ∷ rest) after e = record {
  byte = byte;
  rest = rest ++ after;
  form = refl;
  no_blank = grind (arith, nat_tests, e);
  no_comment = grind (arith, nat_tests, e);
  no_mark = grind (arith, nat_tests, e);
}

name_begins : (name after : List ℕ) → BeginsPlainly (name_text name ++ after)
name_begins name after = by_test (is_bare name) refl
  where
    by_test : (test : Bool) → is_bare name ≡ test → BeginsPlainly (name_text name ++ after)
    by_test true e = rw (text_bare name e) (bare_begins name after (word_parts name (bare_is_word name e)).0)
    by_test false e = rw (text_quoted name e) record {
      byte = 34;
      rest = (doubled name ++ 34 ∷ []) ++ after;
      form = refl;
      no_blank = refl;
      no_comment = refl;
      no_mark = refl;
    }

pub tokens_text_begins : (name : List ℕ) (rest : List Token) → BeginsPlainly (tokens_text (tokens.Name name ∷ rest))
unfolding tokens_text token_text
tokens_text_begins name rest = name_begins name (texts_after (tokens.Name name) rest)

pub outside_begins : (rest : List Token) → BeginsPlainly (tokens_text (tokens.Reserved words.Outside ∷ rest))
unfolding tokens_text token_text
outside_begins rest = record {
  byte = 111;
  rest = codes "utside" ++ texts_after (tokens.Reserved words.Outside) rest;
  form = refl;
  no_blank = refl;
  no_comment = refl;
  no_mark = refl;
}
