-- How long tokens are that are written one after another.
use Rattle.std.proofs.Common.{◌≡◌, ℕ, ◌*◌, ◌≤◌, ◌||◌, Bool, true, false, List, [], ◌∷◌, ◌++◌, length, refl, arith, length-append}
use Rattle.std.specs.Prelude.{ℤ, nat_le}
use Rattle.std.specs.List.{list_all}
use Rattle.std.proofs.lemmas.Bool.{and_parts, le-leb, leb-true}
use Rattle.pc_num.specs.Put.{scaled_text}
use Rattle.pc_model.specs.Texts.{is_name}
use Rattle.pc_model.proofs.Names.{name_is}
use Rattle.pc_lang_tokens.specs.declared.token.Symbol.{Symbol}
use Rattle.pc_lang_tokens.specs.declared.token.Symbol.TheVariants as symbols
use Rattle.pc_lang_tokens.specs.declared.token.Word.{Word}
use Rattle.pc_lang_tokens.specs.declared.token.Word.TheVariants as words
use Rattle.pc_lang_tokens.specs.declared.token.Token.{Token}
use Rattle.pc_lang_tokens.specs.declared.token.Token.TheVariants as tokens
use Rattle.pc_lang_tokens.specs.Spelling.{name_text}
use Rattle.pc_lang_tokens.specs.Texts.{gap, is_close, is_open, texts_after, token_text, tokens_text}
use Rattle.pc_lang_tokens.proofs.Fronts.{text_short}
use Rattle.pc_lang_tokens.proofs.ScaledTexts.{scaled_short}
use Rattle.pc_lang_tokens.proofs.TokensBack.{after_cons, after_nil}

-- at most as long as the longest name
abbrev pub is_short : Token → Bool
is_short token = nat_le (length (token_text token)) 130

pub name_text_short : (name : List ℕ) → is_name name ≡ true → length (name_text name) ≤ 130
name_text_short name named = text_short name (name_is name named).short

pub name_is_short : (name : List ℕ) → is_name name ≡ true → is_short (tokens.Name name) ≡ true
unfolding token_text
name_is_short name named = le-leb (length (name_text name)) 130 (name_text_short name named)

pub number_is_short : (value : ℤ) (scale : ℕ) → scale ≤ 6 → is_short (tokens.Number (scaled_text value scale)) ≡ true
unfolding token_text
number_is_short value scale few = le-leb (length (scaled_text value scale)) 130 (scaled_short value scale few)

pub symbol_is_short : (which : Symbol) → is_short (tokens.Symbol which) ≡ true
unfolding token_text
symbol_is_short symbols.Colon = refl
symbol_is_short symbols.Arrow = refl
symbol_is_short symbols.Comma = refl
symbol_is_short symbols.Dots = refl
symbol_is_short symbols.Equal = refl
symbol_is_short symbols.AtLeast = refl
symbol_is_short symbols.AtMost = refl
symbol_is_short symbols.Above = refl
symbol_is_short symbols.Below = refl
symbol_is_short symbols.OpenSet = refl
symbol_is_short symbols.CloseSet = refl
symbol_is_short symbols.OpenGroup = refl
symbol_is_short symbols.CloseGroup = refl
symbol_is_short symbols.Star = refl

pub word_is_short : (word : Word) → is_short (tokens.Reserved word) ≡ true
unfolding token_text
word_is_short words.True = refl
word_is_short words.And = refl
word_is_short words.Or = refl
word_is_short words.In = refl
word_is_short words.Where = refl
word_is_short words.Group = refl
word_is_short words.By = refl
word_is_short words.Count = refl
word_is_short words.Sum = refl
word_is_short words.Min = refl
word_is_short words.Max = refl
word_is_short words.Avg = refl
word_is_short words.Outside = refl
word_is_short words.Quantile = refl

gap_short : (last next : Token) → length (gap last next) ≤ 1
gap_short last next = by_test (is_open last || is_close next) refl
  where
    by_test : (test : Bool) → (is_open last || is_close next) ≡ test → length (gap last next) ≤ 1
    by_test true e = rw e (omega arith)
    by_test false e = rw e (omega arith)

after_short : (last : Token) (list : List Token) → list_all is_short list ≡ true → length (texts_after last list) ≤ 131 * length list
after_short last [] are = rw (after_nil last) (omega arith)
after_short last (next ∷ rest) are =
    let parts = and_parts (is_short next) (list_all is_short rest) are in
    let short = leb-true (length (token_text next)) 130 parts.0 in
    let others = after_short next rest parts.1 in
    let space = gap_short last next in
    let outer = length-append (gap last next) (token_text next ++ texts_after next rest) in
    let inner = length-append (token_text next) (texts_after next rest) in
    rw (after_cons last next rest) (omega (arith, short, others, space, outer, inner))

pub tokens_text_short : (list : List Token) → list_all is_short list ≡ true → length (tokens_text list) ≤ 131 * length list
unfolding tokens_text
tokens_text_short [] are = omega arith
tokens_text_short (first ∷ rest) are =
    let parts = and_parts (is_short first) (list_all is_short rest) are in
    let short = leb-true (length (token_text first)) 130 parts.0 in
    let others = after_short first rest parts.1 in
    let whole = length-append (token_text first) (texts_after first rest) in
    omega (arith, short, others, whole)
