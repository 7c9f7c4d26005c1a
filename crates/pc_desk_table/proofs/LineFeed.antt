-- A line feed at the end of a text of JSON leaves what the text reads as.
use Rattle.std.proofs.Common.{◌≡◌, ℕ, Bool, true, false, cond, ◌&&◌, List, [], ◌∷◌, ◌++◌, Some, option_and_then, refl, sym, ap, ap₂, subst, ◌∙◌, append_assoc, append-nil, arith}
use Rattle.json.specs.Json as json
use Rattle.json.specs.Lex.{Lexeme, token, comma, colon, string_token, lex, between, fresh, punctuate, tokens}
use Rattle.json.specs.Print.{ends, begins, escape, quoted, token_text, separator, print_from, print, ArePrintable, IsPrintable}
use Rattle.json.specs.Token.{Token, begin_object, end_object, begin_array, end_array, key, string, number, boolean, null, bad}
use Rattle.json.specs.Tree.{json_tokens, depth}
use Rattle.json.specs.Word.{ends_word, word}
use Rattle.json.proofs.Numbered.{ArePrintableOrBad-tokens, value-HasNumbers}
use Rattle.json.proofs.Printed.Numbers.{in_word-ended, lex-number}
use Rattle.json.proofs.Printed.Strings.{content-escape, lex-escape}
use Rattle.json.proofs.Printed.Trees.{ArePrintable-json_tokens, value-json_tokens}
use Rattle.serde_json.specs.Data.{Data}
use Rattle.serde_json.specs.Read.{max_depth, of_json, read}
use Rattle.serde_json.specs.Written.{IsInOrder}

abbrev line_feed : List ℕ
line_feed = 10 ∷ []

abbrev lexemes_of : Token → List Lexeme
lexemes_of begin_object = token begin_object ∷ []
lexemes_of end_object = token end_object ∷ []
lexemes_of begin_array = token begin_array ∷ []
lexemes_of end_array = token end_array ∷ []
lexemes_of (key s) = token (string s) ∷ colon ∷ []
lexemes_of (string s) = token (string s) ∷ []
lexemes_of (number s) = token (number s) ∷ []
lexemes_of (boolean b) = token (boolean b) ∷ []
lexemes_of null = token null ∷ []
lexemes_of bad = []

lex_quoted : (s r : List ℕ) → lex between (quoted s ++ r) ≡ token (string s) ∷ lex between r
unfolding lex
lex_quoted s r =
    ap (λ l. lex between (34 ∷ l)) (append_assoc (escape s) (34 ∷ []) r)
    ∙ ap₂ (λ o l. token (string_token o) ∷ l) (content-escape s r) (lex-escape s r)

-- a token's text, where what comes after it ends it
lex_token : (t : Token) (r : List ℕ) → IsPrintable t → (ends t ≡ true → ends_word r ≡ true) → lex between (token_text t ++ r) ≡ lexemes_of t ++ lex between r
unfolding lex word
lex_token begin_object r h ended = refl
lex_token end_object r h ended = refl
lex_token begin_array r h ended = refl
lex_token end_array r h ended = refl
lex_token (key s) r h ended = ap (lex between) (append_assoc (quoted s) (58 ∷ []) r) ∙ lex_quoted s (58 ∷ r)
lex_token (string s) r h ended = lex_quoted s r
lex_token (number s) r h ended = lex-number s r h (ended refl)
lex_token (boolean true) r h ended = ap₂ (λ b l. token (cond b (boolean true) bad) ∷ l) (ended refl) (in_word-ended r (ended refl))
lex_token (boolean false) r h ended = ap₂ (λ b l. token (cond b (boolean false) bad) ∷ l) (ended refl) (in_word-ended r (ended refl))
lex_token null r h ended = ap₂ (λ b l. token (cond b null bad) ∷ l) (ended refl) (in_word-ended r (ended refl))
lex_token bad r h ended = absurd h

lex_separator : (b : Bool) (r : List ℕ) → lex between (cond b (44 ∷ []) [] ++ r) ≡ cond b (comma ∷ []) [] ++ lex between r
unfolding lex
lex_separator true r = refl
lex_separator false r = refl

-- after a value stands a comma, a closing bracket or the end, where `rest` may follow
value_ends : (rest : List ℕ) (ts : List Token) → ends_word rest ≡ true → ends_word (print_from true ts ++ rest) ≡ true
unfolding print_from
value_ends rest [] e = e
value_ends rest (begin_object ∷ ts) e = refl
value_ends rest (end_object ∷ ts) e = refl
value_ends rest (begin_array ∷ ts) e = refl
value_ends rest (end_array ∷ ts) e = refl
value_ends rest (key s ∷ ts) e = refl
value_ends rest (string s ∷ ts) e = refl
value_ends rest (number s ∷ ts) e = refl
value_ends rest (boolean b ∷ ts) e = refl
value_ends rest (null ∷ ts) e = refl
value_ends rest (bad ∷ ts) e = refl

-- the lexemes of tokens that are printed, with what may follow
abbrev lexemes : Bool → List Token → List Lexeme
lexemes c [] = []
lexemes c (t ∷ ts) = cond (c && begins t) (comma ∷ []) [] ++ (lexemes_of t ++ lexemes (ends t) ts)

printed : (rest : List ℕ) → ends_word rest ≡ true → lex between rest ≡ [] → (c : Bool) (ts : List Token) → ArePrintable ts → lex between (print_from c ts ++ rest) ≡ lexemes c ts
unfolding print_from ArePrintable
printed rest ended none c [] h = none
printed rest ended none c (t ∷ ts) h =
    let after = print_from (ends t) ts ++ rest in
    ap (lex between) (append_assoc (separator c t) _ rest ∙ ap (λ l. separator c t ++ l) (append_assoc (token_text t) _ rest))
    ∙ lex_separator (c && begins t) (token_text t ++ after)
    ∙ ap (λ l. cond (c && begins t) (comma ∷ []) [] ++ l)
    (lex_token t after h.0 (λ e. ap (λ b. ends_word (print_from b ts ++ rest)) e ∙ value_ends rest ts ended)
    ∙ ap (λ l. lexemes_of t ++ l) (printed rest ended none (ends t) ts h.1))

nothing_left : lex between line_feed ≡ []
unfolding lex
nothing_left = refl

nothing_there : lex between [] ≡ []
unfolding lex
nothing_there = refl

same_tokens : (ts : List Token) → ArePrintable ts → tokens (print ts ++ line_feed) ≡ tokens (print ts)
same_tokens ts h =
    ap (punctuate fresh)
    (printed line_feed refl nothing_left false ts h
    ∙ sym (printed [] refl nothing_there false ts h) ∙ ap (lex between) (append-nil (print ts)))

-- the tokens of a text that was written can be printed
printable : (text : List ℕ) (j : json.Json) → tokens text ≡ json_tokens j → ArePrintable (tokens text)
printable text j e =
    let whole : json.value (depth j) (tokens text) ≡ Some (j, []) =
    ap (json.value (depth j)) (e ∙ sym (append-nil (json_tokens j))) ∙ value-json_tokens j (depth j) [] (omega arith) in
    subst ArePrintable (sym e) (ArePrintable-json_tokens j (value-HasNumbers (depth j) (tokens text) [] j (ArePrintableOrBad-tokens text) whole))

pub read_line_feed : (text : List ℕ) (d : Data) → text ≡ print (tokens text) → IsInOrder text d → read text ≡ Some d → read (text ++ line_feed) ≡ Some d
read_line_feed text d compact order back =
    let same : tokens (text ++ line_feed) ≡ tokens text =
    ap (λ t. tokens (t ++ line_feed)) compact ∙ same_tokens (tokens text) (printable text order.0 order.1) ∙ ap tokens (sym compact) in
    ap (λ ts. option_and_then of_json (option_and_then (λ p. json.if_last p.0 p.1) (json.value max_depth ts))) same ∙ back
