-- The tokens of a text, as far as a loop has come.
use Rattle.std.proofs.Common.{◌≡◌, ℕ, zero, suc, ◌+◌, ◌-◌, ◌<◌, ◌≤◌, ◌==◌, ◌&&◌, Bool, true, false, List, [], ◌∷◌, ◌++◌, length, nat_lt, take, drop, Ok, Err, refl, ◌∙◌, arith, if◌then◌else◌}
use Rattle.std.specs.List.{AllZip}
use Rattle.std.specs.Prelude.{⊤, Option, Some, None}
use Rattle.std.proofs.lemmas.List.{drop_all}
use Rattle.pc_model.specs.declared.fault.Reason.{Reason}
use Rattle.pc_model.specs.declared.fault.Reason.TheVariants as reasons
use Rattle.pc_lang_tokens.specs.declared.token.Symbol.TheVariants as symbols
use Rattle.pc_lang_tokens.specs.declared.token.Token.{Token}
use Rattle.pc_lang_tokens.specs.declared.token.Token.TheVariants as tokens
use Rattle.pc_lang_tokens.specs.declared.token.Word.{Word}
use Rattle.pc_lang_tokens.specs.declared.tokens.Tokens.{Tokens}
use Rattle.pc_lang_tokens.specs.Lexing.{Found, number_len, other_token, quoted_token, starts_blank, symbol_token, token_at, tokens_from, word_from, word_len, word_token}
use Rattle.pc_lang_tokens.specs.Spelling.{reserved}
use Rattle.pc_lang_tokens.specs.Places.{AreTokens, BeginsAt, BeginsNone, HasRead}

-- ---- a text from a place on

next_place : (place : ℕ) (text : List ℕ) → drop 1 (drop place text) ≡ drop (suc place) text
next_place zero text = refl
next_place (suc place) [] = refl
next_place (suc place) (byte ∷ rest) = next_place place rest

one_on : (place : ℕ) (text : List ℕ) → drop 1 (drop place text) ≡ drop (place + 1) text
one_on place text = let e : place + 1 ≡ suc place = omega arith in rw e (next_place place text)

some_left : (place : ℕ) (text : List ℕ) → place < length text → 0 < length (drop place text)
some_left place [] inside = absurd (omega (arith, inside))
some_left zero (byte ∷ rest) inside = omega arith
some_left (suc place) (byte ∷ rest) inside = some_left place rest (omega (arith, inside))

zip_push : {X Y : Type 0} (R : X → Y → Type 0) (xs : List X) (ys : List Y) (x : X) (y : Y) → AllZip R xs ys → R x y → AllZip R (xs ++ x ∷ []) (ys ++ y ∷ [])
zip_push R [] [] x y all one = (one, tt)
zip_push R [] (z ∷ ys) x y all one = absurd all
zip_push R (z ∷ xs) [] x y all one = absurd all
zip_push R (w ∷ xs) (z ∷ ys) x y all one = (all.0, zip_push R xs ys x y all.1 one)

-- ---- one byte

pub byte_taken : (before : List Token) (skip : ℕ) (text : List ℕ) → 0 < length text → 0 < skip → tokens_from before skip text ≡ tokens_from before (skip - 1) (drop 1 text)
unfolding tokens_from
byte_taken before skip [] some more = absurd (omega (arith, some))
byte_taken before zero (byte ∷ rest) some more = absurd (omega (arith, more))
byte_taken before (suc skip) (byte ∷ rest) some more = let e : suc skip - 1 ≡ skip = omega arith in rw e refl

pub byte_blank : (before : List Token) (text : List ℕ) → starts_blank text ≡ true → tokens_from before 0 text ≡ tokens_from before 0 (drop 1 text)
unfolding tokens_from
byte_blank before [] blank = refl
byte_blank before (byte ∷ rest) blank = rw blank refl

pub byte_begins : (before : List Token) (text : List ℕ) (token : Token) (len : ℕ) → 0 < length text → starts_blank text ≡ false → token_at text ≡ Ok (token, len) → tokens_from before 0 text ≡ tokens_from (before ++ token ∷ []) (len - 1) (drop 1 text)
unfolding tokens_from
byte_begins before [] token len some blank found = absurd (omega (arith, some))
byte_begins before (byte ∷ rest) token len some blank found = rw (blank, found) refl

byte_bad : (before : List Token) (text : List ℕ) (reason : Reason) → 0 < length text → starts_blank text ≡ false → token_at text ≡ Err reason → tokens_from before 0 text ≡ Err reason
unfolding tokens_from
byte_bad before [] reason some blank found = absurd (omega (arith, some))
byte_bad before (byte ∷ rest) reason some blank found = rw (blank, found) refl

-- ---- no token

-- where there is none, that is the reason
IsBad : Found → Type 0
IsBad (Ok found) = ⊤
IsBad (Err reason) = reason ≡ reasons.BadToken

found_any : (found : Token × ℕ) → IsBad (Ok found)
unfolding IsBad
found_any found = tt

found_none : IsBad (Err reasons.BadToken)
unfolding IsBad
found_none = refl

bad_if : (b : Bool) (first second : Found) → IsBad first → IsBad second → IsBad (if b then first else second)
bad_if true first second one other = one
bad_if false first second one other = other

symbol_bad : (byte next : ℕ) → IsBad (symbol_token byte next)
unfolding symbol_token
symbol_bad byte next =
    bad_if (byte == 58) _ _ (found_any (tokens.Symbol symbols.Colon, 1)) (
    bad_if (byte == 44) _ _ (found_any (tokens.Symbol symbols.Comma, 1)) (
    bad_if (byte == 123) _ _ (found_any (tokens.Symbol symbols.OpenSet, 1)) (
    bad_if (byte == 125) _ _ (found_any (tokens.Symbol symbols.CloseSet, 1)) (
    bad_if (byte == 40) _ _ (found_any (tokens.Symbol symbols.OpenGroup, 1)) (
    bad_if (byte == 41) _ _ (found_any (tokens.Symbol symbols.CloseGroup, 1)) (
    bad_if (byte == 42) _ _ (found_any (tokens.Symbol symbols.Star, 1)) (
    bad_if (byte == 61) _ _ (bad_if (next == 62) _ _ (found_any (tokens.Symbol symbols.Arrow, 2)) (found_any (tokens.Symbol symbols.Equal, 1))) (
    bad_if (byte == 62) _ _ (bad_if (next == 61) _ _ (found_any (tokens.Symbol symbols.AtLeast, 2)) (found_any (tokens.Symbol symbols.Above, 1))) (
    bad_if (byte == 60) _ _ (bad_if (next == 61) _ _ (found_any (tokens.Symbol symbols.AtMost, 2)) (found_any (tokens.Symbol symbols.Below, 1))) (
    bad_if ((byte == 46) && (next == 46)) _ _ (found_any (tokens.Symbol symbols.Dots, 2)) found_none))))))))))

quoted_bad : (found : Option (List ℕ × ℕ)) → IsBad (quoted_token found)
quoted_bad None = found_none
quoted_bad (Some found) = bad_if _ _ _ (found_any _) found_none

word_bad : (text : List ℕ) (word : Option Word) → IsBad (word_from text word)
word_bad text (Some word) = (found_any _)
word_bad text None = bad_if _ _ _ (found_any _) found_none

other_bad : (text : List ℕ) → IsBad (other_token text)
other_bad [] = found_none
other_bad (byte ∷ rest) = bad_if _ _ _ (quoted_bad _) (symbol_bad byte _)

token_bad : (text : List ℕ) → IsBad (token_at text)
unfolding token_at word_token
token_bad text =
    bad_if (nat_lt 0 (number_len text)) _ _ (found_any (tokens.Number (take (number_len text) text), number_len text)) (
    bad_if (nat_lt 0 (word_len text)) _ _ (word_bad (take (word_len text) text) (reserved (take (word_len text) text))) (other_bad text))

same_reason : (reason : Reason) → IsBad (Err reason) → reason ≡ reasons.BadToken
unfolding IsBad
same_reason reason bad = bad

bad_reason : (text : List ℕ) (reason : Reason) → token_at text ≡ Err reason → reason ≡ reasons.BadToken
bad_reason text reason none = same_reason reason (rw none at (token_bad text))

-- ---- how far a loop has come

module _ (text : List ℕ) (place : ℕ) (tokens : Tokens) where
  pub reached_taken : (taken : ℕ) → place < length text → 0 < taken → HasRead text place tokens taken → HasRead text (place + 1) tokens (taken - 1)
  reached_taken taken inside more read = record {
    left = read.left ∙ (byte_taken tokens.list taken (drop place text) (some_left place text inside) more ∙ rw (one_on place text) refl);
    placed = read.placed;
  }

  pub reached_blank : starts_blank (drop place text) ≡ true → HasRead text place tokens 0 → HasRead text (place + 1) tokens 0
  reached_blank blank read = record {
    left = read.left ∙ (byte_blank tokens.list (drop place text) blank ∙ rw (one_on place text) refl);
    placed = read.placed;
  }

  pub reached_token : (more : Tokens) (token : Token) (len : ℕ) → place < length text → starts_blank (drop place text) ≡ false → token_at (drop place text) ≡ Ok (token, len) → HasRead text place tokens 0 →
      more.list ≡ tokens.list ++ token ∷ [] → more.places ≡ tokens.places ++ place ∷ [] → HasRead text (place + 1) more (len - 1)
  reached_token more token len inside blank found read list places = record {
    left = read.left ∙ (byte_begins tokens.list (drop place text) token len (some_left place text inside) blank found ∙ rw (one_on place text, list) refl);
    placed = rw (list, places) (zip_push (BeginsAt text) tokens.list tokens.places token place read.placed (len, found));
  }

  pub reached_none : (reason : Reason) → place < length text → starts_blank (drop place text) ≡ false → token_at (drop place text) ≡ Err reason → HasRead text place tokens 0 → BeginsNone text place
  reached_none reason inside blank none read =
      let bad = bad_reason (drop place text) reason none in
      let none_there = rw bad at none in
      record {
        inside = inside;
        none = none_there;
        before = (tokens.list, read.left);
        refused = read.left ∙ byte_bad tokens.list (drop place text) reasons.BadToken (some_left place text inside) blank none_there;
      }

pub ruleset byte_steps = (reached_taken, reached_blank, reached_token, reached_none)

pub reads_none : (text : List ℕ) (tokens : Tokens) → tokens.list ≡ [] → tokens.places ≡ [] → HasRead text 0 tokens 0
reads_none text tokens list places = record { left = rw list refl; placed = rw (list, places) tt }

pub reads_all : (text : List ℕ) (place taken : ℕ) (tokens : Tokens) → length text ≤ place → HasRead text place tokens taken → AreTokens text tokens
unfolding tokens_from
reads_all text place taken tokens past read = record { all = read.left ∙ rw (drop_all place text past) refl; placed = read.placed }

pub ruleset steps = (reads_none, reads_all)
