-- How whole lists of words are read, where plain words stand in front.
use Rattle.std.proofs.Common.{◌≡◌, ◌∙◌, Bool, true, false, List, [], ◌∷◌, ◌++◌, Option, Some, None, All, codes, refl, sym, ap, true≢false}
use Rattle.std.specs.Prelude.{if◌then◌else◌, option_and_then, option_map}
use Rattle.std.specs.Str.{bytes_eq}
use Rattle.std.proofs.lemmas.List.{append-nil}
use Rattle.std.proofs.lemmas.List.Elements.{All-head, All-tail}
use Rattle.clap.specs.Walk.{Text}
use Rattle.pc_run_words.specs.Words.{Given, after_option, given, given_in, is_option, value_in, with_plain}
use Rattle.pc_run_words.proofs.Agreement.{given_end, given_plain, given_word}
use Rattle.pc_run_words.proofs.WordKinds.{IsPlainWord, by_word}

abbrev ArePlain : List Text → Type 0
ArePlain words = All (λ word. is_option word ≡ false) words

abbrev read_as : Option Text → List Text → Option Given
read_as value plain = Some (record { value = value; plain = plain })

abbrev with_front : List Text → Given → Given
with_front front given = record given { plain = front ++ given.plain }

abbrev with_value : Text → Given → Given
with_value value given = record given { value = Some value }

-- no option: so neither is it `--`
plain_word : (word : Text) → is_option word ≡ false → IsPlainWord word
plain_word = by_word (λ word. is_option word ≡ false → IsPlainWord word) (λ word plain e. plain) (λ e. absurd (true≢false e)) (λ first rest e. absurd (true≢false e))
    (λ first rest other e. absurd (true≢false e))

no_front : (reading : Option Given) → reading ≡ option_map (with_front []) reading
no_front None = refl
no_front (Some found) = refl

longer_front : (word : Text) (front : List Text) (reading : Option Given)
    → option_map (with_plain word) (option_map (with_front front) reading) ≡ option_map (with_front (word ∷ front)) reading
longer_front word front None = refl
longer_front word front (Some found) = refl

-- plain words in front come before those of what stands behind them
front_read : (has_nodes : Bool) (front rest : List Text) → ArePlain front → given has_nodes (front ++ rest) ≡ option_map (with_front front) (given has_nodes rest)
front_read has_nodes [] rest plain = no_front (given has_nodes rest)
front_read has_nodes (word ∷ front) rest plain =
    given_plain has_nodes word (front ++ rest) None (plain_word word (All-head (λ w. is_option w ≡ false) word front plain))
    ∙ ap (option_map (with_plain word)) (front_read has_nodes front rest (All-tail (λ w. is_option w ≡ false) word front plain))
    ∙ longer_front word front (given has_nodes rest)

pub plain_read : (has_nodes : Bool) (words : List Text) → ArePlain words → given has_nodes words ≡ read_as None words
plain_read has_nodes words plain =
    ap (λ all. given has_nodes all) (sym (append-nil words)) ∙ front_read has_nodes words [] plain
    ∙ ap (option_map (with_front words)) (given_end has_nodes None) ∙ ap (read_as None) (append-nil words)

-- ---- `--`

pub dashes_read : (has_nodes : Bool) (front rest : List Text) → ArePlain front → given has_nodes (front ++ codes "--" ∷ rest) ≡ read_as None (front ++ rest)
dashes_read has_nodes front rest plain =
    front_read has_nodes front (codes "--" ∷ rest) plain ∙ ap (option_map (with_front front)) (given_word has_nodes (codes "--") rest None)

-- ---- `--nodes`

value_apart : (value : Text) (rest : List Text) → given true (codes "--nodes" ∷ value ∷ rest) ≡ given_in true rest false (Some value)
unfolding given_in
value_apart value rest = refl

value_joined : (value : Text) (rest : List Text) → given true ((codes "--nodes=" ++ value) ∷ rest) ≡ given_in true rest false (Some value)
unfolding given_in
value_joined value rest = refl

value_before : (value word : Text) (reading : Option Given)
    → option_map (with_plain word) (option_map (with_value value) reading) ≡ option_map (with_value value) (option_map (with_plain word) reading)
value_before value word None = refl
value_before value word (Some found) = refl

value_step : (value word : Text) (rest : List Text) (known free : Option Given) → known ≡ option_map (with_value value) free → (is_end is_flag : Bool)
    → (if is_end then read_as (Some value) rest else (if is_flag then None else option_map (with_plain word) known))
    ≡ option_map (with_value value) (if is_end then read_as None rest else (if is_flag then None else option_map (with_plain word) free))
value_step value word rest known free e true is_flag = refl
value_step value word rest known free e false true = refl
value_step value word rest known free e false false = ap (option_map (with_plain word)) e ∙ value_before value word free

-- once the value is given no other option is known
value_known : (value : Text) (words : List Text) → given_in true words false (Some value) ≡ option_map (with_value value) (given false words)
unfolding given_in
value_known value [] = refl
value_known value (word ∷ rest) =
    value_step value word rest (given_in true rest false (Some value)) (given false rest) (value_known value rest) (bytes_eq word (codes "--")) (is_option word)

value_in_front : (value : Text) (front : List Text) (reading : Option Given)
    → option_map (with_front front) (option_map (with_value value) reading) ≡ option_map (with_value value) (option_map (with_front front) reading)
value_in_front value front None = refl
value_in_front value front (Some found) = refl

value_read : (value : Text) (front rest words : List Text) → ArePlain front → given true words ≡ given_in true rest false (Some value)
    → given true (front ++ words) ≡ option_map (with_value value) (given false (front ++ rest))
value_read value front rest words plain e =
    front_read true front words plain ∙ ap (option_map (with_front front)) (e ∙ value_known value rest) ∙ value_in_front value front (given false rest)
    ∙ ap (option_map (with_value value)) (sym (front_read false front rest plain))

pub apart_read : (value : Text) (front rest : List Text) → ArePlain front
    → given true (front ++ codes "--nodes" ∷ value ∷ rest) ≡ option_map (with_value value) (given false (front ++ rest))
apart_read value front rest plain = value_read value front rest (codes "--nodes" ∷ value ∷ rest) plain (value_apart value rest)

pub joined_read : (value : Text) (front rest : List Text) → ArePlain front
    → given true (front ++ (codes "--nodes=" ++ value) ∷ rest) ≡ option_map (with_value value) (given false (front ++ rest))
joined_read value front rest plain = value_read value front rest ((codes "--nodes=" ++ value) ∷ rest) plain (value_joined value rest)

-- ---- other options

lone_refused : (has_nodes : Bool) (word : Text) (rest : List Text) → is_option word ≡ true → bytes_eq word (codes "--") ≡ false
    → given has_nodes (word ∷ rest) ≡ after_option has_nodes word None (given_in has_nodes rest)
lone_refused has_nodes word rest flag more =
    given_word has_nodes word rest None
    ∙ ap (λ test. if test then read_as None rest
    else (if is_option word then after_option has_nodes word None (given_in has_nodes rest) else option_map (with_plain word) (given_in has_nodes rest false None))) more
    ∙ ap (λ test. if test then after_option has_nodes word None (given_in has_nodes rest) else option_map (with_plain word) (given_in has_nodes rest false None)) flag

none_behind : (has_nodes : Bool) (front words : List Text) → ArePlain front → given has_nodes words ≡ None → given has_nodes (front ++ words) ≡ None
none_behind has_nodes front words plain e = front_read has_nodes front words plain ∙ ap (option_map (with_front front)) e

pub none_known : (word : Text) (front rest : List Text) → ArePlain front → is_option word ≡ true → bytes_eq word (codes "--") ≡ false
    → given false (front ++ word ∷ rest) ≡ None
none_known word front rest plain flag more = none_behind false front (word ∷ rest) plain (lone_refused false word rest flag more)

no_nodes : (word : Text) (next : Bool → Option Text → Option Given) → bytes_eq word (codes "--nodes") ≡ false → value_in word ≡ None → after_option true word None next ≡ None
no_nodes word next alone joined =
    ap (λ test. if test then next true None else option_and_then (λ found. next false (Some found)) (value_in word)) alone
    ∙ ap (option_and_then (λ found. next false (Some found))) joined

pub one_known : (word : Text) (front rest : List Text) → ArePlain front → is_option word ≡ true → bytes_eq word (codes "--") ≡ false
    → bytes_eq word (codes "--nodes") ≡ false → value_in word ≡ None → given true (front ++ word ∷ rest) ≡ None
one_known word front rest plain flag more alone joined =
    none_behind true front (word ∷ rest) plain (lone_refused true word rest flag more ∙ no_nodes word (given_in true rest) alone joined)

-- `--nodes` as the last word has no value
last_refused : given true (codes "--nodes" ∷ []) ≡ None
unfolding given_in
last_refused = refl

pub valueless : (front : List Text) → ArePlain front → given true (front ++ codes "--nodes" ∷ []) ≡ None
valueless front plain = none_behind true front (codes "--nodes" ∷ []) plain last_refused
