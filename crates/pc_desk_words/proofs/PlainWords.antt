-- `clap`'s walk over a verb's words, at words that do not begin with `-`.
use Rattle.std.proofs.Common.{◌≡◌, ◌∙◌, ◌++◌, Bool, true, false, List, [], ◌∷◌, All, Option, None, codes, refl, sym, ap, true≢false, ℕ}
use Rattle.std.proofs.lemmas.List.Elements.{All-head, All-tail}
use Rattle.std.specs.Prelude.{⊤, if◌then◌else◌, fold, is_some}
use Rattle.std.specs.Str.{bytes_eq}
use Rattle.clap.specs.Faults.{step_fault, turn_fault, walk_fault, word_fault}
use Rattle.clap.specs.Kinds.{Kinds, or_else}
use Rattle.clap.specs.Lexer.{long_of, short_of}
use Rattle.clap.specs.Simple.{Shape}
use Rattle.clap.specs.Walk.{Held, Rule, Step, Text, Waiting, Walk, after_step, arg_by_index, idle, long_or_other, option, positional, short_or_plain, to_positional, trailing, value, walked, walked_from, word_met}
use Rattle.pc_desk_words.specs.Words.{is_dashed}

-- ---- a plain word

record IsPlainWord (word : Text) : Type 0 where
  pub dashes : bytes_eq word (codes "--") ≡ false
  pub long : long_of word ≡ None
  pub short : short_of word ≡ None

plain_word : (word : Text) → is_dashed word ≡ false → IsPlainWord word
plain_word [] e = record { dashes = refl; long = refl; short = refl }
plain_word (byte ∷ []) e = record { dashes = rw e refl; long = rw e refl; short = rw e refl }
plain_word (byte ∷ next ∷ rest) e = record { dashes = rw e refl; long = rw e refl; short = rw e refl }

-- no option waits for its value
abbrev is_ready : Waiting → Bool
is_ready (option id) = false
is_ready _ = true

long_is : (c : List Rule) (waiting : Waiting) (position : ℕ) (word : Text) (h : Held) → IsPlainWord word
    → (if bytes_eq word (codes "--") then (h, trailing position) else long_or_other c waiting word (long_of word) h) ≡ short_or_plain c waiting word None h
long_is c waiting position word h plain =
    ap (λ test. if test then (h, trailing position) else long_or_other c waiting word (long_of word) h) plain.dashes
    ∙ ap (λ found. long_or_other c waiting word found h) plain.long ∙ ap (λ found. short_or_plain c waiting word found h) plain.short

plain_met : (c : List Rule) (waiting : Waiting) (position : ℕ) (word : Text) (h : Held) → is_ready waiting ≡ true → IsPlainWord word
    → word_met c [] false waiting position word h ≡ (h, value)
plain_met c idle position word h ready plain = long_is c idle position word h plain
plain_met c positional position word h ready plain = long_is c positional position word h plain
plain_met c (option id) position word h ready plain = absurd (true≢false (sym ready))

no_flag_fails : (s : Shape) (waiting : Waiting) (word : Text) (h : Held) → IsPlainWord word → word_fault s [] false waiting word h ≡ []
no_flag_fails s idle word h plain = rw (plain.dashes, plain.long, plain.short) refl
no_flag_fails s (option id) word h plain = rw (plain.dashes, plain.long, plain.short) refl
no_flag_fails s positional word h plain = rw (plain.dashes, plain.long, plain.short) refl

-- ---- where the walk stands

-- the walk has stopped, only values follow, a word may be plain, and what is wrong with what is pending
abbrev standing : Shape → Walk → Option (Text × List Text) × Bool × Bool × Kinds
standing s from = (from.stopped, from.is_trailing, is_ready from.waiting, step_fault s from.position from.held value)

-- a plain word goes to a positional here
abbrev IsFit : Shape → Walk → Type 0
IsFit s from = standing s from ≡ (None, false, true, [])

-- .. after which the walk stands there
abbrev pub plainly : Shape → Walk → Text → Walk
plainly s from word = to_positional s.rules (arg_by_index s.rules from.position) word from from.held

module _ (s : Shape) (from : Walk) (fit : IsFit s from) (word : Text) (plain : is_dashed word ≡ false) where
  abbrev Standing : Type 0
  Standing = Option (Text × List Text) × Bool × Bool × Kinds

  stays : from.stopped ≡ None
  stays = ap (λ (p : Standing). p.0) fit

  flags : from.is_trailing ≡ false
  flags = ap (λ (p : Standing). p.1) fit

  met : word_met s.rules [] false from.waiting from.position word from.held ≡ (from.held, value)
  met = plain_met s.rules from.waiting from.position word from.held (ap (λ (p : Standing). p.2) fit) (plain_word word plain)

  abbrev met_at : Bool → Held × Step
  met_at trails = word_met s.rules [] trails from.waiting from.position word from.held

  plain_walked : walked s.rules [] from word ≡ plainly s from word
  unfolding walked
  plain_walked =
      ap (λ stop. walked_from s.rules [] stop from word) stays
      ∙ ap (λ trails. after_step s.rules word from (met_at trails).0 (met_at trails).1) flags
      ∙ ap (λ (p : Held × Step). after_step s.rules word from p.0 p.1) met

  abbrev fault_at : Bool → Kinds
  fault_at trails = or_else (word_fault s [] trails from.waiting word from.held) (step_fault s from.position (met_at trails).0 (met_at trails).1)

  plain_turn : turn_fault s [] from word ≡ []
  plain_turn =
      ap (λ stop. if is_some stop then [] else fault_at from.is_trailing) stays ∙ ap fault_at flags
      ∙ ap (λ kinds. or_else kinds (step_fault s from.position (met_at false).0 (met_at false).1)) (no_flag_fails s from.waiting word from.held (plain_word word plain))
      ∙ ap (λ (p : Held × Step). step_fault s from.position p.0 p.1) met ∙ ap (λ (p : Standing). p.3) fit

-- ---- words that pass, and where the walk stands after them

abbrev pub Reaches : Shape → Walk → List Text → Walk → Type 0
Reaches s from words end = (walk_fault s [] from words ≡ []) × (fold (walked s.rules []) from words ≡ end)

pub reaches_end : (s : Shape) (w : Walk) → Reaches s w [] w
unfolding walk_fault
reaches_end s w = (refl, refl)

pub reaches_more : (s : Shape) (from next end : Walk) (word : Text) (rest : List Text) → turn_fault s [] from word ≡ [] → walked s.rules [] from word ≡ next
    → Reaches s next rest end → Reaches s from (word ∷ rest) end
unfolding walk_fault
reaches_more s from next end word rest turn step reaches = (
  ap (λ kinds. or_else kinds (walk_fault s [] (walked s.rules [] from word) rest)) turn ∙ ap (λ after. walk_fault s [] after rest) step ∙ reaches.0,
  ap (λ after. fold (walked s.rules []) after rest) step ∙ reaches.1,
)

-- ---- a plain word where an option waits for its value

-- where the walk stands
abbrev pub awaiting : Text → ℕ → Held → Walk
awaiting id position h = record { held = h; waiting = option id; position = position; is_trailing = false; stopped = None }

-- .. and where it stands once the option has it
abbrev pub given : Shape → Text → ℕ → Held → Text → Walk
given s id position h word =
    let taken = short_or_plain s.rules (option id) word None h in
    after_step s.rules word (awaiting id position h) taken.0 taken.1

module _ (s : Shape) (id : Text) (position : ℕ) (h : Held) (word : Text) (plain : is_dashed word ≡ false) where
  abbrev read : Held × Step
  read = word_met s.rules [] false (option id) position word h

  value_met : read ≡ short_or_plain s.rules (option id) word None h
  value_met = long_is s.rules (option id) position word h (plain_word word plain)

  value_walked : walked s.rules [] (awaiting id position h) word ≡ given s id position h word
  unfolding walked
  value_walked = ap (λ (p : Held × Step). after_step s.rules word (awaiting id position h) p.0 p.1) value_met

  value_turn : turn_fault s [] (awaiting id position h) word ≡ []
  value_turn =
      ap (λ kinds. or_else kinds (step_fault s position read.0 read.1)) (no_flag_fails s (option id) word h (plain_word word plain))
      ∙ ap (λ (p : Held × Step). step_fault s position p.0 p.1) value_met

  pub given_reaches : (end : Walk) (rest : List Text) → Reaches s (given s id position h word) rest end → Reaches s (awaiting id position h) (word ∷ rest) end
  given_reaches end rest = reaches_more s (awaiting id position h) (given s id position h word) end word rest value_turn value_walked

-- ---- plain words

abbrev pub ArePlain : List Text → Type 0
ArePlain = All (λ word. is_dashed word ≡ false)

-- each of the words finds a positional
abbrev pub AreFit : Shape → Walk → List Text → Type 0
AreFit s from [] = ⊤
AreFit s from (word ∷ words) = IsFit s from × AreFit s (plainly s from word) words

pub plain_reaches : (s : Shape) (end : Walk) (rest : List Text) (from : Walk) (words : List Text) → AreFit s from words → ArePlain (words ++ rest)
    → (ArePlain rest → Reaches s (fold (plainly s) from words) rest end) → Reaches s from (words ++ rest) end
plain_reaches s end rest from [] fit plain after = after plain
plain_reaches s end rest from (word ∷ words) fit plain after =
    let first = All-head (λ w. is_dashed w ≡ false) word (words ++ rest) plain in
    reaches_more s from (plainly s from word) end word (words ++ rest) (plain_turn s from fit.0 word first) (plain_walked s from fit.0 word first)
    (plain_reaches s end rest (plainly s from word) words fit.1 (All-tail (λ w. is_dashed w ≡ false) word (words ++ rest) plain) after)
