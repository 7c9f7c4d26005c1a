-- One step of `clap`'s walk over the words, by what the word is.
use Rattle.std.proofs.Common.{◌≡◌, ◌∙◌, ◌&&◌, ◌||◌, ◌==◌, ℕ, suc, Bool, true, false, List, [], ◌∷◌, ◌++◌, Option, Some, None, codes, refl, sym, ap, subst, length, drop, true≢false}
use Rattle.std.specs.Prelude.{⊤, if◌then◌else◌, slice_get}
use Rattle.std.specs.Str.{bytes_eq, chars, IsUtf8}
use Rattle.std.specs.List.{before_first}
use Rattle.std.specs.Prelude.{encode_utf8}
use Rattle.clap.specs.Kinds.{Kinds, or_else, range_kinds}
use Rattle.clap.specs.declared.error.kind.ErrorKind.TheVariants.{ArgumentConflict}
use Rattle.clap.specs.Walk.{Held, Row, Rule, Step, Text, Waiting, Walk, arg_by_long, arg_by_short, after_step, has_row, idle, is_pending, long_or_other, option, positional, pushed, settled, settled_rows, short_or_plain, trailing, used, value, values_or_missing, walked, word_met}
use Rattle.clap.specs.Takes.{settle_passes, step_passes, turn_passes, word_passes}
use Rattle.clap.specs.Faults.{bundle_fault, bundle_step_fault, flag_word_fault, flags_fault, long_fault, react_fault, repeat_fault, set_fault, settle_fault, short_fault, step_fault, turn_fault, use_fault, values_fault, word_fault}
use Rattle.clap.specs.Simple.{Shape, built}
use Rattle.clap.specs.Lexer.{long_of, name_and_value}
use Rattle.std.specs.Option.{option_map_or}
use Rattle.pc_run_words.specs.Parsers.{parser_app}
use Rattle.pc_run_words.proofs.FoundRows.{built_rules, nodes_built, plain_built}
use Rattle.pc_run_words.proofs.WordKinds.{IsPlainWord, IsOtherOption, character_after, flags_are, not_dashes, not_long}

-- ---- kinds of errors

abbrev pub IsFaulty : Kinds → Type 0
IsFaulty [] = ⊥
IsFaulty (kind ∷ kinds) = ⊤

pub faulty_first : (a b : Kinds) → IsFaulty a → IsFaulty (or_else a b)
faulty_first [] b faulty = absurd faulty
faulty_first (kind ∷ kinds) b faulty = tt

pub faulty_next : (a b : Kinds) → IsFaulty b → IsFaulty (or_else a b)
faulty_next [] b faulty = faulty
faulty_next (kind ∷ kinds) b faulty = tt

-- ---- where the walk stands

abbrev pub held_at : List Row → Option (Text × List Text) → Held
held_at rows pending = record { rows = rows; pending = pending; skip = 0 }

abbrev pub walk_at : List Row → Option (Text × List Text) → Waiting → Bool → Walk
walk_at rows pending waiting is_trailing = record { held = held_at rows pending; waiting = waiting; position = 1; is_trailing = is_trailing; stopped = None }

-- no option waits for its value
abbrev pub IsOpen : Waiting → Type 0
IsOpen (option id) = ⊥
IsOpen _ = ⊤

abbrev pub for_nodes : List Text → Option (Text × List Text)
for_nodes words = Some (codes "nodes", words)

abbrev pub for_plain : Text → Option (Text × List Text)
for_plain word = Some (codes "words", word ∷ [])

abbrev pub shape : Text → Bool → Shape
shape name has_nodes = (built (parser_app name has_nodes)).top

no_choice : {X : Type 0} (test : Bool) (x y : X) → (if test && false then x else y) ≡ y
no_choice true x y = refl
no_choice false x y = refl

or_true : (test other : Bool) → other ≡ true → ((test && false) || other) ≡ true
or_true true other e = e
or_true false other e = e

-- ---- a word that goes to the positional

module _ (rows : List Row) (pending : Option (Text × List Text)) (waiting : Waiting) where
  to_plain : (has_nodes is_trailing : Bool) (word : Text)
      → after_step (built_rules has_nodes) word (walk_at rows pending waiting is_trailing) (held_at rows pending) value
      ≡ walk_at (settled_rows (built_rules has_nodes) pending rows) (for_plain word) positional (is_trailing || false)
  to_plain true is_trailing word =
      ap (λ (h : Held). record { held = pushed (codes "words") word h; waiting = positional; position = 1; is_trailing = is_trailing || false; stopped = None })
      (no_choice (is_pending plain_built pending) (held_at rows pending) (settled (built_rules true) (held_at rows pending)))
  to_plain false is_trailing word =
      ap (λ (h : Held). record { held = pushed (codes "words") word h; waiting = positional; position = 1; is_trailing = is_trailing || false; stopped = None })
      (no_choice (is_pending plain_built pending) (held_at rows pending) (settled (built_rules false) (held_at rows pending)))

  pub trailing_walked : (has_nodes : Bool) (word : Text)
      → walked (built_rules has_nodes) [] (walk_at rows pending waiting true) word
      ≡ walk_at (settled_rows (built_rules has_nodes) pending rows) (for_plain word) positional true
  unfolding walked
  trailing_walked has_nodes word = to_plain has_nodes true word

  pub trailing_passes : (name : Text) (has_nodes : Bool) (word : Text) → settle_passes (built_rules has_nodes) false (held_at rows pending) ≡ true
      → turn_passes (shape name has_nodes) [] (walk_at rows pending waiting true) word ≡ true
  trailing_passes name true word e = or_true (is_pending plain_built pending) _ e
  trailing_passes name false word e = or_true (is_pending plain_built pending) _ e

  pub trailing_faulty : (name : Text) (has_nodes : Bool) (word : Text) → is_pending plain_built pending ≡ false
      → IsFaulty (settle_fault (built_rules has_nodes) false (held_at rows pending))
      → IsFaulty (turn_fault (shape name has_nodes) [] (walk_at rows pending waiting true) word)
  trailing_faulty name true word e faulty =
      subst IsFaulty (sym (ap (λ test. if test && false then [] else settle_fault (built_rules true) false (held_at rows pending)) e)) faulty
  trailing_faulty name false word e faulty =
      subst IsFaulty (sym (ap (λ test. if test && false then [] else settle_fault (built_rules false) false (held_at rows pending)) e)) faulty

-- ---- a plain word

long_is : (c : List Rule) (waiting : Waiting) (word : Text) (h : Held) → IsPlainWord word
    → (if bytes_eq word (codes "--") then (h, trailing 1) else long_or_other c waiting word (long_of word) h) ≡ short_or_plain c waiting word None h
long_is c waiting word h plain =
    ap (λ test. if test then (h, trailing 1) else long_or_other c waiting word (long_of word) h) plain.dashes
    ∙ ap (λ found. long_or_other c waiting word found h) plain.long ∙ ap (λ found. short_or_plain c waiting word found h) plain.short

plain_met : (c : List Rule) (waiting : Waiting) (word : Text) (h : Held) → IsPlainWord word
    → word_met c [] false waiting 1 word h ≡ short_or_plain c waiting word None h
plain_met c idle word h plain = long_is c idle word h plain
plain_met c (option id) word h plain = long_is c (option id) word h plain
plain_met c positional word h plain = long_is c positional word h plain

open_met : (c : List Rule) (waiting : Waiting) (word : Text) (h : Held) → IsOpen waiting → IsPlainWord word
    → word_met c [] false waiting 1 word h ≡ (h, value)
open_met c idle word h is_open plain = plain_met c idle word h plain
open_met c positional word h is_open plain = plain_met c positional word h plain
open_met c (option id) word h is_open plain = absurd is_open

-- the word is no option, so that nothing of it fails before it comes to its place
no_flag_fails : (s : Shape) (waiting : Waiting) (word : Text) (h : Held) → IsPlainWord word → word_fault s [] false waiting word h ≡ []
no_flag_fails s idle word h plain = rw (plain.dashes, plain.long, plain.short) refl
no_flag_fails s (option id) word h plain = rw (plain.dashes, plain.long, plain.short) refl
no_flag_fails s positional word h plain = rw (plain.dashes, plain.long, plain.short) refl

no_flag_passes : (s : Shape) (waiting : Waiting) (word : Text) (h : Held) → IsPlainWord word → word_passes s [] false waiting word h ≡ true
no_flag_passes s idle word h plain = rw (plain.dashes, plain.long, plain.short) refl
no_flag_passes s (option id) word h plain = rw (plain.dashes, plain.long, plain.short) refl
no_flag_passes s positional word h plain = rw (plain.dashes, plain.long, plain.short) refl

module _ (rows : List Row) (pending : Option (Text × List Text)) (waiting : Waiting) (is_open : IsOpen waiting) (word : Text) (plain : IsPlainWord word) where
  pub plain_walked : (has_nodes : Bool)
      → walked (built_rules has_nodes) [] (walk_at rows pending waiting false) word
      ≡ walk_at (settled_rows (built_rules has_nodes) pending rows) (for_plain word) positional false
  unfolding walked
  plain_walked has_nodes =
      ap (λ met. after_step (built_rules has_nodes) word (walk_at rows pending waiting false) met.0 met.1) (open_met (built_rules has_nodes) waiting word (held_at rows pending) is_open plain)
      ∙ to_plain rows pending waiting has_nodes false word

  plain_turn : (name : Text) (has_nodes : Bool)
      → turn_passes (shape name has_nodes) [] (walk_at rows pending waiting false) word ≡ step_passes (shape name has_nodes) 1 (held_at rows pending) value
  plain_turn name has_nodes =
      let met = word_met (built_rules has_nodes) [] false waiting 1 word (held_at rows pending) in
      ap (λ test. test && step_passes (shape name has_nodes) 1 met.0 met.1) (no_flag_passes (shape name has_nodes) waiting word (held_at rows pending) plain)
      ∙ ap (λ (p : Held × Step). step_passes (shape name has_nodes) 1 p.0 p.1) (open_met (built_rules has_nodes) waiting word (held_at rows pending) is_open plain)

  pub plain_passes : (name : Text) (has_nodes : Bool) → settle_passes (built_rules has_nodes) false (held_at rows pending) ≡ true
      → turn_passes (shape name has_nodes) [] (walk_at rows pending waiting false) word ≡ true
  plain_passes name has_nodes e = plain_turn name has_nodes ∙ trailing_passes rows pending waiting name has_nodes word e

  pub plain_faulty : (name : Text) (has_nodes : Bool) → is_pending plain_built pending ≡ false
      → IsFaulty (settle_fault (built_rules has_nodes) false (held_at rows pending))
      → IsFaulty (turn_fault (shape name has_nodes) [] (walk_at rows pending waiting false) word)
  plain_faulty name has_nodes e faulty =
      let met = word_met (built_rules has_nodes) [] false waiting 1 word (held_at rows pending) in
      let first = ap (λ kinds. or_else kinds (step_fault (shape name has_nodes) 1 met.0 met.1)) (no_flag_fails (shape name has_nodes) waiting word (held_at rows pending) plain) in
      let second = ap (λ (p : Held × Step). step_fault (shape name has_nodes) 1 p.0 p.1) (open_met (built_rules has_nodes) waiting word (held_at rows pending) is_open plain) in
      subst IsFaulty (sym (first ∙ second)) (trailing_faulty rows pending waiting name has_nodes word e faulty)

-- ---- `--`

module _ (rows : List Row) (pending : Option (Text × List Text)) where
  pub dashes_walked : (has_nodes : Bool) (waiting : Waiting)
      → walked (built_rules has_nodes) [] (walk_at rows pending waiting false) (codes "--") ≡ walk_at rows pending waiting true
  unfolding walked
  dashes_walked has_nodes idle = refl
  dashes_walked has_nodes (option id) = refl
  dashes_walked has_nodes positional = refl

  pub dashes_pass : (name : Text) (has_nodes : Bool) (waiting : Waiting) → turn_passes (shape name has_nodes) [] (walk_at rows pending waiting false) (codes "--") ≡ true
  dashes_pass name has_nodes idle = refl
  dashes_pass name has_nodes (option id) = refl
  dashes_pass name has_nodes positional = refl

-- ---- `--nodes`

module _ (rows : List Row) (pending : Option (Text × List Text)) where
  pub nodes_walked : (waiting : Waiting)
      → walked (built_rules true) [] (walk_at rows pending waiting false) (codes "--nodes")
      ≡ walk_at (settled_rows (built_rules true) pending rows) (for_nodes []) (option (codes "nodes")) false
  unfolding walked
  nodes_walked idle = refl
  nodes_walked (option id) = refl
  nodes_walked positional = refl

  pub nodes_pass : (name : Text) (waiting : Waiting) → settle_passes (built_rules true) false (held_at rows pending) ≡ true
      → turn_passes (shape name true) [] (walk_at rows pending waiting false) (codes "--nodes") ≡ true
  nodes_pass name idle e = ap (λ test. test && true) e
  nodes_pass name (option id) e = ap (λ test. test && true) e
  nodes_pass name positional e = ap (λ test. test && true) e

  -- with its value
  pub value_walked : (waiting : Waiting) (found : Text)
      → walked (built_rules true) [] (walk_at rows pending waiting false) (codes "--nodes=" ++ found)
      ≡ walk_at (used nodes_built (found ∷ []) (settled_rows (built_rules true) pending rows)) None idle false
  unfolding walked
  value_walked idle found = refl
  value_walked (option id) found = refl
  value_walked positional found = refl

  pub value_passes : (name : Text) (waiting : Waiting) (found : Text) → settle_passes (built_rules true) false (held_at rows pending) ≡ true
      → has_row (codes "nodes") (settled_rows (built_rules true) pending rows) ≡ false
      → turn_passes (shape name true) [] (walk_at rows pending waiting false) (codes "--nodes=" ++ found) ≡ true
  value_passes name idle found e new = rw (e, new) refl
  value_passes name (option id) found e new = rw (e, new) refl
  value_passes name positional found e new = rw (e, new) refl

-- a second use of `--nodes` fails
pub again_faulty : (words : List Text) (rows : List Row) → has_row (codes "nodes") rows ≡ true → IsFaulty (use_fault false nodes_built words rows)
again_faulty words rows e =
    faulty_next (range_kinds 1 1 (length words)) (set_fault false nodes_built (values_or_missing nodes_built words) rows)
    (faulty_first (repeat_fault false (codes "nodes") rows) (values_fault nodes_built (values_or_missing nodes_built words))
    (subst IsFaulty (sym (ap (λ test. if test && true then ArgumentConflict ∷ [] else []) e)) tt))

module _ (name : Text) (rows : List Row) (pending : Option (Text × List Text)) where
  react_faulty : (found : Text) → has_row (codes "nodes") (settled_rows (built_rules true) pending rows) ≡ true
      → IsFaulty (react_fault (built_rules true) false nodes_built (found ∷ []) (held_at rows pending))
  react_faulty found e =
      faulty_next (settle_fault (built_rules true) false (held_at rows pending)) (use_fault false nodes_built (found ∷ []) (settled_rows (built_rules true) pending rows))
      (again_faulty (found ∷ []) (settled_rows (built_rules true) pending rows) e)

  pub value_faulty : (waiting : Waiting) (found : Text) → has_row (codes "nodes") (settled_rows (built_rules true) pending rows) ≡ true
      → IsFaulty (turn_fault (shape name true) [] (walk_at rows pending waiting false) (codes "--nodes=" ++ found))
  value_faulty idle found e = faulty_first (react_fault (built_rules true) false nodes_built (found ∷ []) (held_at rows pending)) [] (react_faulty found e)
  value_faulty (option id) found e = faulty_first (react_fault (built_rules true) false nodes_built (found ∷ []) (held_at rows pending)) [] (react_faulty found e)
  value_faulty positional found e = faulty_first (react_fault (built_rules true) false nodes_built (found ∷ []) (held_at rows pending)) [] (react_faulty found e)

-- ---- an option that is none of the command's

-- of a command without options
module _ (name : Text) (rows : List Row) (pending : Option (Text × List Text)) where
  pub long_unknown : (waiting : Waiting) (first : ℕ) (rest : Text) → IsFaulty (turn_fault (shape name false) [] (walk_at rows pending waiting false) (45 ∷ 45 ∷ first ∷ rest))
  long_unknown idle first rest = tt
  long_unknown (option id) first rest = tt
  long_unknown positional first rest = tt

-- of the command with `--nodes`
other_fault_is : (h : Held) (found : Option Text) (test : Bool) → test ≡ false
    → IsFaulty (long_fault (built_rules true) false (if test || false then Some nodes_built else None) found h)
other_fault_is h found true e = absurd (true≢false e)
other_fault_is h found false e = tt

settling_fault_is : (h : Held) (found : Option Text) (test : Bool) → IsFaulty (settle_fault (built_rules true) false h)
    → IsFaulty (long_fault (built_rules true) false (if test || false then Some nodes_built else None) found h)
settling_fault_is h None true faulty = faulty
settling_fault_is h (Some found) true faulty = faulty_first (settle_fault (built_rules true) false h) (use_fault false nodes_built (found ∷ []) (settled (built_rules true) h).rows) faulty
settling_fault_is h found false faulty = tt

module _ (name : Text) (rows : List Row) (pending : Option (Text × List Text)) (first : ℕ) (rest : Text) where
  abbrev word : Text
  word = 45 ∷ 45 ∷ first ∷ rest

  abbrev looked_up : Kinds
  looked_up = long_fault (built_rules true) false (arg_by_long (built_rules true) (before_first (λ byte. byte == 61) (first ∷ rest)))
      (name_and_value (first ∷ rest)).1 (held_at rows pending)

  turn_faulty : (waiting : Waiting) → IsFaulty looked_up → IsFaulty (turn_fault (shape name true) [] (walk_at rows pending waiting false) word)
  turn_faulty idle faulty = faulty_first looked_up _ faulty
  turn_faulty (option id) faulty = faulty_first looked_up _ faulty
  turn_faulty positional faulty = faulty_first looked_up _ faulty

  pub other_unknown : (waiting : Waiting) → IsOtherOption (first ∷ rest) → IsFaulty (turn_fault (shape name true) [] (walk_at rows pending waiting false) word)
  other_unknown waiting other = turn_faulty waiting
      (other_fault_is (held_at rows pending) (name_and_value (first ∷ rest)).1 (bytes_eq (codes "nodes") (before_first (λ byte. byte == 61) (first ∷ rest))) other.name)

  -- whichever it is, what is pending is used first
  pub long_settles : (waiting : Waiting) → IsFaulty (settle_fault (built_rules true) false (held_at rows pending))
      → IsFaulty (turn_fault (shape name true) [] (walk_at rows pending waiting false) word)
  long_settles waiting faulty = turn_faulty waiting
      (settling_fault_is (held_at rows pending) (name_and_value (first ∷ rest)).1 (bytes_eq (codes "nodes") (before_first (λ byte. byte == 61) (first ∷ rest))) faulty)

-- a short option
no_character : (c : List Rule) (h : Held) (count : ℕ) (flags : Text) (letter : ℕ) → slice_get (chars flags) 0 ≡ Some letter → arg_by_short c letter ≡ None
    → IsFaulty (flags_fault c false (suc count) flags 0 h)
unfolding flags_fault
no_character c h count flags letter first none =
    subst IsFaulty (sym (ap (λ found. bundle_step_fault c false found flags 0 h (flags_fault c false count)) first
    ∙ ap (λ rule. short_fault c false rule (drop (length (encode_utf8 letter)) flags) h (flags_fault c false count (drop (length (encode_utf8 letter)) flags) 0)) none)) tt

no_short : (has_nodes : Bool) (letter : ℕ) → arg_by_short (built_rules has_nodes) letter ≡ None
no_short true letter = refl
no_short false letter = refl

module _ (name : Text) (has_nodes : Bool) (rows : List Row) (pending : Option (Text × List Text)) (first : ℕ) (rest : Text) where
  abbrev short_found : Kinds
  short_found = flags_fault (built_rules has_nodes) false (length (first ∷ rest)) (first ∷ rest) 0 (held_at rows pending)

  flag_is : (first == 45) ≡ false
      → (if bytes_eq (45 ∷ first ∷ rest) (codes "--") then []
      else flag_word_fault (built_rules has_nodes) false (long_of (45 ∷ first ∷ rest)) (45 ∷ first ∷ rest) (held_at rows pending)) ≡ short_found
  flag_is e =
      ap (λ test. if test then [] else flag_word_fault (built_rules has_nodes) false (long_of (45 ∷ first ∷ rest)) (45 ∷ first ∷ rest) (held_at rows pending)) (not_dashes first rest e)
      ∙ ap (λ long. flag_word_fault (built_rules has_nodes) false long (45 ∷ first ∷ rest) (held_at rows pending)) (not_long first rest e)
      ∙ ap (λ flags. option_map_or (λ found. bundle_fault (built_rules has_nodes) false found (held_at rows pending)) flags []) (flags_are first rest e)

  short_is : (waiting : Waiting) → (first == 45) ≡ false → word_fault (shape name has_nodes) [] false waiting (45 ∷ first ∷ rest) (held_at rows pending) ≡ short_found
  short_is idle e = flag_is e
  short_is (option id) e = flag_is e
  short_is positional e = flag_is e

  pub short_faulty : (waiting : Waiting) → (first == 45) ≡ false → IsUtf8 (45 ∷ first ∷ rest)
      → IsFaulty (turn_fault (shape name has_nodes) [] (walk_at rows pending waiting false) (45 ∷ first ∷ rest))
  short_faulty waiting e text =
      let letter = character_after first rest text in
      let faulty : IsFaulty short_found = no_character (built_rules has_nodes) (held_at rows pending) (length rest) (first ∷ rest) letter.0 letter.1 (no_short has_nodes letter.0) in
      let met = word_met (built_rules has_nodes) [] false waiting 1 (45 ∷ first ∷ rest) (held_at rows pending) in
      faulty_first (word_fault (shape name has_nodes) [] false waiting (45 ∷ first ∷ rest) (held_at rows pending)) (step_fault (shape name has_nodes) 1 met.0 met.1)
      (subst IsFaulty (sym (short_is waiting e)) faulty)

-- ---- a value that waits

module _ (name : Text) (rows : List Row) (word : Text) (plain : IsPlainWord word) where
  pub waiting_walked : walked (built_rules true) [] (walk_at rows (for_nodes []) (option (codes "nodes")) false) word
      ≡ walk_at rows (for_nodes (word ∷ [])) idle false
  unfolding walked
  waiting_walked =
      ap (λ (met : Held × Step). after_step (built_rules true) word (walk_at rows (for_nodes []) (option (codes "nodes")) false) met.0 met.1)
      (plain_met (built_rules true) (option (codes "nodes")) word (held_at rows (for_nodes [])) plain)

  pub waiting_passes : turn_passes (shape name true) [] (walk_at rows (for_nodes []) (option (codes "nodes")) false) word ≡ true
  waiting_passes =
      let h = held_at rows (for_nodes []) in
      let met = word_met (built_rules true) [] false (option (codes "nodes")) 1 word h in
      ap (λ test. test && step_passes (shape name true) 1 met.0 met.1) (no_flag_passes (shape name true) (option (codes "nodes")) word h plain)
      ∙ ap (λ (p : Held × Step). step_passes (shape name true) 1 p.0 p.1) (plain_met (built_rules true) (option (codes "nodes")) word h plain)
