-- `clap`'s walk over the words gives what the definitions say of them.
use Rattle.std.proofs.Common.{◌≡◌, ◌∙◌, ◌&&◌, ◌||◌, ◌==◌, ℕ, Bool, true, false, List, [], ◌∷◌, ◌++◌, Option, Some, None, codes, refl, sym, ap, subst, length, inl, inr, ◌⊎◌, take, drop}
use Rattle.std.specs.Prelude.{⊤, not, if◌then◌else◌, fold, option_and_then, option_map, IfSome, nat_lt, nat_le}
use Rattle.std.specs.List.{AllByRecursion}
use Rattle.std.specs.Str.{bytes_eq, IsUtf8}
use Rattle.std.specs.Str.Parse.{digits_value}
use Rattle.std.proofs.lemmas.List.{append-nil, append_assoc}
use Rattle.clap.specs.Kinds.{Kinds, or_else}
use Rattle.clap.specs.Walk.{Held, Row, Text, Waiting, Walk, has_row, idle, option, positional, settled, settled_rows, used, walked}
use Rattle.clap.specs.Takes.{settle_passes, turn_passes, walk_passes}
use Rattle.clap.specs.Faults.{check_fault, defaults_fault, settle_fault, turn_fault, walk_fault}
use Rattle.clap.specs.Walk.{finished}
use Rattle.pc_run_words.specs.Words.{Given, after_option, after_word, budget_of, given_in, is_option, number_of, value_in, with_plain}
use Rattle.pc_run_words.specs.Parsers.{IsRefused}
use Rattle.pc_run_words.proofs.FoundRows.{built_rules, has_nodes_row, nodes_built, nodes_used, plain_built, plain_used, rows_with}
use Rattle.pc_run_words.proofs.WordKinds.{IsOtherOption, IsPlainWord, by_option, by_word, not_dashes, not_front, not_nodes}
use Rattle.pc_run_words.proofs.WordSteps.{IsFaulty, IsOpen, again_faulty, dashes_pass, dashes_walked, faulty_first, for_nodes, for_plain, held_at, long_settles, long_unknown, nodes_pass, nodes_walked, other_unknown, plain_faulty, plain_passes, plain_walked, shape, short_faulty, trailing_faulty, trailing_passes, trailing_walked, value_faulty, value_passes, value_walked, waiting_passes, waiting_walked, walk_at}

-- ---- from a place in the words to their end

module _ (name : Text) (has_nodes : Bool) where
  abbrev ended : Walk → List Text → Held
  ended w words = (fold (walked (built_rules has_nodes) []) w words).held

  abbrev pub fault_from : Walk → List Text → Kinds
  fault_from w words =
      let end = ended w words in
      or_else (walk_fault (shape name has_nodes) [] w words)
      (or_else (settle_fault (built_rules has_nodes) false end)
      (or_else (defaults_fault (settled (built_rules has_nodes) end).rows (built_rules has_nodes))
      (check_fault (shape name has_nodes) (finished (built_rules has_nodes) end) false)))

  -- what the walk takes, and gives, where `before` are the plain words so far
  pub record IsTaken (w : Walk) (words : List Text) (before : List Text) (reading : Option Given) : Type 0 where
    pub are : Given
    pub given : reading ≡ Some are
    pub walks : walk_passes (shape name has_nodes) [] w words ≡ true
    pub ends : settle_passes (built_rules has_nodes) false (ended w words) ≡ true
    pub nodes_first : Bool
    pub rows : (settled (built_rules has_nodes) (ended w words)).rows ≡ rows_with are.value (before ++ are.plain) nodes_first

  abbrev pub Agrees : Walk → List Text → List Text → Option Given → Type 0
  Agrees w words before reading = IsTaken w words before reading ⊎ (IsFaulty (fault_from w words) × IsRefused has_nodes reading)

  faulty_turn : (a b c : Kinds) → IsFaulty a → IsFaulty (or_else (or_else a b) c)
  faulty_turn a b c faulty = faulty_first (or_else a b) c (faulty_first a b faulty)

  faulty_rest : (a b c : Kinds) → IsFaulty (or_else b c) → IsFaulty (or_else (or_else a b) c)
  faulty_rest [] b c faulty = faulty
  faulty_rest (kind ∷ kinds) b c faulty = tt

  pub fails_here : (w : Walk) (word : Text) (rest : List Text) → IsFaulty (turn_fault (shape name has_nodes) [] w word) → IsFaulty (fault_from w (word ∷ rest))
  unfolding walk_fault
  fails_here w word rest faulty = faulty_turn (turn_fault (shape name has_nodes) [] w word) (walk_fault (shape name has_nodes) [] (walked (built_rules has_nodes) [] w word) rest) _ faulty

  pub fails_later : (w next : Walk) (word : Text) (rest : List Text) → walked (built_rules has_nodes) [] w word ≡ next → IsFaulty (fault_from next rest)
      → IsFaulty (fault_from w (word ∷ rest))
  unfolding walk_fault
  fails_later w next word rest e faulty =
      faulty_rest (turn_fault (shape name has_nodes) [] w word) (walk_fault (shape name has_nodes) [] (walked (built_rules has_nodes) [] w word) rest) _
      (subst (λ after. IsFaulty (fault_from after rest)) (sym e) faulty)

  pub fails_at_end : (w : Walk) → IsFaulty (settle_fault (built_rules has_nodes) false w.held) → IsFaulty (fault_from w [])
  unfolding walk_fault
  fails_at_end w faulty = faulty_first (settle_fault (built_rules has_nodes) false w.held) _ faulty

  walks_on : (w : Walk) (word : Text) (rest : List Text) → turn_passes (shape name has_nodes) [] w word ≡ true
      → walk_passes (shape name has_nodes) [] (walked (built_rules has_nodes) [] w word) rest ≡ true → walk_passes (shape name has_nodes) [] w (word ∷ rest) ≡ true
  unfolding walk_passes
  walks_on w word rest turn rest_passes = ap (λ test. test && walk_passes (shape name has_nodes) [] (walked (built_rules has_nodes) [] w word) rest) turn ∙ rest_passes

  refused_plain : (word : Text) (reading : Option Given) → IsRefused has_nodes reading → IsRefused has_nodes (option_map (with_plain word) reading)
  refused_plain word None refused = tt
  refused_plain word (Some words) refused = refused

  taken_same : (w : Walk) (word : Text) (rest before : List Text) (reading : Option Given) → turn_passes (shape name has_nodes) [] w word ≡ true
      → IsTaken (walked (built_rules has_nodes) [] w word) rest before reading → IsTaken w (word ∷ rest) before reading
  taken_same w word rest before reading turn taken =
      record { are = taken.are; given = taken.given; walks = walks_on w word rest turn taken.walks; ends = taken.ends; nodes_first = taken.nodes_first; rows = taken.rows }

  taken_plain : (w : Walk) (word : Text) (rest before : List Text) (reading : Option Given) → turn_passes (shape name has_nodes) [] w word ≡ true
      → IsTaken (walked (built_rules has_nodes) [] w word) rest (before ++ word ∷ []) reading → IsTaken w (word ∷ rest) before (option_map (with_plain word) reading)
  taken_plain w word rest before reading turn taken =
      record {
        are = with_plain word taken.are;
        given = ap (option_map (with_plain word)) taken.given;
        walks = walks_on w word rest turn taken.walks;
        ends = taken.ends;
        nodes_first = taken.nodes_first;
        rows = taken.rows ∙ ap (λ words. rows_with taken.are.value words taken.nodes_first) (append_assoc before (word ∷ []) taken.are.plain);
      }

  -- a word that adds no plain one
  pub agrees_same : (w next : Walk) (word : Text) (rest before : List Text) (reading : Option Given) → turn_passes (shape name has_nodes) [] w word ≡ true
      → walked (built_rules has_nodes) [] w word ≡ next → Agrees next rest before reading → Agrees w (word ∷ rest) before reading
  agrees_same w next word rest before reading turn e agrees =
      elim agrees [
        | inl taken ↦ inl (taken_same w word rest before reading turn (subst (λ after. IsTaken after rest before reading) (sym e) taken))
        | inr fails ↦ inr (fails_later w next word rest e fails.0, fails.1)
      ]

  pub agrees_plain : (w next : Walk) (word : Text) (rest before : List Text) (reading : Option Given) → turn_passes (shape name has_nodes) [] w word ≡ true
      → walked (built_rules has_nodes) [] w word ≡ next → Agrees next rest (before ++ word ∷ []) reading → Agrees w (word ∷ rest) before (option_map (with_plain word) reading)
  agrees_plain w next word rest before reading turn e agrees =
      elim agrees [
        | inl taken ↦ inl (taken_plain w word rest before reading turn (subst (λ after. IsTaken after rest (before ++ word ∷ []) reading) (sym e) taken))
        | inr fails ↦ inr (fails_later w next word rest e fails.0, refused_plain word reading fails.1)
      ]

-- ---- where no option waits

-- the rows that there will be once what is pending is used, and that this passes
pub record Stands (has_nodes : Bool) (rows : List Row) (pending : Option (Text × List Text)) (known : Option Text) (before : List Text) : Type 0 where
  pub nodes_first : Bool
  pub settled : settled_rows (built_rules has_nodes) pending rows ≡ rows_with known before nodes_first
  pub passes : settle_passes (built_rules has_nodes) false (held_at rows pending) ≡ true

stands_plain : (has_nodes : Bool) (rows : List Row) (pending : Option (Text × List Text)) (known : Option Text) (before : List Text) (word : Text)
    → Stands has_nodes rows pending known before
    → Stands has_nodes (settled_rows (built_rules has_nodes) pending rows) (for_plain word) known (before ++ word ∷ [])
stands_plain true rows pending known before word stands =
    let more = plain_used known before stands.nodes_first word in
    record { nodes_first = more.0; settled = ap (used plain_built (word ∷ [])) stands.settled ∙ more.1; passes = refl }
stands_plain false rows pending known before word stands =
    let more = plain_used known before stands.nodes_first word in
    record { nodes_first = more.0; settled = ap (used plain_built (word ∷ [])) stands.settled ∙ more.1; passes = refl }

new_nodes : (rows : List Row) (before : List Text) (nodes_first : Bool) → rows ≡ rows_with None before nodes_first → has_row (codes "nodes") rows ≡ false
new_nodes rows before nodes_first e = ap (has_row (codes "nodes")) e ∙ has_nodes_row None before nodes_first

old_nodes : (rows : List Row) (known : Text) (before : List Text) (nodes_first : Bool) → rows ≡ rows_with (Some known) before nodes_first → has_row (codes "nodes") rows ≡ true
old_nodes rows known before nodes_first e = ap (has_row (codes "nodes")) e ∙ has_nodes_row (Some known) before nodes_first

stands_value : (rows : List Row) (before : List Text) (nodes_first : Bool) (word : Text) → rows ≡ rows_with None before nodes_first
    → Stands true (used nodes_built (word ∷ []) rows) None (Some word) before
stands_value rows before nodes_first word e =
    let more = nodes_used before nodes_first word in
    record { nodes_first = more.0; settled = ap (used nodes_built (word ∷ [])) e ∙ more.1; passes = refl }

stands_pending : (rows : List Row) (before : List Text) (nodes_first : Bool) (word : Text) → rows ≡ rows_with None before nodes_first
    → Stands true rows (for_nodes (word ∷ [])) (Some word) before
stands_pending rows before nodes_first word e =
    let more = nodes_used before nodes_first word in
    record {
      nodes_first = more.0;
      settled = ap (used nodes_built (word ∷ [])) e ∙ more.1;
      passes = ap (λ test. (not test || false) && true) (new_nodes rows before nodes_first e);
    }

module _ (name : Text) (has_nodes : Bool) where
  agrees_at_end : (rows : List Row) (pending : Option (Text × List Text)) (waiting : Waiting) (is_trailing : Bool) (known : Option Text) (before : List Text)
      → Stands has_nodes rows pending known before
      → Agrees name has_nodes (walk_at rows pending waiting is_trailing) [] before (Some (record { value = known; plain = [] }))
  unfolding walk_passes
  agrees_at_end rows pending waiting is_trailing known before stands =
      inl (record {
        are = record { value = known; plain = [] };
        given = refl;
        walks = refl;
        ends = stands.passes;
        nodes_first = stands.nodes_first;
        rows = stands.settled ∙ ap (λ words. rows_with known words stands.nodes_first) (sym (append-nil before));
      })

  -- after `--` all words are plain
  pub agrees_trailing : (words : List Text) (rows : List Row) (pending : Option (Text × List Text)) (waiting : Waiting) (known : Option Text) (before : List Text)
      → Stands has_nodes rows pending known before
      → Agrees name has_nodes (walk_at rows pending waiting true) words before (Some (record { value = known; plain = words }))
  agrees_trailing [] rows pending waiting known before stands = agrees_at_end rows pending waiting true known before stands
  agrees_trailing (word ∷ words) rows pending waiting known before stands =
      let after = settled_rows (built_rules has_nodes) pending rows in
      agrees_plain name has_nodes (walk_at rows pending waiting true) (walk_at after (for_plain word) positional true) word words before (Some (record { value = known; plain = words }))
      (trailing_passes rows pending waiting name has_nodes word stands.passes) (trailing_walked rows pending waiting has_nodes word)
      (agrees_trailing words after (for_plain word) positional known (before ++ word ∷ []) (stands_plain has_nodes rows pending known before word stands))

-- ---- where the walk fails

module _ (name : Text) (rows : List Row) (given : List Text) where
  abbrev fails : Waiting → Bool → List Text → Type 0
  fails waiting is_trailing words = IsFaulty (fault_from name true (walk_at rows (for_nodes given) waiting is_trailing) words)

  -- what is pending is used by the next word after `--`, or at the end
  trailing_fails : (waiting : Waiting) (words : List Text) → IsFaulty (settle_fault (built_rules true) false (held_at rows (for_nodes given))) → fails waiting true words
  trailing_fails waiting [] faulty = fails_at_end name true (walk_at rows (for_nodes given) waiting true) faulty
  trailing_fails waiting (word ∷ rest) faulty =
      fails_here name true (walk_at rows (for_nodes given) waiting true) word rest (trailing_faulty rows (for_nodes given) waiting name true word refl faulty)

  dashes_fail : (waiting : Waiting) (rest : List Text) → IsFaulty (settle_fault (built_rules true) false (held_at rows (for_nodes given))) → fails waiting false (codes "--" ∷ rest)
  dashes_fail waiting rest faulty =
      fails_later name true (walk_at rows (for_nodes given) waiting false) (walk_at rows (for_nodes given) waiting true) (codes "--") rest
      (dashes_walked rows (for_nodes given) true waiting) (trailing_fails waiting rest faulty)

  long_fails : (waiting : Waiting) (first : ℕ) (word : Text) (rest : List Text) → IsFaulty (settle_fault (built_rules true) false (held_at rows (for_nodes given)))
      → fails waiting false ((45 ∷ 45 ∷ first ∷ word) ∷ rest)
  long_fails waiting first word rest faulty =
      fails_here name true (walk_at rows (for_nodes given) waiting false) (45 ∷ 45 ∷ first ∷ word) rest (long_settles name rows (for_nodes given) first word waiting faulty)

  short_fails : (waiting : Waiting) (first : ℕ) (word : Text) (rest : List Text) → (first == 45) ≡ false → IsUtf8 (45 ∷ first ∷ word)
      → fails waiting false ((45 ∷ first ∷ word) ∷ rest)
  short_fails waiting first word rest e text =
      fails_here name true (walk_at rows (for_nodes given) waiting false) (45 ∷ first ∷ word) rest (short_faulty name true rows (for_nodes given) first word waiting e text)

-- `--nodes` was used before, and is pending again
module _ (name : Text) (rows : List Row) (again : has_row (codes "nodes") rows ≡ true) where
  open_again : (waiting : Waiting) (given : List Text) (words : List Text) → IsOpen waiting → AllByRecursion IsUtf8 words
      → IsFaulty (fault_from name true (walk_at rows (for_nodes given) waiting false) words)
  open_again waiting given [] is_open texts = fails_at_end name true (walk_at rows (for_nodes given) waiting false) (again_faulty given rows again)
  open_again waiting given (word ∷ rest) is_open texts = by_word (λ w. IsUtf8 w → IsFaulty (fault_from name true (walk_at rows (for_nodes given) waiting false) (w ∷ rest)))
      (λ w plain text. fails_here name true (walk_at rows (for_nodes given) waiting false) w rest
      (plain_faulty rows (for_nodes given) waiting is_open w plain name true refl (again_faulty given rows again)))
      (λ text. dashes_fail name rows given waiting rest (again_faulty given rows again))
      (λ first w text. long_fails name rows given waiting first w rest (again_faulty given rows again))
      (λ first w e text. short_fails name rows given waiting first w rest e text)
      word texts.0

  pub waiting_again : (words : List Text) → AllByRecursion IsUtf8 words → IsFaulty (fault_from name true (walk_at rows (for_nodes []) (option (codes "nodes")) false) words)
  waiting_again [] texts = fails_at_end name true (walk_at rows (for_nodes []) (option (codes "nodes")) false) (again_faulty [] rows again)
  waiting_again (word ∷ rest) texts = by_word (λ w. IsUtf8 w → IsFaulty (fault_from name true (walk_at rows (for_nodes []) (option (codes "nodes")) false) (w ∷ rest)))
      (λ w plain text. fails_later name true (walk_at rows (for_nodes []) (option (codes "nodes")) false) (walk_at rows (for_nodes (w ∷ [])) idle false) w rest
      (waiting_walked name rows w plain) (open_again idle (w ∷ []) rest tt texts.1))
      (λ text. dashes_fail name rows [] (option (codes "nodes")) rest (again_faulty [] rows again))
      (λ first w text. long_fails name rows [] (option (codes "nodes")) first w rest (again_faulty [] rows again))
      (λ first w e text. short_fails name rows [] (option (codes "nodes")) first w rest e text)
      word texts.0

-- ---- the words after the command

text_dash : (least most : ℕ) (word : Text) → number_of least most (45 ∷ word) ≡ None
unfolding number_of
text_dash least most word =
    ap (λ test. if test then Some (digits_value 10 (45 ∷ word)) else None)
    (never (nat_lt 0 (length (45 ∷ word))) (nat_le least (digits_value 10 (45 ∷ word))) (nat_le (digits_value 10 (45 ∷ word)) most))
  where
    never : (a b c : Bool) → (a && false && b && c) ≡ false
    never true b c = refl
    never false b c = refl

value_kept : (words : List Text) (known : Text) → IfSome (given_in true words false (Some known)) (λ g. g.value ≡ Some known)
unfolding given_in
value_kept [] known = refl
value_kept (word ∷ rest) known = after_kept word rest (value_kept rest known)
  where
    plain_kept : (w : Text) (reading : Option Given) → IfSome reading (λ g. g.value ≡ Some known) → IfSome (option_map (with_plain w) reading) (λ g. g.value ≡ Some known)
    plain_kept w None kept = kept
    plain_kept w (Some g) kept = kept

    by_tests : (w : Text) (words : List Text) (is_end is_flag : Bool) → IfSome (given_in true words false (Some known)) (λ g. g.value ≡ Some known)
        → IfSome (if is_end then Some (record { value = Some known; plain = words })
        else (if is_flag then None else option_map (with_plain w) (given_in true words false (Some known)))) (λ g. g.value ≡ Some known)
    by_tests w words true is_flag kept = refl
    by_tests w words false true kept = tt
    by_tests w words false false kept = plain_kept w (given_in true words false (Some known)) kept

    after_kept : (w : Text) (words : List Text) → IfSome (given_in true words false (Some known)) (λ g. g.value ≡ Some known)
        → IfSome (after_word true w words (Some known) (given_in true words)) (λ g. g.value ≡ Some known)
    after_kept w words kept = by_tests w words (bytes_eq w (codes "--")) (is_option w) kept

-- a value that begins with `-` is no number
dashed_value : (words : List Text) (word : Text) → IsRefused true (given_in true words false (Some (45 ∷ word)))
dashed_value words word = by_reading (given_in true words false (Some (45 ∷ word))) (value_kept words (45 ∷ word))
  where
    by_reading : (reading : Option Given) → IfSome reading (λ g. g.value ≡ Some (45 ∷ word)) → IsRefused true reading
    by_reading None kept = tt
    by_reading (Some g) kept = (refl, ap budget_of kept ∙ text_dash 1 100_000 word)

pub given_word : (has_nodes : Bool) (word : Text) (rest : List Text) (known : Option Text)
    → given_in has_nodes (word ∷ rest) false known ≡ after_word has_nodes word rest known (given_in has_nodes rest)
unfolding given_in
given_word has_nodes word rest known = refl

given_value : (word : Text) (rest : List Text) → given_in true (word ∷ rest) true None ≡ given_in true rest false (Some word)
unfolding given_in
given_value word rest = refl

given_no_value : given_in true [] true None ≡ None
unfolding given_in
given_no_value = refl

pub given_end : (has_nodes : Bool) (known : Option Text) → given_in has_nodes [] false known ≡ Some (record { value = known; plain = [] })
unfolding given_in
given_end has_nodes known = refl

pub given_plain : (has_nodes : Bool) (word : Text) (rest : List Text) (known : Option Text) → IsPlainWord word
    → given_in has_nodes (word ∷ rest) false known ≡ option_map (with_plain word) (given_in has_nodes rest false known)
given_plain has_nodes word rest known plain =
    given_word has_nodes word rest known
    ∙ ap (λ test. if test then Some (record { value = known; plain = rest })
    else (if is_option word then after_option has_nodes word known (given_in has_nodes rest) else option_map (with_plain word) (given_in has_nodes rest false known))) plain.dashes
    ∙ ap (λ test. if test then after_option has_nodes word known (given_in has_nodes rest) else option_map (with_plain word) (given_in has_nodes rest false known)) plain.other

no_option : (has_nodes : Bool) (word : Text) (known : Option Text) (after : Bool → Option Text → Option Given)
    → bytes_eq word (codes "--nodes") ≡ false → bytes_eq (take 8 word) (codes "--nodes=") ≡ false → after_option has_nodes word known after ≡ None
no_option false word known after alone front = refl
no_option true word (Some known) after alone front = refl
no_option true word None after alone front =
    ap (λ test. if test then after true None else option_and_then (λ found. after false (Some found)) (value_in word)) alone
    ∙ ap (λ test. option_and_then (λ found. after false (Some found)) (if test then Some (drop 8 word) else None)) front

given_short : (has_nodes : Bool) (first : ℕ) (word : Text) (rest : List Text) (known : Option Text) → (first == 45) ≡ false
    → given_in has_nodes ((45 ∷ first ∷ word) ∷ rest) false known ≡ None
given_short has_nodes first word rest known e =
    given_word has_nodes (45 ∷ first ∷ word) rest known
    ∙ ap (λ test. if test then Some (record { value = known; plain = rest }) else after_option has_nodes (45 ∷ first ∷ word) known (given_in has_nodes rest)) (not_dashes first word e)
    ∙ no_option has_nodes (45 ∷ first ∷ word) known (given_in has_nodes rest) (not_nodes first word e) (not_front first word e)

-- the walk from a place where no option waits, and from one where `--nodes` does
abbrev pub AgreesOpen : Text → Bool → List Text → Type 0
AgreesOpen name has_nodes words = (rows : List Row) (pending : Option (Text × List Text)) (waiting : Waiting) (known : Option Text) (before : List Text)
    → IsOpen waiting → Stands has_nodes rows pending known before → Agrees name has_nodes (walk_at rows pending waiting false) words before (given_in has_nodes words false known)

abbrev pub AgreesWaiting : Text → List Text → Type 0
AgreesWaiting name words = (rows : List Row) (before : List Text) (nodes_first : Bool) → rows ≡ rows_with None before nodes_first
    → Agrees name true (walk_at rows (for_nodes []) (option (codes "nodes")) false) words before (given_in true words true None)

module _ (name : Text) (has_nodes : Bool) where
  agrees_as : (w : Walk) (words before : List Text) (reading other : Option Given) → other ≡ reading → Agrees name has_nodes w words before reading → Agrees name has_nodes w words before other
  agrees_as w words before reading other e agrees = subst (Agrees name has_nodes w words before) (sym e) agrees

  refused_as : (reading : Option Given) → reading ≡ None → IsRefused has_nodes reading
  refused_as reading e = subst (IsRefused has_nodes) (sym e) tt

  step_plain : (word : Text) (rest : List Text) → IsPlainWord word → AgreesOpen name has_nodes rest → AgreesOpen name has_nodes (word ∷ rest)
  step_plain word rest plain later rows pending waiting known before is_open stands =
      let after = settled_rows (built_rules has_nodes) pending rows in
      agrees_as (walk_at rows pending waiting false) (word ∷ rest) before (option_map (with_plain word) (given_in has_nodes rest false known)) (given_in has_nodes (word ∷ rest) false known)
      (given_plain has_nodes word rest known plain)
      (agrees_plain name has_nodes (walk_at rows pending waiting false) (walk_at after (for_plain word) positional false) word rest before (given_in has_nodes rest false known)
      (plain_passes rows pending waiting is_open word plain name has_nodes stands.passes) (plain_walked rows pending waiting is_open word plain has_nodes)
      (later after (for_plain word) positional known (before ++ word ∷ []) tt (stands_plain has_nodes rows pending known before word stands)))

  step_dashes : (rest : List Text) → AgreesOpen name has_nodes (codes "--" ∷ rest)
  step_dashes rest rows pending waiting known before is_open stands =
      agrees_as (walk_at rows pending waiting false) (codes "--" ∷ rest) before (Some (record { value = known; plain = rest })) (given_in has_nodes (codes "--" ∷ rest) false known)
      (given_word has_nodes (codes "--") rest known)
      (agrees_same name has_nodes (walk_at rows pending waiting false) (walk_at rows pending waiting true) (codes "--") rest before (Some (record { value = known; plain = rest }))
      (dashes_pass rows pending name has_nodes waiting) (dashes_walked rows pending has_nodes waiting)
      (agrees_trailing name has_nodes rest rows pending waiting known before stands))

  step_short : (first : ℕ) (word : Text) (rest : List Text) → (first == 45) ≡ false → IsUtf8 (45 ∷ first ∷ word) → AgreesOpen name has_nodes ((45 ∷ first ∷ word) ∷ rest)
  step_short first word rest e text rows pending waiting known before is_open stands =
      inr (
        fails_here name has_nodes (walk_at rows pending waiting false) (45 ∷ first ∷ word) rest (short_faulty name has_nodes rows pending first word waiting e text),
        refused_as (given_in has_nodes ((45 ∷ first ∷ word) ∷ rest) false known) (given_short has_nodes first word rest known e),
      )

  open_end : AgreesOpen name has_nodes []
  open_end rows pending waiting known before is_open stands =
      agrees_as (walk_at rows pending waiting false) [] before (Some (record { value = known; plain = [] })) (given_in has_nodes [] false known)
      (given_end has_nodes known) (agrees_at_end name has_nodes rows pending waiting false known before stands)

-- a command without options
module _ (name : Text) where
  step_unknown : (first : ℕ) (word : Text) (rest : List Text) → AgreesOpen name false ((45 ∷ 45 ∷ first ∷ word) ∷ rest)
  step_unknown first word rest rows pending waiting known before is_open stands =
      inr (
        fails_here name false (walk_at rows pending waiting false) (45 ∷ 45 ∷ first ∷ word) rest (long_unknown name rows pending waiting first word),
        refused_as name false (given_in false ((45 ∷ 45 ∷ first ∷ word) ∷ rest) false known) (given_word false (45 ∷ 45 ∷ first ∷ word) rest known),
      )

  pub agrees_bare : (words : List Text) → AllByRecursion IsUtf8 words → AgreesOpen name false words
  agrees_bare [] texts = open_end name false
  agrees_bare (word ∷ rest) texts =
      let later = agrees_bare rest texts.1 in
      by_word (λ w. IsUtf8 w → AgreesOpen name false (w ∷ rest)) (λ w plain text. step_plain name false w rest plain later) (λ text. step_dashes name false rest)
      (λ first w text. step_unknown first w rest) (λ first w e text. step_short name false first w rest e text) word texts.0

-- the command with `--nodes`
module _ (name : Text) (rest : List Text) where
  step_nodes : AllByRecursion IsUtf8 rest → AgreesWaiting name rest → AgreesOpen name true (codes "--nodes" ∷ rest)
  step_nodes texts later rows pending waiting None before is_open stands =
      let after = settled_rows (built_rules true) pending rows in
      agrees_as name true (walk_at rows pending waiting false) (codes "--nodes" ∷ rest) before (given_in true rest true None) (given_in true (codes "--nodes" ∷ rest) false None)
      (given_word true (codes "--nodes") rest None)
      (agrees_same name true (walk_at rows pending waiting false) (walk_at after (for_nodes []) (option (codes "nodes")) false) (codes "--nodes") rest before (given_in true rest true None)
      (nodes_pass rows pending name waiting stands.passes) (nodes_walked rows pending waiting) (later after before stands.nodes_first stands.settled))
  step_nodes texts later rows pending waiting (Some known) before is_open stands =
      let after = settled_rows (built_rules true) pending rows in
      inr (
        fails_later name true (walk_at rows pending waiting false) (walk_at after (for_nodes []) (option (codes "nodes")) false) (codes "--nodes") rest (nodes_walked rows pending waiting)
            (waiting_again name after (old_nodes after known before stands.nodes_first stands.settled) rest texts),
        refused_as name true (given_in true (codes "--nodes" ∷ rest) false (Some known)) (given_word true (codes "--nodes") rest (Some known)),
      )

  step_value : (found : Text) → AgreesOpen name true rest → AgreesOpen name true ((codes "--nodes=" ++ found) ∷ rest)
  step_value found later rows pending waiting None before is_open stands =
      let after = settled_rows (built_rules true) pending rows in
      agrees_as name true (walk_at rows pending waiting false) ((codes "--nodes=" ++ found) ∷ rest) before (given_in true rest false (Some found))
      (given_in true ((codes "--nodes=" ++ found) ∷ rest) false None) (given_word true (codes "--nodes=" ++ found) rest None)
      (agrees_same name true (walk_at rows pending waiting false) (walk_at (used nodes_built (found ∷ []) after) None idle false) (codes "--nodes=" ++ found) rest before
      (given_in true rest false (Some found)) (value_passes rows pending name waiting found stands.passes (new_nodes after before stands.nodes_first stands.settled))
      (value_walked rows pending waiting found)
      (later (used nodes_built (found ∷ []) after) None idle (Some found) before tt (stands_value after before stands.nodes_first found stands.settled)))
  step_value found later rows pending waiting (Some known) before is_open stands =
      let after = settled_rows (built_rules true) pending rows in
      inr (
        fails_here name true (walk_at rows pending waiting false) (codes "--nodes=" ++ found) rest
            (value_faulty name rows pending waiting found (old_nodes after known before stands.nodes_first stands.settled)),
        refused_as name true (given_in true ((codes "--nodes=" ++ found) ∷ rest) false (Some known)) (given_word true (codes "--nodes=" ++ found) rest (Some known)),
      )

  step_other : (first : ℕ) (word : Text) → IsOtherOption (first ∷ word) → AgreesOpen name true ((45 ∷ 45 ∷ first ∷ word) ∷ rest)
  step_other first word other rows pending waiting known before is_open stands =
      inr (
        fails_here name true (walk_at rows pending waiting false) (45 ∷ 45 ∷ first ∷ word) rest (other_unknown name rows pending first word waiting other),
        refused_as name true (given_in true ((45 ∷ 45 ∷ first ∷ word) ∷ rest) false known)
            (given_word true (45 ∷ 45 ∷ first ∷ word) rest known ∙ no_option true (45 ∷ 45 ∷ first ∷ word) known (given_in true rest) other.word other.front),
      )

  abbrev opens_long : Text → Type 0
  opens_long [] = ⊤
  opens_long (first ∷ word) = AgreesOpen name true ((45 ∷ 45 ∷ first ∷ word) ∷ rest)

  any_other : (text : Text) → IsOtherOption text → opens_long text
  any_other [] other = tt
  any_other (first ∷ word) other = step_other first word other

  step_long : AllByRecursion IsUtf8 rest → AgreesOpen name true rest → AgreesWaiting name rest → (first : ℕ) (word : Text) → AgreesOpen name true ((45 ∷ 45 ∷ first ∷ word) ∷ rest)
  step_long texts later waits first word = by_option opens_long (step_nodes texts waits) (λ found. step_value found later) any_other (first ∷ word)

  -- the word after `--nodes`
  step_waiting : (word : Text) → IsUtf8 word → AgreesOpen name true rest → AgreesWaiting name (word ∷ rest)
  step_waiting word text later rows before nodes_first e = by_word
      (λ w. IsUtf8 w → Agrees name true (walk_at rows (for_nodes []) (option (codes "nodes")) false) (w ∷ rest) before (given_in true (w ∷ rest) true None))
      (λ w plain text. agrees_as name true (walk_at rows (for_nodes []) (option (codes "nodes")) false) (w ∷ rest) before (given_in true rest false (Some w)) (given_in true (w ∷ rest) true None)
      (given_value w rest)
      (agrees_same name true (walk_at rows (for_nodes []) (option (codes "nodes")) false) (walk_at rows (for_nodes (w ∷ [])) idle false) w rest before (given_in true rest false (Some w))
      (waiting_passes name rows w plain) (waiting_walked name rows w plain)
      (later rows (for_nodes (w ∷ [])) idle (Some w) before tt (stands_pending rows before nodes_first w e))))
      (λ text. inr (dashes_fail name rows [] (option (codes "nodes")) rest tt, dashed (45 ∷ [])))
      (λ first w text. inr (long_fails name rows [] (option (codes "nodes")) first w rest tt, dashed (45 ∷ first ∷ w)))
      (λ first w short text. inr (short_fails name rows [] (option (codes "nodes")) first w rest short text, dashed (first ∷ w)))
      word text
    where
      dashed : (w : Text) → IsRefused true (given_in true ((45 ∷ w) ∷ rest) true None)
      dashed w = subst (IsRefused true) (sym (given_value (45 ∷ w) rest)) (dashed_value rest w)

pub agrees_nodes : (name : Text) (words : List Text) → AllByRecursion IsUtf8 words → AgreesOpen name true words × AgreesWaiting name words
agrees_nodes name [] texts = (
  open_end name true,
  λ rows before nodes_first e. inr (
    fails_at_end name true (walk_at rows (for_nodes []) (option (codes "nodes")) false) tt,
    refused_as name true (given_in true [] true None) given_no_value,
  ),
)
agrees_nodes name (word ∷ rest) texts =
    let later = agrees_nodes name rest texts.1 in (
      by_word (λ w. IsUtf8 w → AgreesOpen name true (w ∷ rest)) (λ w plain text. step_plain name true w rest plain later.0) (λ text. step_dashes name true rest)
          (λ first w text. step_long name rest texts.1 later.0 later.1 first w) (λ first w e text. step_short name true first w rest e text) word texts.0,
      step_waiting name rest word texts.0 later.0,
    )
