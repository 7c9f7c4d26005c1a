-- What `clap` makes of a verb and plain words after it.
use Rattle.std.proofs.Common.{◌≡◌, ◌∙◌, ◌<◌, ◌≤◌, ◌==◌, ℕ, false, List, [], ◌∷◌, ◌++◌, Some, None, codes, length, refl, sym, ap, ap₂, subst, arith, nat_lt}
use Rattle.std.specs.Prelude.{fold, find, unwrap_or, is_some}
use Rattle.std.proofs.lemmas.List.{append-nil, append_assoc}
use Rattle.std.proofs.lemmas.List.Elements.{All-head, All-tail}
use Rattle.clap.specs.Faults.{check_fault, defaults_fault, entered_fault, fault_of, level_fault, settle_fault, turn_fault, walk_fault}
use Rattle.clap.specs.Kinds.{Kinds, or_else, range_kinds, values_kinds}
use Rattle.clap.specs.Simple.{Shape, built, entered, label_of, names_of, subcommand_of}
use Rattle.clap.specs.Walk.{Held, Names, Row, Text, Walk, answers_to, finished, nothing_held, positional, rows_after, settled, walk, walk_from, walked}
use Rattle.clap.specs.declared.builder.value_parser.Reading.TheVariants.{AsWritten}
use Rattle.clap.specs.declared.builder.value_parser.ValueParser.TheVariants as parsers
use Rattle.clap.specs.declared.parser.matches.ValueSource.TheVariants.{CommandLine}
use Rattle.clap.proofs.FaultLemmas.{stopped_fault}
use Rattle.pc_num.specs.Scaled.{are_digits, digits_len, number_after, padded, scaled_of, scaled_size}
use Rattle.pc_desk_words.specs.Program.{desk_app, desk_shape}
use Rattle.pc_desk_words.specs.Words.{ask, asked_by, asked_of, asked_without, draft, history, is_dashed, limit, number_of, opens, scale_of, session, sql, trial, usual_nodes, usual_scale, weigh, why, with_files}
use Rattle.pc_desk_words.specs.declared.form.Form.TheVariants as forms
use Rattle.pc_desk_words.specs.declared.form.SheetForm.TheVariants as sheets
use Rattle.pc_desk_words.specs.declared.form.DrawnForm.TheVariants as drawn
use Rattle.pc_desk_words.proofs.PlainWords.{ArePlain, AreFit, Reaches, awaiting, given, given_reaches, plain_reaches, plainly, reaches_end, reaches_more}

abbrev shape_at : Text → Shape
shape_at name = unwrap_or (find (λ s. answers_to name (label_of s)) (built desk_app).subs) desk_shape

abbrev ask_shape : Shape
ask_shape = shape_at (codes "ask")

abbrev session_shape : Shape
session_shape = shape_at (codes "session")

abbrev why_shape : Shape
why_shape = shape_at (codes "why")

abbrev weigh_shape : Shape
weigh_shape = shape_at (codes "weigh")

abbrev try_shape : Shape
try_shape = shape_at (codes "try")

abbrev opens_shape : Shape
opens_shape = shape_at (codes "opens")

abbrev history_shape : Shape
history_shape = shape_at (codes "history")

abbrev limit_shape : Shape
limit_shape = shape_at (codes "limit")

abbrev schema_shape : Shape
schema_shape = shape_at (codes "schema")

abbrev sql_shape : Shape
sql_shape = shape_at (codes "sql")

abbrev row : Text → List Text → Row
row id values = record { id = id; values = values; count = None; source = Some CommandLine; reading = AsWritten }

-- ---- the verb

abbrev top : Shape
top = (built desk_app).top

abbrev names : Names
names = names_of (built desk_app)

-- the words after a verb are left to it
stopped_walk : (w : Walk) (name : Text) (before words : List Text)
    → fold (walked top.rules names) (record w { stopped = Some (name, before) }) words ≡ record w { stopped = Some (name, before ++ words) }
unfolding walked
stopped_walk w name before [] = ap (λ all. record w { stopped = Some (name, all) }) (sym (append-nil before))
stopped_walk w name before (word ∷ words) =
    stopped_walk w name (before ++ word ∷ []) words ∙ ap (λ all. record w { stopped = Some (name, all) }) (append_assoc before (word ∷ []) words)

-- the kinds of a whole call, by where the walk over its words ends
abbrev faults_by : Walk → Kinds → Kinds
faults_by w kinds =
    or_else kinds (or_else (entered_fault (built desk_app) w.stopped) (or_else (settle_fault top.rules false w.held)
    (or_else (defaults_fault (settled top.rules w.held).rows top.rules)
    (check_fault top (finished top.rules w.held) (is_some (entered (built desk_app) w.stopped))))))

abbrev start : Walk
start = walk_from nothing_held

abbrev stopped_at : Text → List Text → Walk
stopped_at name words = record start { stopped = Some (name, words) }

-- what `clap` makes of a verb's name: the words after it are left to the verb, and what is wrong with them is all
record IsVerb (name : Text) (s : Shape) : Type 0 where
  pub walked_at : walked top.rules names start name ≡ stopped_at name []
  pub passes : turn_fault top names start name ≡ []
  pub fails : (words : List Text) → faults_by (stopped_at name words) [] ≡ or_else (level_fault s [] nothing_held words false []) []
  pub found : (words : List Text) → entered (built desk_app) (Some (name, words)) ≡ Some (name, rows_after s.rules [] words)

ask_is_verb : IsVerb (codes "ask") ask_shape
unfolding walked defaults_fault
ask_is_verb = record { walked_at = refl; passes = refl; fails = λ words. refl; found = λ words. refl }

session_is_verb : IsVerb (codes "session") session_shape
unfolding walked defaults_fault
session_is_verb = record { walked_at = refl; passes = refl; fails = λ words. refl; found = λ words. refl }

why_is_verb : IsVerb (codes "why") why_shape
unfolding walked defaults_fault
why_is_verb = record { walked_at = refl; passes = refl; fails = λ words. refl; found = λ words. refl }

weigh_is_verb : IsVerb (codes "weigh") weigh_shape
unfolding walked defaults_fault
weigh_is_verb = record { walked_at = refl; passes = refl; fails = λ words. refl; found = λ words. refl }

try_is_verb : IsVerb (codes "try") try_shape
unfolding walked defaults_fault
try_is_verb = record { walked_at = refl; passes = refl; fails = λ words. refl; found = λ words. refl }

opens_is_verb : IsVerb (codes "opens") opens_shape
unfolding walked defaults_fault
opens_is_verb = record { walked_at = refl; passes = refl; fails = λ words. refl; found = λ words. refl }

history_is_verb : IsVerb (codes "history") history_shape
unfolding walked defaults_fault
history_is_verb = record { walked_at = refl; passes = refl; fails = λ words. refl; found = λ words. refl }

limit_is_verb : IsVerb (codes "limit") limit_shape
unfolding walked defaults_fault
limit_is_verb = record { walked_at = refl; passes = refl; fails = λ words. refl; found = λ words. refl }

schema_is_verb : IsVerb (codes "schema") schema_shape
unfolding walked defaults_fault
schema_is_verb = record { walked_at = refl; passes = refl; fails = λ words. refl; found = λ words. refl }

sql_is_verb : IsVerb (codes "sql") sql_shape
unfolding walked defaults_fault
sql_is_verb = record { walked_at = refl; passes = refl; fails = λ words. refl; found = λ words. refl }

-- what is wrong after the walk over a verb's words
abbrev after_walk : Shape → Held → Kinds
after_walk s end = or_else (settle_fault s.rules s.args_override_self end) (or_else (defaults_fault (settled s.rules end).rows s.rules) (check_fault s (finished s.rules end) false))

module _ (name : Text) (s : Shape) (is : IsVerb name s) (words : List Text) (end : Walk) (reaches : Reaches s start words end) (after : after_walk s end.held ≡ []) where
  verb_walk : walk top.rules names nothing_held (name ∷ words) ≡ stopped_at name words
  verb_walk = ap (λ (w : Walk). fold (walked top.rules names) w words) is.walked_at ∙ stopped_walk start name [] words

  verb_passes : walk_fault top names start (name ∷ words) ≡ []
  unfolding walk_fault
  verb_passes =
      ap (λ kinds. or_else kinds (walk_fault top names (walked top.rules names start name) words)) is.passes
      ∙ ap (λ (w : Walk). walk_fault top names w words) is.walked_at ∙ stopped_fault top names start (name, []) words

  level : level_fault s [] nothing_held words false [] ≡ []
  level = ap₂ (λ (kinds : Kinds) (w : Walk). or_else kinds (after_walk s w.held)) reaches.0 reaches.1 ∙ after

  no_faults : fault_of desk_app (name ∷ words) ≡ []
  no_faults = ap₂ faults_by verb_walk verb_passes ∙ is.fails words ∙ ap (λ kinds. or_else kinds []) level

  verb_found : subcommand_of desk_app (name ∷ words) ≡ Some (name, finished s.rules end.held)
  verb_found =
      ap (λ (w : Walk). entered (built desk_app) w.stopped) verb_walk ∙ is.found words
      ∙ ap (λ (w : Walk). Some (name, finished s.rules w.held)) reaches.1

  verb_read : asked_of (name ∷ words) ≡ asked_by (Some (name, finished s.rules end.held))
  verb_read = ap₂ asked_without no_faults verb_found

-- ---- words that all go to one positional

in_range : (count most : ℕ) → (1 == most) ≡ false → 1 ≤ count → count ≤ most → range_kinds 1 most count ≡ []
in_range count most many least within =
    let some : (count == 0) ≡ false = grind (arith, least) in
    let enough : nat_lt count 1 ≡ false = grind (arith, least) in
    let few : nat_lt most count ≡ false = grind (arith, within) in
    rw (many, some, enough, few) refl

any_text : (values : List Text) → values_kinds false parsers.String values ≡ []
any_text [] = refl
any_text (v ∷ values) = any_text values

abbrev many_walk : Text → ℕ → List Row → List Text → Walk
many_walk id position rows values =
    record { held = record { rows = rows; pending = Some (id, values); skip = 0 }; waiting = positional; position = position; is_trailing = false; stopped = None }

module _ (s : Shape) (at : List Text → Walk) (fits : (before : List Text) (word : Text) → AreFit s (at before) (word ∷ []))
    (grows : (before : List Text) (word : Text) → plainly s (at before) word ≡ at (before ++ word ∷ [])) where
  many_reach : (before values : List Text) → ArePlain values → Reaches s (at before) values (at (before ++ values))
  many_reach before [] plain = subst (λ all. Reaches s (at before) [] (at all)) (sym (append-nil before)) (reaches_end s (at before))
  many_reach before (word ∷ values) plain =
      plain_reaches s (at (before ++ word ∷ values)) values (at before) (word ∷ []) (fits before word) plain
      (λ more. subst (λ (w : Walk). Reaches s w values (at (before ++ word ∷ values))) (sym (grows before word))
      (subst (λ all. Reaches s (at (before ++ word ∷ [])) values (at all)) (append_assoc before (word ∷ []) values) (many_reach (before ++ word ∷ []) values more)))

-- ---- the verbs that take queries

module _ (schema rows constraints : Text) where
  abbrev file_rows : List Row
  file_rows = row (codes "schema") (schema ∷ []) ∷ row (codes "rows") (rows ∷ []) ∷ row (codes "constraints") (constraints ∷ []) ∷ []

  abbrev queries_at : List Text → Walk
  queries_at before = many_walk (codes "query") 4 file_rows before

  -- after the files all words are queries, from one to sixteen
  record TakesQueries (s : Shape) (query : Text) : Type 0 where
    pub fit : AreFit s start (schema ∷ rows ∷ constraints ∷ query ∷ [])
    pub first : fold (plainly s) start (schema ∷ rows ∷ constraints ∷ query ∷ []) ≡ queries_at (query ∷ [])
    pub fits : (before : List Text) (word : Text) → AreFit s (queries_at before) (word ∷ [])
    pub grows : (before : List Text) (word : Text) → plainly s (queries_at before) word ≡ queries_at (before ++ word ∷ [])
    pub after : (values : List Text) → after_walk s (queries_at (query ∷ values)).held
        ≡ or_else (or_else (range_kinds 1 16 (length (query ∷ values))) (values_kinds false parsers.String (query ∷ values))) []

  ask_takes : (query : Text) → TakesQueries ask_shape query
  unfolding defaults_fault
  ask_takes query = record { fit = (refl, (refl, (refl, (refl, tt)))); first = refl; fits = λ before word. (refl, tt); grows = λ before word. refl; after = λ values. refl }

  why_takes : (query : Text) → TakesQueries why_shape query
  unfolding defaults_fault
  why_takes query = record { fit = (refl, (refl, (refl, (refl, tt)))); first = refl; fits = λ before word. (refl, tt); grows = λ before word. refl; after = λ values. refl }

  module _ (query : Text) (queries : List Text) (plain : ArePlain (schema ∷ rows ∷ constraints ∷ query ∷ queries)) (few : length queries < 16) where
    abbrev words : List Text
    words = schema ∷ rows ∷ constraints ∷ query ∷ queries

    abbrev asked_end : Walk
    asked_end = queries_at (query ∷ queries)

    module _ (name : Text) (s : Shape) (is : IsVerb name s) (takes : TakesQueries s query) where
      queries_reach : Reaches s start words asked_end
      queries_reach =
          plain_reaches s asked_end queries start (schema ∷ rows ∷ constraints ∷ query ∷ []) takes.fit plain
          (λ more. subst (λ (w : Walk). Reaches s w queries asked_end) (sym takes.first)
          (many_reach s queries_at takes.fits takes.grows (query ∷ []) queries more))

      queries_after : after_walk s asked_end.held ≡ []
      queries_after =
          let count : length (query ∷ queries) ≤ 16 = omega (arith, few) in
          takes.after queries
          ∙ ap (λ kinds. or_else (or_else kinds (values_kinds false parsers.String (query ∷ queries))) []) (in_range (length (query ∷ queries)) 16 refl (omega arith) count)
          ∙ ap (λ kinds. or_else kinds []) (any_text (query ∷ queries))

      queries_read : asked_of (name ∷ words) ≡ asked_by (Some (name, finished s.rules asked_end.held))
      queries_read = verb_read name s is words asked_end queries_reach queries_after

    pub ask_read : asked_of (codes "ask" ∷ words)
        ≡ Some (ask (record { form = forms.Text; nodes = usual_nodes; files = with_files schema rows constraints; queries = query ∷ queries }))
    unfolding number_of
    ask_read = queries_read (codes "ask") ask_shape ask_is_verb (ask_takes query)

    pub why_read : asked_of (codes "why" ∷ words)
        ≡ Some (why (record { form = drawn.Text; nodes = usual_nodes; files = with_files schema rows constraints; queries = query ∷ queries }))
    unfolding number_of
    why_read = queries_read (codes "why") why_shape why_is_verb (why_takes query)

-- ---- the verbs that take as many words as they have positionals

module _ (name : Text) (s : Shape) (is : IsVerb name s) (words : List Text) (fit : AreFit s start words) (plain : ArePlain words) where
  abbrev plain_end : Walk
  plain_end = fold (plainly s) start words

  words_reach : Reaches s start words plain_end
  words_reach =
      subst (λ all. Reaches s start all plain_end) (append-nil words)
      (plain_reaches s plain_end [] start words fit (subst ArePlain (sym (append-nil words)) plain) (λ none. reaches_end s plain_end))

  words_read : after_walk s plain_end.held ≡ [] → asked_of (name ∷ words) ≡ asked_by (Some (name, finished s.rules plain_end.held))
  words_read after = verb_read name s is words plain_end words_reach after

module _ (schema rows constraints script : Text) (plain : ArePlain (schema ∷ rows ∷ constraints ∷ script ∷ [])) where
  pub session_read : asked_of (codes "session" ∷ schema ∷ rows ∷ constraints ∷ script ∷ [])
      ≡ Some (session (record { form = forms.Text; nodes = usual_nodes; files = with_files schema rows constraints; script = script }))
  unfolding number_of defaults_fault
  session_read = words_read (codes "session") session_shape session_is_verb (schema ∷ rows ∷ constraints ∷ script ∷ []) (refl, (refl, (refl, (refl, tt)))) plain refl

module _ (schema rows constraints query : Text) (plain : ArePlain (schema ∷ rows ∷ constraints ∷ query ∷ [])) where
  pub weigh_read : asked_of (codes "weigh" ∷ schema ∷ rows ∷ constraints ∷ query ∷ [])
      ≡ Some (weigh (record { form = drawn.Text; nodes = usual_nodes; by = None; sorted = false; files = with_files schema rows constraints; query = query }))
  unfolding number_of defaults_fault
  weigh_read = words_read (codes "weigh") weigh_shape weigh_is_verb (schema ∷ rows ∷ constraints ∷ query ∷ []) (refl, (refl, (refl, (refl, tt)))) plain refl

module _ (schema constraints rows : Text) (plain : ArePlain (schema ∷ constraints ∷ rows ∷ [])) where
  pub trial_read : asked_of (codes "try" ∷ schema ∷ constraints ∷ rows ∷ [])
      ≡ Some (trial (record { form = sheets.Text; scale = usual_scale; files = with_files schema rows constraints }))
  unfolding scale_of scaled_of are_digits digits_len number_after padded scaled_size defaults_fault
  trial_read = words_read (codes "try") try_shape try_is_verb (schema ∷ constraints ∷ rows ∷ []) (refl, (refl, (refl, tt))) plain refl

module _ (schema constraints : Text) (plain : ArePlain (schema ∷ constraints ∷ [])) where
  pub opens_read : asked_of (codes "opens" ∷ schema ∷ constraints ∷ []) ≡ Some (opens (record { form = sheets.Text; files = with_files schema [] constraints }))
  unfolding defaults_fault
  opens_read = words_read (codes "opens") opens_shape opens_is_verb (schema ∷ constraints ∷ []) (refl, (refl, tt)) plain refl

module _ (schema constraints last : Text) (plain : ArePlain (schema ∷ constraints ∷ last ∷ [])) where
  pub limit_read : asked_of (codes "limit" ∷ schema ∷ constraints ∷ last ∷ []) ≡ Some (limit (record { files = with_files schema [] constraints; limits = last }))
  unfolding defaults_fault
  limit_read = words_read (codes "limit") limit_shape limit_is_verb (schema ∷ constraints ∷ last ∷ []) (refl, (refl, (refl, tt))) plain refl

  pub sql_read : asked_of (codes "sql" ∷ schema ∷ constraints ∷ last ∷ []) ≡ Some (sql (record { files = with_files schema [] constraints; table = last }))
  unfolding defaults_fault
  sql_read = words_read (codes "sql") sql_shape sql_is_verb (schema ∷ constraints ∷ last ∷ []) (refl, (refl, (refl, tt))) plain refl

-- ---- `history`

-- `--by` was met
abbrev by_held : Held
by_held = record { rows = []; pending = Some (codes "by", []); skip = 0 }

by_met : walked history_shape.rules [] start (codes "--by") ≡ awaiting (codes "by") 1 by_held
unfolding walked
by_met = refl

by_passes : turn_fault history_shape [] start (codes "--by") ≡ []
by_passes = refl

module _ (by schema rows : Text) (plain : ArePlain (by ∷ schema ∷ rows ∷ [])) where
  abbrev divided : Walk
  divided = given history_shape (codes "by") 1 by_held by

  abbrev history_end : Walk
  history_end = fold (plainly history_shape) divided (schema ∷ rows ∷ [])

  files_reach : Reaches history_shape divided (schema ∷ rows ∷ []) history_end
  files_reach =
      plain_reaches history_shape history_end [] divided (schema ∷ rows ∷ []) (refl, (refl, tt))
      (All-tail (λ w. is_dashed w ≡ false) by (schema ∷ rows ∷ []) plain) (λ none. reaches_end history_shape history_end)

  history_reaches : Reaches history_shape start (codes "--by" ∷ by ∷ schema ∷ rows ∷ []) history_end
  history_reaches =
      reaches_more history_shape start (awaiting (codes "by") 1 by_held) history_end (codes "--by") (by ∷ schema ∷ rows ∷ []) by_passes by_met
      (given_reaches history_shape (codes "by") 1 by_held by (All-head (λ w. is_dashed w ≡ false) by (schema ∷ rows ∷ []) plain) history_end (schema ∷ rows ∷ []) files_reach)

  pub history_read : asked_of (codes "history" ∷ codes "--by" ∷ by ∷ schema ∷ rows ∷ [])
      ≡ Some (history (record { files = with_files schema rows []; by = by; chosen = None; per = None; widen = 0; lost = None }))
  unfolding number_of defaults_fault
  history_read = verb_read (codes "history") history_shape history_is_verb (codes "--by" ∷ by ∷ schema ∷ rows ∷ []) history_end history_reaches refl

-- ---- `schema`

abbrev Drafts : Text → List Text → Type 0
Drafts rows columns = asked_of (codes "schema" ∷ rows ∷ columns) ≡ Some (draft (record { rows = rows; columns = columns }))

draft_of_all : (rows : Text) → ArePlain (rows ∷ []) → Drafts rows []
unfolding defaults_fault
draft_of_all rows plain = words_read (codes "schema") schema_shape schema_is_verb (rows ∷ []) (refl, tt) plain refl

module _ (rows column : Text) (columns : List Text) (plain : ArePlain (rows ∷ column ∷ columns)) (few : length columns < 12) where
  abbrev columns_at : List Text → Walk
  columns_at before = many_walk (codes "column") 2 (row (codes "rows") (rows ∷ []) ∷ []) before

  abbrev drafted_end : Walk
  drafted_end = columns_at (column ∷ columns)

  draft_reaches : Reaches schema_shape start (rows ∷ column ∷ columns) drafted_end
  draft_reaches =
      plain_reaches schema_shape drafted_end columns start (rows ∷ column ∷ []) (refl, (refl, tt)) plain
      (many_reach schema_shape columns_at (λ before word. (refl, tt)) (λ before word. refl) (column ∷ []) columns)

  draft_after : after_walk schema_shape drafted_end.held ≡ []
  unfolding defaults_fault
  draft_after =
      let count : length (column ∷ columns) ≤ 12 = omega (arith, few) in
      ap (λ kinds. or_else (or_else kinds (values_kinds false parsers.String (column ∷ columns))) []) (in_range (length (column ∷ columns)) 12 refl (omega arith) count)
      ∙ ap (λ kinds. or_else kinds []) (any_text (column ∷ columns))

  draft_of_some : Drafts rows (column ∷ columns)
  draft_of_some = verb_read (codes "schema") schema_shape schema_is_verb (rows ∷ column ∷ columns) drafted_end draft_reaches draft_after

pub draft_read : (rows : Text) (columns : List Text) → ArePlain (rows ∷ columns) → length columns ≤ 12 → Drafts rows columns
draft_read rows [] plain few = draft_of_all rows plain
draft_read rows (column ∷ columns) plain few = draft_of_some rows column columns plain (omega (arith, few))
