-- The entries of a query's blocks show their answers.
use Rattle.std.proofs.Common.{◌≡◌, ◌<◌, ◌≤◌, ℕ, ◌+◌, List, [], ◌∷◌, ◌++◌, length, map, flat_map, take, get_or, Option, Some, None, IfSome, Result, IfOk, All, refl, sym, ap, subst, ◌∙◌}
use Rattle.std.specs.List.{AllZip}
use Rattle.std.proofs.lemmas.List.{flat_map_more, take_all, take_more}
use Rattle.std.proofs.lemmas.List.Elements.{All-nil, All-cons, All-head, All-tail}
use Rattle.pc_num.specs.declared.fraction.Frac.{Frac}
use Rattle.pc_num.specs.declared.memory.Memory.{Memory}
use Rattle.pc_model.specs.declared.schema.Schema.{Schema}
use Rattle.pc_model.specs.declared.row.Row.{Row}
use Rattle.pc_model.specs.declared.constraint.Constraint.{Constraint}
use Rattle.pc_model.specs.declared.query.Query.{Query}
use Rattle.pc_model.specs.declared.tree.CutNode.{CutNode}
use Rattle.pc_proof.specs.declared.answer.End.{End}
use Rattle.pc_proof.specs.declared.document.Block.{Block}
use Rattle.pc_proof.specs.Documents.{nodes_after}
use Rattle.pc_proof.specs.Table.{ratio_of}
use Rattle.pc_proof.specs.Unbroken.{plain_ends}
use Rattle.pc_report.specs.Units.{AreAverages, IsAverage, frac_of}
use Rattle.pc_avg.specs.Averages.{IsShort, IsShortEnd}
use Rattle.pc_group.specs.Answers.{AnswersWanted}
use Rattle.pc_group.specs.Trees.{Told, told, told_after, told_with}
use Rattle.pc_group.specs.Wanted.{Wanted, allowed_names, wanted, wanted_as, wanted_by, wanted_in, wanted_of}
use Rattle.pc_group.proofs.Areas.{one_wanted}
use Rattle.pc_desk_table.specs.declared.entry.Entry.{Entry}
use Rattle.pc_desk_answers.specs.declared.question.Question.{Question}
use Rattle.pc_desk_answers.specs.Blocks.{AreShown, Asked, Ground, IsPrinted, Shows, ShowsBlock, asked, asked_by, block, block_entry, entries_between, ground_held}

-- ---- what one query wants

abbrev IsOf : Query → Wanted → Type 0
IsOf query w = w.query ≡ query

all_named : (query : Query) (places : List ℕ) → All (IsOf query) (map (wanted_of query) places)
all_named query [] = All-nil (IsOf query)
all_named query (place ∷ places) = All-cons (IsOf query) (wanted_of query place) (map (wanted_of query) places) refl (all_named query places)

wanted_are_of_in : (schema : Schema) (query : Query) (group : Option ℕ) → All (IsOf query) (wanted_in schema query group)
wanted_are_of_in schema query None = All-cons (IsOf query) (wanted_as query None) [] refl (All-nil (IsOf query))
wanted_are_of_in schema query (Some column) = all_named query (allowed_names schema query column)

pub wanted_are_of : (schema : Schema) (query : Query) → All (λ (w : Wanted). w.query ≡ query) (wanted_by schema query)
wanted_are_of schema query = wanted_are_of_in schema query query.group

-- ---- what is printed

short_average : (value : Frac) → IsShort value → IsAverage (frac_of (ratio_of value))
short_average value short = record { above = short.lowest.above; small = short.small; fits = short.lowest.num_fits }

averages_of : (ends : Option (End × End)) → IfSome ends (λ both. IsShortEnd both.0 × IsShortEnd both.1) → AreAverages (plain_ends ends)
averages_of None short = tt
averages_of (Some both) short = (short_average both.0.value short.0.0, short_average both.1.value short.1.0)

-- ---- blocks that answer what is wanted

module _ (budget : ℕ) (schema : Schema) (rows : List Row) (constraints : List Constraint) where
  -- by some tree
  abbrev pub IsAnswered : Wanted → Block → Type 0
  IsAnswered w b = (nodes : List CutNode) × AnswersWanted budget schema rows constraints w (record { block = b; nodes = nodes })

  abbrev Answers : List Wanted → List Told → Type 0
  Answers ws ts = AllZip (AnswersWanted budget schema rows constraints) ws ts

  none_told : (b : Block) (bs : List Block) (nodes : Option (List CutNode)) → Answers [] (told_with b nodes (told_after bs)) → ⊥
  none_told b bs None each = each
  none_told b bs (Some nodes) each = each

  one_told : (w : Wanted) (ws : List Wanted) (b : Block) (bs : List Block) (nodes : Option (List CutNode)) → ((before : Option (List CutNode)) → Answers ws (told_after bs before) → AllZip IsAnswered ws bs) →
      Answers (w ∷ ws) (told_with b nodes (told_after bs)) → AllZip IsAnswered (w ∷ ws) (b ∷ bs)
  one_told w ws b bs None later each = (([], each.0), later None each.1)
  one_told w ws b bs (Some nodes) later each = ((nodes, each.0), later (Some nodes) each.1)

  each_answered : (ws : List Wanted) (bs : List Block) (before : Option (List CutNode)) → Answers ws (told_after bs before) → AllZip IsAnswered ws bs
  unfolding told_after
  each_answered [] [] before each = tt
  each_answered [] (b ∷ bs) before each = absurd (none_told b bs (nodes_after before b.tree) each)
  each_answered (w ∷ ws) [] before each = absurd each
  each_answered (w ∷ ws) (b ∷ bs) before each = one_told w ws b bs (nodes_after before b.tree) (λ later. each_answered ws bs later) each

  pub blocks_answer : (query : Query) (bs : List Block) → AllZip (AnswersWanted budget schema rows constraints) (wanted_by schema query) (told bs) → AllZip IsAnswered (wanted_by schema query) bs
  blocks_answer query bs each = each_answered (wanted_by schema query) bs None each

  printed_one : (query : Query) (w : Wanted) (b : Block) → w.query ≡ query → IsAnswered w b → IsPrinted query b
  printed_one query w b is answered = λ average. averages_of b.answer.ends (answered.1.short (ap (λ (q : Query). q.agg) is ∙ average))

  printed_all : (query : Query) (ws : List Wanted) (bs : List Block) → All (IsOf query) ws → AllZip IsAnswered ws bs → All (IsPrinted query) bs
  printed_all query [] [] of answered = All-nil (IsPrinted query)
  printed_all query [] (b ∷ bs) of answered = absurd answered
  printed_all query (w ∷ ws) [] of answered = absurd answered
  printed_all query (w ∷ ws) (b ∷ bs) of answered =
      All-cons (IsPrinted query) b bs (printed_one query w b (All-head (IsOf query) w ws of) answered.0) (printed_all query ws bs (All-tail (IsOf query) w ws of) answered.1)

  pub are_printed : (query : Query) (bs : List Block) → AllZip (AnswersWanted budget schema rows constraints) (wanted_by schema query) (told bs) → All (IsPrinted query) bs
  are_printed query bs each = printed_all query (wanted_by schema query) bs (wanted_are_of schema query) (blocks_answer query bs each)

-- ---- entries

module _ (ground : Ground) (query : Query) where
  abbrev Answered : Wanted → Block → Type 0
  Answered = IsAnswered ground.nodes ground.schema ground.rows ground.constraints

  abbrev Left : Wanted → Block → Type 0
  Left = IsAnswered ground.nodes ground.schema ground.rows []

  shows_one : (w : Wanted) (b l : Block) → w.query ≡ query → Answered w b → Left w l → ShowsBlock ground w (block_entry ground query b l)
  shows_one w b l is answered left =
      let name = answered.1.name_is in
      record {
        answer = record { block = b; nodes = answered.0 };
        left = record { block = l; nodes = left.0 };
        answers = answered.1;
        nothing_lost = left.1;
        shows = rw (name, is) refl;
      }

  shows_all : (ws : List Wanted) (bs ls : List Block) → All (IsOf query) ws → AllZip Answered ws bs → AllZip Left ws ls → AllZip (Shows ground) (map block ws) (entries_between ground query bs ls)
  unfolding entries_between
  shows_all [] [] [] of answered left = tt
  shows_all [] [] (l ∷ ls) of answered left = absurd left
  shows_all [] (b ∷ bs) ls of answered left = absurd answered
  shows_all (w ∷ ws) [] ls of answered left = absurd answered
  shows_all (w ∷ ws) (b ∷ bs) [] of answered left = absurd left
  shows_all (w ∷ ws) (b ∷ bs) (l ∷ ls) of answered left =
      (shows_one w b l (All-head (IsOf query) w ws of) answered.0 left.0, shows_all ws bs ls (All-tail (IsOf query) w ws of) answered.1 left.1)

  pub entries_show : (bs ls : List Block) → AllZip (AnswersWanted ground.nodes ground.schema ground.rows ground.constraints) (wanted_by ground.schema query) (told bs) →
      AllZip (AnswersWanted ground.nodes ground.schema ground.rows []) (wanted_by ground.schema query) (told ls) → AreShown ground (map block (wanted_by ground.schema query)) (entries_between ground query bs ls)
  entries_show bs ls answers left =
      shows_all (wanted_by ground.schema query) bs ls (wanted_are_of ground.schema query) (blocks_answer ground.nodes ground.schema ground.rows ground.constraints query bs answers)
      (blocks_answer ground.nodes ground.schema ground.rows [] query ls left)

-- ---- one question after the other

pub zipped_append : {A B : Type 0} (R : A → B → Type 0) (xs : List A) (ys : List B) (vs : List A) (ws : List B) → AllZip R xs ys → AllZip R vs ws → AllZip R (xs ++ vs) (ys ++ ws)
zipped_append R [] [] vs ws first later = later
zipped_append R [] (y ∷ ys) vs ws first later = absurd first
zipped_append R (x ∷ xs) [] vs ws first later = absurd first
zipped_append R (x ∷ xs) (y ∷ ys) vs ws first later = (first.0, zipped_append R xs ys vs ws first.1 later)

module _ (ground : Ground) (schema : Schema) where
  pub none_shown : AreShown ground (asked schema []) []
  unfolding asked
  none_shown = tt

  pub next_shown : (questions : List Question) (i : ℕ) (question : Question) (before more : List Entry) → i < length questions → question ≡ get_or questions i question →
      AreShown ground (asked schema (take i questions)) before → AreShown ground (asked_by schema question) more → AreShown ground (asked schema (take (i + 1) questions)) (before ++ more)
  unfolding asked
  next_shown questions i question before more inside is first later =
      let next : take (i + 1) questions ≡ take i questions ++ question ∷ [] = take_more questions i question inside ∙ ap (λ (q : Question). take i questions ++ q ∷ []) (sym is) in
      let shown = zipped_append (Shows ground) (flat_map (asked_by schema) (take i questions)) before (asked_by schema question) more first later in
      subst (λ (qs : List Question). AreShown ground (flat_map (asked_by schema) qs) (before ++ more)) (sym next)
      (subst (λ (wants : List Asked). AreShown ground wants (before ++ more)) (flat_map_more (asked_by schema) [] (take i questions) question) shown)

  pub all_shown : (questions : List Question) (i : ℕ) (entries : List Entry) → length questions ≤ i → AreShown ground (asked schema (take i questions)) entries → AreShown ground (asked schema questions) entries
  all_shown questions i entries past shown = subst (λ (qs : List Question). AreShown ground (asked schema qs) entries) (take_all i questions past) shown

-- ---- what a session holds

module _ (nodes : ℕ) (query : Query) (schema other : Schema) (rows others : List Row) (constraints more : List Constraint) (queries : List Query) (blocks written : List Block) where
  pub answers_held : other ≡ schema → others ≡ rows → more ≡ constraints → queries ≡ query ∷ [] → written ≡ blocks →
      AllZip (AnswersWanted nodes schema rows constraints) (wanted schema queries) (told blocks) → AllZip (AnswersWanted nodes other others more) (wanted_by other query) (told written)
  answers_held same_schema same_rows same_constraints one same each =
      let asked : AllZip (AnswersWanted nodes schema rows constraints) (wanted schema (query ∷ [])) (told blocks) = rw one at each in
      rw (same_schema, same_rows, same_constraints, same) (subst (λ (ws : List Wanted). AllZip (AnswersWanted nodes schema rows constraints) ws (told blocks)) (one_wanted schema query) asked)

module _ (nodes line : ℕ) (query : Query) (schema other : Schema) (rows others : List Row) (constraints more : List Constraint) (result : Result (List Entry) Memory) where
  pub shown_held : other ≡ schema → others ≡ rows → more ≡ constraints →
      IfOk result (AreShown (ground_held other (record { rows = others; constraints = more }) line nodes) (map block (wanted_by other query))) →
      IfOk result (AreShown (ground_held schema (record { rows = rows; constraints = constraints }) line nodes) (map block (wanted_by schema query)))
  shown_held same_schema same_rows same_constraints shown = rw (same_schema, same_rows, same_constraints) at shown
