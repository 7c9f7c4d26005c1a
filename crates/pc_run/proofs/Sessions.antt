-- The bytes of a session determine what the report of each of its questions says.
use Rattle.std.proofs.Common.{◌≡◌, ℕ, ◌≤◌, List, [], ◌∷◌, ◌++◌, length, All, refl, sym, ap, ap₂, subst, ◌∙◌, arith}
use Rattle.std.specs.List.{AllZip, concat}
use Rattle.std.proofs.lemmas.List.{append-nil}
use Rattle.std.proofs.lemmas.List.Concat.{flat_map-append}
use Rattle.std.proofs.lemmas.List.Elements.{All-append, All-cons, All-head, All-nil, All-tail}
use Rattle.pc_model.specs.declared.schema.Schema.{Schema}
use Rattle.pc_model.specs.declared.query.Query.{Query}
use Rattle.pc_model.specs.Accepted.{IsQuery}
use Rattle.pc_model.specs.WellFormed.{IsWellFormed}
use Rattle.pc_proof.specs.declared.document.Block.{Block}
use Rattle.pc_report.specs.Report.{block_text, blocks_text, report_text}
use Rattle.pc_report.specs.Shown.{IsShown, SaysAlike}
use Rattle.pc_report.proofs.BlocksBack.{reports_tell_their_blocks}
use Rattle.pc_rows.specs.declared.case.Case.{Case}
use Rattle.pc_session.specs.declared.line.Line.{Line}
use Rattle.pc_session.specs.declared.line.Line.TheVariants.{Asks, Edits}
use Rattle.pc_session.specs.Edited.{Held, CanFollowAll, after_line, cases_of}
use Rattle.pc_group.specs.Wanted.{wanted, wanted_by}
use Rattle.pc_files.specs.declared.reading.Scripted.{Scripted}
use Rattle.pc_files.specs.Reads.{IsScripted, start_of}
use Rattle.pc_run.specs.Replies.{SaysReport, SaysReports, SaysSession}
use Rattle.pc_run.specs.Said.{blocks_said, said_by}
use Rattle.pc_run.proofs.Documents.{as_many_blocks, blocks_are_of}
use Rattle.pc_run.proofs.Reported.{all_shown}
use Rattle.pc_run.proofs.WantedBlocks.{wants_some}

-- ---- blocks that stand one after another

-- the blocks of all questions
abbrev joined : List (List Block) → List Block
joined [] = []
joined (part ∷ parts) = part ++ joined parts

zip_parts : {X : Type 0} (R : X → X → Type 0) (xs ys more others : List X) → length xs ≡ length ys → AllZip R (xs ++ more) (ys ++ others) → AllZip R xs ys × AllZip R more others
zip_parts R [] [] more others same pairs = (tt, pairs)
zip_parts R [] (y ∷ ys) more others same pairs = absurd (omega (arith, same))
zip_parts R (x ∷ xs) [] more others same pairs = absurd (omega (arith, same))
zip_parts R (x ∷ xs) (y ∷ ys) more others same pairs = let rest = zip_parts R xs ys more others (omega (arith, same)) pairs.1 in ((pairs.0, rest.0), rest.1)

-- the blocks that one question wants: their query says how many they are, and there is one at least
record AreOfOne (schema : Schema) (blocks : List Block) : Type 0 where
  query : Query
  each : All (λ (block : Block). block.query ≡ query) blocks
  many : length blocks ≡ length (wanted_by schema query)
  some : 1 ≤ length blocks

module _ (schema : Schema) where
  as_many : (x y : Block) (xs ys : List Block) → AreOfOne schema (x ∷ xs) → AreOfOne schema (y ∷ ys) → SaysAlike x y → length (x ∷ xs) ≡ length (y ∷ ys)
  as_many x y xs ys one other alike =
      let first = All-head (λ (block : Block). block.query ≡ one.query) x xs one.each in
      let second = All-head (λ (block : Block). block.query ≡ other.query) y ys other.each in
      let same : one.query ≡ other.query = sym first ∙ alike.query ∙ second in
      one.many ∙ ap (λ (query : Query). length (wanted_by schema query)) same ∙ sym other.many

  parts_back : (xs ys : List (List Block)) → All (AreOfOne schema) xs → All (AreOfOne schema) ys → AllZip SaysAlike (joined xs) (joined ys) → AllZip (AllZip SaysAlike) xs ys
  parts_back [] [] are others pairs = tt
  parts_back [] ([] ∷ ys) are others pairs = absurd (omega (arith, (All-head (AreOfOne schema) [] ys others).some))
  parts_back [] ((y ∷ part) ∷ ys) are others pairs = absurd pairs
  parts_back ([] ∷ xs) ys are others pairs = absurd (omega (arith, (All-head (AreOfOne schema) [] xs are).some))
  parts_back ((x ∷ part) ∷ xs) [] are others pairs = absurd pairs
  parts_back ((x ∷ part) ∷ xs) ([] ∷ ys) are others pairs = absurd (omega (arith, (All-head (AreOfOne schema) [] ys others).some))
  parts_back ((x ∷ part) ∷ xs) ((y ∷ other) ∷ ys) are others pairs =
      let one = All-head (AreOfOne schema) (x ∷ part) xs are in
      let two = All-head (AreOfOne schema) (y ∷ other) ys others in
      let both = zip_parts SaysAlike (x ∷ part) (y ∷ other) (joined xs) (joined ys) (as_many x y part other one two pairs.0) pairs in
      (both.0, parts_back xs ys (All-tail (AreOfOne schema) (x ∷ part) xs are) (All-tail (AreOfOne schema) (y ∷ other) ys others) both.1)

-- ---- the reports of questions

-- one query over the schema
record IsQuestion (schema : Schema) (case : Case) : Type 0 where
  same : case.schema ≡ schema
  query : Query
  alone : case.queries ≡ query ∷ []
  asked : IsQuery schema query

-- the texts are those of the blocks, question after question
record AreTextsOf (schema : Schema) (texts : List (List ℕ)) (said : List (List Block)) : Type 0 where
  spelled : concat texts ≡ blocks_text schema (joined said)
  shown : All (IsShown schema) (joined said)
  each : All (AreOfOne schema) said

one_wanted : (schema : Schema) (queries : List Query) (query : Query) → queries ≡ query ∷ [] → wanted schema queries ≡ wanted_by schema query
unfolding wanted
one_wanted schema queries query alone = rw alone (append-nil (wanted_by schema query))

blocks_joined : (schema : Schema) (blocks more : List Block) → blocks_text schema (blocks ++ more) ≡ blocks_text schema blocks ++ blocks_text schema more
unfolding blocks_text
blocks_joined schema blocks more = flat_map-append (block_text schema) blocks more

no_texts : (schema : Schema) → AreTextsOf schema [] []
unfolding blocks_text
no_texts schema = record { spelled = refl; shown = All-nil (IsShown schema); each = All-nil (AreOfOne schema) }

module _ (schema : Schema) (formed : IsWellFormed schema) where
  of_question : (nodes : ℕ) (case : Case) (text : List ℕ) → IsQuestion schema case → (says : SaysReport nodes case text) → AreOfOne schema says.document.blocks
  of_question nodes case text is says =
      let many = as_many_blocks nodes case says.document says.answers ∙ ap (λ (s : Schema). length (wanted s case.queries)) is.same ∙ ap length (one_wanted schema case.queries is.query is.alone) in
      record {
        query = is.query;
        each = blocks_are_of nodes case says.document says.answers (λ query. query ≡ is.query) (rw (is.alone) (All-cons (λ query. query ≡ is.query) is.query [] refl (All-nil (λ query. query ≡ is.query))));
        many = many;
        some = let some = wants_some schema is.query formed is.asked in omega (arith, some, many);
      }

  one_more : (nodes : ℕ) (case : Case) (text : List ℕ) (texts : List (List ℕ)) (said : List (List Block)) → IsQuestion schema case → (says : SaysReport nodes case text) → AreTextsOf schema texts said → AreTextsOf schema (text ∷ texts) (says.document.blocks ∷ said)
  one_more nodes case text texts said is says rest = record {
    spelled =
        ap₂ (λ (front back : List ℕ). front ++ back) (says.reported ∙ ap (λ (s : Schema). report_text s says.document) is.same) rest.spelled
        ∙ sym (blocks_joined schema says.document.blocks (joined said));
    shown =
        All-append (IsShown schema) says.document.blocks (joined said)
        (subst (λ (s : Schema). All (IsShown s) says.document.blocks) is.same (all_shown case.schema says.document says.answers.formed)) rest.shown;
    each = All-cons (AreOfOne schema) says.document.blocks said (of_question nodes case text is says) rest.each;
  }

  texts_of : (nodes : ℕ) (cases : List Case) (texts : List (List ℕ)) → All (IsQuestion schema) cases → (each : AllZip (SaysReport nodes) cases texts) → AreTextsOf schema texts (blocks_said nodes cases texts each)
  unfolding blocks_said
  texts_of nodes [] [] are each = no_texts schema
  texts_of nodes [] (text ∷ texts) are each = absurd each
  texts_of nodes (case ∷ cases) [] are each = absurd each
  texts_of nodes (case ∷ cases) (text ∷ texts) are each =
      one_more nodes case text texts (blocks_said nodes cases texts each.1) (All-head (IsQuestion schema) case cases are) each.0 (texts_of nodes cases texts (All-tail (IsQuestion schema) case cases are) each.1)

  -- two lists of questions over the schema whose reports are the same bytes
  reports_tell_each : (nodes budget : ℕ) (cases others : List Case) (text : List ℕ) → All (IsQuestion schema) cases → All (IsQuestion schema) others → (one : SaysReports nodes cases text) (two : SaysReports budget others text) → AllZip (AllZip SaysAlike) (said_by one) (said_by two)
  reports_tell_each nodes budget cases others text are also one two =
      let first = texts_of nodes cases one.texts are one.each in
      let second = texts_of budget others two.texts also two.each in
      parts_back schema (said_by one) (said_by two) first.each second.each
      (reports_tell_their_blocks schema (record { blocks = joined (said_by one) }) (record { blocks = joined (said_by two) }) formed first.shown second.shown
      (sym first.spelled ∙ sym one.joined ∙ two.joined ∙ second.spelled))

-- ---- sessions

ask_each : (schema : Schema) (held : Held) (lines : List Line) → CanFollowAll schema held lines → All (IsQuestion schema) (cases_of schema held lines)
unfolding cases_of CanFollowAll
ask_each schema held [] can = All-nil (IsQuestion schema)
ask_each schema held (Edits edit ∷ lines) can = ask_each schema (after_line held (Edits edit)) lines can.1
ask_each schema held (Asks query ∷ lines) can =
    All-cons (IsQuestion schema) (record { schema = schema; rows = held.rows; constraints = held.constraints; queries = query ∷ [] }) (cases_of schema held lines)
    (record { same = refl; query = query; alone = refl; asked = can.0 }) (ask_each schema held lines can.1)

pub sessions_tell : (nodes budget : ℕ) (scripted other : Scripted) (text : List ℕ) → IsScripted scripted → IsScripted other → scripted.observed.schema ≡ other.observed.schema → (one : SaysSession nodes scripted text) (two : SaysSession budget other text) → AllZip (AllZip SaysAlike) (said_by one) (said_by two)
sessions_tell nodes budget scripted other text can also same one two =
    reports_tell_each scripted.observed.schema can.usable.well_formed nodes budget (cases_of scripted.observed.schema (start_of scripted) scripted.script.lines) (cases_of other.observed.schema (start_of other) other.script.lines) text
    (ask_each scripted.observed.schema (start_of scripted) scripted.script.lines can.can)
    (subst (λ (s : Schema). All (IsQuestion s) (cases_of other.observed.schema (start_of other) other.script.lines)) (sym same) (ask_each other.observed.schema (start_of other) other.script.lines also.can)) one two
