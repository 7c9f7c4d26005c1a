-- The formats of ends, of what the aggregate lacks, of answers and of blocks.
use Rattle.std.proofs.Common.{◌≡◌, ℕ, Bool, true, false, ◌||◌, List, [], ◌∷◌, ◌++◌, Option, Some, None, refl, sym, ap, ◌∙◌, subst, append_assoc, true≢false}
use Rattle.std.proofs.lemmas.Slice.Eq.{bytes_eq-Decides}
use Rattle.std.specs.Bool.{⊤}
use Rattle.std.specs.Prelude.{is_none, codes, if◌then◌else◌}
use Rattle.pc_num.specs.declared.Frac.{Frac}
use Rattle.pc_model.specs.declared.schema.Schema.{Schema}
use Rattle.pc_model.specs.declared.row.Run.{Run}
use Rattle.pc_model.specs.declared.query.Query.{Query}
use Rattle.pc_model.specs.declared.tree.Tree.{Tree}
use Rattle.pc_model.specs.Accepted.{IsQuery}
use Rattle.pc_model.specs.Right.{always_has_value, is_silent}
use Rattle.pc_proof.specs.declared.answer.Proof.{Proof}
use Rattle.pc_proof.specs.declared.answer.Bounded.{Bounded}
use Rattle.pc_proof.specs.declared.answer.Relation.{Relation}
use Rattle.pc_proof.specs.declared.answer.Relation.TheVariants as relations
use Rattle.pc_proof.specs.declared.answer.NeverBy.{NeverBy}
use Rattle.pc_proof.specs.declared.answer.NeverBy.TheVariants as nevers
use Rattle.pc_proof.specs.declared.answer.AlwaysBy.{AlwaysBy}
use Rattle.pc_proof.specs.declared.answer.AlwaysBy.TheVariants as alwayses
use Rattle.pc_proof.specs.declared.answer.Lack.{Lack}
use Rattle.pc_proof.specs.declared.answer.Lack.TheVariants as lacks
use Rattle.pc_proof.specs.declared.answer.Mark.{Mark}
use Rattle.pc_proof.specs.declared.answer.Mark.TheVariants as marks
use Rattle.pc_proof.specs.declared.answer.End.{End}
use Rattle.pc_proof.specs.Unbroken.{plain_lack}
use Rattle.pc_proof.specs.Form.{IsFormedTree, AreFormedRuns, IsFormedValue, IsFormedProof, IsFormedNever, IsFormedAlways, IsFormedLack, IsFormedMark, IsFormedEnd, AreFormedEnds, IsFormedAnswer}
use Rattle.pc_document_format.specs.Lines.{feeds_in}
use Rattle.pc_document_format.specs.Formats.{Lines, Found, IsFormat, IsLine, Ends, any, found_in, first_line, read_as, read_joined}
use Rattle.pc_document_format.proofs.OneLine.{line_format, none_format}
use Rattle.pc_document_format.proofs.Joined.{joined_format}
use Rattle.pc_document_format.proofs.As.{as_format}
use Rattle.pc_document_format.proofs.Spelled.{one_of_line}
use Rattle.pc_document_lines.specs.declared.tags.Side.{Side}
use Rattle.pc_document_lines.specs.declared.tags.Side.TheVariants.{Low as low, High as high}
use Rattle.pc_document_lines.specs.declared.tags.EndLine.{EndLine}
use Rattle.pc_document_lines.specs.ValueLines.{end_text}
use Rattle.pc_document_lines.specs.TokenLines.{begins_run}
use Rattle.pc_document.specs.DocumentLines.{tree_lines, runs_lines, proof_lines, crossing_lines, never_lines, always_lines, lack_lines, mark_lines, end_lines, ends_lines, after_lines, answer_lines}
use Rattle.pc_document.specs.declared.tags.After.{After}
use Rattle.pc_document.specs.Parts.{ends_block, has_no_ends, IsSpokenLack, IsLackUnless, AreEndsUnless, nothing_after, IsAfter}
use Rattle.pc_document_lines.specs.Kinds.{AreLines}
use Rattle.pc_document.specs.declared.tags.NeverLine.{NeverLine}
use Rattle.pc_document.specs.declared.tags.NeverLine.TheVariants.{Rows as by_rows, Tree as by_tree}
use Rattle.pc_document.specs.declared.tags.AlwaysLine.{AlwaysLine}
use Rattle.pc_document.specs.declared.tags.AlwaysLine.TheVariants.{Tree as in_tree, Ends as in_ends}
use Rattle.pc_document.specs.declared.tags.LackLine.{LackLine}
use Rattle.pc_document.specs.declared.tags.LackLine.TheVariants.{Never as is_never, Sometimes as is_sometimes, Always as is_ever, Undecided as is_open}
use Rattle.pc_document.specs.Reading.{pair, exact_end, outer_end, end_after, read_end, read_ends, Word, word, read_word, never_text, read_never_line, tagged_never, read_never, always_text, read_always_line, tagged_always, read_always, lack_text, read_lack_line, read_some, tagged_lack, read_lack, read_lack_unless, read_ends_unless, after, read_after, read_answer}
use Rattle.pc_document.proofs.PartFormats.{IsOf, EndsRuns, RelationFollows, tagged_format, made_format, both_format, split_tree, runs_format, proof_format, proof_after, IsCrossing, crossing_format, relation_format}

-- ---- lines

-- the one text is found
word_found : (text : List ℕ) → read_word text text ≡ Some word
unfolding found_in
word_found text = ap (λ (test : Bool). if test then Some word else None) ((bytes_eq-Decides text text).1 refl)

-- no line feed is in it
some_plain : feeds_in (codes "some") ≡ 0
unfolding feeds_in
some_plain = refl

-- a line of one text
pub word_line : (text : List ℕ) → feeds_in text ≡ 0 → IsLine (λ (w : Word). ⊤) (λ w. text) (read_word text)
word_line text plain = one_of_line (λ w. text) (word ∷ []) word (λ w. tt) found (λ w. plain)
  where
    found : (w : Word) → read_word text text ≡ Some w
    found word = word_found text

-- each line is found by its text
nevers_found : (tag : NeverLine) → read_never_line (never_text tag) ≡ Some tag
unfolding found_in
nevers_found by_rows = refl
nevers_found by_tree = refl

-- no line feed is in them
nevers_plain : (tag : NeverLine) → feeds_in (never_text tag) ≡ 0
unfolding feeds_in
nevers_plain by_rows = refl
nevers_plain by_tree = refl

never_line : IsLine (λ tag. ⊤) never_text read_never_line
never_line = one_of_line never_text (by_rows ∷ by_tree ∷ []) by_rows (λ tag. tt) nevers_found nevers_plain

-- each line is found by its text
alwayses_found : (tag : AlwaysLine) → read_always_line (always_text tag) ≡ Some tag
unfolding found_in
alwayses_found in_tree = refl
alwayses_found in_ends = refl

-- no line feed is in them
alwayses_plain : (tag : AlwaysLine) → feeds_in (always_text tag) ≡ 0
unfolding feeds_in
alwayses_plain in_tree = refl
alwayses_plain in_ends = refl

always_line : IsLine (λ tag. ⊤) always_text read_always_line
always_line = one_of_line always_text (in_tree ∷ in_ends ∷ []) in_tree (λ tag. tt) alwayses_found alwayses_plain

-- each line is found by its text
lacks_found : (tag : LackLine) → read_lack_line (lack_text tag) ≡ Some tag
unfolding found_in
lacks_found is_never = refl
lacks_found is_sometimes = refl
lacks_found is_ever = refl
lacks_found is_open = refl

-- no line feed is in them
lacks_plain : (tag : LackLine) → feeds_in (lack_text tag) ≡ 0
unfolding feeds_in
lacks_plain is_never = refl
lacks_plain is_sometimes = refl
lacks_plain is_ever = refl
lacks_plain is_open = refl

lack_line : IsLine (λ tag. ⊤) lack_text read_lack_line
lack_line = one_of_line lack_text (is_never ∷ is_sometimes ∷ is_ever ∷ is_open ∷ []) is_open (λ tag. tt) lacks_found lacks_plain

-- ---- which parts an answer has

or_true : (a : Bool) → (a || true) ≡ true
or_true true = refl
or_true false = refl

-- only the silent lack is silent
silent_is : (lack : Lack) → is_silent (plain_lack lack) ≡ true → lack ≡ lacks.Silent
silent_is lacks.Silent e = refl
silent_is (lacks.Never by') e = absurd (true≢false (sym e))
silent_is (lacks.Sometimes without with') e = absurd (true≢false (sym e))
silent_is (lacks.Always by') e = absurd (true≢false (sym e))
silent_is lacks.Undecided e = absurd (true≢false (sym e))

absent_is : (ends : Option (End × End)) → is_none ends ≡ true → ends ≡ None
absent_is None e = refl
absent_is (Some ends) e = absurd (true≢false (sym e))

-- silent, where the aggregate always has a value, and else spoken of
lack_unless : (schema : Schema) (query : Query) (always : Bool) (lack : Lack) → IsFormedLack schema query.agg lack → is_silent (plain_lack lack) ≡ (always || false) → IsLackUnless schema query.agg always lack
lack_unless schema query true lack good silent = silent_is lack silent
lack_unless schema query false lack good silent = record { spoken = silent; good = good }

-- and the other way round
lack_formed : (schema : Schema) (query : Query) (always : Bool) (lack : Lack) → IsLackUnless schema query.agg always lack → IsFormedLack schema query.agg lack × (is_silent (plain_lack lack) ≡ (always || false))
lack_formed schema query true lack is = subst (λ (l : Lack). IsFormedLack schema query.agg l × (is_silent (plain_lack l) ≡ true)) (sym is) (tt, refl)
lack_formed schema query false lack is = (is.good, is.spoken)

-- two ends, unless there are to be none
ends_unless : (schema : Schema) (query : Query) (never : Bool) (ends : Option (End × End)) → AreFormedEnds schema query.agg ends → is_none ends ≡ never → AreEndsUnless schema query.agg never ends
ends_unless schema query true ends good absent = absent_is ends absent
ends_unless schema query false None good absent = absurd (true≢false absent)
ends_unless schema query false (Some ends) good absent = good

-- and the other way round
ends_formed : (schema : Schema) (query : Query) (never : Bool) (ends : Option (End × End)) → AreEndsUnless schema query.agg never ends → AreFormedEnds schema query.agg ends × (is_none ends ≡ never)
ends_formed schema query true ends is = subst (λ (es : Option (End × End)). AreFormedEnds schema query.agg es × (is_none es ≡ true)) (sym is) (tt, refl)
ends_formed schema query false None is = absurd is
ends_formed schema query false (Some ends) is = (is, refl)

-- what is asked of the lack and the ends of an answer, where the relation is impossible or not
pub record IsRest (schema : Schema) (query : Query) (impossible : Bool) (rest : After) : Type 0 where
  pub lack : IsFormedLack schema query.agg rest.lack
  pub ends : AreFormedEnds schema query.agg rest.ends
  pub silent : is_silent (plain_lack rest.lack) ≡ (always_has_value query.agg || impossible)
  pub absent : is_none rest.ends ≡ (impossible || has_no_ends rest.lack)

-- by tests, and so by cases
rest_after : (schema : Schema) (query : Query) (impossible : Bool) (rest : After) → IsRest schema query impossible rest → IsAfter schema query.agg impossible rest
rest_after schema query true rest is =
    ap (λ (l : Lack). after l rest.ends) (silent_is rest.lack (is.silent ∙ or_true (always_has_value query.agg)))
    ∙ ap (after lacks.Silent) (absent_is rest.ends is.absent)
rest_after schema query false rest is =
    (lack_unless schema query (always_has_value query.agg) rest.lack is.lack is.silent, ends_unless schema query (has_no_ends rest.lack) rest.ends is.ends is.absent)

-- by cases, and so by tests
after_rest : (schema : Schema) (query : Query) (impossible : Bool) (rest : After) → IsAfter schema query.agg impossible rest → IsRest schema query impossible rest
after_rest schema query true rest is = subst (IsRest schema query true) (sym is) (record { lack = tt; ends = tt; silent = sym (or_true (always_has_value query.agg)); absent = refl })
after_rest schema query false rest is =
    let lack = lack_formed schema query (always_has_value query.agg) rest.lack is.0 in
    let ends = ends_formed schema query (has_no_ends rest.lack) rest.ends is.1 in
    record { lack = lack.0; ends = ends.0; silent = lack.1; absent = ends.1 }

-- after runs comes a line that is none
abbrev LackFollows : Lack → Option (List ℕ) → Type 0
LackFollows lacks.Silent line = ⊤
LackFollows (lacks.Never by') line = ⊤
LackFollows (lacks.Sometimes without with') line = EndsRuns line
LackFollows (lacks.Always by') line = ⊤
LackFollows lacks.Undecided line = ⊤

module _ (schema : Schema) (lines : AreLines schema) where
  -- ---- what the aggregate lacks

  -- the runs that stand after a line of their own
  some_format : IsFormat (AreFormedRuns schema) (λ runs. codes "some" ∷ runs_lines schema runs) (Ends begins_run) (read_some schema)
  unfolding read_some
  some_format = joined_format (line_format (word_line (codes "some") some_plain)) (λ w good. runs_format schema lines) (record {
    made = λ w runs good formed. (formed, refl);
    follows = λ w runs line good formed follows. follows;
    parts = λ runs formed. (word, runs, tt, formed, refl);
    back_follows = λ w runs line good formed follows. follows;
    fits = λ w runs line good formed follows. tt;
  })

  abbrev never_tag : NeverBy → NeverLine
  never_tag nevers.Rows = by_rows
  never_tag (nevers.Tree t) = by_tree

  abbrev never_rest : NeverBy → Lines
  never_rest nevers.Rows = []
  never_rest (nevers.Tree t) = tree_lines t

  -- its line says what follows it
  never_told : (by' : NeverBy) → IsFormedNever by' → ⊤ × (never_lines by' ≡ never_text (never_tag by') ∷ never_rest by')
  never_told nevers.Rows good = (tt, refl)
  never_told (nevers.Tree t) good = (tt, refl)

  -- what follows each line
  never_of : (tag : NeverLine) → ⊤ → IsFormat (IsOf never_tag IsFormedNever tag) never_rest any (tagged_never tag)
  never_of by_rows good = none_format nevers.Rows (refl, tt) only refl (λ line. tt)
    where
      only : (by' : NeverBy) → IsOf never_tag IsFormedNever by_rows by' → by' ≡ nevers.Rows
      only nevers.Rows told = refl
      only (nevers.Tree t) told = let e = told.0 in absurd (cc)
  never_of by_tree good = made_format (split_tree schema lines) (λ t formed. ((refl, formed), refl)) parts
    where
      parts : (by' : NeverBy) → IsOf never_tag IsFormedNever by_tree by' → (t : Tree) × IsFormedTree t × (nevers.Tree t ≡ by')
      parts nevers.Rows told = let e = told.0 in absurd (cc)
      parts (nevers.Tree t) told = (t, told.1, refl)

  -- what shows that the aggregate always has a value
  never_format : IsFormat IsFormedNever never_lines any read_never
  unfolding read_never
  never_format = tagged_format never_tag never_rest never_line never_told never_of

  module _ (query : Query) (accepted : IsQuery schema query) where
    abbrev always_tag : AlwaysBy → AlwaysLine
    always_tag (alwayses.Tree t) = in_tree
    always_tag (alwayses.Ends first second) = in_ends

    abbrev always_rest : AlwaysBy → Lines
    always_rest (alwayses.Tree t) = tree_lines t
    always_rest (alwayses.Ends first second) = crossing_lines schema query first second

    abbrev IsAlways : AlwaysBy → Type 0
    IsAlways by' = IsFormedAlways query.agg by'

    -- its line says what follows it
    always_told : (by' : AlwaysBy) → IsAlways by' → ⊤ × (always_lines schema query by' ≡ always_text (always_tag by') ∷ always_rest by')
    always_told (alwayses.Tree t) good = (tt, refl)
    always_told (alwayses.Ends first second) good = (tt, refl)

    -- what follows each line
    always_of : (tag : AlwaysLine) → ⊤ → IsFormat (IsOf always_tag IsAlways tag) always_rest any (tagged_always schema query tag)
    always_of in_tree good = made_format (split_tree schema lines) (λ t formed. ((refl, formed), refl)) parts
      where
        parts : (by' : AlwaysBy) → IsOf always_tag IsAlways in_tree by' → (t : Tree) × IsFormedTree t × (alwayses.Tree t ≡ by')
        parts (alwayses.Tree t) told = (t, told.1, refl)
        parts (alwayses.Ends first second) told = let e = told.0 in absurd (cc)
    always_of in_ends good = made_format (crossing_format schema lines query accepted) (λ p crossing. ((refl, crossing), refl)) parts
      where
        parts : (by' : AlwaysBy) → IsOf always_tag IsAlways in_ends by' → (p : Bounded × Bounded) × IsCrossing query.agg p × (alwayses.Ends p.0 p.1 ≡ by')
        parts (alwayses.Tree t) told = let e = told.0 in absurd (cc)
        parts (alwayses.Ends first second) told = ((first, second), told.1, refl)

    -- what shows that the aggregate never has a value
    always_format : IsFormat IsAlways (always_lines schema query) any (read_always schema query)
    unfolding read_always
    always_format = tagged_format always_tag always_rest always_line always_told always_of

    -- a lack that nothing is said of has no line
    abbrev lack_tag : Lack → LackLine
    lack_tag lacks.Silent = is_open
    lack_tag (lacks.Never by') = is_never
    lack_tag (lacks.Sometimes without with') = is_sometimes
    lack_tag (lacks.Always by') = is_ever
    lack_tag lacks.Undecided = is_open

    abbrev lack_rest : Lack → Lines
    lack_rest lacks.Silent = []
    lack_rest (lacks.Never by') = never_lines by'
    lack_rest (lacks.Sometimes without with') = runs_lines schema without ++ (codes "some" ∷ runs_lines schema with')
    lack_rest (lacks.Always by') = always_lines schema query by'
    lack_rest lacks.Undecided = []

    abbrev IsSpoken : Lack → Type 0
    IsSpoken lack = IsSpokenLack schema query.agg lack

    -- the line of a lack that is spoken of says what follows it
    lack_told : (lack : Lack) → IsSpoken lack → ⊤ × (lack_lines schema query lack ≡ lack_text (lack_tag lack) ∷ lack_rest lack)
    lack_told lacks.Silent spoken = absurd (true≢false spoken.spoken)
    lack_told (lacks.Never by') spoken = (tt, refl)
    lack_told (lacks.Sometimes without with') spoken = (tt, refl)
    lack_told (lacks.Always by') spoken = (tt, refl)
    lack_told lacks.Undecided spoken = (tt, refl)

    -- of a value that the lack is made of
    lack_made : {A : Type 0} {GoodA : A → Type 0} {textA : A → Lines} {read : Lines → Found A} {to : A → Lack} (tag : LackLine) → IsFormat GoodA textA any read → ((x : A) → GoodA x → IsOf lack_tag IsSpoken tag (to x) × (lack_rest (to x) ≡ textA x)) → ((x : A) (line : Option (List ℕ)) → LackFollows (to x) line) → ((lack : Lack) → IsOf lack_tag IsSpoken tag lack → (x : A) × GoodA x × (to x ≡ lack)) → IsFormat (IsOf lack_tag IsSpoken tag) lack_rest LackFollows (read_as to read)
    lack_made tag format made follows parts = as_format format (record {
      made = made;
      follows = λ x line good before. follows x line;
      parts = parts;
      back_follows = λ x line good follows. tt;
    })

    -- what follows each line of a lack
    lack_of : (tag : LackLine) → ⊤ → IsFormat (IsOf lack_tag IsSpoken tag) lack_rest LackFollows (tagged_lack schema query tag)
    lack_of is_never good = lack_made is_never never_format (λ by' formed. ((refl, record { spoken = refl; good = formed }), refl)) (λ by' line. tt) parts
      where
        parts : (lack : Lack) → IsOf lack_tag IsSpoken is_never lack → (by' : NeverBy) × IsFormedNever by' × (lacks.Never by' ≡ lack)
        parts lacks.Silent told = absurd (true≢false told.1.spoken)
        parts (lacks.Never by') told = (by', told.1.good, refl)
        parts (lacks.Sometimes without with') told = let e = told.0 in absurd (cc)
        parts (lacks.Always by') told = let e = told.0 in absurd (cc)
        parts lacks.Undecided told = let e = told.0 in absurd (cc)
    lack_of is_sometimes good = joined_format (runs_format schema lines) (λ without formed. some_format) (record {
      made = λ without with' first second. ((refl, record { spoken = refl; good = (first, second) }), refl);
      follows = λ without with' line first second follows. follows;
      parts = parts;
      back_follows = λ without with' line first second follows. follows;
      fits = λ without with' line first second follows. refl;
    })
      where
        parts : (lack : Lack) → IsOf lack_tag IsSpoken is_sometimes lack → (without with' : List Run) × AreFormedRuns schema without × AreFormedRuns schema with' × (lacks.Sometimes without with' ≡ lack)
        parts lacks.Silent told = absurd (true≢false told.1.spoken)
        parts (lacks.Never by') told = let e = told.0 in absurd (cc)
        parts (lacks.Sometimes without with') told = (without, with', told.1.good.0, told.1.good.1, refl)
        parts (lacks.Always by') told = let e = told.0 in absurd (cc)
        parts lacks.Undecided told = let e = told.0 in absurd (cc)
    lack_of is_ever good = lack_made is_ever always_format (λ by' formed. ((refl, record { spoken = refl; good = formed }), refl)) (λ by' line. tt) parts
      where
        parts : (lack : Lack) → IsOf lack_tag IsSpoken is_ever lack → (by' : AlwaysBy) × IsAlways by' × (lacks.Always by' ≡ lack)
        parts lacks.Silent told = absurd (true≢false told.1.spoken)
        parts (lacks.Never by') told = let e = told.0 in absurd (cc)
        parts (lacks.Sometimes without with') told = let e = told.0 in absurd (cc)
        parts (lacks.Always by') told = (by', told.1.good, refl)
        parts lacks.Undecided told = let e = told.0 in absurd (cc)
    lack_of is_open good = none_format lacks.Undecided (refl, record { spoken = refl; good = tt }) only refl (λ line. tt)
      where
        only : (lack : Lack) → IsOf lack_tag IsSpoken is_open lack → lack ≡ lacks.Undecided
        only lacks.Silent told = absurd (true≢false told.1.spoken)
        only (lacks.Never by') told = let e = told.0 in absurd (cc)
        only (lacks.Sometimes without with') told = let e = told.0 in absurd (cc)
        only (lacks.Always by') told = let e = told.0 in absurd (cc)
        only lacks.Undecided told = refl

    -- a lack that is spoken of, after whose runs comes a line that is none
    lack_format : IsFormat IsSpoken (lack_lines schema query) LackFollows (read_lack schema query)
    unfolding read_lack
    lack_format = tagged_format lack_tag lack_rest lack_line lack_told lack_of

    -- or none where the aggregate always has a value
    lack_unless_format : (always : Bool) → IsFormat (IsLackUnless schema query.agg always) (lack_lines schema query) LackFollows (read_lack_unless schema query always)
    lack_unless_format true = none_format lacks.Silent refl (λ lack is. is) refl (λ line. tt)
    lack_unless_format false = lack_format

    -- ---- the ends

    abbrev is_exact : Mark → Bool
    is_exact (marks.Exact runs) = true
    is_exact marks.Outer = false

    abbrev end_tag : End → EndLine
    end_tag end = record { value = end.value; exact = is_exact end.mark }

    abbrev mark_rest : End → Mark → Lines
    mark_rest end (marks.Exact runs) = runs_lines schema runs ++ proof_lines schema query end.proof
    mark_rest end marks.Outer = proof_lines schema query end.proof

    abbrev end_rest : End → Lines
    end_rest end = mark_rest end end.mark

    abbrev IsEnd : End → Type 0
    IsEnd end = IsFormedEnd schema query.agg end

    -- the line of an end says its value and whether runs follow
    mark_told : (side : Side) (end : End) (mark : Mark) → mark_lines schema query side end mark ≡ end_text schema query side (record { value = end.value; exact = is_exact mark }) ∷ mark_rest end mark
    mark_told side end (marks.Exact runs) = refl
    mark_told side end marks.Outer = refl

    -- the runs and the proof of an exact end
    exact_of : (value : Frac) → IsFormedValue query.agg value → IsFormat (IsOf end_tag IsEnd (record { value = value; exact = true })) end_rest any (end_after schema query true value)
    exact_of value good = joined_format (runs_format schema lines) (λ runs formed. proof_format schema lines query accepted) (record {
      made = λ runs proof formed shown. ((refl, record { value = good; mark = formed; proof = shown }), refl);
      follows = λ runs proof line formed shown follows. tt;
      parts = λ end told. by_mark end end.mark (ap (λ (e : EndLine). e.value) told.0) (ap (λ (e : EndLine). e.exact) told.0) told.1.mark told.1.proof;
      back_follows = λ runs proof line formed shown follows. tt;
      fits = λ runs proof after formed shown follows. proof_after schema lines query accepted proof after;
    })
      where
        by_mark : (end : End) (mark : Mark) → end.value ≡ value → is_exact mark ≡ true → IsFormedMark schema mark → IsFormedProof end.proof → (runs : List Run) × (proof : Proof) × AreFormedRuns schema runs × IsFormedProof proof × (exact_end value runs proof ≡ record { value = end.value; mark = mark; proof = end.proof })
        by_mark end (marks.Exact runs) same is formed shown = (runs, end.proof, formed, shown, ap (λ (v : Frac). exact_end v runs end.proof) (sym same))
        by_mark end marks.Outer same is formed shown = absurd (true≢false (sym is))

    -- the proof of an outer end
    outer_of : (value : Frac) → IsFormedValue query.agg value → IsFormat (IsOf end_tag IsEnd (record { value = value; exact = false })) end_rest any (end_after schema query false value)
    outer_of value good = made_format (proof_format schema lines query accepted) (λ proof shown. ((refl, record { value = good; mark = tt; proof = shown }), refl))
        (λ end told. by_mark end end.mark (ap (λ (e : EndLine). e.value) told.0) (ap (λ (e : EndLine). e.exact) told.0) told.1.proof)
      where
        by_mark : (end : End) (mark : Mark) → end.value ≡ value → is_exact mark ≡ false → IsFormedProof end.proof → (proof : Proof) × IsFormedProof proof × (outer_end value proof ≡ record { value = end.value; mark = mark; proof = end.proof })
        by_mark end (marks.Exact runs) same is shown = absurd (true≢false is)
        by_mark end marks.Outer same is shown = (end.proof, shown, ap (λ (v : Frac). outer_end v end.proof) (sym same))

    -- what follows the line of an end
    end_of : (value : Frac) (exact : Bool) → IsFormedValue query.agg value → IsFormat (IsOf end_tag IsEnd (record { value = value; exact = exact })) end_rest any (end_after schema query exact value)
    end_of value true good = exact_of value good
    end_of value false good = outer_of value good

    -- an end of either side
    end_format : (side : Side) → IsFormat IsEnd (end_lines schema query side) any (read_end schema query side)
    unfolding read_end
    end_format side = tagged_format end_tag end_rest (lines.end query accepted side) (λ end good. (good.value, mark_told side end end.mark)) (λ e good. end_of e.value e.exact good)

    abbrev AreTwo : End × End → Type 0
    AreTwo ends = IsEnd ends.0 × IsEnd ends.1

    -- the low end and the high one
    two_ends : IsFormat AreTwo (λ (ends : End × End). end_lines schema query low ends.0 ++ end_lines schema query high ends.1) any (read_joined (read_end schema query low) (λ first. read_end schema query high) pair)
    two_ends = both_format (end_format low) (end_format high) (λ first second good also. ((good, also), refl)) (λ ends good. (ends.0, ends.1, good.0, good.1, refl))

    -- two ends, which there are
    ends_format : IsFormat (AreEndsUnless schema query.agg false) (ends_lines schema query) any (read_ends schema query)
    unfolding read_ends
    ends_format = made_format two_ends (λ ends good. (good, refl)) parts
      where
        parts : (ends : Option (End × End)) → AreEndsUnless schema query.agg false ends → (two : End × End) × AreTwo two × (Some two ≡ ends)
        parts None good = absurd good
        parts (Some two) good = (two, good, refl)

    -- or none where the aggregate never has a value
    ends_unless_format : (never : Bool) → IsFormat (AreEndsUnless schema query.agg never) (ends_lines schema query) any (read_ends_unless schema query never)
    ends_unless_format true = none_format None refl (λ ends is. is) refl (λ line. tt)
    ends_unless_format false = ends_format

    -- ---- what stands after the relation

    -- no end begins as a run does
    end_begins : (side : Side) (end : End) (next : Lines) → EndsRuns (first_line (end_lines schema query side end ++ next))
    end_begins side end next = subst (λ (ls : Lines). EndsRuns (first_line (ls ++ next))) (sym (mark_told side end end.mark)) (lines.end_begins query side (end_tag end))

    -- so no two ends do
    ends_begin : (ends : Option (End × End)) (next : Lines) → AreEndsUnless schema query.agg false ends → EndsRuns (first_line (ends_lines schema query ends ++ next))
    ends_begin None next good = absurd good
    ends_begin (Some ends) next good =
        subst (λ (ls : Lines). EndsRuns (first_line ls)) (sym (append_assoc (end_lines schema query low ends.0) (end_lines schema query high ends.1) next)) (end_begins low ends.0 (end_lines schema query high ends.1 ++ next))

    -- ends may stand after a lack that has some
    ends_fit : (lack : Lack) (ends : Option (End × End)) (next : Lines) → AreEndsUnless schema query.agg (has_no_ends lack) ends → LackFollows lack (first_line (ends_lines schema query ends ++ next))
    ends_fit lacks.Silent ends next good = tt
    ends_fit (lacks.Never by') ends next good = tt
    ends_fit (lacks.Sometimes without with') ends next good = ends_begin ends next good
    ends_fit (lacks.Always by') ends next good = tt
    ends_fit lacks.Undecided ends next good = tt

    -- what is said after a possible relation does not begin as a run does
    after_begins : (lack : Lack) (ends : Option (End × End)) (next : Lines) → AreEndsUnless schema query.agg (has_no_ends lack) ends → EndsRuns (first_line (after_lines schema query (after lack ends) ++ next))
    after_begins lacks.Silent ends next good = ends_begin ends next good
    after_begins (lacks.Never by') ends next good = refl
    after_begins (lacks.Sometimes without with') ends next good = refl
    after_begins (lacks.Always by') ends next good = refl
    after_begins lacks.Undecided ends next good = refl

    -- the lack and the ends, or nothing where the relation is impossible
    after_format : (impossible : Bool) → IsFormat (IsAfter schema query.agg impossible) (after_lines schema query) any (read_after schema query impossible)
    after_format true = none_format nothing_after refl (λ rest is. is) refl (λ line. tt)
    after_format false = joined_format (lack_unless_format (always_has_value query.agg)) (λ lack good. ends_unless_format (has_no_ends lack)) (record {
      made = λ lack ends good formed. ((good, formed), refl);
      follows = λ lack ends line good formed follows. tt;
      parts = λ rest good. (rest.lack, rest.ends, good.0, good.1, refl);
      back_follows = λ lack ends line good formed follows. tt;
      fits = λ lack ends next good formed follows. ends_fit lack ends next formed;
    })

    -- ---- the answer

    -- they may stand after the relation
    rest_fits : (relation : Relation) (rest : After) (next : Lines) → IsAfter schema query.agg (ends_block relation) rest → RelationFollows relation (first_line (after_lines schema query rest ++ next))
    rest_fits (relations.Possible runs) rest next is = after_begins rest.lack rest.ends next is.1
    rest_fits (relations.Impossible why) rest next is = tt
    rest_fits relations.Undecided rest next is = tt

    -- an answer in form, after which anything may stand
    pub answer_format : IsFormat (IsFormedAnswer schema query.agg) (answer_lines schema query) any (read_answer schema query)
    unfolding read_answer
    answer_format = joined_format (relation_format schema lines query accepted) (λ relation good. after_format (ends_block relation)) (record {
      made = λ relation rest good is.
          let are = after_rest schema query (ends_block relation) rest is in
          (record { relation = good; lack = are.lack; ends = are.ends; silent = are.silent; absent = are.absent }, refl);
      follows = λ relation rest line good is follows. tt;
      parts = λ whole good. (whole.relation, after whole.lack whole.ends, good.relation, rest_after schema query (ends_block whole.relation) (after whole.lack whole.ends) (record { lack = good.lack; ends = good.ends; silent = good.silent; absent = good.absent }), refl);
      back_follows = λ relation rest line good is follows. tt;
      fits = λ relation rest next good is follows. rest_fits relation rest next is;
    })
