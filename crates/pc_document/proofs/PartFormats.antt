-- The formats of what stands in an answer: runs, proofs, outer ends, and the relation.
use Rattle.std.proofs.Common.{◌≡◌, ℕ, List, [], ◌∷◌, ◌++◌, Option, Some, refl, sym, ap, ◌∙◌, subst}
use Rattle.std.specs.Bool.{⊤}
use Rattle.pc_num.specs.declared.Frac.{Frac}
use Rattle.pc_model.specs.declared.schema.Schema.{Schema}
use Rattle.pc_model.specs.declared.row.Run.{Run}
use Rattle.pc_model.specs.declared.query.Agg.{Agg}
use Rattle.pc_model.specs.declared.query.Query.{Query}
use Rattle.pc_model.specs.declared.tree.Tree.{Tree}
use Rattle.pc_model.specs.Accepted.{IsQuery}
use Rattle.pc_proof.specs.declared.answer.Proof.{Proof}
use Rattle.pc_proof.specs.declared.answer.Proof.TheVariants as proofs
use Rattle.pc_proof.specs.declared.answer.Bounded.{Bounded}
use Rattle.pc_proof.specs.declared.answer.Why.{Why}
use Rattle.pc_proof.specs.declared.answer.Why.TheVariants as whys
use Rattle.pc_proof.specs.declared.answer.Relation.{Relation}
use Rattle.pc_proof.specs.declared.answer.Relation.TheVariants as relations
use Rattle.pc_proof.specs.Form.{IsFormedTree, AreFormedRuns, IsFormedProof, IsFormedBounded, IsFormedWhy, IsFormedRelation}
use Rattle.pc_document_format.specs.Lines.{feeds_in}
use Rattle.pc_document_format.specs.Formats.{Lines, Found, IsFormat, IsLine, Ends, any, found_in, first_line, read_line, read_as, read_joined}
use Rattle.pc_document_format.proofs.OneLine.{line_format, none_format}
use Rattle.pc_document_format.proofs.Joined.{joined_format}
use Rattle.pc_document_format.proofs.As.{as_format}
use Rattle.pc_document_format.proofs.Many.{many_format}
use Rattle.pc_document_format.proofs.Spelled.{one_of_line}
use Rattle.pc_document_lines.specs.declared.tags.Side.{Side}
use Rattle.pc_document_lines.specs.declared.tags.Side.TheVariants.{Low as low, High as high}
use Rattle.pc_document_lines.specs.declared.tags.ProofLine.{ProofLine}
use Rattle.pc_document_lines.specs.declared.tags.ProofLine.TheVariants.{Rows as rows, Tree as tree, At as at, Values as values}
use Rattle.pc_document_lines.specs.ValueLines.{IsProofLine, proof_text}
use Rattle.pc_document_lines.specs.TokenLines.{begins_run}
use Rattle.pc_document.specs.DocumentLines.{tree_lines, runs_lines, proof_lines, bounded_lines, crossing_lines, why_lines, relation_lines}
use Rattle.pc_document_lines.specs.Kinds.{AreLines}
use Rattle.pc_document.specs.declared.tags.WhyLine.{WhyLine}
use Rattle.pc_document.specs.declared.tags.WhyLine.TheVariants.{Void as by_void, Cross as by_cross, Ends as by_ends}
use Rattle.pc_document.specs.declared.tags.RelationLine.{RelationLine}
use Rattle.pc_document.specs.declared.tags.RelationLine.TheVariants.{Possible as possible, Impossible as impossible, Undecided as undecided}
use Rattle.pc_document.specs.Reading.{the_last, read_tree, read_runs, tagged_proof, read_proof, read_bounded, read_crossing, why_text, read_why_line, tagged_why, read_why, relation_text, read_relation_line, tagged_relation, read_relation}
use Rattle.pc_document.proofs.TreeFormat.{tree_format}

-- ---- a line that says what follows it

-- the good values that a line tells
abbrev pub IsOf : {T C : Type 0} → (C → T) → (C → Type 0) → T → C → Type 0
IsOf tag_of Good tag x = (tag_of x ≡ tag) × Good x

-- Of a kind of line, and of formats of the values that each of these lines tells, the format of all these values.
pub tagged_format : {T C : Type 0} {GoodTag : T → Type 0} {tag_text : T → List ℕ} {read_tag : List ℕ → Option T} {Good : C → Type 0} {text : C → Lines} {Follows : C → Option (List ℕ) → Type 0} {next : T → Lines → Found C} (tag_of : C → T) (rest : C → Lines) → IsLine GoodTag tag_text read_tag → ((x : C) → Good x → GoodTag (tag_of x) × (text x ≡ tag_text (tag_of x) ∷ rest x)) → ((tag : T) → GoodTag tag → IsFormat (IsOf tag_of Good tag) rest Follows (next tag)) → IsFormat Good text Follows (read_joined (read_line read_tag) next the_last)
tagged_format {T} {C} {GoodTag} {tag_text} {read_tag} {Good} {text} {Follows} {next} tag_of rest line begins tagged = joined_format (line_format line) tagged (record {
  made = λ tag x good told. (told.1, (begins x told.1).1 ∙ ap (λ (t : T). tag_text t ∷ rest x) told.0);
  follows = λ tag x after good told follows. follows;
  parts = λ x good. (tag_of x, x, (begins x good).0, (refl, good), refl);
  back_follows = λ tag x after good told follows. follows;
  fits = λ tag x after good told follows. tt;
})

-- Of a format of values that others are made of, after which anything may stand, one of these others.
pub made_format : {A C : Type 0} {GoodA : A → Type 0} {textA : A → Lines} {read : Lines → Found A} {to : A → C} {Good : C → Type 0} {text : C → Lines} → IsFormat GoodA textA any read → ((x : A) → GoodA x → Good (to x) × (text (to x) ≡ textA x)) → ((y : C) → Good y → (x : A) × GoodA x × (to x ≡ y)) → IsFormat Good text any (read_as to read)
made_format format made parts = as_format format (record {
  made = made;
  follows = λ x after good follows. tt;
  parts = parts;
  back_follows = λ x after good follows. tt;
})

-- Of formats of two values after which anything may stand one of what is made of them.
pub both_format : {A B C : Type 0} {GoodA : A → Type 0} {textA : A → Lines} {read : Lines → Found A} {GoodB : B → Type 0} {textB : B → Lines} {next : Lines → Found B} {join : A → B → C} {Good : C → Type 0} {text : C → Lines} → IsFormat GoodA textA any read → IsFormat GoodB textB any next → ((x : A) (y : B) → GoodA x → GoodB y → Good (join x y) × (text (join x y) ≡ textA x ++ textB y)) → ((z : C) → Good z → (x : A) × (y : B) × GoodA x × GoodB y × (join x y ≡ z)) → IsFormat Good text any (read_joined read (λ x. next) join)
both_format first second made parts = joined_format first (λ x good. second) (record {
  made = made;
  follows = λ x y after goodx goody follows. tt;
  parts = parts;
  back_follows = λ x y after goodx goody follows. tt;
  fits = λ x y after goodx goody follows. tt;
})

-- ---- lines

-- a proof begins with its line
proof_begins : (schema : Schema) (query : Query) (proof : Proof) → (tag : ProofLine) × (others : Lines) × (proof_lines schema query proof ≡ proof_text schema query tag ∷ others)
proof_begins schema query proofs.Rows = (rows, [], refl)
proof_begins schema query (proofs.Tree t) = (tree, tree_lines t, refl)
proof_begins schema query (proofs.At ratio t) = (at ratio, tree_lines t, refl)
proof_begins schema query proofs.Values = (values, [], refl)

-- each line is found by its text
whys_found : (tag : WhyLine) → read_why_line (why_text tag) ≡ Some tag
unfolding found_in
whys_found by_void = refl
whys_found by_cross = refl
whys_found by_ends = refl

-- no line feed is in them
whys_plain : (tag : WhyLine) → feeds_in (why_text tag) ≡ 0
unfolding feeds_in
whys_plain by_void = refl
whys_plain by_cross = refl
whys_plain by_ends = refl

why_line : IsLine (λ tag. ⊤) why_text read_why_line
why_line = one_of_line why_text (by_void ∷ by_cross ∷ by_ends ∷ []) by_void (λ tag. tt) whys_found whys_plain

-- each line is found by its text
relations_found : (tag : RelationLine) → read_relation_line (relation_text tag) ≡ Some tag
unfolding found_in
relations_found possible = refl
relations_found impossible = refl
relations_found undecided = refl

-- no line feed is in them
relations_plain : (tag : RelationLine) → feeds_in (relation_text tag) ≡ 0
unfolding feeds_in
relations_plain possible = refl
relations_plain impossible = refl
relations_plain undecided = refl

relation_line : IsLine (λ tag. ⊤) relation_text read_relation_line
relation_line = one_of_line relation_text (possible ∷ impossible ∷ undecided ∷ []) undecided (λ tag. tt) relations_found relations_plain

-- ---- what follows

-- after runs comes a line that is none
abbrev pub EndsRuns : Option (List ℕ) → Type 0
EndsRuns line = Ends {A = Run} begins_run [] line

abbrev pub RelationFollows : Relation → Option (List ℕ) → Type 0
RelationFollows (relations.Possible runs) line = EndsRuns line
RelationFollows (relations.Impossible why) line = ⊤
RelationFollows relations.Undecided line = ⊤

-- both are outer ends in form
abbrev pub IsCrossing : Agg → Bounded × Bounded → Type 0
IsCrossing agg p = IsFormedBounded agg p.0 × IsFormedBounded agg p.1

module _ (schema : Schema) (lines : AreLines schema) where
  -- a tree in form, whatever stands after it
  pub split_tree : IsFormat IsFormedTree tree_lines any read_tree
  split_tree = tree_format lines.node

  -- runs, as many as begin so
  pub runs_format : IsFormat (AreFormedRuns schema) (runs_lines schema) (Ends begins_run) (read_runs schema)
  unfolding read_runs
  runs_format = many_format begins_run (line_format lines.run) (λ run good. lines.run_begins run)

  module _ (query : Query) (accepted : IsQuery schema query) where
    -- ---- proofs

    abbrev proof_tag : Proof → ProofLine
    proof_tag proofs.Rows = rows
    proof_tag (proofs.Tree t) = tree
    proof_tag (proofs.At ratio t) = at ratio
    proof_tag proofs.Values = values

    abbrev proof_rest : Proof → Lines
    proof_rest proofs.Rows = []
    proof_rest (proofs.Tree t) = tree_lines t
    proof_rest (proofs.At ratio t) = tree_lines t
    proof_rest proofs.Values = []

    -- the line of a proof says what follows it
    proof_told : (proof : Proof) → IsFormedProof proof → IsProofLine (proof_tag proof) × (proof_lines schema query proof ≡ proof_text schema query (proof_tag proof) ∷ proof_rest proof)
    proof_told proofs.Rows good = (tt, refl)
    proof_told (proofs.Tree t) good = (tt, refl)
    proof_told (proofs.At ratio t) good = (good.0, refl)
    proof_told proofs.Values good = (tt, refl)

    -- what follows each line of a proof
    proof_of : (tag : ProofLine) → IsProofLine tag → IsFormat (IsOf proof_tag IsFormedProof tag) proof_rest any (tagged_proof tag)
    proof_of rows good = none_format proofs.Rows (refl, tt) only refl (λ after. tt)
      where
        only : (proof : Proof) → IsOf proof_tag IsFormedProof rows proof → proof ≡ proofs.Rows
        only proofs.Rows told = refl
        only (proofs.Tree t) told = let e = told.0 in absurd (cc)
        only (proofs.At ratio t) told = let e = told.0 in absurd (cc)
        only proofs.Values told = let e = told.0 in absurd (cc)
    proof_of tree good = made_format split_tree (λ t formed. ((refl, formed), refl)) parts
      where
        parts : (proof : Proof) → IsOf proof_tag IsFormedProof tree proof → (t : Tree) × IsFormedTree t × (proofs.Tree t ≡ proof)
        parts proofs.Rows told = let e = told.0 in absurd (cc)
        parts (proofs.Tree t) told = (t, told.1, refl)
        parts (proofs.At ratio t) told = let e = told.0 in absurd (cc)
        parts proofs.Values told = let e = told.0 in absurd (cc)
    proof_of (at ratio) good = made_format split_tree (λ t formed. ((refl, (good, formed)), refl)) parts
      where
        same : (a b : Frac) → at a ≡ at b → a ≡ b
        same a b e = cc

        parts : (proof : Proof) → IsOf proof_tag IsFormedProof (at ratio) proof → (t : Tree) × IsFormedTree t × (proofs.At ratio t ≡ proof)
        parts proofs.Rows told = let e = told.0 in absurd (cc)
        parts (proofs.Tree t) told = let e = told.0 in absurd (cc)
        parts (proofs.At other t) told = (t, told.1.1, ap (λ (f : Frac). proofs.At f t) (sym (same other ratio told.0)))
        parts proofs.Values told = let e = told.0 in absurd (cc)
    proof_of values good = none_format proofs.Values (refl, tt) only refl (λ after. tt)
      where
        only : (proof : Proof) → IsOf proof_tag IsFormedProof values proof → proof ≡ proofs.Values
        only proofs.Rows told = let e = told.0 in absurd (cc)
        only (proofs.Tree t) told = let e = told.0 in absurd (cc)
        only (proofs.At ratio t) told = let e = told.0 in absurd (cc)
        only proofs.Values told = refl

    -- a proof, after which anything may stand
    pub proof_format : IsFormat IsFormedProof (proof_lines schema query) any (read_proof schema query)
    unfolding read_proof
    proof_format = tagged_format proof_tag proof_rest (lines.proof query accepted) proof_told proof_of

    -- no proof begins as a run does
    pub proof_after : (proof : Proof) (after : Lines) → EndsRuns (first_line (proof_lines schema query proof ++ after))
    proof_after proof after =
        let begins = proof_begins schema query proof in
        subst (λ (ls : Lines). EndsRuns (first_line (ls ++ after))) (sym begins.2) (lines.proof_begins query begins.0)

    -- ---- outer ends

    -- an outer end and what shows it
    pub bounded_format : (side : Side) → IsFormat (IsFormedBounded query.agg) (bounded_lines schema query side) any (read_bounded schema query side)
    unfolding read_bounded
    bounded_format side = both_format (line_format (lines.outer query accepted side)) proof_format
        (λ value proof good shown. (record { value = good; proof = shown }, refl))
        (λ b good. (b.value, b.proof, good.value, good.proof, refl))

    -- two of them, the low one first
    pub crossing_format : IsFormat (IsCrossing query.agg) (λ (p : Bounded × Bounded). crossing_lines schema query p.0 p.1) any (read_crossing schema query)
    unfolding read_crossing
    crossing_format = both_format (bounded_format low) (bounded_format high) (λ x y goodx goody. ((goodx, goody), refl)) (λ p good. (p.0, p.1, good.0, good.1, refl))

    -- ---- the relation

    abbrev why_tag : Why → WhyLine
    why_tag (whys.Void t) = by_void
    why_tag (whys.Cross t u) = by_cross
    why_tag (whys.Ends first second) = by_ends

    abbrev why_rest : Why → Lines
    why_rest (whys.Void t) = tree_lines t
    why_rest (whys.Cross t u) = tree_lines t ++ tree_lines u
    why_rest (whys.Ends first second) = crossing_lines schema query first second

    -- the line of a reason says what follows it
    why_told : (why : Why) → IsFormedWhy query.agg why → ⊤ × (why_lines schema query why ≡ why_text (why_tag why) ∷ why_rest why)
    why_told (whys.Void t) good = (tt, refl)
    why_told (whys.Cross t u) good = (tt, refl)
    why_told (whys.Ends first second) good = (tt, refl)

    -- what follows each line of a reason
    why_of : (tag : WhyLine) → ⊤ → IsFormat (IsOf why_tag (IsFormedWhy query.agg) tag) why_rest any (tagged_why schema query tag)
    why_of by_void good = made_format split_tree (λ t formed. ((refl, formed), refl)) parts
      where
        parts : (why : Why) → IsOf why_tag (IsFormedWhy query.agg) by_void why → (t : Tree) × IsFormedTree t × (whys.Void t ≡ why)
        parts (whys.Void t) told = (t, told.1, refl)
        parts (whys.Cross t u) told = let e = told.0 in absurd (cc)
        parts (whys.Ends first second) told = let e = told.0 in absurd (cc)
    why_of by_cross good = both_format split_tree split_tree (λ t u goodt goodu. ((refl, (goodt, goodu)), refl)) parts
      where
        parts : (why : Why) → IsOf why_tag (IsFormedWhy query.agg) by_cross why → (t : Tree) × (u : Tree) × IsFormedTree t × IsFormedTree u × (whys.Cross t u ≡ why)
        parts (whys.Void t) told = let e = told.0 in absurd (cc)
        parts (whys.Cross t u) told = (t, u, told.1.0, told.1.1, refl)
        parts (whys.Ends first second) told = let e = told.0 in absurd (cc)
    why_of by_ends good = made_format crossing_format (λ p crossing. ((refl, crossing), refl)) parts
      where
        parts : (why : Why) → IsOf why_tag (IsFormedWhy query.agg) by_ends why → (p : Bounded × Bounded) × IsCrossing query.agg p × (whys.Ends p.0 p.1 ≡ why)
        parts (whys.Void t) told = let e = told.0 in absurd (cc)
        parts (whys.Cross t u) told = let e = told.0 in absurd (cc)
        parts (whys.Ends first second) told = ((first, second), told.1, refl)

    -- why no lost rows meet the constraints
    pub why_format : IsFormat (IsFormedWhy query.agg) (why_lines schema query) any (read_why schema query)
    unfolding read_why
    why_format = tagged_format why_tag why_rest why_line why_told why_of

    abbrev relation_tag : Relation → RelationLine
    relation_tag (relations.Possible runs) = possible
    relation_tag (relations.Impossible why) = impossible
    relation_tag relations.Undecided = undecided

    abbrev relation_rest : Relation → Lines
    relation_rest (relations.Possible runs) = runs_lines schema runs
    relation_rest (relations.Impossible why) = why_lines schema query why
    relation_rest relations.Undecided = []

    abbrev IsRelation : Relation → Type 0
    IsRelation relation = IsFormedRelation schema query.agg relation

    -- the line of a relation says what follows it
    relation_told : (relation : Relation) → IsRelation relation → ⊤ × (relation_lines schema query relation ≡ relation_text (relation_tag relation) ∷ relation_rest relation)
    relation_told (relations.Possible runs) good = (tt, refl)
    relation_told (relations.Impossible why) good = (tt, refl)
    relation_told relations.Undecided good = (tt, refl)

    -- what follows each line of a relation
    relation_of : (tag : RelationLine) → ⊤ → IsFormat (IsOf relation_tag IsRelation tag) relation_rest RelationFollows (tagged_relation schema query tag)
    relation_of possible good = as_format runs_format (record {
      made = λ runs formed. ((refl, formed), refl);
      follows = λ runs line formed follows. follows;
      parts = parts;
      back_follows = λ runs line formed follows. follows;
    })
      where
        parts : (relation : Relation) → IsOf relation_tag IsRelation possible relation → (runs : List Run) × AreFormedRuns schema runs × (relations.Possible runs ≡ relation)
        parts (relations.Possible runs) told = (runs, told.1, refl)
        parts (relations.Impossible why) told = let e = told.0 in absurd (cc)
        parts relations.Undecided told = let e = told.0 in absurd (cc)
    relation_of impossible good = as_format why_format (record {
      made = λ why formed. ((refl, formed), refl);
      follows = λ why line formed follows. tt;
      parts = parts;
      back_follows = λ why line formed follows. tt;
    })
      where
        parts : (relation : Relation) → IsOf relation_tag IsRelation impossible relation → (why : Why) × IsFormedWhy query.agg why × (relations.Impossible why ≡ relation)
        parts (relations.Possible runs) told = let e = told.0 in absurd (cc)
        parts (relations.Impossible why) told = (why, told.1, refl)
        parts relations.Undecided told = let e = told.0 in absurd (cc)
    relation_of undecided good = none_format relations.Undecided (refl, tt) only refl (λ line. tt)
      where
        only : (relation : Relation) → IsOf relation_tag IsRelation undecided relation → relation ≡ relations.Undecided
        only (relations.Possible runs) told = let e = told.0 in absurd (cc)
        only (relations.Impossible why) told = let e = told.0 in absurd (cc)
        only relations.Undecided told = refl

    -- a relation, after whose runs comes a line that is none
    pub relation_format : IsFormat IsRelation (relation_lines schema query) RelationFollows (read_relation schema query)
    unfolding read_relation
    relation_format = tagged_format relation_tag relation_rest relation_line relation_told relation_of
