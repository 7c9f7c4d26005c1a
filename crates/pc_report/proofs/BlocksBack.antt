-- Blocks are read back from a report.
use Rattle.std.proofs.Common.{◌≡◌, ℕ, zero, suc, ◌==◌, Bool, true, List, [], ◌∷◌, ◌++◌, codes, All, Option, Some, None, slice_get, IfSome, IsSomeAnd, refl, sym, ap, ◌∙◌, append_assoc}
use Rattle.std.specs.List.{AllZip, list_all}
use Rattle.std.specs.Option.{is_none}
use Rattle.std.specs.Prelude.{nat_le}
use Rattle.std.proofs.lemmas.Bool.{false≢true, true≢false}
use Rattle.std.proofs.lemmas.List.{append-nil, append_cancel_left}
use Rattle.std.proofs.lemmas.List.Elements.{All-head, All-tail}
use Rattle.pc_model.specs.declared.schema.Kind.{Kind}
use Rattle.pc_model.specs.declared.schema.Kind.TheVariants.{Int, Dec, Cat}
use Rattle.pc_model.specs.declared.schema.Column.{Column}
use Rattle.pc_model.specs.declared.schema.Schema.{Schema}
use Rattle.pc_model.specs.declared.query.Query.{Query}
use Rattle.pc_model.specs.Accepted.{IsQuery}
use Rattle.pc_model.specs.WellFormed.{IsColumn, IsKind, IsWellFormed}
use Rattle.pc_lang_tokens.specs.Spelling.{name_text}
use Rattle.pc_lang_tokens.proofs.ScaledTexts.{numbers_are_spelled}
use Rattle.pc_lang_tokens.proofs.TextBytes.{tokens_text_printed}
use Rattle.pc_lang.specs.Canonical.{query_text}
use Rattle.pc_lang.specs.Files.{query_from}
use Rattle.pc_lang.proofs.CanonicalSpelled.{question_spelled}
use Rattle.pc_lang.proofs.ReadBack.{query_reads_back}
use Rattle.pc_proof.specs.declared.document.Block.{Block}
use Rattle.pc_proof.specs.declared.document.Document.{Document}
use Rattle.pc_proof.specs.Unbroken.{plain_answer}
use Rattle.pc_report.specs.Report.{answer_text, block_text, blocks_text, group_line, group_text, kind_name, query_line, report_text}
use Rattle.pc_proof.specs.Form.{IsGroupName, IsNameOf}
use Rattle.pc_report.specs.Shown.{IsShown, SaysAlike}
use Rattle.pc_report.proofs.AnswersBack.{EndsAnswer, answer_back}
use Rattle.pc_report.proofs.NamesBack.{name_back, same_place}
use Rattle.pc_report.proofs.Stops.{fronts_equal, same_tail, starts, unlike_starts}

-- ---- the query

abbrev pub is_printed : ℕ → Bool
is_printed byte = nat_le 32 byte

-- the line of a question, and what follows it
pub line_back : (text other r s : List ℕ) → list_all is_printed text ≡ true → list_all is_printed other ≡ true → codes "query " ++ (text ++ 10 ∷ r) ≡ codes "query " ++ (other ++ 10 ∷ s) → (text ≡ other) × (r ≡ s)
line_back text other r s printed its e =
    let texts = fronts_equal is_printed text other (10 ∷ r) (10 ∷ s) printed its refl refl (append_cancel_left (codes "query ") _ _ e) in
    (texts.0, same_tail 10 10 r s texts.1)

query_printed : (schema : Schema) (query : Query) → IsWellFormed schema → IsQuery schema query → list_all is_printed (query_text schema query) ≡ true
unfolding query_text
query_printed schema query formed asked =
    tokens_text_printed _ (question_spelled (λ value scale small. numbers_are_spelled value scale) schema query formed asked)

query_same : (schema : Schema) (query other : Query) → IsWellFormed schema → IsQuery schema query → IsQuery schema other → query_text schema query ≡ query_text schema other → query ≡ other
query_same schema query other formed asked its e =
    let read = sym (query_reads_back schema query formed asked) ∙ ap (query_from schema) e ∙ query_reads_back schema other formed its in
    cc read

query_opens : (schema : Schema) (query : Query) (r : List ℕ) → query_line schema query ++ r ≡ codes "query " ++ (query_text schema query ++ 10 ∷ r)
unfolding query_line
query_opens schema query r =
    append_assoc (codes "query ") (query_text schema query ++ 10 ∷ []) r ∙ ap (λ (rest : List ℕ). codes "query " ++ rest) (append_assoc (query_text schema query) (10 ∷ []) r)

query_back : (schema : Schema) (query other : Query) (r s : List ℕ) → IsWellFormed schema → IsQuery schema query → IsQuery schema other → query_line schema query ++ r ≡ query_line schema other ++ s → (query ≡ other) × (r ≡ s)
query_back schema query other r s formed asked its e =
    let texts = line_back (query_text schema query) (query_text schema other) r s (query_printed schema query formed asked) (query_printed schema other formed its) (sym (query_opens schema query r) ∙ e ∙ query_opens schema other s) in
    (query_same schema query other formed asked its texts.0, texts.1)

-- ---- the name

column_at : (columns : List Column) (place : ℕ) → All IsColumn columns → IfSome (slice_get columns place) IsColumn
column_at [] place are = tt
column_at (column ∷ columns) zero are = All-head IsColumn column columns are
column_at (column ∷ columns) (suc place) are = column_at columns place (All-tail IsColumn column columns are)

kind_back : (kind : Kind) (p q : ℕ) (r s : List ℕ) → IsKind kind → IsNameOf p kind → IsNameOf q kind → name_text (kind_name kind p) ++ 10 ∷ r ≡ name_text (kind_name kind q) ++ 10 ∷ s → (p ≡ q) × (r ≡ s)
kind_back (Int low high) p q r s are is other e = absurd is
kind_back (Dec scale low high) p q r s are is other e = absurd is
kind_back (Cat names) p q r s are is other e =
    let both = name_back (kind_name (Cat names) p) (kind_name (Cat names) q) (10 ∷ r) (10 ∷ s) refl refl e in
    (same_place names [] p q are.own.different is other both.0, same_tail 10 10 r s both.1)

five_parts : (a b c d e r : List ℕ) → (a ++ (b ++ (c ++ (d ++ (e ++ []))))) ++ r ≡ a ++ (b ++ (c ++ (d ++ (e ++ r))))
five_parts a b c d e r =
    rw (append-nil e, append_assoc a (b ++ (c ++ (d ++ e))) r, append_assoc b (c ++ (d ++ e)) r, append_assoc c (d ++ e) r) (ap (λ (rest : List ℕ). a ++ (b ++ (c ++ rest))) (append_assoc d e r))

group_opens : (column : Column) (place : ℕ) (r : List ℕ) → group_text (Some column) place ++ r ≡ codes "group " ++ (name_text column.name ++ (codes " = " ++ (name_text (kind_name column.kind place) ++ 10 ∷ r)))
group_opens column place r = five_parts (codes "group ") (name_text column.name) (codes " = ") (name_text (kind_name column.kind place)) (10 ∷ []) r

named_back : (column : Option Column) (p q : ℕ) (r s : List ℕ) → IfSome column IsColumn → IsSomeAnd column (λ (found : Column). IsNameOf p found.kind) → IsSomeAnd column (λ (found : Column). IsNameOf q found.kind) → group_text column p ++ r ≡ group_text column q ++ s → (p ≡ q) × (r ≡ s)
named_back None p q r s is names others e = absurd names
named_back (Some column) p q r s is names others e =
    let opened = append_cancel_left (codes "group ") _ _ (sym (group_opens column p r) ∙ e ∙ group_opens column q s) in
    let said = append_cancel_left (codes " = ") _ _ (append_cancel_left (name_text column.name) _ _ opened) in
    kind_back column.kind p q r s is.kind names others said

group_back : (schema : Schema) (group a b : Option ℕ) (r s : List ℕ) → IsWellFormed schema → is_none a ≡ is_none group → is_none b ≡ is_none group → IsGroupName schema group a → IsGroupName schema group b → group_line schema group a ++ r ≡ group_line schema group b ++ s → (a ≡ b) × (r ≡ s)
group_back schema None None None r s formed named called is other e = (refl, e)
group_back schema None (Some p) b r s formed named called is other e = absurd (false≢true named)
group_back schema None None (Some q) r s formed named called is other e = absurd (false≢true called)
group_back schema (Some group) None b r s formed named called is other e = absurd (true≢false named)
group_back schema (Some group) (Some p) None r s formed named called is other e = absurd (true≢false called)
group_back schema (Some group) (Some p) (Some q) r s formed named called is other e =
    let both = named_back (slice_get schema.columns group) p q r s (column_at schema.columns group formed.columns.all) is other e in
    (ap (λ (place : ℕ). Some place) both.0, both.1)

-- ---- blocks

three_parts : (a b c r : List ℕ) → (a ++ (b ++ (c ++ []))) ++ r ≡ a ++ (b ++ (c ++ r))
three_parts a b c r = rw (append-nil c, append_assoc a (b ++ c) r) (ap (λ (rest : List ℕ). a ++ rest) (append_assoc b c r))

block_opens : (schema : Schema) (block : Block) (r : List ℕ) → block_text schema block ++ r ≡ query_line schema block.query ++ (group_line schema block.query.group block.name ++ (answer_text schema block.query (plain_answer block.answer) ++ r))
unfolding block_text
block_opens schema block r = three_parts (query_line schema block.query) (group_line schema block.query.group block.name) (answer_text schema block.query (plain_answer block.answer)) r

block_back : (schema : Schema) (a b : Block) (r s : List ℕ) → IsWellFormed schema → IsShown schema a → IsShown schema b → EndsAnswer r → EndsAnswer s → block_text schema a ++ r ≡ block_text schema b ++ s → SaysAlike a b × (r ≡ s)
block_back schema a b r s formed is other stop end e =
    let query = query_back schema a.query b.query _ _ formed is.query other.query (sym (block_opens schema a r) ∙ e ∙ block_opens schema b s) in
    after query.0 query.1
  where
    after : a.query ≡ b.query → group_line schema a.query.group a.name ++ (answer_text schema a.query (plain_answer a.answer) ++ r) ≡ group_line schema b.query.group b.name ++ (answer_text schema b.query (plain_answer b.answer) ++ s) → SaysAlike a b × (r ≡ s)
    after same rest =
        let its = rw (← same) at other.answer in
        let name = group_back schema a.query.group a.name b.name _ _ formed is.named (rw (← same) at other.named) is.name (rw (← same) at other.name) (rw (← same) at rest) in
        let answer = answer_back schema a.query (plain_answer a.answer) (plain_answer b.answer) r s formed is.answer its stop end name.1 in
        (record { query = same; name = name.0; answer = answer.0 }, answer.1)

blocks_open : (schema : Schema) (block : Block) (blocks : List Block) → blocks_text schema (block ∷ blocks) ≡ block_text schema block ++ blocks_text schema blocks
unfolding blocks_text
blocks_open schema block blocks = refl

blocks_start : (fits : ℕ → Bool) (schema : Schema) (block : Block) (blocks : List Block) → starts fits (blocks_text schema (block ∷ blocks)) ≡ fits 113
unfolding blocks_text block_text query_line
blocks_start fits schema block blocks = refl

no_blocks : (schema : Schema) → blocks_text schema [] ≡ []
unfolding blocks_text
no_blocks schema = refl

blocks_end : (schema : Schema) (blocks : List Block) → EndsAnswer (blocks_text schema blocks)
blocks_end schema [] = rw (no_blocks schema) (record { run = refl; none = refl })
blocks_end schema (block ∷ blocks) = record { run = blocks_start _ schema block blocks; none = blocks_start _ schema block blocks }

some_blocks : (schema : Schema) (block : Block) (blocks : List Block) → blocks_text schema (block ∷ blocks) ≡ blocks_text schema [] → ⊥
some_blocks schema block blocks e =
    unlike_starts (λ byte. byte == 113) [] (blocks_text schema (block ∷ blocks)) (sym (no_blocks schema) ∙ sym e) refl (blocks_start (λ byte. byte == 113) schema block blocks)

blocks_back : (schema : Schema) (xs ys : List Block) → IsWellFormed schema → All (IsShown schema) xs → All (IsShown schema) ys → blocks_text schema xs ≡ blocks_text schema ys → AllZip SaysAlike xs ys
blocks_back schema [] [] formed are others e = tt
blocks_back schema [] (y ∷ ys) formed are others e = absurd (some_blocks schema y ys (sym e))
blocks_back schema (x ∷ xs) [] formed are others e = absurd (some_blocks schema x xs e)
blocks_back schema (x ∷ xs) (y ∷ ys) formed are others e =
    let opened = sym (blocks_open schema x xs) ∙ e ∙ blocks_open schema y ys in
    let first = block_back schema x y (blocks_text schema xs) (blocks_text schema ys) formed (All-head (IsShown schema) x xs are) (All-head (IsShown schema) y ys others) (blocks_end schema xs) (blocks_end schema ys) opened in
    (first.0, blocks_back schema xs ys formed (All-tail (IsShown schema) x xs are) (All-tail (IsShown schema) y ys others) first.1)

pub reports_tell_their_blocks : (schema : Schema) (doc other : Document) → IsWellFormed schema → All (IsShown schema) doc.blocks → All (IsShown schema) other.blocks → report_text schema doc ≡ report_text schema other → AllZip SaysAlike doc.blocks other.blocks
reports_tell_their_blocks schema doc other formed are others e = blocks_back schema doc.blocks other.blocks formed are others e
