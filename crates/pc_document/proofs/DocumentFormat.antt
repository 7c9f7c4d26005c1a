-- The formats of blocks and of documents, and what follows of reading them.
use Rattle.std.proofs.Common.{◌≡◌, ℕ, List, [], ◌∷◌, ◌++◌, Option, Some, None, Ok, Result, refl, sym, ap, ◌∙◌, true≢false}
use Rattle.std.specs.Bool.{⊤}
use Rattle.std.specs.List.{All}
use Rattle.std.specs.Prelude.{IfSome, is_none, codes}
use Rattle.pc_model.specs.declared.schema.Schema.{Schema}
use Rattle.pc_model.specs.declared.query.Query.{Query}
use Rattle.pc_model.specs.declared.tree.CutTree.{CutTree}
use Rattle.pc_model.specs.Accepted.{IsQuery, IsColumnWhere, HasNames}
use Rattle.pc_proof.specs.declared.answer.Answer.{Answer}
use Rattle.pc_proof.specs.declared.document.BlockTree.{BlockTree}
use Rattle.pc_proof.specs.declared.document.BlockTree.TheVariants as trees
use Rattle.pc_proof.specs.declared.document.Document.{Document}
use Rattle.pc_proof.specs.Form.{IsFormedCutTree, IsFormedBlockTree, IsFormedAnswer, IsGroupName, IsFormedBlock, IsInForm}
use Rattle.pc_document_format.specs.Lines.{feeds_in}
use Rattle.pc_document_format.specs.Formats.{Lines, IsFormat, IsLine, any, found_in, items_text}
use Rattle.pc_document_format.proofs.OneLine.{line_format, none_format}
use Rattle.pc_document_format.proofs.Joined.{joined_format}
use Rattle.pc_document_format.proofs.Many.{many_format}
use Rattle.pc_document_format.proofs.Spelled.{one_of_line}
use Rattle.pc_document_format.proofs.Whole.{reads_back, tells}
use Rattle.pc_document_lines.specs.TokenLines.{begins_query}
use Rattle.pc_document.specs.DocumentLines.{name_lines, cut_tree_lines, block_tree_lines, answer_lines, block_lines, document_lines}
use Rattle.pc_document.specs.Parts.{IsName}
use Rattle.pc_document.specs.Told.{IsDocumentText, Told}
use Rattle.pc_document_lines.specs.Kinds.{AreLines}
use Rattle.pc_document.specs.declared.tags.TreeLine.{TreeLine}
use Rattle.pc_document.specs.declared.tags.TreeLine.TheVariants.{Own as own, Same as same}
use Rattle.pc_document.specs.Reading.{word, read_name, tree_text, read_tree_line, tagged_tree, read_block_tree, read_body, read_named, read_block, read_blocks, read_document, document_of}
use Rattle.pc_document.proofs.CutsFormat.{cuts_format}
use Rattle.pc_document.proofs.PartFormats.{IsOf, tagged_format, made_format, both_format}
use Rattle.pc_document.proofs.BlockFormats.{word_line, answer_format}

-- ---- lines

-- each line is found by its text
trees_found : (tag : TreeLine) → read_tree_line (tree_text tag) ≡ Some tag
unfolding found_in
trees_found own = refl
trees_found same = refl

-- no line feed is in them
trees_plain : (tag : TreeLine) → feeds_in (tree_text tag) ≡ 0
unfolding feeds_in
trees_plain own = refl
trees_plain same = refl

tree_line : IsLine (λ tag. ⊤) tree_text read_tree_line
tree_line = one_of_line tree_text (own ∷ same ∷ []) same (λ tag. tt) trees_found trees_plain

-- no line feed is in the first line
head_plain : feeds_in (codes "pc 1") ≡ 0
unfolding feeds_in
head_plain = refl

-- nor in the last
end_plain : feeds_in (codes "end") ≡ 0
unfolding feeds_in
end_plain = refl

-- ---- names

-- a name where the query is grouped, and of that group
name_told : (schema : Schema) (group name : Option ℕ) → IsName schema group name → (is_none name ≡ is_none group) × IsGroupName schema group name
name_told schema None name is = (ap is_none is, tt)
name_told schema (Some group) None is = absurd is
name_told schema (Some group) (Some place) is = (refl, is)

-- and the other way round
name_is : (schema : Schema) (group name : Option ℕ) → is_none name ≡ is_none group → IsGroupName schema group name → IsName schema group name
name_is schema None None named good = refl
name_is schema None (Some place) named good = absurd (true≢false (sym named))
name_is schema (Some group) None named good = absurd (true≢false named)
name_is schema (Some group) (Some place) named good = good

module _ (schema : Schema) (lines : AreLines schema) where
  -- the name of a group, where the query is grouped
  name_format : (group : Option ℕ) → IfSome group (IsColumnWhere HasNames schema) → IsFormat (IsName schema group) (name_lines schema group) any (read_name schema group)
  name_format None grouped = none_format None refl (λ name is. is) refl (λ line. tt)
  name_format (Some group) grouped = made_format (line_format (lines.group group grouped)) (λ place good. (good, refl)) parts
    where
      parts : (name : Option ℕ) → IsName schema (Some group) name → (place : ℕ) × IsGroupName schema (Some group) (Some place) × (Some place ≡ name)
      parts None is = absurd is
      parts (Some place) is = (place, is, refl)

  -- ---- the tree of a block

  abbrev tree_tag : BlockTree → TreeLine
  tree_tag (trees.Own t) = own
  tree_tag trees.Same = same

  abbrev tree_rest : BlockTree → Lines
  tree_rest (trees.Own t) = cut_tree_lines schema t
  tree_rest trees.Same = []

  abbrev IsTree : BlockTree → Type 0
  IsTree tree = IsFormedBlockTree schema tree

  -- the line of a tree says whether nodes follow
  tree_told : (tree : BlockTree) → IsTree tree → ⊤ × (block_tree_lines schema tree ≡ tree_text (tree_tag tree) ∷ tree_rest tree)
  tree_told (trees.Own t) good = (tt, refl)
  tree_told trees.Same good = (tt, refl)

  -- what follows each line of a tree
  tree_of : (tag : TreeLine) → ⊤ → IsFormat (IsOf tree_tag IsTree tag) tree_rest any (tagged_tree schema tag)
  tree_of own good = made_format (cuts_format schema lines.cut) (λ t formed. ((refl, formed), refl)) parts
    where
      parts : (tree : BlockTree) → IsOf tree_tag IsTree own tree → (t : CutTree) × IsFormedCutTree schema t × (trees.Own t ≡ tree)
      parts (trees.Own t) told = (t, told.1, refl)
      parts trees.Same told = let e = told.0 in absurd (cc)
  tree_of same good = none_format trees.Same (refl, tt) only refl (λ line. tt)
    where
      only : (tree : BlockTree) → IsOf tree_tag IsTree same tree → tree ≡ trees.Same
      only (trees.Own t) told = let e = told.0 in absurd (cc)
      only trees.Same told = refl

  -- the tree of a block
  tree_format : IsFormat IsTree (block_tree_lines schema) any (read_block_tree schema)
  unfolding read_block_tree
  tree_format = tagged_format tree_tag tree_rest tree_line tree_told tree_of

  -- ---- blocks

  abbrev IsBody : Query → BlockTree × Answer → Type 0
  IsBody query body = IsTree body.0 × IsFormedAnswer schema query.agg body.1

  abbrev body_lines : Query → BlockTree × Answer → Lines
  body_lines query body = block_tree_lines schema body.0 ++ answer_lines schema query body.1

  -- a tree and an answer
  body_format : (query : Query) → IsQuery schema query → IsFormat (IsBody query) (body_lines query) any (read_body schema query)
  unfolding read_body
  body_format query accepted = both_format tree_format (answer_format schema lines query accepted) (λ tree answer good formed. ((good, formed), refl)) (λ body good. (body.0, body.1, good.0, good.1, refl))

  abbrev Named : Type 0
  Named = Option ℕ × (BlockTree × Answer)

  abbrev IsNamed : Query → Named → Type 0
  IsNamed query rest = IsName schema query.group rest.0 × IsBody query rest.1

  -- and a name before them
  named_format : (query : Query) → IsQuery schema query → IsFormat (IsNamed query) (λ (rest : Named). name_lines schema query.group rest.0 ++ body_lines query rest.1) any (read_named schema query)
  unfolding read_named
  named_format query accepted = both_format (name_format query.group accepted.grouped) (body_format query accepted) (λ name body good formed. ((good, formed), refl)) (λ rest good. (rest.0, rest.1, good.0, good.1, refl))

  -- a query and what stands after it
  pub block_format : IsFormat (IsFormedBlock schema) (block_lines schema) any (read_block schema)
  unfolding read_block
  block_format = joined_format (line_format lines.query) named_format (record {
    made = λ query rest accepted good.
        let name = name_told schema query.group rest.0 good.0 in
        (record { query = accepted; named = name.0; name = name.1; tree = good.1.0; answer = good.1.1 }, refl);
    follows = λ query rest line accepted good follows. tt;
    parts = λ block good. (block.query, (block.name, (block.tree, block.answer)), good.query, (name_is schema block.query.group block.name good.named good.name, (good.tree, good.answer)), refl);
    back_follows = λ query rest line accepted good follows. tt;
    fits = λ query rest next accepted good follows. tt;
  })

  -- ---- the document

  -- blocks, and the last line
  blocks_format : IsFormat (All (IsFormedBlock schema)) (λ blocks. items_text (block_lines schema) blocks ++ (codes "end" ∷ [])) any (read_blocks schema)
  unfolding read_blocks
  blocks_format = joined_format (many_format begins_query block_format (λ block good. lines.query_begins block.query)) (λ blocks good. line_format (word_line (codes "end") end_plain)) (record {
    made = λ blocks w good is. (good, refl);
    follows = λ blocks w line good is follows. tt;
    parts = λ blocks good. (blocks, word, good, tt, refl);
    back_follows = λ blocks w line good is follows. tt;
    fits = λ blocks w next good is follows. refl;
  })

  -- The reader of documents reads those in form, from their lines.
  pub document_format : IsFormat (IsInForm schema) (document_lines schema) any (read_document schema)
  unfolding read_document
  document_format = both_format (line_format (word_line (codes "pc 1") head_plain)) blocks_format (λ w blocks is good. (good, refl)) (λ doc good. (word, doc.blocks, tt, good, refl))

-- ---- the bytes

-- the text of a document is read as that document
pub read_again : (schema : Schema) (bytes : List ℕ) (doc : Document) → AreLines schema → IsDocumentText schema bytes doc → document_of schema bytes ≡ Ok doc
read_again schema bytes doc lines is = reads_back (document_format schema lines) (λ x good. tt) bytes doc is

-- what is read of bytes is told of them
pub reading_told : (schema : Schema) (bytes : List ℕ) → AreLines schema → Told schema bytes (document_of schema bytes)
reading_told schema bytes lines = tells (document_format schema lines) (λ x good. tt) bytes

-- bytes are the text of one document
pub only_document : (schema : Schema) (bytes : List ℕ) (doc other : Document) → AreLines schema → IsDocumentText schema bytes doc → IsDocumentText schema bytes other → doc ≡ other
only_document schema bytes doc other lines is also = same_ok doc other (sym (read_again schema bytes doc lines is) ∙ read_again schema bytes other lines also)
  where
    same_ok : (x y : Document) → ◌≡◌ {A = Result Document ℕ} (Ok x) (Ok y) → x ≡ y
    same_ok x y e = cc
