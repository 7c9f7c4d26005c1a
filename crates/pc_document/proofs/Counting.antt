-- The text of a document has as many lines as its parts have, so it has at least as many bytes.
use Rattle.std.proofs.Common.{◌≡◌, ℕ, ◌+◌, ◌≤◌, List, [], ◌∷◌, ◌++◌, length, All, Option, Some, None, refl, sym, ap, arith}
use Rattle.std.specs.Prelude.{is_none, codes}
use Rattle.std.proofs.lemmas.Bool.{false≢true}
use Rattle.std.proofs.lemmas.List.{length-append}
use Rattle.std.proofs.lemmas.List.Elements.{All-head, All-tail}
use Rattle.pc_model.specs.declared.schema.Schema.{Schema}
use Rattle.pc_model.specs.declared.row.Run.{Run}
use Rattle.pc_model.specs.declared.query.Query.{Query}
use Rattle.pc_model.specs.declared.tree.Tree.{Tree}
use Rattle.pc_proof.specs.declared.answer.Proof.{Proof}
use Rattle.pc_proof.specs.declared.answer.Proof.TheVariants as proofs
use Rattle.pc_proof.specs.declared.answer.Bounded.{Bounded}
use Rattle.pc_proof.specs.declared.answer.Why.{Why}
use Rattle.pc_proof.specs.declared.answer.Why.TheVariants as whys
use Rattle.pc_proof.specs.declared.answer.Relation.{Relation}
use Rattle.pc_proof.specs.declared.answer.Relation.TheVariants as relations
use Rattle.pc_proof.specs.declared.answer.NeverBy.{NeverBy}
use Rattle.pc_proof.specs.declared.answer.NeverBy.TheVariants as nevers
use Rattle.pc_proof.specs.declared.answer.AlwaysBy.{AlwaysBy}
use Rattle.pc_proof.specs.declared.answer.AlwaysBy.TheVariants as alwayses
use Rattle.pc_proof.specs.declared.answer.Lack.{Lack}
use Rattle.pc_proof.specs.declared.answer.Lack.TheVariants as lacks
use Rattle.pc_proof.specs.declared.answer.Mark.{Mark}
use Rattle.pc_proof.specs.declared.answer.Mark.TheVariants as marks
use Rattle.pc_proof.specs.declared.answer.End.{End}
use Rattle.pc_proof.specs.declared.document.BlockTree.{BlockTree}
use Rattle.pc_proof.specs.declared.document.BlockTree.TheVariants as trees
use Rattle.pc_proof.specs.declared.document.Block.{Block}
use Rattle.pc_proof.specs.declared.document.Document.{Document}
use Rattle.pc_proof.specs.Form.{IsFormedBlock}
use Rattle.pc_proof.specs.Counts.{block_count, blocks_count, tree_count}
use Rattle.pc_proof.specs.Demands as demands
use Rattle.pc_document_format.specs.Lines.{lines_text}
use Rattle.pc_document_format.specs.Formats.{Lines, nodes_text, items_text}
use Rattle.pc_document_lines.specs.NodeLines.{node_text, bare}
use Rattle.pc_document_lines.specs.declared.tags.Side.{Side}
use Rattle.pc_document_lines.specs.declared.tags.Side.TheVariants.{Low as low, High as high}
use Rattle.pc_document_lines.specs.TokenLines.{cut_node_text, bare_cut}
use Rattle.pc_document.specs.DocumentLines.{tree_lines, runs_lines, proof_lines, bounded_lines, crossing_lines, why_lines, relation_lines, never_lines, always_lines, lack_lines, mark_lines, end_lines, ends_lines, name_lines, block_tree_lines, answer_lines, after_lines, block_lines, document_lines}
use Rattle.pc_document.specs.declared.tags.After.{After}
use Rattle.pc_document.specs.Told.{IsDocumentText}

-- ---- lines of lists

pub nodes_counted : {A : Type 0} (text : A → List ℕ) (xs : List A) → length (nodes_text text xs) ≡ length xs
nodes_counted text [] = refl
nodes_counted text (x ∷ xs) = let later = nodes_counted text xs in omega (arith, later)

pub runs_counted : (schema : Schema) (runs : List Run) → length (runs_lines schema runs) ≡ length runs
runs_counted schema [] = refl
runs_counted schema (run ∷ runs) = let later = runs_counted schema runs in omega (arith, later)

pub tree_counted : (t : Tree) → length (tree_lines t) ≡ length t.nodes
tree_counted t = nodes_counted (λ node. node_text (bare node)) t.nodes

-- ---- an answer

module _ (schema : Schema) (query : Query) where
  pub proof_counted : (proof : Proof) → length (proof_lines schema query proof) ≡ demands.proof_lines proof
  proof_counted proofs.Rows = refl
  proof_counted (proofs.Tree t) = let tree = tree_counted t in omega (arith, tree)
  proof_counted (proofs.At ratio t) = let tree = tree_counted t in omega (arith, tree)
  proof_counted proofs.Values = refl

  crossing_counted : (first second : Bounded) → length (crossing_lines schema query first second) ≡ 2 + demands.proof_lines first.proof + demands.proof_lines second.proof
  crossing_counted first second =
      let both = length-append (bounded_lines schema query low first) (bounded_lines schema query high second) in
      let one = proof_counted first.proof in
      let two = proof_counted second.proof in
      omega (arith, both, one, two)

  why_counted : (why : Why) → length (why_lines schema query why) ≡ demands.why_lines why
  why_counted (whys.Void t) = let tree = tree_counted t in omega (arith, tree)
  why_counted (whys.Cross t u) =
      let both = length-append (tree_lines t) (tree_lines u) in
      let one = tree_counted t in
      let two = tree_counted u in
      omega (arith, both, one, two)
  why_counted (whys.Ends first second) = let both = crossing_counted first second in omega (arith, both)

  pub relation_counted : (relation : Relation) → length (relation_lines schema query relation) ≡ demands.relation_lines relation
  relation_counted (relations.Possible runs) = let each = runs_counted schema runs in omega (arith, each)
  relation_counted (relations.Impossible why) = let each = why_counted why in omega (arith, each)
  relation_counted relations.Undecided = refl

  never_counted : (by' : NeverBy) → length (never_lines by') ≡ demands.never_lines by'
  never_counted nevers.Rows = refl
  never_counted (nevers.Tree t) = let tree = tree_counted t in omega (arith, tree)

  always_counted : (by' : AlwaysBy) → length (always_lines schema query by') ≡ demands.always_lines by'
  always_counted (alwayses.Tree t) = let tree = tree_counted t in omega (arith, tree)
  always_counted (alwayses.Ends first second) = let both = crossing_counted first second in omega (arith, both)

  pub lack_counted : (lack : Lack) → length (lack_lines schema query lack) ≡ demands.lack_lines lack
  lack_counted lacks.Silent = refl
  lack_counted (lacks.Never by') = let each = never_counted by' in omega (arith, each)
  lack_counted (lacks.Sometimes without with') =
      let both = length-append (runs_lines schema without) (codes "some" ∷ runs_lines schema with') in
      let one = runs_counted schema without in
      let two = runs_counted schema with' in
      omega (arith, both, one, two)
  lack_counted (lacks.Always by') = let each = always_counted by' in omega (arith, each)
  lack_counted lacks.Undecided = refl

  pub end_counted : (side : Side) (end : End) → length (end_lines schema query side end) ≡ demands.mark_lines end.mark + demands.proof_lines end.proof
  end_counted side end = by_mark end.mark
    where
      by_mark : (mark : Mark) → length (mark_lines schema query side end mark) ≡ demands.mark_lines mark + demands.proof_lines end.proof
      by_mark (marks.Exact runs) =
          let both = length-append (runs_lines schema runs) (proof_lines schema query end.proof) in
          let one = runs_counted schema runs in
          let two = proof_counted end.proof in
          omega (arith, both, one, two)
      by_mark marks.Outer = let two = proof_counted end.proof in omega (arith, two)

  ends_counted : (ends : Option (End × End)) → length (ends_lines schema query ends) ≡ demands.ends_lines ends
  ends_counted None = refl
  ends_counted (Some ends) =
      let both = length-append (end_lines schema query low ends.0) (end_lines schema query high ends.1) in
      let one = end_counted low ends.0 in
      let two = end_counted high ends.1 in
      omega (arith, both, one, two)

-- ---- a block

pub name_counted : (schema : Schema) (group name : Option ℕ) → is_none name ≡ is_none group → 1 + length (name_lines schema group name) ≡ demands.front_lines name
name_counted schema None None same = refl
name_counted schema None (Some place) same = absurd (false≢true same)
name_counted schema (Some group) None same = absurd (false≢true (sym same))
name_counted schema (Some group) (Some place) same = refl

pub tree_lines_counted : (schema : Schema) (tree : BlockTree) → length (block_tree_lines schema tree) ≡ tree_count tree
tree_lines_counted schema (trees.Own t) = let each = nodes_counted (λ node. cut_node_text schema (bare_cut node)) t.nodes in omega (arith, each)
tree_lines_counted schema trees.Same = refl

pub block_counted : (schema : Schema) (b : Block) → IsFormedBlock schema b → length (block_lines schema b) ≡ block_count b
block_counted schema b formed =
    let after : After = record { lack = b.answer.lack; ends = b.answer.ends } in
    let last = length-append (lack_lines schema b.query b.answer.lack) (ends_lines schema b.query b.answer.ends) in
    let answer = length-append (relation_lines schema b.query b.answer.relation) (after_lines schema b.query after) in
    let tree = length-append (block_tree_lines schema b.tree) (answer_lines schema b.query b.answer) in
    let name = length-append (name_lines schema b.query.group b.name) (block_tree_lines schema b.tree ++ answer_lines schema b.query b.answer) in
    let front = name_counted schema b.query.group b.name formed.named in
    let cells = tree_lines_counted schema b.tree in
    let relation = relation_counted schema b.query b.answer.relation in
    let lack = lack_counted schema b.query b.answer.lack in
    let ends = ends_counted schema b.query b.answer.ends in
    omega (arith, last, answer, tree, name, front, cells, relation, lack, ends)

blocks_counted : (schema : Schema) (blocks : List Block) → All (IsFormedBlock schema) blocks → length (items_text (block_lines schema) blocks) ≡ blocks_count blocks
blocks_counted schema [] formed = refl
blocks_counted schema (b ∷ blocks) formed =
    let both = length-append (block_lines schema b) (items_text (block_lines schema) blocks) in
    let first = block_counted schema b (All-head (IsFormedBlock schema) b blocks formed) in
    let later = blocks_counted schema blocks (All-tail (IsFormedBlock schema) b blocks formed) in
    omega (arith, both, first, later)

-- ---- the bytes

lines_are_bytes : (lines : Lines) → length lines ≤ length (lines_text lines)
unfolding lines_text
lines_are_bytes [] = omega arith
lines_are_bytes (line ∷ lines) =
    let both = length-append (line ++ 10 ∷ []) (lines_text lines) in
    let one = length-append line (10 ∷ []) in
    let later = lines_are_bytes lines in
    omega (arith, both, one, later)

pub lines_counted : (schema : Schema) (bytes : List ℕ) (doc : Document) → IsDocumentText schema bytes doc → 2 + blocks_count doc.blocks ≤ length bytes
lines_counted schema bytes doc is =
    let blocks = blocks_counted schema doc.blocks is.0 in
    let last = length-append (items_text (block_lines schema) doc.blocks) (codes "end" ∷ []) in
    let few = lines_are_bytes (document_lines schema doc) in
    let same = ap length is.1 in
    omega (arith, blocks, last, few, same)
