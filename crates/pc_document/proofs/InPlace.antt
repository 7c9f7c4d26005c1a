-- Each demand on a document names the line at which the statement stands that it speaks of.
use Rattle.std.proofs.Common.{◌≡◌, ℕ, ◌+◌, List, [], ◌∷◌, ◌++◌, length, All, Option, Some, None, refl, sym, ap, ◌∙◌, subst, arith, append-nil}
use Rattle.std.specs.Prelude.{codes}
use Rattle.std.specs.Bool.{⊤}
use Rattle.std.proofs.lemmas.List.Elements.{All-nil, All-cons, All-append, All-head, All-tail, All-map}
use Rattle.pc_model.specs.declared.schema.Schema.{Schema}
use Rattle.pc_model.specs.declared.tree.CutNode.{CutNode}
use Rattle.pc_model.specs.CutTrees.{shape_of}
use Rattle.pc_model.specs.CutTrees as cuts
use Rattle.pc_model.specs.Regions.{whole_region}
use Rattle.pc_cells_laws.proofs.Trees as cells
use Rattle.pc_proof.specs.declared.document.BlockTree.{BlockTree}
use Rattle.pc_proof.specs.declared.document.BlockTree.TheVariants as trees
use Rattle.pc_proof.specs.declared.document.Block.{Block}
use Rattle.pc_proof.specs.declared.document.Document.{Document}
use Rattle.pc_proof.specs.Form.{IsFormedBlockTree, IsFormedBlock}
use Rattle.pc_proof.specs.Setting.{Setting}
use Rattle.pc_proof.specs.Counts.{tree_count}
use Rattle.pc_proof.specs.Demands.{Placed, allowed, tree_before, name_demands, cut_demands, cells_demands, treeless_demands, block_demands, relation_demands, lack_demands, ends_demands, relation_line, lack_line, end_line, next_line, at_line, front_lines}
use Rattle.pc_proof.specs.Demands as demands
use Rattle.pc_proof.specs.Documents.{Premises, nodes_after, lines_of, setting_of}
use Rattle.pc_document_format.specs.Lines.{whole_lines, feeds_in, lines_text}
use Rattle.pc_document_format.specs.Formats.{Lines, items_text}
use Rattle.pc_document_format.proofs.LinesOf.{lines_back}
use Rattle.pc_document_lines.specs.Kinds.{AreLines}
use Rattle.pc_document_lines.specs.TokenLines.{query_line_text}
use Rattle.pc_document.specs.DocumentLines.{name_lines, cut_tree_lines, block_tree_lines, relation_lines, lack_lines, ends_lines, block_lines, document_lines}
use Rattle.pc_document.specs.Told.{IsDocumentText}
use Rattle.pc_document.specs.Statements.{StandIn, IsInPlace, in_place_with, AreInPlace}
use Rattle.pc_document.proofs.Counting.{name_counted, tree_lines_counted, relation_counted, lack_counted, block_counted}
use Rattle.pc_document.proofs.DocumentFormat.{document_format}
use Rattle.pc_document.proofs.Standing.{front, back, at, rest, cuts_fit, same_fits}
use Rattle.pc_document.proofs.StatementParts.{relation_fits, lack_fits, ends_fit}

-- the nodes of a tree of its own, or any
abbrev AreNodesOf : BlockTree → List CutNode → Type 0
AreNodesOf (trees.Own t) nodes = nodes ≡ t.nodes
AreNodesOf trees.Same nodes = ⊤

-- ---- the tree of a block

tree_lines_are : (tree : BlockTree) (s : Setting) (schema : Schema) → AreNodesOf tree s.nodes → IsFormedBlockTree schema tree
    → demands.tree_lines (lines_of tree) s ≡ tree_count tree
tree_lines_are (trees.Own t) s schema are formed =
    let long = cells.length-nodes (shape_of t.nodes) 0 in
    let whole = ap length formed.preorder in
    let size = ap (λ nodes. cuts.size_of (shape_of nodes)) are in
    omega (arith, long, whole, size)
tree_lines_are trees.Same s schema are formed = refl

module _ (schema : Schema) (b : Block) (text : Lines) where
  abbrev Fits : Placed → Type 0
  Fits = IsInPlace schema b text

  cells_fit : (tree : BlockTree) (s : Setting) (line : ℕ) → b.tree ≡ tree → AreNodesOf tree s.nodes → IsFormedBlockTree schema tree
      → StandIn text line (block_tree_lines schema tree) → All Fits (cells_demands (lines_of tree) s line)
  cells_fit (trees.Own t) s line own are formed is =
      subst (λ nodes. All Fits (cut_demands (line + 1) (whole_region s.question.schema) (shape_of nodes))) (sym are)
      (cuts_fit schema b text t own (line + 1) 0 (whole_region s.question.schema) (shape_of t.nodes)
      (subst (λ nodes. StandIn text (line + 1) (cut_tree_lines schema (record { nodes = nodes }))) formed.preorder
      (rest text line (codes "tree own") (cut_tree_lines schema t) is)))
  cells_fit trees.Same s line same are formed is =
      All-map Fits (at_line line) (cut_demands (line + 1) (whole_region s.question.schema) (shape_of s.nodes))
      (same_fits schema b text same line is (line + 1) (whole_region s.question.schema) (shape_of s.nodes))

  -- the name of a group stands behind the query
  name_fits : (line : ℕ) (name : Option ℕ) → b.name ≡ name → StandIn text (line + 1) (name_lines schema b.query.group b.name) → All Fits (name_demands line name)
  name_fits line None same is = All-nil Fits
  name_fits line (Some place) same is =
      All-cons Fits (record { line = line + 1; rule = 2; demand = allowed }) []
      (record { lines = name_lines schema b.query.group b.name; is = refl; there = is }) (All-nil Fits)

-- ---- a block

module _ (case : Premises) (b : Block) (text : Lines) (line : ℕ) (formed : IsFormedBlock case.schema b) (is : StandIn text line (block_lines case.schema b)) where
  abbrev FitsBlock : Placed → Type 0
  FitsBlock = IsInPlace case.schema b text

  abbrev name_part : Lines
  name_part = name_lines case.schema b.query.group b.name

  abbrev tree_part : Lines
  tree_part = block_tree_lines case.schema b.tree

  abbrev relation_part : Lines
  relation_part = relation_lines case.schema b.query b.answer.relation

  abbrev lack_part : Lines
  lack_part = lack_lines case.schema b.query b.answer.lack

  abbrev ends_part : Lines
  ends_part = ends_lines case.schema b.query b.answer.ends

  behind_query : StandIn text (line + 1) (name_part ++ (tree_part ++ (relation_part ++ (lack_part ++ ends_part))))
  behind_query = rest text line (query_line_text case.schema b.query) (name_part ++ (tree_part ++ (relation_part ++ (lack_part ++ ends_part)))) is

  names_there : StandIn text (line + 1) name_part
  names_there = front text (line + 1) name_part (tree_part ++ (relation_part ++ (lack_part ++ ends_part))) behind_query

  behind_name : StandIn text (line + front_lines b.name) (tree_part ++ (relation_part ++ (lack_part ++ ends_part)))
  behind_name =
      let many = name_counted case.schema b.query.group b.name formed.named in
      at text (line + 1 + length name_part) (line + front_lines b.name) (tree_part ++ (relation_part ++ (lack_part ++ ends_part))) (omega (arith, many))
      (back text (line + 1) name_part (tree_part ++ (relation_part ++ (lack_part ++ ends_part))) behind_query)

  tree_there : StandIn text (line + front_lines b.name) tree_part
  tree_there = front text (line + front_lines b.name) tree_part (relation_part ++ (lack_part ++ ends_part)) behind_name

  -- a first block without a tree of its own
  treeless_fits : b.tree ≡ trees.Same → All FitsBlock (treeless_demands line b.name)
  treeless_fits same =
      All-append FitsBlock (name_demands line b.name) (record { line = line + front_lines b.name; rule = 2; demand = tree_before } ∷ [])
      (name_fits case.schema b text line b.name refl names_there)
      (All-cons FitsBlock (record { line = line + front_lines b.name; rule = 2; demand = tree_before }) []
      (record { lines = codes "tree same" ∷ []; is = refl; there = subst (λ tree. StandIn text (line + front_lines b.name) (block_tree_lines case.schema tree)) same tree_there }) (All-nil FitsBlock))

  module _ (nodes : List CutNode) (are : AreNodesOf b.tree nodes) where
    abbrev s : Setting
    s = setting_of case b nodes

    abbrev kind : demands.TreeLines
    kind = lines_of b.tree

    tree_many : demands.tree_lines kind s ≡ tree_count b.tree
    tree_many = tree_lines_are b.tree s case.schema are formed.tree

    behind_tree : StandIn text (relation_line kind s line) (relation_part ++ (lack_part ++ ends_part))
    behind_tree =
        let many = tree_lines_counted case.schema b.tree in
        let same = tree_many in
        at text (line + front_lines b.name + length tree_part) (relation_line kind s line) (relation_part ++ (lack_part ++ ends_part)) (omega (arith, many, same))
        (back text (line + front_lines b.name) tree_part (relation_part ++ (lack_part ++ ends_part)) behind_name)

    behind_relation : StandIn text (lack_line kind s line b.answer) (lack_part ++ ends_part)
    behind_relation =
        let many = relation_counted case.schema b.query b.answer.relation in
        at text (relation_line kind s line + length relation_part) (lack_line kind s line b.answer) (lack_part ++ ends_part) (omega (arith, many))
        (back text (relation_line kind s line) relation_part (lack_part ++ ends_part) behind_tree)

    behind_lack : StandIn text (end_line kind s line b.answer) ends_part
    behind_lack =
        let many = lack_counted case.schema b.query b.answer.lack in
        at text (lack_line kind s line b.answer + length lack_part) (end_line kind s line b.answer) ends_part (omega (arith, many))
        (back text (lack_line kind s line b.answer) lack_part ends_part behind_relation)

    abbrev of_relation : List Placed
    of_relation = relation_demands s (relation_line kind s line) b.answer.relation b.answer.ends

    abbrev of_lack : List Placed
    of_lack = lack_demands s (lack_line kind s line b.answer) b.answer.lack

    abbrev of_ends : List Placed
    of_ends = ends_demands s (end_line kind s line b.answer) b.answer.ends

    abbrev of_cells : List Placed
    of_cells = cells_demands kind s (line + front_lines b.name)

    block_fits : All FitsBlock (block_demands kind s line b.answer)
    block_fits =
        All-append FitsBlock (name_demands line b.name) (of_cells ++ (of_relation ++ (of_lack ++ of_ends)))
        (name_fits case.schema b text line b.name refl names_there)
        (All-append FitsBlock of_cells (of_relation ++ (of_lack ++ of_ends))
        (cells_fit case.schema b text b.tree s (line + front_lines b.name) refl are formed.tree tree_there)
        (All-append FitsBlock of_relation (of_lack ++ of_ends)
        (relation_fits case.schema b text s b.query.agg (relation_line kind s line) b.answer.relation b.answer.ends formed.answer.relation
        (front text (relation_line kind s line) relation_part (lack_part ++ ends_part) behind_tree))
        (All-append FitsBlock of_lack of_ends
        (lack_fits case.schema b text s b.query.agg (lack_line kind s line b.answer) b.answer.lack formed.answer.lack
        (front text (lack_line kind s line b.answer) lack_part ends_part behind_relation))
        (ends_fit case.schema b text s b.query.agg (end_line kind s line b.answer) b.answer.ends formed.answer.ends behind_lack))))

    next_is : line + length (block_lines case.schema b) ≡ next_line kind s line b.answer
    next_is = let many = block_counted case.schema b formed in let tree = tree_many in omega (arith, many, tree)

-- ---- a document

module _ (case : Premises) (text : Lines) where
  -- the nodes that a block is judged by are those of its own tree, if it has one
  own_nodes : (before : Option (List CutNode)) (tree : BlockTree) (nodes : List CutNode) → nodes_after before tree ≡ Some nodes → AreNodesOf tree nodes
  own_nodes before (trees.Own t) nodes found = cc
  own_nodes before trees.Same nodes found = tt

  no_nodes : (before : Option (List CutNode)) (tree : BlockTree) → nodes_after before tree ≡ None → tree ≡ trees.Same
  no_nodes before (trees.Own t) found = absurd (cc)
  no_nodes before trees.Same found = refl

  one_in_place : (b : Block) (line : ℕ) (before found : Option (List CutNode)) (later : List CutNode → ℕ → Type 0) → IsFormedBlock case.schema b
      → StandIn text line (block_lines case.schema b) → nodes_after before b.tree ≡ found
      → ((nodes : List CutNode) (next : ℕ) → line + length (block_lines case.schema b) ≡ next → later nodes next) → in_place_with case text b line found later
  one_in_place b line before None later formed is none go_on = treeless_fits case b text line formed is (no_nodes before b.tree none)
  one_in_place b line before (Some nodes) later formed is some go_on =
      let are = own_nodes before b.tree nodes some in
      (block_fits case b text line formed is nodes are, go_on nodes (next_line (lines_of b.tree) (setting_of case b nodes) line b.answer) (next_is case b text line formed is nodes are))

  all_in_place : (blocks : List Block) (before : Option (List CutNode)) (line : ℕ) → All (IsFormedBlock case.schema) blocks
      → StandIn text line (items_text (block_lines case.schema) blocks) → AreInPlace case text before line blocks
  all_in_place [] before line formed is = tt
  all_in_place (b ∷ blocks) before line formed is =
      let one = block_lines case.schema b in
      let more = items_text (block_lines case.schema) blocks in
      one_in_place b line before (nodes_after before b.tree) (λ nodes next. AreInPlace case text (Some nodes) next blocks)
      (All-head (IsFormedBlock case.schema) b blocks formed) (front text line one more is) refl
      (λ nodes next same. all_in_place blocks (Some nodes) next (All-tail (IsFormedBlock case.schema) b blocks formed) (at text (line + length one) next more same (back text line one more is)))

-- the lines of the text of a document are its lines
no_feed : feeds_in [] ≡ 0
unfolding feeds_in
no_feed = refl

text_split : (schema : Schema) (bytes : List ℕ) (doc : Document) → AreLines schema → IsDocumentText schema bytes doc → whole_lines bytes ≡ document_lines schema doc
text_split schema bytes doc lines is =
    let format = document_format schema lines in
    ap whole_lines (sym is.1 ∙ sym (append-nil (lines_text (document_lines schema doc)))) ∙ lines_back (document_lines schema doc) [] (format.plain doc is.0) no_feed

pub document_in_place : (case : Premises) (bytes : List ℕ) (doc : Document) → AreLines case.schema → IsDocumentText case.schema bytes doc → AreInPlace case (whole_lines bytes) None 2 doc.blocks
document_in_place case bytes doc lines is =
    let text = whole_lines bytes in
    let blocks = items_text (block_lines case.schema) doc.blocks in
    let whole : StandIn text 1 (codes "pc 1" ∷ (blocks ++ (codes "end" ∷ []))) =
    record { before = []; after = []; parts = text_split case.schema bytes doc lines is ∙ sym (append-nil (document_lines case.schema doc)); line_is = refl } in
    all_in_place case text doc.blocks None 2 is.0 (front text 2 blocks (codes "end" ∷ []) (rest text 1 (codes "pc 1") (blocks ++ (codes "end" ∷ [])) whole))
