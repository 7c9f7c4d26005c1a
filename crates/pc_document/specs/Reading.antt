-- Which document lines spell.
use Rattle.std.specs.Prelude.{ℕ, Bool, true, false, List, [], ◌∷◌, codes, Result, Option, Some, None}
use Rattle.pc_num.specs.declared.Frac.{Frac}
use Rattle.pc_model.specs.declared.schema.Schema.{Schema}
use Rattle.pc_model.specs.declared.row.Run.{Run}
use Rattle.pc_model.specs.declared.query.Query.{Query}
use Rattle.pc_model.specs.declared.tree.TreeNode.{TreeNode}
use Rattle.pc_model.specs.declared.tree.Tree.{Tree}
use Rattle.pc_model.specs.declared.tree.CutNode.{CutNode}
use Rattle.pc_model.specs.declared.tree.CutTree.{CutTree}
use Rattle.pc_model.specs.CutTrees.{shape_of}
use Rattle.pc_model.specs.CutTrees as cuts
use Rattle.pc_model.specs.Right.{always_has_value}
use Rattle.pc_program_bound.specs.SplitTrees.{nodes_from, tree_of}
use Rattle.pc_proof.specs.declared.answer.Proof.{Proof}
use Rattle.pc_proof.specs.declared.answer.Proof.TheVariants as proofs
use Rattle.pc_proof.specs.declared.answer.Bounded.{Bounded}
use Rattle.pc_proof.specs.declared.answer.Why.{Why}
use Rattle.pc_proof.specs.declared.answer.Why.TheVariants as whys
use Rattle.pc_proof.specs.declared.answer.Relation.{Relation}
use Rattle.pc_proof.specs.declared.answer.Relation.TheVariants as relations
use Rattle.pc_proof.specs.declared.answer.NeverBy.{NeverBy}
use Rattle.pc_proof.specs.declared.answer.NeverBy.TheVariants as nevers
use Rattle.pc_proof.specs.declared.answer.AlwaysBy.{AlwaysBy}
use Rattle.pc_proof.specs.declared.answer.AlwaysBy.TheVariants as alwayses
use Rattle.pc_proof.specs.declared.answer.Lack.{Lack}
use Rattle.pc_proof.specs.declared.answer.Lack.TheVariants as lacks
use Rattle.pc_proof.specs.declared.answer.Mark.TheVariants as marks
use Rattle.pc_proof.specs.declared.answer.End.{End}
use Rattle.pc_proof.specs.declared.answer.Answer.{Answer}
use Rattle.pc_proof.specs.declared.document.BlockTree.{BlockTree}
use Rattle.pc_proof.specs.declared.document.BlockTree.TheVariants as trees
use Rattle.pc_proof.specs.declared.document.Block.{Block}
use Rattle.pc_proof.specs.declared.document.Document.{Document}
use Rattle.pc_document_format.specs.Formats.{Lines, Found, found_in, read_none, read_line, read_as, read_many, read_nodes, read_joined, read_bytes}
use Rattle.pc_document_lines.specs.NodeLines.{is_split, read_node}
use Rattle.pc_document_lines.specs.declared.tags.Side.{Side}
use Rattle.pc_document_lines.specs.declared.tags.Side.TheVariants.{Low as low, High as high}
use Rattle.pc_document_lines.specs.declared.tags.EndLine.{EndLine}
use Rattle.pc_document_lines.specs.declared.tags.ProofLine.{ProofLine}
use Rattle.pc_document_lines.specs.declared.tags.ProofLine.TheVariants.{Rows as rows, Tree as tree, At as at, Values as values}
use Rattle.pc_document.specs.declared.tags.WhyLine.{WhyLine}
use Rattle.pc_document.specs.declared.tags.WhyLine.TheVariants.{Void as by_void, Cross as by_cross, Ends as by_ends}
use Rattle.pc_document.specs.declared.tags.RelationLine.{RelationLine}
use Rattle.pc_document.specs.declared.tags.RelationLine.TheVariants.{Possible as possible, Impossible as impossible, Undecided as undecided}
use Rattle.pc_document.specs.declared.tags.NeverLine.{NeverLine}
use Rattle.pc_document.specs.declared.tags.NeverLine.TheVariants.{Rows as by_rows, Tree as by_tree}
use Rattle.pc_document.specs.declared.tags.AlwaysLine.{AlwaysLine}
use Rattle.pc_document.specs.declared.tags.AlwaysLine.TheVariants.{Tree as in_tree, Ends as in_ends}
use Rattle.pc_document.specs.declared.tags.LackLine.{LackLine}
use Rattle.pc_document.specs.declared.tags.LackLine.TheVariants.{Never as is_never, Sometimes as is_sometimes, Always as is_ever, Undecided as is_open}
use Rattle.pc_document.specs.declared.tags.TreeLine.{TreeLine}
use Rattle.pc_document.specs.declared.tags.TreeLine.TheVariants.{Own as own, Same as same}
use Rattle.pc_document_lines.specs.ValueLines.{read_end_line, read_outer_line, read_proof_line}
use Rattle.pc_document_lines.specs.TokenLines.{read_run, begins_run, is_inner, read_cut_node, read_group, read_query_line, begins_query}
use Rattle.pc_document.specs.declared.tags.After.{After}
use Rattle.pc_document.specs.Parts.{ends_block, has_no_ends, nothing_after}

-- the nodes with the places of their parts
abbrev pub placed : List TreeNode → Tree
placed nodes = record { nodes = nodes_from 0 (tree_of nodes) }

abbrev pub the_last : {A B : Type 0} → A → B → B
the_last x y = y

abbrev pub the_first : {A B : Type 0} → A → B → A
the_first x y = x

abbrev pub pair : {A B : Type 0} → A → B → A × B
pair x y = (x, y)

unfoldable pub read_tree : Lines → Found Tree
read_tree = read_as placed (read_nodes is_split read_node 1)

unfoldable pub read_runs : Schema → Lines → Found (List Run)
read_runs schema = read_many begins_run (read_line (read_run schema))

-- ---- proofs

abbrev pub tagged_proof : ProofLine → Lines → Found Proof
tagged_proof rows = read_none proofs.Rows
tagged_proof tree = read_as proofs.Tree read_tree
tagged_proof (at ratio) = read_as (proofs.At ratio) read_tree
tagged_proof values = read_none proofs.Values

unfoldable pub read_proof : Schema → Query → Lines → Found Proof
read_proof schema query = read_joined (read_line (read_proof_line schema query)) tagged_proof the_last

abbrev pub bounded : Frac → Proof → Bounded
bounded value proof = record { value = value; proof = proof }

unfoldable pub read_bounded : Schema → Query → Side → Lines → Found Bounded
read_bounded schema query side = read_joined (read_line (read_outer_line schema query side)) (λ value. read_proof schema query) bounded

unfoldable pub read_crossing : Schema → Query → Lines → Found (Bounded × Bounded)
read_crossing schema query = read_joined (read_bounded schema query low) (λ first. read_bounded schema query high) pair

-- ---- the relation

abbrev pub why_text : WhyLine → List ℕ
why_text by_void = codes "by void"
why_text by_cross = codes "by cross"
why_text by_ends = codes "by ends"

abbrev pub read_why_line : List ℕ → Option WhyLine
read_why_line = found_in why_text (by_void ∷ by_cross ∷ by_ends ∷ [])

abbrev pub tagged_why : Schema → Query → WhyLine → Lines → Found Why
tagged_why schema query by_void = read_as whys.Void read_tree
tagged_why schema query by_cross = read_joined read_tree (λ t. read_tree) whys.Cross
tagged_why schema query by_ends = read_as (λ p. whys.Ends p.0 p.1) (read_crossing schema query)

unfoldable pub read_why : Schema → Query → Lines → Found Why
read_why schema query = read_joined (read_line read_why_line) (tagged_why schema query) the_last

abbrev pub relation_text : RelationLine → List ℕ
relation_text possible = codes "relation possible"
relation_text impossible = codes "relation impossible"
relation_text undecided = codes "relation undecided"

abbrev pub read_relation_line : List ℕ → Option RelationLine
read_relation_line = found_in relation_text (possible ∷ impossible ∷ undecided ∷ [])

abbrev pub tagged_relation : Schema → Query → RelationLine → Lines → Found Relation
tagged_relation schema query possible = read_as relations.Possible (read_runs schema)
tagged_relation schema query impossible = read_as relations.Impossible (read_why schema query)
tagged_relation schema query undecided = read_none relations.Undecided

unfoldable pub read_relation : Schema → Query → Lines → Found Relation
read_relation schema query = read_joined (read_line read_relation_line) (tagged_relation schema query) the_last

-- ---- the ends

abbrev pub exact_end : Frac → List Run → Proof → End
exact_end value runs proof = record { value = value; mark = marks.Exact runs; proof = proof }

abbrev pub outer_end : Frac → Proof → End
outer_end value proof = record { value = value; mark = marks.Outer; proof = proof }

abbrev pub end_after : Schema → Query → Bool → Frac → Lines → Found End
end_after schema query true value = read_joined (read_runs schema) (λ runs. read_proof schema query) (exact_end value)
end_after schema query false value = read_as (outer_end value) (read_proof schema query)

abbrev pub tagged_end : Schema → Query → EndLine → Lines → Found End
tagged_end schema query e = end_after schema query e.exact e.value

unfoldable pub read_end : Schema → Query → Side → Lines → Found End
read_end schema query side = read_joined (read_line (read_end_line schema query side)) (tagged_end schema query) the_last

unfoldable pub read_ends : Schema → Query → Lines → Found (Option (End × End))
read_ends schema query = read_as Some (read_joined (read_end schema query low) (λ first. read_end schema query high) pair)

-- ---- what the aggregate lacks

-- the one text of a line
pub data Word : Type 0 where
  word : Word

abbrev pub read_word : List ℕ → List ℕ → Option Word
read_word text = found_in (λ w. text) (word ∷ [])

abbrev pub never_text : NeverLine → List ℕ
never_text by_rows = codes "by rows"
never_text by_tree = codes "by tree"

abbrev pub read_never_line : List ℕ → Option NeverLine
read_never_line = found_in never_text (by_rows ∷ by_tree ∷ [])

abbrev pub tagged_never : NeverLine → Lines → Found NeverBy
tagged_never by_rows = read_none nevers.Rows
tagged_never by_tree = read_as nevers.Tree read_tree

unfoldable pub read_never : Lines → Found NeverBy
read_never = read_joined (read_line read_never_line) tagged_never the_last

abbrev pub always_text : AlwaysLine → List ℕ
always_text in_tree = codes "by tree"
always_text in_ends = codes "by ends"

abbrev pub read_always_line : List ℕ → Option AlwaysLine
read_always_line = found_in always_text (in_tree ∷ in_ends ∷ [])

abbrev pub tagged_always : Schema → Query → AlwaysLine → Lines → Found AlwaysBy
tagged_always schema query in_tree = read_as alwayses.Tree read_tree
tagged_always schema query in_ends = read_as (λ p. alwayses.Ends p.0 p.1) (read_crossing schema query)

unfoldable pub read_always : Schema → Query → Lines → Found AlwaysBy
read_always schema query = read_joined (read_line read_always_line) (tagged_always schema query) the_last

abbrev pub lack_text : LackLine → List ℕ
lack_text is_never = codes "none never"
lack_text is_sometimes = codes "none sometimes"
lack_text is_ever = codes "none always"
lack_text is_open = codes "none undecided"

abbrev pub read_lack_line : List ℕ → Option LackLine
read_lack_line = found_in lack_text (is_never ∷ is_sometimes ∷ is_ever ∷ is_open ∷ [])

unfoldable pub read_some : Schema → Lines → Found (List Run)
read_some schema = read_joined (read_line (read_word (codes "some"))) (λ w. read_runs schema) the_last

abbrev pub tagged_lack : Schema → Query → LackLine → Lines → Found Lack
tagged_lack schema query is_never = read_as lacks.Never read_never
tagged_lack schema query is_sometimes = read_joined (read_runs schema) (λ without. read_some schema) lacks.Sometimes
tagged_lack schema query is_ever = read_as lacks.Always (read_always schema query)
tagged_lack schema query is_open = read_none lacks.Undecided

unfoldable pub read_lack : Schema → Query → Lines → Found Lack
read_lack schema query = read_joined (read_line read_lack_line) (tagged_lack schema query) the_last

-- ---- the answer

-- a lack, unless the aggregate always has a value
abbrev pub read_lack_unless : Schema → Query → Bool → Lines → Found Lack
read_lack_unless schema query true = read_none lacks.Silent
read_lack_unless schema query false = read_lack schema query

abbrev pub read_ends_unless : Schema → Query → Bool → Lines → Found (Option (End × End))
read_ends_unless schema query true = read_none None
read_ends_unless schema query false = read_ends schema query

abbrev pub after : Lack → Option (End × End) → After
after lack ends = record { lack = lack; ends = ends }

abbrev pub read_after : Schema → Query → Bool → Lines → Found After
read_after schema query true = read_none nothing_after
read_after schema query false = read_joined (read_lack_unless schema query (always_has_value query.agg)) (λ lack. read_ends_unless schema query (has_no_ends lack)) after

abbrev pub answer : Relation → After → Answer
answer relation rest = record { relation = relation; lack = rest.lack; ends = rest.ends }

unfoldable pub read_answer : Schema → Query → Lines → Found Answer
read_answer schema query = read_joined (read_relation schema query) (λ relation. read_after schema query (ends_block relation)) answer

-- ---- blocks

abbrev pub read_name : Schema → Option ℕ → Lines → Found (Option ℕ)
read_name schema None = read_none None
read_name schema (Some group) = read_as Some (read_line (read_group schema group))

abbrev pub placed_cuts : List CutNode → CutTree
placed_cuts nodes = record { nodes = cuts.nodes_from 0 (shape_of nodes) }

unfoldable pub read_cuts : Schema → Lines → Found CutTree
read_cuts schema = read_as placed_cuts (read_nodes is_inner (read_cut_node schema) 1)

abbrev pub tree_text : TreeLine → List ℕ
tree_text own = codes "tree own"
tree_text same = codes "tree same"

abbrev pub read_tree_line : List ℕ → Option TreeLine
read_tree_line = found_in tree_text (own ∷ same ∷ [])

abbrev pub tagged_tree : Schema → TreeLine → Lines → Found BlockTree
tagged_tree schema own = read_as trees.Own (read_cuts schema)
tagged_tree schema same = read_none trees.Same

unfoldable pub read_block_tree : Schema → Lines → Found BlockTree
read_block_tree schema = read_joined (read_line read_tree_line) (tagged_tree schema) the_last

unfoldable pub read_body : Schema → Query → Lines → Found (BlockTree × Answer)
read_body schema query = read_joined (read_block_tree schema) (λ t. read_answer schema query) pair

abbrev pub block : Query → Option ℕ × (BlockTree × Answer) → Block
block query rest = record { query = query; name = rest.0; tree = rest.1.0; answer = rest.1.1 }

unfoldable pub read_named : Schema → Query → Lines → Found (Option ℕ × (BlockTree × Answer))
read_named schema query = read_joined (read_name schema query.group) (λ name. read_body schema query) pair

unfoldable pub read_block : Schema → Lines → Found Block
read_block schema = read_joined (read_line (read_query_line schema)) (read_named schema) block

-- ---- documents

abbrev pub document : Word → List Block → Document
document w blocks = record { blocks = blocks }

unfoldable pub read_blocks : Schema → Lines → Found (List Block)
read_blocks schema = read_joined (read_many begins_query (read_block schema)) (λ blocks. read_line (read_word (codes "end"))) the_first

unfoldable pub read_document : Schema → Lines → Found Document
read_document schema = read_joined (read_line (read_word (codes "pc 1"))) (λ w. read_blocks schema) document

-- the document that bytes spell, or the number of the first line that may not stand there
abbrev pub document_of : Schema → List ℕ → Result Document ℕ
document_of schema bytes = read_bytes (read_document schema) bytes
