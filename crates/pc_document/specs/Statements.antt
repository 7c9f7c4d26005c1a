-- Where the statements stand that the demands on a document speak of.
use Rattle.std.specs.Prelude.{◌≡◌, ℕ, ◌+◌, ⊤, true, List, [], ◌∷◌, ◌++◌, length, All, codes, Option, Some, None}
use Rattle.pc_num.specs.declared.Frac.{Frac}
use Rattle.pc_model.specs.declared.schema.Schema.{Schema}
use Rattle.pc_model.specs.declared.row.Run.{Run}
use Rattle.pc_model.specs.declared.query.Query.{Query}
use Rattle.pc_model.specs.declared.tree.TreeNode.TheVariants as nodes
use Rattle.pc_model.specs.declared.tree.CutNode.{CutNode}
use Rattle.pc_model.specs.declared.tree.CutNode.TheVariants as cut_nodes
use Rattle.pc_proof.specs.declared.answer.Relation.TheVariants as relations
use Rattle.pc_proof.specs.declared.answer.Lack.TheVariants as lacks
use Rattle.pc_proof.specs.declared.document.BlockTree.{BlockTree}
use Rattle.pc_proof.specs.declared.document.BlockTree.TheVariants as trees
use Rattle.pc_proof.specs.declared.document.Block.{Block}
use Rattle.pc_proof.specs.declared.document.Document.{Document}
use Rattle.pc_proof.specs.Demands.{Demand, allowed, tree_before, proper, settled, possible_runs, gives, gives_none, gives_some, splits, bounds, voids, impossible_by, stands, never_by, always_by, low_by, high_by, Placed, treeless_demands, block_demands, next_line}
use Rattle.pc_proof.specs.Documents.{Premises, nodes_after, lines_of, setting_of}
use Rattle.pc_document_format.specs.Lines.{whole_lines}
use Rattle.pc_document_format.specs.Formats.{Lines}
use Rattle.pc_document_lines.specs.NodeLines.{node_text}
use Rattle.pc_document_lines.specs.TokenLines.{cut_node_text}
use Rattle.pc_document_lines.specs.ValueLines.{end_text}
use Rattle.pc_document_lines.specs.declared.tags.Side.{Side}
use Rattle.pc_document_lines.specs.declared.tags.Side.TheVariants.{Low as low, High as high}
use Rattle.pc_document.specs.DocumentLines.{runs_lines, relation_lines, lack_lines, end_lines, name_lines}
use Rattle.pc_document.specs.Told.{IsDocumentText}

-- these lines stand in a text from the line of this number on, the first line being number 1
pub record StandIn (text : Lines) (line : ℕ) (lines : Lines) : Type 0 where
  pub before : Lines
  pub after : Lines
  pub parts : text ≡ before ++ (lines ++ after)
  pub line_is : line ≡ length before + 1

-- ---- statements

-- what the line before runs says of them
pub data Head : Type 0 where
  possible : Head
  without : Head
  with_some : Head
  attained : Side → Frac → Head

abbrev pub head_text : Schema → Query → Head → List ℕ
head_text schema query possible = codes "relation possible"
head_text schema query without = codes "none sometimes"
head_text schema query with_some = codes "some"
head_text schema query (attained side value) = end_text schema query side (record { value = value; exact = true })

abbrev pub runs_under : Schema → Query → Head → List Run → Lines
runs_under schema query head runs = head_text schema query head ∷ runs_lines schema runs

-- a line of the block's own tree, or the one that says that the tree is that of the block before
abbrev pub tree_line : BlockTree → List ℕ → Lines
tree_line (trees.Own t) line = line ∷ []
tree_line trees.Same line = codes "tree same" ∷ []

-- these are the lines of the statement that a demand on the block speaks of
abbrev pub IsStatement : Schema → Block → Demand → Lines → Type 0
IsStatement schema b allowed lines = lines ≡ name_lines schema b.query.group b.name
IsStatement schema b tree_before lines = lines ≡ codes "tree same" ∷ []
IsStatement schema b (proper box cut) lines = lines ≡ tree_line b.tree (cut_node_text schema (cut_nodes.Inner cut 0 0))
IsStatement schema b (settled box mark) lines = lines ≡ tree_line b.tree (cut_node_text schema (cut_nodes.Leaf mark))
IsStatement schema b (possible_runs runs) lines = (head : Head) × (lines ≡ runs_under schema b.query head runs)
IsStatement schema b (gives value runs) lines = (side : Side) × (lines ≡ runs_under schema b.query (attained side value) runs)
IsStatement schema b (gives_none runs) lines = lines ≡ runs_under schema b.query without runs
IsStatement schema b (gives_some runs) lines = lines ≡ runs_under schema b.query with_some runs
IsStatement schema b (splits p floors caps cell at) lines = lines ≡ node_text (nodes.Split cell at 0 0) ∷ []
IsStatement schema b (bounds p mult) lines = lines ≡ node_text (nodes.Bound mult) ∷ []
IsStatement schema b (voids p floors caps mult) lines = lines ≡ node_text (nodes.Void mult) ∷ []
IsStatement schema b (impossible_by why) lines = lines ≡ relation_lines schema b.query (relations.Impossible why)
IsStatement schema b (stands relation ends) lines = lines ≡ relation_lines schema b.query relation
IsStatement schema b (never_by by') lines = lines ≡ lack_lines schema b.query (lacks.Never by')
IsStatement schema b (always_by by') lines = lines ≡ lack_lines schema b.query (lacks.Always by')
IsStatement schema b (low_by end) lines = lines ≡ end_lines schema b.query low end
IsStatement schema b (high_by end) lines = lines ≡ end_lines schema b.query high end

-- ---- demands

-- from the line that the demand names on stands the statement that it speaks of
pub record IsInPlace (schema : Schema) (b : Block) (text : Lines) (d : Placed) : Type 0 where
  pub lines : Lines
  pub is : IsStatement schema b d.demand lines
  pub there : StandIn text d.line lines

abbrev pub AllInPlace : Premises → Block → Lines → List Placed → Type 0
AllInPlace case b text demands = All (IsInPlace case.schema b text) demands

-- so of each demand on the blocks, the first query standing in the line `at`
abbrev pub in_place_with : Premises → Lines → Block → ℕ → Option (List CutNode) → (List CutNode → ℕ → Type 0) → Type 0
in_place_with case text b at None later = AllInPlace case b text (treeless_demands at b.name)
in_place_with case text b at (Some nodes) later =
    AllInPlace case b text (block_demands (lines_of b.tree) (setting_of case b nodes) at b.answer)
    × later nodes (next_line (lines_of b.tree) (setting_of case b nodes) at b.answer)

abbrev pub AreInPlace : Premises → Lines → Option (List CutNode) → ℕ → List Block → Type 0
AreInPlace case text before at [] = ⊤
AreInPlace case text before at (b ∷ blocks) = in_place_with case text b at (nodes_after before b.tree) (λ nodes next. AreInPlace case text (Some nodes) next blocks)

-- so of each demand on the document, in its text split at the line feeds, where the first query stands in the second line
abbrev pub NamesItsLines : Premises → Document → Type 0
NamesItsLines case doc = (bytes : List ℕ) → IsDocumentText case.schema bytes doc → AreInPlace case (whole_lines bytes) None 2 doc.blocks
