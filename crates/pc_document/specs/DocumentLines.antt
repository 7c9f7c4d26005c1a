-- The lines of a document.
use Rattle.std.specs.Prelude.{ℕ, true, false, List, [], ◌∷◌, ◌++◌, codes, Option, Some, None}
use Rattle.pc_model.specs.declared.schema.Schema.{Schema}
use Rattle.pc_model.specs.declared.row.Run.{Run}
use Rattle.pc_model.specs.declared.query.Query.{Query}
use Rattle.pc_model.specs.declared.tree.Tree.{Tree}
use Rattle.pc_model.specs.declared.tree.CutTree.{CutTree}
use Rattle.pc_proof.specs.declared.answer.Proof.{Proof}
use Rattle.pc_proof.specs.declared.answer.Proof.TheVariants as proofs
use Rattle.pc_proof.specs.declared.answer.Bounded.{Bounded}
use Rattle.pc_proof.specs.declared.answer.Why.{Why}
use Rattle.pc_proof.specs.declared.answer.Why.TheVariants as whys
use Rattle.pc_proof.specs.declared.answer.Relation.{Relation}
use Rattle.pc_proof.specs.declared.answer.Relation.TheVariants as relations
use Rattle.pc_proof.specs.declared.answer.NeverBy.{NeverBy}
use Rattle.pc_proof.specs.declared.answer.NeverBy.TheVariants as nevers
use Rattle.pc_proof.specs.declared.answer.AlwaysBy.{AlwaysBy}
use Rattle.pc_proof.specs.declared.answer.AlwaysBy.TheVariants as alwayses
use Rattle.pc_proof.specs.declared.answer.Lack.{Lack}
use Rattle.pc_proof.specs.declared.answer.Lack.TheVariants as lacks
use Rattle.pc_proof.specs.declared.answer.Mark.{Mark}
use Rattle.pc_proof.specs.declared.answer.Mark.TheVariants as marks
use Rattle.pc_proof.specs.declared.answer.End.{End}
use Rattle.pc_proof.specs.declared.answer.Answer.{Answer}
use Rattle.pc_proof.specs.declared.document.BlockTree.{BlockTree}
use Rattle.pc_proof.specs.declared.document.BlockTree.TheVariants as trees
use Rattle.pc_proof.specs.declared.document.Block.{Block}
use Rattle.pc_proof.specs.declared.document.Document.{Document}
use Rattle.pc_document_format.specs.Lines.{lines_text}
use Rattle.pc_document_format.specs.Formats.{Lines, nodes_text, items_text}
use Rattle.pc_document_lines.specs.NodeLines.{node_text, bare}
use Rattle.pc_document_lines.specs.declared.tags.Side.{Side}
use Rattle.pc_document_lines.specs.declared.tags.Side.TheVariants.{Low as low, High as high}
use Rattle.pc_document_lines.specs.declared.tags.ProofLine.TheVariants.{Rows as rows, Tree as tree, At as at, Values as values}
use Rattle.pc_document_lines.specs.ValueLines.{end_text, outer_text, proof_text}
use Rattle.pc_document_lines.specs.TokenLines.{run_text, cut_node_text, bare_cut, group_text, query_line_text}
use Rattle.pc_document.specs.declared.tags.After.{After}

abbrev pub tree_lines : Tree → Lines
tree_lines t = nodes_text (λ node. node_text (bare node)) t.nodes

abbrev pub runs_lines : Schema → List Run → Lines
runs_lines schema runs = items_text (λ run. run_text schema run ∷ []) runs

-- ---- proofs

abbrev pub proof_lines : Schema → Query → Proof → Lines
proof_lines schema query proofs.Rows = proof_text schema query rows ∷ []
proof_lines schema query (proofs.Tree t) = proof_text schema query tree ∷ tree_lines t
proof_lines schema query (proofs.At ratio t) = proof_text schema query (at ratio) ∷ tree_lines t
proof_lines schema query proofs.Values = proof_text schema query values ∷ []

-- an outer end and what shows it
abbrev pub bounded_lines : Schema → Query → Side → Bounded → Lines
bounded_lines schema query side b = outer_text schema query side b.value ∷ proof_lines schema query b.proof

abbrev pub crossing_lines : Schema → Query → Bounded → Bounded → Lines
crossing_lines schema query first second = bounded_lines schema query low first ++ bounded_lines schema query high second

-- ---- the relation

abbrev pub why_lines : Schema → Query → Why → Lines
why_lines schema query (whys.Void t) = codes "by void" ∷ tree_lines t
why_lines schema query (whys.Cross t u) = codes "by cross" ∷ (tree_lines t ++ tree_lines u)
why_lines schema query (whys.Ends first second) = codes "by ends" ∷ crossing_lines schema query first second

abbrev pub relation_lines : Schema → Query → Relation → Lines
relation_lines schema query (relations.Possible runs) = codes "relation possible" ∷ runs_lines schema runs
relation_lines schema query (relations.Impossible why) = codes "relation impossible" ∷ why_lines schema query why
relation_lines schema query relations.Undecided = codes "relation undecided" ∷ []

-- ---- what the aggregate lacks

abbrev pub never_lines : NeverBy → Lines
never_lines nevers.Rows = codes "by rows" ∷ []
never_lines (nevers.Tree t) = codes "by tree" ∷ tree_lines t

abbrev pub always_lines : Schema → Query → AlwaysBy → Lines
always_lines schema query (alwayses.Tree t) = codes "by tree" ∷ tree_lines t
always_lines schema query (alwayses.Ends first second) = codes "by ends" ∷ crossing_lines schema query first second

abbrev pub lack_lines : Schema → Query → Lack → Lines
lack_lines schema query lacks.Silent = []
lack_lines schema query (lacks.Never by') = codes "none never" ∷ never_lines by'
lack_lines schema query (lacks.Sometimes without with') = codes "none sometimes" ∷ (runs_lines schema without ++ (codes "some" ∷ runs_lines schema with'))
lack_lines schema query (lacks.Always by') = codes "none always" ∷ always_lines schema query by'
lack_lines schema query lacks.Undecided = codes "none undecided" ∷ []

-- ---- the ends

abbrev pub mark_lines : Schema → Query → Side → End → Mark → Lines
mark_lines schema query side end (marks.Exact runs) =
    end_text schema query side (record { value = end.value; exact = true }) ∷ (runs_lines schema runs ++ proof_lines schema query end.proof)
mark_lines schema query side end marks.Outer = end_text schema query side (record { value = end.value; exact = false }) ∷ proof_lines schema query end.proof

abbrev pub end_lines : Schema → Query → Side → End → Lines
end_lines schema query side end = mark_lines schema query side end end.mark

abbrev pub ends_lines : Schema → Query → Option (End × End) → Lines
ends_lines schema query None = []
ends_lines schema query (Some ends) = end_lines schema query low ends.0 ++ end_lines schema query high ends.1

abbrev pub after_lines : Schema → Query → After → Lines
after_lines schema query after = lack_lines schema query after.lack ++ ends_lines schema query after.ends

abbrev pub answer_lines : Schema → Query → Answer → Lines
answer_lines schema query answer = relation_lines schema query answer.relation ++ after_lines schema query (record { lack = answer.lack; ends = answer.ends })

-- ---- blocks

abbrev pub name_lines : Schema → Option ℕ → Option ℕ → Lines
name_lines schema None name = []
name_lines schema (Some group) None = []
name_lines schema (Some group) (Some place) = group_text schema group place ∷ []

abbrev pub cut_tree_lines : Schema → CutTree → Lines
cut_tree_lines schema t = nodes_text (λ node. cut_node_text schema (bare_cut node)) t.nodes

abbrev pub block_tree_lines : Schema → BlockTree → Lines
block_tree_lines schema (trees.Own t) = codes "tree own" ∷ cut_tree_lines schema t
block_tree_lines schema trees.Same = codes "tree same" ∷ []

abbrev pub block_lines : Schema → Block → Lines
block_lines schema b =
    query_line_text schema b.query ∷ (name_lines schema b.query.group b.name ++ (block_tree_lines schema b.tree ++ answer_lines schema b.query b.answer))

abbrev pub document_lines : Schema → Document → Lines
document_lines schema doc = codes "pc 1" ∷ (items_text (block_lines schema) doc.blocks ++ (codes "end" ∷ []))

-- each line ends with a line feed
unfoldable pub document_text : Schema → Document → List ℕ
document_text schema doc = lines_text (document_lines schema doc)
