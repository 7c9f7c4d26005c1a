-- Answers and documents in form: which parts they have, the order of their nodes, and the sizes of their numbers.
use Rattle.std.specs.Prelude.{◌≡◌, ℕ, ◌^◌, ◌*◌, ◌<◌, ◌≤◌, ℤ, pos, nat_abs, ◌≤ℤ◌, ⊤, true, ◌||◌, List, length, All, Option, Some, None, IfSome, IsSomeAnd, is_none, slice_get}
use Rattle.std.specs.List.{AllZip}
use Rattle.pc_num.specs.Scaled.{greatest_size}
use Rattle.pc_num.specs.declared.Frac.{Frac}
use Rattle.pc_num.specs.Fractions.{IsFrac}
use Rattle.pc_num.specs.Signs.{Fits}
use Rattle.pc_model.specs.declared.schema.Kind.{Kind}
use Rattle.pc_model.specs.declared.schema.Kind.TheVariants.{Int, Dec, Cat}
use Rattle.pc_model.specs.declared.schema.Column.{Column}
use Rattle.pc_model.specs.declared.schema.Schema.{Schema}
use Rattle.pc_model.specs.declared.row.Run.{Run}
use Rattle.pc_model.specs.declared.query.Agg.{Agg}
use Rattle.pc_model.specs.declared.query.Agg.TheVariants as aggs
use Rattle.pc_model.specs.declared.tree.Cut.{Cut}
use Rattle.pc_model.specs.declared.tree.Cut.TheVariants.{At, Among}
use Rattle.pc_model.specs.declared.tree.LeafMark.{LeafMark}
use Rattle.pc_model.specs.declared.tree.LeafMark.TheVariants as marks_of
use Rattle.pc_model.specs.declared.tree.CutNode.{CutNode}
use Rattle.pc_model.specs.declared.tree.CutNode.TheVariants as cut_nodes
use Rattle.pc_model.specs.declared.tree.CutTree.{CutTree}
use Rattle.pc_model.specs.declared.tree.TreeNode.{TreeNode}
use Rattle.pc_model.specs.declared.tree.TreeNode.TheVariants as nodes
use Rattle.pc_model.specs.declared.tree.Tree.{Tree}
use Rattle.pc_model.specs.Accepted.{IsQuery, IsNumeric}
use Rattle.pc_model.specs.CutTrees as cuts
use Rattle.pc_model.specs.Places.{is_below}
use Rattle.pc_model.specs.Right.{always_has_value, is_always, is_impossible, is_silent}
use Rattle.pc_program_bound.specs.SplitTrees as splits
use Rattle.pc_proof.specs.declared.answer.Proof.{Proof}
use Rattle.pc_proof.specs.declared.answer.Proof.TheVariants as proofs
use Rattle.pc_proof.specs.declared.answer.Bounded.{Bounded}
use Rattle.pc_proof.specs.declared.answer.Why.{Why}
use Rattle.pc_proof.specs.declared.answer.Why.TheVariants as whys
use Rattle.pc_proof.specs.declared.answer.Relation.{Relation}
use Rattle.pc_proof.specs.declared.answer.Relation.TheVariants as relations
use Rattle.pc_proof.specs.declared.answer.NeverBy.{NeverBy}
use Rattle.pc_proof.specs.declared.answer.NeverBy.TheVariants as nevers
use Rattle.pc_proof.specs.declared.answer.AlwaysBy.{AlwaysBy}
use Rattle.pc_proof.specs.declared.answer.AlwaysBy.TheVariants as alwayses
use Rattle.pc_proof.specs.declared.answer.Lack.{Lack}
use Rattle.pc_proof.specs.declared.answer.Lack.TheVariants as lacks
use Rattle.pc_proof.specs.declared.answer.Mark.{Mark}
use Rattle.pc_proof.specs.declared.answer.Mark.TheVariants as marks
use Rattle.pc_proof.specs.declared.answer.End.{End}
use Rattle.pc_proof.specs.declared.answer.Answer.{Answer}
use Rattle.pc_proof.specs.declared.document.BlockTree.{BlockTree}
use Rattle.pc_proof.specs.declared.document.BlockTree.TheVariants as trees
use Rattle.pc_proof.specs.declared.document.Block.{Block}
use Rattle.pc_proof.specs.declared.document.Document.{Document}
use Rattle.pc_proof.specs.Unbroken.{plain_lack, plain_relation}

-- ---- search trees

-- numbers of a line fit, and the multipliers of a void leaf are whole
abbrev pub IsFormedNode : TreeNode → Type 0
IsFormedNode (nodes.Split cell at less more) = (cell < 2 ^ 32) × (at ≤ 10 ^ 18)
IsFormedNode (nodes.Bound m) = (pos 1 ≤ℤ m.den) × Fits m.den × All Fits m.by
IsFormedNode (nodes.Void m) = (m.den ≡ pos 1) × All Fits m.by

-- the nodes of one tree in preorder, and no further ones
pub record IsFormedTree (t : Tree) : Type 0 where
  pub preorder : splits.IsInPreorder t.nodes
  pub nodes : All IsFormedNode t.nodes

-- ---- runs

-- a number of that size, and of a column of names the place of one of them
abbrev pub IsFormedCell : Kind → ℤ → Type 0
IsFormedCell (Int low high) cell = nat_abs cell ≤ greatest_size
IsFormedCell (Dec scale low high) cell = nat_abs cell ≤ greatest_size
IsFormedCell (Cat names) cell = is_below (length names) cell ≡ true

abbrev pub IsFormedCellOf : Column → ℤ → Type 0
IsFormedCellOf column cell = IsFormedCell column.kind cell

-- one number per column
pub record IsFormedRun (schema : Schema) (run : Run) : Type 0 where
  pub times : run.times ≤ 10 ^ 18
  pub cells : AllZip IsFormedCellOf schema.columns run.row.cells

abbrev pub AreFormedRuns : Schema → List Run → Type 0
AreFormedRuns schema runs = All (IsFormedRun schema) runs

-- ---- values

-- a whole number
pub record IsFormedWhole (value : Frac) : Type 0 where
  pub one : value.den ≡ pos 1
  pub small : nat_abs value.num ≤ 10 ^ 31

-- a fraction in lowest terms with a denominator above 0
pub record IsFormedRatio (value : Frac) : Type 0 where
  pub reduced : IsFrac value
  pub small : nat_abs value.num ≤ 3 * 10 ^ 31
  pub few : value.den ≤ℤ pos (3 * 10 ^ 16)

abbrev pub IsFormedValue : Agg → Frac → Type 0
IsFormedValue aggs.Count value = IsFormedWhole value
IsFormedValue aggs.Sum value = IsFormedWhole value
IsFormedValue aggs.Min value = IsFormedWhole value
IsFormedValue aggs.Max value = IsFormedWhole value
IsFormedValue aggs.Avg value = IsFormedRatio value

-- ---- proofs

abbrev pub IsFormedProof : Proof → Type 0
IsFormedProof proofs.Rows = ⊤
IsFormedProof (proofs.Tree t) = IsFormedTree t
IsFormedProof (proofs.At ratio t) = IsFormedRatio ratio × IsFormedTree t
IsFormedProof proofs.Values = ⊤

pub record IsFormedBounded (agg : Agg) (b : Bounded) : Type 0 where
  pub value : IsFormedValue agg b.value
  pub proof : IsFormedProof b.proof

abbrev pub IsFormedWhy : Agg → Why → Type 0
IsFormedWhy agg (whys.Void t) = IsFormedTree t
IsFormedWhy agg (whys.Cross t u) = IsFormedTree t × IsFormedTree u
IsFormedWhy agg (whys.Ends low high) = IsFormedBounded agg low × IsFormedBounded agg high

abbrev pub IsFormedNever : NeverBy → Type 0
IsFormedNever nevers.Rows = ⊤
IsFormedNever (nevers.Tree t) = IsFormedTree t

abbrev pub IsFormedAlways : Agg → AlwaysBy → Type 0
IsFormedAlways agg (alwayses.Tree t) = IsFormedTree t
IsFormedAlways agg (alwayses.Ends low high) = IsFormedBounded agg low × IsFormedBounded agg high

-- ---- answers

abbrev pub IsFormedRelation : Schema → Agg → Relation → Type 0
IsFormedRelation schema agg (relations.Possible runs) = AreFormedRuns schema runs
IsFormedRelation schema agg (relations.Impossible why) = IsFormedWhy agg why
IsFormedRelation schema agg relations.Undecided = ⊤

abbrev pub IsFormedLack : Schema → Agg → Lack → Type 0
IsFormedLack schema agg lacks.Silent = ⊤
IsFormedLack schema agg (lacks.Never by') = IsFormedNever by'
IsFormedLack schema agg (lacks.Sometimes without with') = AreFormedRuns schema without × AreFormedRuns schema with'
IsFormedLack schema agg (lacks.Always by') = IsFormedAlways agg by'
IsFormedLack schema agg lacks.Undecided = ⊤

abbrev pub IsFormedMark : Schema → Mark → Type 0
IsFormedMark schema (marks.Exact runs) = AreFormedRuns schema runs
IsFormedMark schema marks.Outer = ⊤

pub record IsFormedEnd (schema : Schema) (agg : Agg) (end : End) : Type 0 where
  pub value : IsFormedValue agg end.value
  pub mark : IsFormedMark schema end.mark
  pub proof : IsFormedProof end.proof

abbrev pub AreFormedEnds : Schema → Agg → Option (End × End) → Type 0
AreFormedEnds schema agg ends = IfSome ends (λ (ends : End × End). IsFormedEnd schema agg ends.0 × IsFormedEnd schema agg ends.1)

-- a lack exactly where the aggregate can lack a value and the relation is not impossible, and ends exactly where it can have one
pub record IsFormedAnswer (schema : Schema) (agg : Agg) (answer : Answer) : Type 0 where
  pub relation : IsFormedRelation schema agg answer.relation
  pub lack : IsFormedLack schema agg answer.lack
  pub ends : AreFormedEnds schema agg answer.ends
  pub silent : is_silent (plain_lack answer.lack) ≡ (always_has_value agg || is_impossible (plain_relation answer.relation))
  pub absent : is_none answer.ends ≡ (is_impossible (plain_relation answer.relation) || is_always (plain_lack answer.lack))

-- ---- trees of cuts

-- a cut of a column of numbers at one of its size, and one of a column of names among some of them
abbrev pub IsFormedCutOf : Cut → Kind → Type 0
IsFormedCutOf (At column at) kind = IsNumeric kind × (nat_abs at ≤ greatest_size)
IsFormedCutOf (Among column bits) (Int low high) = ⊥
IsFormedCutOf (Among column bits) (Dec scale low high) = ⊥
IsFormedCutOf (Among column bits) (Cat names) = (0 < bits) × (bits < 2 ^ length names)

abbrev pub IsFormedCut : Schema → Cut → Type 0
IsFormedCut schema cut = IsSomeAnd (slice_get schema.columns (cuts.column_of cut)) (λ (column : Column). IsFormedCutOf cut column.kind)

abbrev pub IsFormedMarkOf : LeafMark → Type 0
IsFormedMarkOf marks_of.Barren = ⊤
IsFormedMarkOf (marks_of.Class mask chosen) = mask < 2 ^ 32

abbrev pub IsFormedCutNode : Schema → CutNode → Type 0
IsFormedCutNode schema (cut_nodes.Leaf mark) = IsFormedMarkOf mark
IsFormedCutNode schema (cut_nodes.Inner cut first second) = IsFormedCut schema cut

pub record IsFormedCutTree (schema : Schema) (t : CutTree) : Type 0 where
  pub preorder : cuts.IsInPreorder t.nodes
  pub nodes : All (IsFormedCutNode schema) t.nodes

abbrev pub IsFormedBlockTree : Schema → BlockTree → Type 0
IsFormedBlockTree schema (trees.Own t) = IsFormedCutTree schema t
IsFormedBlockTree schema trees.Same = ⊤

-- ---- blocks

-- the place of one of the names of a column
abbrev pub IsNameOf : ℕ → Kind → Type 0
IsNameOf place (Int low high) = ⊥
IsNameOf place (Dec scale low high) = ⊥
IsNameOf place (Cat names) = place < length names

abbrev pub IsGroupName : Schema → Option ℕ → Option ℕ → Type 0
IsGroupName schema None name = ⊤
IsGroupName schema (Some group) None = ⊤
IsGroupName schema (Some group) (Some place) = IsSomeAnd (slice_get schema.columns group) (λ (column : Column). IsNameOf place column.kind)

-- a name exactly where the query is grouped
pub record IsFormedBlock (schema : Schema) (block : Block) : Type 0 where
  pub query : IsQuery schema block.query
  pub named : is_none block.name ≡ is_none block.query.group
  pub name : IsGroupName schema block.query.group block.name
  pub tree : IsFormedBlockTree schema block.tree
  pub answer : IsFormedAnswer schema block.query.agg block.answer

-- a document that has a text
abbrev pub IsInForm : Schema → Document → Type 0
IsInForm schema doc = All (IsFormedBlock schema) doc.blocks
