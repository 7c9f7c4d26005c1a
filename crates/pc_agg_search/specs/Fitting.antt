-- Which parts of an answer fit: values of their size, and trees whose multipliers fit. What the parts show says the rest of their form.
use Rattle.std.specs.Prelude.{ℕ, ⊤, IfSome}
use Rattle.std.specs.List.{AllPass}
use Rattle.pc_model.specs.declared.query.Agg.{Agg}
use Rattle.pc_model.specs.declared.tree.Tree.{Tree}
use Rattle.pc_model.specs.Membership.{in_domain}
use Rattle.pc_program_bound.specs.SplitTrees.{IsInPreorder, tree_of}
use Rattle.pc_branch.specs.Outcome.{AreFitLeaves}
use Rattle.pc_branch_licences.specs.Searched.{HasFewNodes}
use Rattle.pc_proof.specs.declared.answer.Proof.{Proof}
use Rattle.pc_proof.specs.declared.answer.Proof.TheVariants as proofs
use Rattle.pc_proof.specs.declared.answer.Bounded.{Bounded}
use Rattle.pc_proof.specs.declared.answer.Why.{Why}
use Rattle.pc_proof.specs.declared.answer.Why.TheVariants as whys
use Rattle.pc_proof.specs.declared.answer.Relation.{Relation}
use Rattle.pc_proof.specs.declared.answer.Relation.TheVariants as relations
use Rattle.pc_proof.specs.declared.answer.NeverBy.{NeverBy}
use Rattle.pc_proof.specs.declared.answer.NeverBy.TheVariants as nevers
use Rattle.pc_proof.specs.declared.answer.AlwaysBy.{AlwaysBy}
use Rattle.pc_proof.specs.declared.answer.AlwaysBy.TheVariants as alwayses
use Rattle.pc_proof.specs.declared.answer.Lack.{Lack}
use Rattle.pc_proof.specs.declared.answer.Lack.TheVariants as lacks
use Rattle.pc_proof.specs.declared.answer.End.{End}
use Rattle.pc_proof.specs.declared.answer.Answer.{Answer}
use Rattle.pc_proof.specs.Setting.{Setting, program_for}
use Rattle.pc_proof.specs.Table.{none, ShowsNone}
use Rattle.pc_proof.specs.Form.{IsFormedRatio, IsFormedValue}

-- each observed row is one of the schema
abbrev pub AreObserved : Setting → Type 0
AreObserved s = AllPass (in_domain s.question.schema) s.question.observed

-- the nodes of one tree in preorder, whose leaves have multipliers that fit
pub record IsFitTree (t : Tree) : Type 0 where
  pub preorder : IsInPreorder t.nodes
  pub leaves : AreFitLeaves (tree_of t.nodes)

-- such a tree with no more nodes than the budget
pub record IsSmallTree (budget : ℕ) (t : Tree) : Type 0 where
  pub fits : IsFitTree t
  pub few : HasFewNodes budget t

-- one that shows that there is no list
pub record IsVoidTree (s : Setting) (budget : ℕ) (t : Tree) : Type 0 where
  pub shows : ShowsNone (program_for s none) t
  pub small : IsSmallTree budget t

abbrev pub IsFitProof : Proof → Type 0
IsFitProof proofs.Rows = ⊤
IsFitProof (proofs.Tree t) = IsFitTree t
IsFitProof (proofs.At ratio t) = IsFormedRatio ratio × IsFitTree t
IsFitProof proofs.Values = ⊤

pub record IsFitBounded (agg : Agg) (b : Bounded) : Type 0 where
  pub value : IsFormedValue agg b.value
  pub proof : IsFitProof b.proof

abbrev pub IsFitWhy : Agg → Why → Type 0
IsFitWhy agg (whys.Void t) = IsFitTree t
IsFitWhy agg (whys.Cross t u) = IsFitTree t × IsFitTree u
IsFitWhy agg (whys.Ends low high) = IsFitBounded agg low × IsFitBounded agg high

abbrev pub IsFitNever : NeverBy → Type 0
IsFitNever nevers.Rows = ⊤
IsFitNever (nevers.Tree t) = IsFitTree t

abbrev pub IsFitAlways : Agg → AlwaysBy → Type 0
IsFitAlways agg (alwayses.Tree t) = IsFitTree t
IsFitAlways agg (alwayses.Ends low high) = IsFitBounded agg low × IsFitBounded agg high

abbrev pub IsFitRelation : Agg → Relation → Type 0
IsFitRelation agg (relations.Possible runs) = ⊤
IsFitRelation agg (relations.Impossible why) = IsFitWhy agg why
IsFitRelation agg relations.Undecided = ⊤

abbrev pub IsFitLack : Agg → Lack → Type 0
IsFitLack agg lacks.Silent = ⊤
IsFitLack agg (lacks.Never by') = IsFitNever by'
IsFitLack agg (lacks.Sometimes without with') = ⊤
IsFitLack agg (lacks.Always by') = IsFitAlways agg by'
IsFitLack agg lacks.Undecided = ⊤

pub record IsFitEnd (agg : Agg) (end : End) : Type 0 where
  pub value : IsFormedValue agg end.value
  pub proof : IsFitProof end.proof

pub record IsFitAnswer (agg : Agg) (answer : Answer) : Type 0 where
  pub relation : IsFitRelation agg answer.relation
  pub lack : IsFitLack agg answer.lack
  pub ends : IfSome answer.ends (λ ends. IsFitEnd agg ends.0 × IsFitEnd agg ends.1)
