-- That the trees of an answer are ones that a search could have made within the budget.
use Rattle.std.specs.Prelude.{ℕ, ◌≤◌, ⊤, None, IfSome, length}
use Rattle.pc_model.specs.declared.tree.Tree.{Tree}
use Rattle.pc_model.specs.declared.query.Agg.{Agg}
use Rattle.pc_model.specs.Aggregate.{Ratio}
use Rattle.pc_program_bound.specs.declared.program.Program.{Program}
use Rattle.pc_program_bound.specs.SplitTrees.{IsInPreorder, tree_of}
use Rattle.pc_branch.specs.Licence.{IsSearchTree}
use Rattle.pc_branch.specs.Outcome.{splits_of}
use Rattle.pc_proof.specs.declared.answer.Proof.{Proof}
use Rattle.pc_proof.specs.declared.answer.Proof.TheVariants as proofs
use Rattle.pc_proof.specs.declared.answer.Why.{Why}
use Rattle.pc_proof.specs.declared.answer.Why.TheVariants as whys
use Rattle.pc_proof.specs.declared.answer.NeverBy.{NeverBy}
use Rattle.pc_proof.specs.declared.answer.NeverBy.TheVariants as nevers
use Rattle.pc_proof.specs.declared.answer.AlwaysBy.{AlwaysBy}
use Rattle.pc_proof.specs.declared.answer.AlwaysBy.TheVariants as alwayses
use Rattle.pc_proof.specs.declared.answer.Relation.{Relation}
use Rattle.pc_proof.specs.declared.answer.Relation.TheVariants as relations
use Rattle.pc_proof.specs.declared.answer.Lack.{Lack}
use Rattle.pc_proof.specs.declared.answer.Lack.TheVariants as lacks
use Rattle.pc_proof.specs.declared.answer.Answer.{Answer}
use Rattle.pc_proof.specs.Setting.{Setting}
use Rattle.pc_proof.specs.Table.{ratio_of, high_program, low_program}

-- the nodes are those of one tree, which is a search tree of the program
pub record IsSearched (p : Program) (budget : ℕ) (t : Tree) : Type 0 where
  pub preorder : IsInPreorder t.nodes
  pub search : IsSearchTree p budget None (splits_of (tree_of t.nodes))

-- of the program that the statement names
abbrev pub HighSearched : Setting → ℕ → Agg → Ratio → Proof → Type 0
HighSearched s budget agg v (proofs.Tree t) = IsSearched (high_program s agg v) budget t
HighSearched s budget agg v (proofs.At r t) = IsSearched (high_program s agg (ratio_of r)) budget t
HighSearched s budget agg v proofs.Rows = ⊤
HighSearched s budget agg v proofs.Values = ⊤

abbrev pub LowSearched : Setting → ℕ → Agg → Ratio → Proof → Type 0
LowSearched s budget agg v (proofs.Tree t) = IsSearched (low_program s agg v) budget t
LowSearched s budget agg v (proofs.At r t) = IsSearched (low_program s agg (ratio_of r)) budget t
LowSearched s budget agg v proofs.Rows = ⊤
LowSearched s budget agg v proofs.Values = ⊤

-- the tree has no more nodes than the budget
abbrev pub HasFewNodes : ℕ → Tree → Type 0
HasFewNodes budget t = length t.nodes ≤ budget

-- the trees by which nothing is possible, by which no list is without a value, and by which none has one
abbrev pub WhySearched : Setting → ℕ → Why → Type 0
WhySearched s budget (whys.Void t) = HasFewNodes budget t
WhySearched s budget (whys.Cross t u) = HasFewNodes budget t × HasFewNodes budget u
WhySearched s budget (whys.Ends low high) =
    LowSearched s budget s.question.query.agg (ratio_of low.value) low.proof × HighSearched s budget s.question.query.agg (ratio_of high.value) high.proof

abbrev pub NeverSearched : ℕ → NeverBy → Type 0
NeverSearched budget nevers.Rows = ⊤
NeverSearched budget (nevers.Tree t) = HasFewNodes budget t

abbrev pub AlwaysSearched : Setting → ℕ → AlwaysBy → Type 0
AlwaysSearched s budget (alwayses.Tree t) = HasFewNodes budget t
AlwaysSearched s budget (alwayses.Ends low high) =
    LowSearched s budget s.question.query.agg (ratio_of low.value) low.proof × HighSearched s budget s.question.query.agg (ratio_of high.value) high.proof

abbrev pub RelationSearched : Setting → ℕ → Relation → Type 0
RelationSearched s budget (relations.Possible runs) = ⊤
RelationSearched s budget (relations.Impossible why) = WhySearched s budget why
RelationSearched s budget relations.Undecided = ⊤

abbrev pub LackSearched : Setting → ℕ → Lack → Type 0
LackSearched s budget lacks.Silent = ⊤
LackSearched s budget (lacks.Never why) = NeverSearched budget why
LackSearched s budget (lacks.Sometimes none given) = ⊤
LackSearched s budget (lacks.Always why) = AlwaysSearched s budget why
LackSearched s budget lacks.Undecided = ⊤

-- each tree that an answer names is of a search within the budget
pub record AreSearched (s : Setting) (budget : ℕ) (answer : Answer) : Type 0 where
  pub relation : RelationSearched s budget answer.relation
  pub lack : LackSearched s budget answer.lack
  pub low : IfSome answer.ends (λ ends. LowSearched s budget s.question.query.agg (ratio_of ends.0.value) ends.0.proof)
  pub high : IfSome answer.ends (λ ends. HighSearched s budget s.question.query.agg (ratio_of ends.1.value) ends.1.proof)
