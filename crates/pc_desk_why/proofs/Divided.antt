-- A tree that is divided for one question after the other.
use Rattle.std.proofs.Common.{◌≡◌, ℕ, ◌+◌, ◌<◌, List, length, get_or, take, All, subst}
use Rattle.std.proofs.lemmas.List.Elements.{All-more, All-weaker}
use Rattle.pc_model.specs.declared.constraint.Constraint.{Constraint}
use Rattle.pc_model.specs.declared.schema.Schema.{Schema}
use Rattle.pc_model.specs.declared.tree.CutNode.{CutNode}
use Rattle.pc_group.specs.Trees.{AreDividedFor}
use Rattle.pc_group.specs.Wanted.{Wanted, wanted_by}
use Rattle.pc_desk_answers.specs.declared.question.Question.{Question}
use Rattle.pc_desk_answers.specs.declared.question.Question.TheVariants.{Plain, Share}
use Rattle.pc_desk_why.specs.Scopes.{IsDivided}

module _ (schema : Schema) (constraints : List Constraint) (before after : List CutNode) where
  pub divided_more : ((other : Question) → IsDivided schema constraints before other → IsDivided schema constraints after other) →
      (questions : List Question) (i : ℕ) (question : Question) → i < length questions → question ≡ get_or questions i question → IsDivided schema constraints after question →
      All (IsDivided schema constraints before) (take i questions) → All (IsDivided schema constraints after) (take (i + 1) questions)
  divided_more still questions i question inside is divided earlier =
      let now : Question → Type 0 = IsDivided schema constraints after in
      All-more now questions i question inside (All-weaker (IsDivided schema constraints before) now still (take i questions) earlier) (subst now is divided)

  -- what keeps its blocks keeps its questions
  pub questions_still : ((blocks : List Wanted) → AreDividedFor schema constraints before blocks → AreDividedFor schema constraints after blocks) →
      (other : Question) → IsDivided schema constraints before other → IsDivided schema constraints after other
  questions_still still (Plain query) divided = still (wanted_by schema query) divided
  questions_still still (Share asked) divided = tt
