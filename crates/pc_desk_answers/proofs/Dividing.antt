-- Trees that are divided for one question after the other.
use Rattle.std.proofs.Common.{◌≡◌, ℕ, ◌+◌, ◌<◌, List, length, get_or, take, All, subst}
use Rattle.std.proofs.lemmas.List.Elements.{All-more, All-weaker}
use Rattle.pc_group.specs.Wanted.{Wanted, wanted_by}
use Rattle.pc_desk_answers.specs.declared.question.Question.{Question}
use Rattle.pc_desk_answers.specs.declared.question.Question.TheVariants.{Plain, Share}
use Rattle.pc_desk_answers.specs.declared.trees.Trees.{Trees}
use Rattle.pc_desk_answers.specs.Blocks.{Ground}
use Rattle.pc_desk_answers.specs.Divided.{AreDivided, IsDivided}

pub divided_more : (ground : Ground) (before after : Trees) → ((other : Question) → IsDivided ground before other → IsDivided ground after other) →
    (questions : List Question) (i : ℕ) (question : Question) → i < length questions → question ≡ get_or questions i question → IsDivided ground after question →
    All (IsDivided ground before) (take i questions) → All (IsDivided ground after) (take (i + 1) questions)
divided_more ground before after still questions i question inside is divided earlier =
    All-more (IsDivided ground after) questions i question inside (All-weaker (IsDivided ground before) (IsDivided ground after) still (take i questions) earlier) (subst (IsDivided ground after) is divided)

-- what keeps its blocks keeps its questions
pub questions_still : (ground : Ground) (before after : Trees) → ((blocks : List Wanted) → AreDivided ground before blocks → AreDivided ground after blocks) → (other : Question) → IsDivided ground before other → IsDivided ground after other
questions_still ground before after still (Plain query) divided = still (wanted_by ground.schema query) divided
questions_still ground before after still (Share asked) divided = tt
