-- That two answers to one question do not gainsay each other.
use Rattle.std.specs.Prelude.{◌≡◌, false, ⊤, IfSome}
use Rattle.pc_model.specs.Aggregate.{IsAtMost, IsSame}
use Rattle.pc_model.specs.Right.{Relation, possible, impossible, undecided, End, Answer, is_outer, is_impossible}

abbrev pub IsExactEnd : End → Type 0
IsExactEnd end = is_outer end.mark ≡ false

-- an exact low end is the same as another exact one, and no outer one lies above it
pub record LowsAgree (own other : End) : Type 0 where
  pub same : IsExactEnd own → IsExactEnd other → IsSame own.value other.value
  pub contained : IsExactEnd own → IsAtMost other.value own.value

-- an exact high end is the same as another exact one, and no outer one lies below it
pub record HighsAgree (own other : End) : Type 0 where
  pub same : IsExactEnd own → IsExactEnd other → IsSame own.value other.value
  pub contained : IsExactEnd own → IsAtMost own.value other.value

-- where the one shows a possible list, the other does not say that there is none
abbrev pub RelationsAgree : Relation → Relation → Type 0
RelationsAgree (possible runs) other = is_impossible other ≡ false
RelationsAgree impossible other = ⊤
RelationsAgree undecided other = ⊤

-- what the one says of its relation and of its exact ends holds of the other
pub record AnswersAgree (own other : Answer) : Type 0 where
  pub relation : RelationsAgree own.relation other.relation
  pub low : IfSome own.ends (λ mine. IfSome other.ends (λ theirs. LowsAgree mine.0 theirs.0))
  pub high : IfSome own.ends (λ mine. IfSome other.ends (λ theirs. HighsAgree mine.1 theirs.1))
