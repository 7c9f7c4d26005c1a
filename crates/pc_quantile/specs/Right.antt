-- When an answer to a quantile is right: as for the queries of pc_model, with the quantile for the aggregate's value.
use Rattle.std.specs.Prelude.{◌≡◌, ℤ, ◌≤ℤ◌, ◌||◌, ⊤, List, Some, IsSome, IsNone, IfSome, is_none}
use Rattle.pc_model.specs.declared.row.Row.{Row}
use Rattle.pc_model.specs.declared.row.Run.{Run}
use Rattle.pc_model.specs.Aggregate.{whole}
use Rattle.pc_model.specs.Right.{Question, Relation, Lack, Mark, End, Answer, silent, never, sometimes, always, unsettled, exact, outer, IsPossibleFor, ArePossible, IsRightRelation, MayStand, is_impossible, is_silent, is_always}
use Rattle.pc_model.specs.Runs.{rows_of}
use Rattle.pc_lang.specs.declared.quantile.Quantile.{Quantile}
use Rattle.pc_quantile.specs.Measured.{quantile_of}

-- from low to high lies the quantile of every possible list that has one
abbrev pub ContainsQuantiles : Question → Quantile → ℤ → ℤ → Type 0
ContainsQuantiles q asked low high = (lost : List Row) → IsPossibleFor q lost → IfSome (quantile_of q asked lost) (λ v. (low ≤ℤ v) × (v ≤ℤ high))

-- the runs stand for a possible list that has this quantile
pub record HasQuantile (q : Question) (asked : Quantile) (number : ℤ) (runs : List Run) : Type 0 where
  pub by : ArePossible q runs
  pub has : quantile_of q asked (rows_of runs) ≡ Some number

abbrev pub IsRightLack : Question → Quantile → Lack → Type 0
IsRightLack q asked silent = ⊤
IsRightLack q asked never = (lost : List Row) → IsPossibleFor q lost → IsSome (quantile_of q asked lost)
IsRightLack q asked (sometimes without with') =
    ArePossible q without × IsNone (quantile_of q asked (rows_of without)) × ArePossible q with' × IsSome (quantile_of q asked (rows_of with'))
IsRightLack q asked always = (lost : List Row) → IsPossibleFor q lost → IsNone (quantile_of q asked lost)
IsRightLack q asked unsettled = ⊤

abbrev pub IsRightMark : Question → Quantile → ℤ → Mark → Type 0
IsRightMark q asked number (exact runs) = HasQuantile q asked number runs
IsRightMark q asked number outer = ⊤

-- an end at a number
pub record IsRightEnd (q : Question) (asked : Quantile) (relation : Relation) (number : ℤ) (end : End) : Type 0 where
  pub value : end.value ≡ whole number
  pub mark : IsRightMark q asked number end.mark
  pub stands : MayStand relation end

pub record AreRightEnds (q : Question) (asked : Quantile) (relation : Relation) (low high : End) : Type 0 where
  pub least : ℤ
  pub greatest : ℤ
  pub contains : ContainsQuantiles q asked least greatest
  pub low_end : IsRightEnd q asked relation least low
  pub high_end : IsRightEnd q asked relation greatest high

pub record IsRight (q : Question) (asked : Quantile) (answer : Answer) : Type 0 where
  pub relation : IsRightRelation q answer.relation
  pub lack : IsRightLack q asked answer.lack
  pub said : is_silent answer.lack ≡ is_impossible answer.relation
  pub absent : is_none answer.ends ≡ (is_impossible answer.relation || is_always answer.lack)
  pub ends : IfSome answer.ends (λ ends. AreRightEnds q asked answer.relation ends.0 ends.1)
