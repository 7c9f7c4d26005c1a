-- The answer that the cells, what was found and both ends give.
use Rattle.std.specs.Prelude.{◌≡◌, ⊤, ℕ, ◌≤◌, ℤ, nat_abs, int_le, Bool, cond, List, ◌++◌, length, All, Any, Some, None}
use Rattle.pc_num.specs.Scaled.{greatest_size}
use Rattle.pc_model.specs.declared.row.Row.{Row}
use Rattle.pc_model.specs.Runs.{runs_from}
use Rattle.pc_program_bound.specs.Allocation.{IsProgram, cells_of}
use Rattle.pc_branch.specs.Ends.{HasSmallGains}
use Rattle.pc_proof.specs.declared.answer.Lack.{Lack}
use Rattle.pc_proof.specs.declared.answer.Lack.TheVariants as said
use Rattle.pc_proof.specs.declared.answer.Mark.{Mark}
use Rattle.pc_proof.specs.declared.answer.Mark.TheVariants as marks
use Rattle.pc_proof.specs.declared.answer.Relation.{Relation}
use Rattle.pc_proof.specs.declared.answer.Relation.TheVariants as told
use Rattle.pc_proof.specs.Setting.{Setting, cells, seen_numbers}
use Rattle.pc_branch_licences.specs.Pools.{AreLawful}
use Rattle.pc_agg.specs.declared.grounds.Grounds.{Grounds}
use Rattle.pc_agg.specs.declared.settling.Settled.{Settled}
use Rattle.pc_agg.specs.Extremes.{relation_from, IsLackFrom}
use Rattle.pc_agg.specs.Marks.{ShowsFirst}
use Rattle.pc_agg.specs.Settling.{AreRowsOfCells}
use Rattle.pc_agg_search.specs.declared.extreme.Extreme.{Extreme}
use Rattle.pc_agg_search.specs.declared.extreme.Extreme.TheVariants.{Low, High}
use Rattle.pc_agg_search.specs.Ends.{signed}
use Rattle.pc_agg_search.specs.Problem.{IsEasyFor}
use Rattle.pc_agg_search.specs.Wants.{IsFound, IsMet}
use Rattle.pc_quantile.specs.declared.answer.QuantileAnswer.{QuantileAnswer}
use Rattle.pc_quantile.specs.declared.answer.QuantileEnd.{QuantileEnd}
use Rattle.pc_quantile.specs.declared.answer.QuantileLack.{QuantileLack}
use Rattle.pc_quantile.specs.declared.answer.QuantileLack.TheVariants as lacks
use Rattle.pc_quantile.specs.declared.answer.QuantileRelation.{QuantileRelation}
use Rattle.pc_quantile.specs.declared.answer.QuantileRelation.TheVariants as relations
use Rattle.pc_quantile.specs.declared.bounds.Pair.{Pair}
use Rattle.pc_quantile.specs.declared.bounds.Pair.TheVariants as pairs
use Rattle.pc_quantile.specs.declared.measure.Measure.{Measure}
use Rattle.pc_lang.specs.declared.quantile.Quantile.{Quantile}
use Rattle.pc_quantile.specs.declared.stand.Stand.{Stand}
use Rattle.pc_quantile.specs.declared.stand.Stood.{Stood}
use Rattle.pc_quantile.specs.declared.stand.Stood.TheVariants as stoods
use Rattle.pc_quantile.specs.Climbing.{AllowsNone, HaveValue, IsStand}
use Rattle.pc_quantile.specs.Licensed.{IsOwed, question_of}
use Rattle.pc_quantile.specs.Measure.{cells_for, has_numbers}

-- ---- without what shows it

abbrev pub told_relation : Relation → QuantileRelation
told_relation (told.Possible runs) = relations.Possible runs
told_relation (told.Impossible why) = relations.Impossible
told_relation told.Undecided = relations.Undecided

abbrev pub told_lack : Lack → QuantileLack
told_lack said.Silent = lacks.Silent
told_lack (said.Never by') = lacks.Never
told_lack (said.Sometimes without with') = lacks.Sometimes without with'
told_lack (said.Always by') = lacks.Always
told_lack said.Undecided = lacks.Undecided

-- ---- both ends

-- both ends, over what was found before and by the searches of the ends
pub record AreStands (s : Setting) (budget : ℕ) (seen : List ℤ) (asked : Quantile) (before : List (List ℕ)) (low high : Stand) (found : List (List ℕ)) : Type 0 where
  pub more : List (List ℕ)
  pub grown : found ≡ before ++ more
  pub lawful : All (AreLawful s) more
  pub low_stands : IsStand s budget seen Low asked found low
  pub high_stands : IsStand s budget seen High asked found high

abbrev pub IsPair : Setting → ℕ → List ℤ → Quantile → List (List ℕ) → Pair → Type 0
IsPair s budget seen asked before (pairs.At low high found) = AreStands s budget seen asked before low high found
IsPair s budget seen asked before pairs.Empty = AllowsNone s

abbrev pub IsPairOf : Measure → List (List ℕ) → Pair → Type 0
IsPairOf m found pair = IsPair (cells_for m) m.problem.nodes m.seen.now m.asked.now found pair

abbrev pub IsPairSurely : Pair → Type 0
IsPairSurely (pairs.At low high found) = Any (IsFound low.program low.want) found × Any (IsFound high.program high.want) found
IsPairSurely pairs.Empty = ⊤

-- the low end, with what the search of the high one came to
abbrev pub pair_at : Stand → Stood → Pair
pair_at low (stoods.At on) = pairs.At low on.stand on.found
pair_at low stoods.Empty = pairs.Empty

-- ---- the answer

abbrev pub impossible : QuantileAnswer
impossible = record { relation = relations.Impossible; lack = lacks.Silent; ends = None }

abbrev pub always_as : QuantileRelation → QuantileAnswer
always_as relation = record { relation = relation; lack = lacks.Always; ends = None }

-- ends that cross leave nothing possible where rows were observed, and else no list with a row
abbrev pub crossed : Bool → QuantileRelation → QuantileAnswer
crossed observed relation = cond observed impossible (always_as relation)

abbrev pub judged : Bool → QuantileRelation → QuantileLack → QuantileEnd → QuantileEnd → QuantileAnswer
judged observed relation lack low high =
    cond (int_le low.value high.value) (record { relation = relation; lack = lack; ends = Some (low, high) }) (crossed observed relation)

-- ---- marks

-- what an end needs of its stand and of what was found
pub record CanMark (found : List (List ℕ)) (stand : Stand) : Type 0 where
  pub program : IsProgram stand.program
  pub gains : HasSmallGains stand.program
  pub met : All (IsMet stand.program) found
  pub picked : length stand.picks ≡ cells_of stand.program
  pub small : nat_abs stand.key ≤ greatest_size

-- and that it has a row of each cell
abbrev pub CanEnd : Setting → List (List ℕ) → Stand → Type 0
CanEnd s found stand = CanMark found stand × (length stand.picks ≡ length (cells s))

-- the runs of counts that were found and are wanted; or none of those that were found is
abbrev pub IsMarkedBy : Stand → List (List ℕ) → Mark → Type 0
IsMarkedBy stand found (marks.Exact runs) = Any (λ counts. IsFound stand.program stand.want counts × (runs ≡ runs_from stand.picks counts)) found
IsMarkedBy stand found marks.Outer = All (λ counts. IsFound stand.program stand.want counts → ⊥) found

pub record IsEndAt (extreme : Extreme) (stand : Stand) (found : List (List ℕ)) (end : QuantileEnd) : Type 0 where
  pub value : end.value ≡ signed extreme stand.key
  pub marked : IsMarkedBy stand found end.mark
  pub first : ShowsFirst (IsFound stand.program stand.want) stand.picks found end.mark

pub record IsJudgedOver (observed : Bool) (settled : Settled) (low high : Stand) (answer : QuantileAnswer) : Type 0 where
  pub low_end : QuantileEnd
  pub high_end : QuantileEnd
  pub low_is : IsEndAt Low low settled.found low_end
  pub high_is : IsEndAt High high settled.found high_end
  pub answer_is : answer ≡ judged observed (told_relation settled.relation) (told_lack settled.lack) low_end high_end

pub record IsJudged (s : Setting) (observed : Bool) (grounds : Grounds) (low high : Stand) (answer : QuantileAnswer) : Type 0 where
  pub low_end : QuantileEnd
  pub high_end : QuantileEnd
  pub lack : Lack
  pub low_is : IsEndAt Low low grounds.found low_end
  pub high_is : IsEndAt High high grounds.found high_end
  pub lack_is : IsLackFrom s low.picks grounds.found grounds.lacking lack
  pub answer_is : answer ≡ judged observed (told_relation (relation_from low.picks grounds.found)) (told_lack lack) low_end high_end

-- no list has a row, by a row of each cell
pub record IsAlwaysFrom (m : Measure) (found : List (List ℕ)) (answer : QuantileAnswer) : Type 0 where
  pub picks : List Row
  pub rows : AreRowsOfCells (cells_for m) picks
  pub answer_is : answer ≡ always_as (told_relation (relation_from picks found))

-- there is no list, or the answer is that of what was found in the end
abbrev pub IsAnswerOf : Measure → Grounds → QuantileAnswer → Pair → Type 0
IsAnswerOf m before answer (pairs.At low high found) = IsJudged (cells_for m) (has_numbers m.seen.now) (record { lacking = before.lacking; found = found }) low high answer
IsAnswerOf m before answer pairs.Empty = answer ≡ impossible

-- both ends were sought
pub record IsBetween (m : Measure) (before : Grounds) (answer : QuantileAnswer) : Type 0 where
  pub pair : Pair
  pub pair_is : IsPairOf m before.found pair
  pub sure : IsEasyFor m.problem → HaveValue m before.found → IsPairSurely pair
  pub answer_is : IsAnswerOf m before answer pair

-- whatever rows were observed that have these numbers
abbrev pub IsOwedFor : Measure → QuantileAnswer → Type 0
IsOwedFor m answer =
    (observed : List Row) →
    seen_numbers (question_of m.problem.schema.now observed m.problem.constraints.now m.asked.now) ≡ m.seen.now →
    IsOwed (record { question = question_of m.problem.schema.now observed m.problem.constraints.now m.asked.now; nodes = m.problem.cells.now.tree.nodes }) m.asked.now m.problem.nodes answer
