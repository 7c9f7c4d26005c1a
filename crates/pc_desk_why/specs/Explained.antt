-- What is explained of the answers to questions.
use Rattle.std.specs.Prelude.{◌≡◌, ⊤, ℕ, ◌||◌, Bool, true, false, List, Option, Some, None, option_map}
use Rattle.std.specs.List.{AllZip}
use Rattle.pc_model.specs.declared.row.Run.{Run}
use Rattle.pc_model.specs.declared.query.Agg.{Agg}
use Rattle.pc_model.specs.declared.query.Agg.TheVariants.{Count, Sum, Min, Max, Avg}
use Rattle.pc_model.specs.declared.query.Query.{Query}
use Rattle.pc_model.specs.Aggregate.{Ratio}
use Rattle.pc_model.specs.Right.{Answer, End, Lack, Mark, Relation, always, exact, impossible, is_impossible, is_outer, never, outer, possible, silent, sometimes, undecided, unsettled}
use Rattle.pc_lang.specs.declared.quantile.Quantile.{Quantile}
use Rattle.pc_proof.specs.Table.{ratio_of}
use Rattle.pc_proof.specs.Unbroken.{plain_answer}
use Rattle.pc_report.specs.Report.{scale_for}
use Rattle.pc_group.specs.Answers.{AnswersWanted}
use Rattle.pc_group.specs.Trees.{Told}
use Rattle.pc_group.specs.Wanted.{Wanted}
use Rattle.pc_quantile.specs.declared.answer.QuantileAnswer.{QuantileAnswer}
use Rattle.pc_quantile.specs.Licensed.{Owes}
use Rattle.pc_quantile.specs.Measured.{least_of}
use Rattle.pc_quantile.specs.Shown.{shown as shown_answer}
use Rattle.pc_desk_table.specs.declared.entry.Group.{Group}
use Rattle.pc_desk_answers.specs.Blocks.{Asked, Ground, block, block_title, quantile, quantile_title}
use Rattle.pc_desk_parts.specs.declared.asked.Asked.{Asked as Ask}
use Rattle.pc_desk_parts.specs.declared.asked.Reached.{Reached}
use Rattle.pc_desk_parts.specs.declared.asked.Side.{Side}
use Rattle.pc_desk_parts.specs.declared.asked.Side.TheVariants.{High, Low}
use Rattle.pc_desk_parts.specs.declared.part.Part.{Part}
use Rattle.pc_desk_parts.specs.Parts.{ArePartsOf}
use Rattle.pc_desk_parts.specs.Sums.{IsSeen, MakeUp, is_folded}
use Rattle.pc_desk_why.specs.declared.explained.Explained.{Explained}
use Rattle.pc_desk_why.specs.declared.explained.Found.{Found}
use Rattle.pc_desk_why.specs.declared.explained.Found.TheVariants.{Ends, Impossible, NoValue}
use Rattle.pc_desk_why.specs.declared.explained.MadeEnd.{MadeEnd}
use Rattle.pc_desk_why.specs.declared.explained.MadeEnd.TheVariants.{NotReached, Parts}

-- what is asked of parts: a query, and a name where it is grouped, under the constraints, over what was observed, by a fold or by
-- numbers
pub record IsAskOf (ground : Ground) (measured : Query) (group_name : Option ℕ) (by_fold : Bool) (ask : Ask) : Type 0 where
  pub schema : ask.schema.now ≡ ground.schema
  pub constraints : ask.constraints.now ≡ ground.constraints
  pub query : ask.query.now ≡ measured
  pub name : ask.name ≡ group_name
  pub seen : IsSeen ask ground.rows ask.seen
  pub folded : is_folded ask.seen ≡ by_fold

-- ---- ends

-- the runs that reach an end of this side and value
pub record IsReachedBy (which : Side) (number : Ratio) (lost : List Run) (reached : Reached) : Type 0 where
  pub side : reached.side ≡ which
  pub value : ratio_of reached.value ≡ number
  pub runs : reached.runs.now ≡ lost

-- such an end is made of these parts
pub record AreMadeOf (ask : Ask) (side : Side) (value : Ratio) (runs : List Run) (parts : List Part) : Type 0 where
  pub reached : Reached
  pub by : IsReachedBy side value runs reached
  pub made : ArePartsOf ask reached parts

-- an exact end is made of its parts, and an outer one is not reached
abbrev pub IsMade : Ask → Side → Ratio → Mark → MadeEnd → Type 0
IsMade ask side value (exact runs) (Parts parts) = AreMadeOf ask side value runs parts
IsMade ask side value (exact runs) NotReached = ⊥
IsMade ask side value outer (Parts parts) = ⊥
IsMade ask side value outer NotReached = ⊤

-- ---- what is found of an answer

pub record AreEndsMade (ask : Ask) (answer : Answer) (low high : MadeEnd) : Type 0 where
  pub ends : End × End
  pub are : answer.ends ≡ Some ends
  pub low_made : IsMade ask Low ends.0.value ends.0.mark low
  pub high_made : IsMade ask High ends.1.value ends.1.mark high

pub record HasNoValue (answer : Answer) : Type 0 where
  pub no_ends : answer.ends ≡ None
  pub not_impossible : is_impossible answer.relation ≡ false

abbrev pub IsFound : Ask → Answer → Found → Type 0
IsFound ask answer (Ends low high) = AreEndsMade ask answer low high
IsFound ask answer NoValue = HasNoValue answer
IsFound ask answer Impossible = is_impossible answer.relation ≡ true

abbrev pub is_undecided : Relation → Bool
is_undecided (possible runs) = false
is_undecided impossible = false
is_undecided undecided = true

abbrev pub is_unsettled : Lack → Bool
is_unsettled silent = false
is_unsettled never = false
is_unsettled (sometimes without with') = false
is_unsettled always = false
is_unsettled unsettled = true

abbrev pub are_outer : Option (End × End) → Bool
are_outer None = false
are_outer (Some ends) = is_outer ends.0.mark || is_outer ends.1.mark

-- something of it is not settled: the relation or the lack is undecided, or an end is outer
abbrev pub is_open : Answer → Bool
is_open answer = is_undecided answer.relation || is_unsettled answer.lack || are_outer answer.ends

-- ---- what is told

-- a count or a sum is what its parts add
abbrev pub is_summed : Agg → Bool
is_summed Count = true
is_summed Sum = true
is_summed Min = false
is_summed Max = false
is_summed Avg = false

-- of an answer to what is asked, under this text and group, the numbers of which have the decimals of the query's column
pub record IsExplained (ground : Ground) (measured : Query) (text : List ℕ) (named : Option Group) (ask : Ask) (answer : Answer) (told : Explained) : Type 0 where
  pub query : told.query ≡ text
  pub group : told.group ≡ option_map (λ (g : Group). g.name) named
  pub places : told.places ≡ scale_for ground.schema measured.column
  pub is_left_open : told.open ≡ is_open answer
  pub is_found : IsFound ask answer told.found

-- an answer to a block
pub record ExplainsBlock (ground : Ground) (w : Wanted) (told : Explained) : Type 0 where
  pub answer : Told
  pub answers : AnswersWanted ground.nodes ground.schema ground.rows ground.constraints w answer
  pub ask : Ask
  pub asks : IsAskOf ground w.query w.name true ask
  pub explains : IsExplained ground w.query (block_title ground w).query (block_title ground w).group ask (plain_answer answer.block.answer) told
  pub sums : told.sums ≡ is_summed w.query.agg

-- .. to a quantile
pub record ExplainsQuantile (ground : Ground) (asked : Quantile) (told : Explained) : Type 0 where
  pub answer : QuantileAnswer
  pub answers : Owes ground.schema ground.rows ground.constraints asked ground.nodes answer
  pub ask : Ask
  pub asks : IsAskOf ground (least_of asked) None false ask
  pub explains : IsExplained ground (least_of asked) (quantile_title ground asked).query (quantile_title ground asked).group ask (plain_answer (shown_answer answer)) told
  pub sums : told.sums ≡ false

abbrev pub Explains : Ground → Asked → Explained → Type 0
Explains ground (block w) told = ExplainsBlock ground w told
Explains ground (quantile asked) told = ExplainsQuantile ground asked told

-- what is explained is what is asked, in its order
abbrev pub AreExplained : Ground → List Asked → List Explained → Type 0
AreExplained ground wanted all = AllZip (Explains ground) wanted all

-- ---- what ends add up to

-- the parts that an end is made of make up its value
abbrev pub AddsUp : Agg → Ratio → MadeEnd → Type 0
AddsUp agg value (Parts parts) = MakeUp agg value parts
AddsUp agg value NotReached = ⊤

-- both ends of an answer do
pub record AddUp (agg : Agg) (answer : Answer) (low high : MadeEnd) : Type 0 where
  pub ends : End × End
  pub are : answer.ends ≡ Some ends
  pub low_adds : AddsUp agg ends.0.value low
  pub high_adds : AddsUp agg ends.1.value high
