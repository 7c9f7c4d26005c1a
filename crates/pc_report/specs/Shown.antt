-- Blocks that a report tells apart, and what it tells of them.
use Rattle.std.specs.Prelude.{◌≡◌, ◌<◌, ◌^◌, ℤ, pos, true, ◌||◌, ⊤, List, length, All, Option, IfSome, is_none}
use Rattle.std.specs.List.{AllZip}
use Rattle.pc_num.specs.Fractions.{IsFrac}
use Rattle.pc_num.specs.Signs.{Fits}
use Rattle.pc_num.specs.declared.fraction.Frac.{Frac}
use Rattle.pc_model.specs.declared.schema.Kind.{Kind}
use Rattle.pc_model.specs.declared.schema.Kind.TheVariants.{Int, Dec, Cat}
use Rattle.pc_model.specs.declared.schema.Column.{Column}
use Rattle.pc_model.specs.declared.schema.Schema.{Schema}
use Rattle.pc_model.specs.declared.row.Run.{Run}
use Rattle.pc_model.specs.declared.query.Agg.{Agg}
use Rattle.pc_model.specs.declared.query.Agg.TheVariants as aggs
use Rattle.pc_model.specs.declared.query.Query.{Query}
use Rattle.pc_model.specs.Accepted.{IsQuery}
use Rattle.pc_model.specs.Places.{is_below}
use Rattle.pc_model.specs.Right.{Answer, End, Lack, Mark, Relation, always, always_has_value, exact, impossible, is_always, is_impossible, is_silent, never, outer, possible, silent, sometimes, undecided, unsettled}
use Rattle.pc_proof.specs.declared.document.Block.{Block}
use Rattle.pc_proof.specs.Form.{IsGroupName}
use Rattle.pc_proof.specs.Unbroken.{plain_answer}
use Rattle.pc_report.specs.Units.{frac_of}

-- ---- runs

-- a number that fits, and of a column of names the place of one of them
abbrev pub IsCell : Kind → ℤ → Type 0
IsCell (Int low high) cell = Fits cell
IsCell (Dec scale low high) cell = Fits cell
IsCell (Cat names) cell = is_below (length names) cell ≡ true

abbrev pub IsCellOf : Column → ℤ → Type 0
IsCellOf column cell = IsCell column.kind cell

-- one number per column
pub record IsShownRun (schema : Schema) (run : Run) : Type 0 where
  pub few : run.times < 2 ^ 64
  pub cells : AllZip IsCellOf schema.columns run.row.cells

abbrev pub AreShownRuns : Schema → List Run → Type 0
AreShownRuns schema runs = All (IsShownRun schema) runs

-- ---- parts of answers

abbrev pub IsShownRelation : Schema → Relation → Type 0
IsShownRelation schema (possible runs) = AreShownRuns schema runs
IsShownRelation schema impossible = ⊤
IsShownRelation schema undecided = ⊤

abbrev pub IsShownLack : Schema → Lack → Type 0
IsShownLack schema silent = ⊤
IsShownLack schema never = ⊤
IsShownLack schema (sometimes without with') = AreShownRuns schema without × AreShownRuns schema with'
IsShownLack schema always = ⊤
IsShownLack schema unsettled = ⊤

abbrev pub IsShownMark : Schema → Mark → Type 0
IsShownMark schema (exact runs) = AreShownRuns schema runs
IsShownMark schema outer = ⊤

pub record IsWhole (value : Frac) : Type 0 where
  pub fits : Fits value.num
  pub one : value.den ≡ pos 1

-- a whole number, and of an average a fraction in lowest terms
abbrev pub IsShownValue : Agg → Frac → Type 0
IsShownValue aggs.Count value = IsWhole value
IsShownValue aggs.Sum value = IsWhole value
IsShownValue aggs.Min value = IsWhole value
IsShownValue aggs.Max value = IsWhole value
IsShownValue aggs.Avg value = IsFrac value

pub record IsShownEnd (schema : Schema) (agg : Agg) (end : End) : Type 0 where
  pub value : IsShownValue agg (frac_of end.value)
  pub mark : IsShownMark schema end.mark

abbrev pub AreShownEnds : Schema → Agg → Option (End × End) → Type 0
AreShownEnds schema agg ends = IfSome ends (λ (ends : End × End). IsShownEnd schema agg ends.0 × IsShownEnd schema agg ends.1)

-- ---- answers and blocks

-- an answer of which the lines are read back
pub record IsShownAnswer (schema : Schema) (query : Query) (answer : Answer) : Type 0 where
  pub relation : IsShownRelation schema answer.relation
  pub lack : IsShownLack schema answer.lack
  pub ends : AreShownEnds schema query.agg answer.ends
  pub silent : is_silent answer.lack ≡ (always_has_value query.agg || is_impossible answer.relation)
  pub absent : is_none answer.ends ≡ (is_impossible answer.relation || is_always answer.lack)

-- a block of which the report is read back
pub record IsShown (schema : Schema) (block : Block) : Type 0 where
  pub query : IsQuery schema block.query
  pub named : is_none block.name ≡ is_none block.query.group
  pub name : IsGroupName schema block.query.group block.name
  pub answer : IsShownAnswer schema block.query (plain_answer block.answer)

-- two blocks that say the same, whatever shows it
pub record SaysAlike (a b : Block) : Type 0 where
  pub query : a.query ≡ b.query
  pub name : a.name ≡ b.name
  pub answer : plain_answer a.answer ≡ plain_answer b.answer
