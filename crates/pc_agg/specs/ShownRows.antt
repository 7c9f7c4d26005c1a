-- Which rows the runs of an answer have: of each cell the one that is shown of it.
use Rattle.std.specs.Prelude.{◌⊎◌, ⊤, ℕ, List, All, Option, None, IfSome}
use Rattle.pc_model.specs.declared.row.Row.{Row}
use Rattle.pc_model.specs.declared.row.Run.{Run}
use Rattle.pc_model.specs.Cells.{class_of, boxes_of}
use Rattle.pc_proof.specs.declared.answer.Relation.{Relation}
use Rattle.pc_proof.specs.declared.answer.Relation.TheVariants as relations
use Rattle.pc_proof.specs.declared.answer.Lack.{Lack}
use Rattle.pc_proof.specs.declared.answer.Lack.TheVariants as lacks
use Rattle.pc_proof.specs.declared.answer.Mark.{Mark}
use Rattle.pc_proof.specs.declared.answer.Mark.TheVariants as marks
use Rattle.pc_proof.specs.declared.answer.Answer.{Answer}
use Rattle.pc_proof.specs.Setting.{Setting, leaves}
use Rattle.pc_agg_search.specs.declared.extreme.Extreme.{Extreme}
use Rattle.pc_agg_search.specs.declared.extreme.Extreme.TheVariants.{Low, High}
use Rattle.pc_agg_search.specs.FirstRows.{IsFirstRow}

-- the row of its cell that is shown at an end of a column, or where no column is named
abbrev pub IsShownRow : Setting → Option ℕ → Extreme → Row → Type 0
IsShownRow s column extreme row =
    IsFirstRow column extreme (boxes_of (leaves s) (class_of s.question.constraints s.question.query.chosen row)) row

abbrev pub AreShownRows : Setting → Option ℕ → Extreme → List Run → Type 0
AreShownRows s column extreme runs = All (λ (run : Run). IsShownRow s column extreme run.row) runs

-- those of the low end, or of the first leaves
abbrev pub AreShownLow : Setting → List Run → Type 0
AreShownLow s runs = AreShownRows s s.question.query.column Low runs ⊎ AreShownRows s None Low runs

abbrev pub RelationShown : Setting → Relation → Type 0
RelationShown s (relations.Possible runs) = AreShownLow s runs
RelationShown s (relations.Impossible why) = ⊤
RelationShown s relations.Undecided = ⊤

abbrev pub LackShown : Setting → Lack → Type 0
LackShown s (lacks.Sometimes without given) = AreShownLow s without × AreShownLow s given
LackShown s lacks.Silent = ⊤
LackShown s (lacks.Never by') = ⊤
LackShown s (lacks.Always by') = ⊤
LackShown s lacks.Undecided = ⊤

-- an end is shown by its own rows
abbrev pub MarkShown : Setting → Extreme → Mark → Type 0
MarkShown s extreme (marks.Exact runs) = AreShownRows s s.question.query.column extreme runs
MarkShown s extreme marks.Outer = ⊤

pub record HasShownRows (s : Setting) (answer : Answer) : Type 0 where
  pub relation : RelationShown s answer.relation
  pub lack : LackShown s answer.lack
  pub low : IfSome answer.ends (λ ends. MarkShown s Low ends.0.mark)
  pub high : IfSome answer.ends (λ ends. MarkShown s High ends.1.mark)
