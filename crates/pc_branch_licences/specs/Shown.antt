-- The lists of runs that an answer shows, and the counts of their rows in the cells.
use Rattle.std.specs.Prelude.{ℕ, List, [], ◌∷◌, ◌++◌, Any, Option, Some, None}
use Rattle.pc_model.specs.declared.row.Run.{Run}
use Rattle.pc_model.specs.Runs.{rows_of}
use Rattle.pc_model.specs.Aggregate.{Ratio}
use Rattle.pc_model.specs.Right.{IsAttained}
use Rattle.pc_program_bound.specs.CellPrograms.{counts_of}
use Rattle.pc_proof.specs.declared.answer.Relation.{Relation}
use Rattle.pc_proof.specs.declared.answer.Relation.TheVariants as relations
use Rattle.pc_proof.specs.declared.answer.Lack.{Lack}
use Rattle.pc_proof.specs.declared.answer.Lack.TheVariants as lacks
use Rattle.pc_proof.specs.declared.answer.Mark.{Mark}
use Rattle.pc_proof.specs.declared.answer.Mark.TheVariants as marks
use Rattle.pc_proof.specs.declared.answer.End.{End}
use Rattle.pc_proof.specs.declared.answer.Answer.{Answer}
use Rattle.pc_proof.specs.Setting.{Setting, area_of, cells}

abbrev pub runs_of_mark : Mark → List (List Run)
runs_of_mark (marks.Exact runs) = runs ∷ []
runs_of_mark marks.Outer = []

abbrev pub runs_of_relation : Relation → List (List Run)
runs_of_relation (relations.Possible runs) = runs ∷ []
runs_of_relation (relations.Impossible why) = []
runs_of_relation relations.Undecided = []

abbrev pub runs_of_lack : Lack → List (List Run)
runs_of_lack lacks.Silent = []
runs_of_lack (lacks.Never why) = []
runs_of_lack (lacks.Sometimes without with') = without ∷ with' ∷ []
runs_of_lack (lacks.Always why) = []
runs_of_lack lacks.Undecided = []

abbrev pub runs_of_ends : Option (End × End) → List (List Run)
runs_of_ends None = []
runs_of_ends (Some ends) = runs_of_mark ends.0.mark ++ runs_of_mark ends.1.mark

-- of the relation, of a lack that comes and goes, and of both ends
abbrev pub shown_runs : Answer → List (List Run)
shown_runs answer = runs_of_relation answer.relation ++ runs_of_lack answer.lack ++ runs_of_ends answer.ends

abbrev pub counts_of_runs : Setting → List Run → List ℕ
counts_of_runs s runs = counts_of s.question.constraints (area_of s.question) (cells s) (rows_of runs)

-- the value is attained by runs that the answer shows
abbrev pub IsShown : Setting → Answer → Ratio → Type 0
IsShown s answer v = Any (λ runs. IsAttained s.question v runs) (shown_runs answer)
