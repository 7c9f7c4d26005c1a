-- What a query is asked over, and what its cells alone say.
use Rattle.std.specs.Prelude.{◌≤◌, ℤ, List}
use Rattle.pc_model.specs.Accepted.{AreConstraints}
use Rattle.pc_agg_search.specs.Easy.{IsEasy}
use Rattle.pc_model.specs.WellFormed.{IsWellFormed}
use Rattle.pc_program_bound.specs.declared.program.Program.{Program}
use Rattle.pc_program_bound.specs.CellPrograms.{program_with}
use Rattle.pc_proof.specs.Setting.{Setting, cells}
use Rattle.pc_agg_search.specs.declared.problem.Problem.{Problem}
use Rattle.pc_agg_search.specs.Asked.{AreCells}
use Rattle.pc_agg_search.specs.Settings.{unseen}

-- what the cells alone say, as if no rows were observed
abbrev pub setting_of : Problem → Setting
setting_of p = unseen p.schema.now p.constraints.now p.query.now p.cells.now.tree.nodes

pub record IsPosed (p : Problem) : Type 0 where
  pub formed : IsWellFormed p.schema.now
  pub limited : AreConstraints p.schema.now p.constraints.now
  pub found : AreCells p.schema.now p.constraints.now p.query.now p.cells.now
  pub nodes : (1 ≤ p.nodes) × (p.nodes ≤ 100_000)

-- every search of the problem ends within its budget
abbrev pub IsEasyFor : Problem → Type 0
IsEasyFor p = IsEasy p.schema.now p.constraints.now

-- the program of the cells with a gain for each
abbrev pub gained_program : Problem → List ℤ → Program
gained_program p gains = program_with p.constraints.now (cells (setting_of p)) gains
