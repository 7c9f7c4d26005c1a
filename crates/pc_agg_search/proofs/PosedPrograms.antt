-- The programs of the cells of a problem.
use Rattle.std.proofs.Common.{◌≡◌, ◌≤◌, Bool, List, [], length, map, All}
use Rattle.std.specs.Prelude.{ℤ, nat_abs}
use Rattle.pc_model.specs.Cells.{Class}
use Rattle.pc_program_bound.specs.declared.program.Program.{Program}
use Rattle.pc_program_bound.specs.Allocation.{IsProgram}
use Rattle.pc_program_bound.specs.CellPrograms.{program_with}
use Rattle.pc_branch.specs.Ends.{HasSmallGains}
use Rattle.pc_branch.specs.Outcome.{IsEasyProgram}
use Rattle.pc_cells.specs.Found.{class_of_cell}
use Rattle.pc_proof.specs.Setting.{cells, program_for, program_without}
use Rattle.pc_agg_search.specs.declared.problem.Problem.{Problem}
use Rattle.pc_agg_search.specs.Limits.{greatest_gain}
use Rattle.pc_agg_search.specs.Problem.{IsEasyFor, IsPosed, gained_program, setting_of}
use Rattle.pc_agg_search.proofs.SettledPrograms.{classes_are, cells_program, cells_small, cells_easy, program_is}
use Rattle.pc_agg_search.proofs.UnseenPrograms as unseens

module _ (problem : Problem) (posed : IsPosed problem) where
  pub own_classes : map class_of_cell problem.cells.now.cells ≡ cells (setting_of problem)
  own_classes =
      classes_are problem.schema.now problem.constraints.now problem.query.now.chosen problem.cells.now.tree.nodes problem.cells.now.cells [] posed.formed posed.found.tree posed.found.listed

  -- ---- a gain for each cell

  module _ (gains : List ℤ) (p : Program) (is : p ≡ program_with problem.constraints.now (map class_of_cell problem.cells.now.cells) gains) where
    pub gained_is : p ≡ gained_program problem gains
    gained_is =
        program_is problem.schema.now problem.constraints.now problem.query.now.chosen problem.cells.now.tree.nodes problem.cells.now.cells gains posed.formed posed.found.tree posed.found.listed p is

    module _ (sized : length gains ≡ length problem.cells.now.cells) where
      pub gained_formed : IsProgram p
      gained_formed =
          cells_program problem.schema.now problem.constraints.now problem.query.now.chosen problem.cells.now.tree.nodes problem.cells.now.cells gains posed.formed posed.found.tree posed.found.listed p is
          posed.limited sized

      module _ (small : All (λ gain. nat_abs gain ≤ greatest_gain) gains) where
        pub gained_small : HasSmallGains p
        gained_small =
            cells_small problem.schema.now problem.constraints.now problem.query.now.chosen problem.cells.now.tree.nodes problem.cells.now.cells gains posed.formed posed.found.tree posed.found.listed p is
            posed.limited sized small

        pub gained_easy : IsEasyFor problem → IsEasyProgram p
        gained_easy easy =
            cells_easy problem.schema.now problem.constraints.now problem.query.now.chosen problem.cells.now.tree.nodes problem.cells.now.cells gains posed.formed posed.found.tree posed.found.listed p is
            posed.limited easy sized small

  -- ---- a gain by class

  module _ (gain : Class → ℤ) where
    pub for_program : IsProgram (program_for (setting_of problem) gain)
    for_program = unseens.for_program problem.schema.now problem.constraints.now problem.query.now problem.cells.now.tree.nodes posed.formed posed.limited posed.found.tree gain

    module _ (small : (class : Class) → nat_abs (gain class) ≤ greatest_gain) where
      pub for_small : HasSmallGains (program_for (setting_of problem) gain)
      for_small = unseens.for_small problem.schema.now problem.constraints.now problem.query.now problem.cells.now.tree.nodes posed.formed posed.limited posed.found.tree gain small

      pub for_easy : IsEasyFor problem → IsEasyProgram (program_for (setting_of problem) gain)
      for_easy easy = unseens.for_easy problem.schema.now problem.constraints.now problem.query.now problem.cells.now.tree.nodes posed.formed posed.limited posed.found.tree gain small easy

  -- ---- chosen cells that are closed

  module _ (closed : Class → Bool) where
    pub without_program : IsProgram (program_without (setting_of problem) closed)
    without_program = unseens.without_program problem.schema.now problem.constraints.now problem.query.now problem.cells.now.tree.nodes posed.formed posed.limited posed.found.tree closed

    pub without_small : HasSmallGains (program_without (setting_of problem) closed)
    without_small = unseens.without_small problem.schema.now problem.constraints.now problem.query.now problem.cells.now.tree.nodes posed.formed posed.limited posed.found.tree closed

    pub without_easy : IsEasyFor problem → IsEasyProgram (program_without (setting_of problem) closed)
    without_easy easy = unseens.without_easy problem.schema.now problem.constraints.now problem.query.now problem.cells.now.tree.nodes posed.formed posed.limited posed.found.tree closed easy
