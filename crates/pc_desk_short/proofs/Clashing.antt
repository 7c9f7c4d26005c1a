-- Constraints of which a clash tells why allow no lost rows.
use Rattle.std.proofs.Common.{ℕ, zero, suc, List}
use Rattle.pc_model.specs.declared.constraint.Constraint.{Constraint}
use Rattle.pc_model.specs.declared.schema.Schema.{Schema}
use Rattle.pc_conflict.specs.declared.conflict.Conflict.{Conflict}
use Rattle.pc_conflict.specs.declared.conflict.Conflict.TheVariants.{Possible, Core, Undecided}
use Rattle.pc_conflict.specs.Conflicts.{IsConflict}
use Rattle.pc_conflict.specs.Deletion.{AreContrary, AreKept}
use Rattle.pc_desk_short.specs.declared.clash.Clash.{Clash}
use Rattle.pc_desk_short.specs.declared.clash.Clash.TheVariants as clashes
use Rattle.pc_desk_short.specs.Clashes.{HasCore, IsClash, TellsWhy}
use Rattle.pc_desk_short.proofs.Impossible.{short_is_impossible}

module _ (schema : Schema) (constraints : List Constraint) where
  -- what is kept after any of the tests begins with the test of all
  all_contrary : (place : ℕ) (kept : List ℕ) → AreKept schema constraints place kept → AreContrary schema constraints
  all_contrary zero kept are = are.0
  all_contrary (suc place) kept are = all_contrary place are.0 are.1

  conflicts_contrary : (nodes : ℕ) (conflict : Conflict) → IsConflict schema constraints nodes conflict → HasCore conflict → AreContrary schema constraints
  conflicts_contrary nodes (Possible runs) is core = absurd core
  conflicts_contrary nodes (Core members without) is core = all_contrary _ members is.kept
  conflicts_contrary nodes (Undecided tested) is core = absurd core

  pub clashes_contrary : (nodes : ℕ) (clash : Clash) → IsClash schema constraints nodes clash → TellsWhy clash → AreContrary schema constraints
  clashes_contrary nodes (clashes.Short shortage) is tells = λ rows possible. short_is_impossible schema constraints rows possible is.0 is.1
  clashes_contrary nodes (clashes.Conflict conflict) is tells = conflicts_contrary nodes conflict is tells
