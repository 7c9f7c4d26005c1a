-- Why constraints allow no lost rows: what some need is more than others have room for, or which of them contradict each other.
use Rattle.std.specs.Prelude.{◌≡◌, ⊤, ℕ, ℤ, List}
use Rattle.pc_model.specs.declared.constraint.Constraint.{Constraint}
use Rattle.pc_model.specs.declared.schema.Schema.{Schema}
use Rattle.pc_conflict.specs.declared.conflict.Conflict.{Conflict}
use Rattle.pc_conflict.specs.declared.conflict.Conflict.TheVariants.{Possible, Core, Undecided}
use Rattle.pc_conflict.specs.Conflicts.{IsConflict}
use Rattle.pc_desk_short.specs.declared.clash.Clash.{Clash}
use Rattle.pc_desk_short.specs.declared.clash.Clash.TheVariants as clashes
use Rattle.pc_desk_short.specs.declared.shortage.Shortage.{Shortage}
use Rattle.pc_desk_short.specs.Shortage.{IsShort, shortage_of}

-- some weights show the shortage
abbrev pub IsShortage : Schema → List Constraint → Shortage → Type 0
IsShortage schema constraints shortage =
    (weights : List ℤ) × IsShort schema constraints weights × (shortage ≡ shortage_of constraints weights)

abbrev pub IsClash : Schema → List Constraint → ℕ → Clash → Type 0
IsClash schema constraints nodes (clashes.Short shortage) = IsShortage schema constraints shortage
IsClash schema constraints nodes (clashes.Conflict conflict) = IsConflict schema constraints nodes conflict

-- the constraints that contradict each other are found
abbrev pub HasCore : Conflict → Type 0
HasCore (Possible runs) = ⊥
HasCore (Core members without) = ⊤
HasCore (Undecided tested) = ⊥

-- it tells why: by one sum, or by the constraints that contradict each other
abbrev pub TellsWhy : Clash → Type 0
TellsWhy (clashes.Short shortage) = ⊤
TellsWhy (clashes.Conflict conflict) = HasCore conflict
