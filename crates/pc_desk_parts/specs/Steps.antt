-- A row and the one with its next number, as the code lends them.
use Rattle.std.specs.Prelude.{◌≡◌, ℕ, List, ◌++◌}
use Rattle.pc_model.specs.declared.constraint.Constraint.{Constraint}
use Rattle.pc_model.specs.declared.row.Row.{Row}
use Rattle.pc_model.specs.Membership.{in_domain}
use Rattle.pc_desk_parts.specs.declared.asked.Asked.{Asked}
use Rattle.pc_desk_parts.specs.declared.holds.Step.{Step}
use Rattle.pc_desk_parts.specs.declared.part.Hold.{Hold}
use Rattle.pc_desk_parts.specs.Held.{block_by, column_of, of_each, schema_hold}

abbrev pub step_block : Step → ℕ → Constraint → List Hold
step_block step = block_by step.schema.now step.column step.constraints.now step.row.now step.next.now step.allowed

-- what stands before the next row
abbrev pub step_blocks : Step → List Hold
step_blocks step = of_each (step_block step) step.constraints.now ++ schema_hold step.allowed

-- from a row to its next one, under what is asked
pub record IsStep (ask : Asked) (first second : Row) (step : Step) : Type 0 where
  pub schema : step.schema.now ≡ ask.schema.now
  pub constraints : step.constraints.now ≡ ask.constraints.now
  pub row : step.row.now ≡ first
  pub next : step.next.now ≡ second
  pub column : step.column ≡ column_of ask
  pub allowed : step.allowed ≡ in_domain ask.schema.now second
