-- The lines of a script, with their numbers.
use Rattle.std.proofs.Common.{◌≡◌, ℕ, List, Ok, refl}
use Rattle.pc_model.specs.declared.fault.Refusal.{Refusal}
use Rattle.pc_model.specs.declared.fault.Refusal.TheVariants as refusals
use Rattle.pc_model.specs.declared.schema.Schema.{Schema}
use Rattle.pc_model.specs.Refusals.{RefusesAs}
use Rattle.pc_session.specs.Edited.{Held}
use Rattle.pc_session.specs.declared.line.Line.{Line}
use Rattle.pc_script.specs.Numbers.{said_lines}
use Rattle.pc_script.specs.Script.{script_of}
use Rattle.pc_files.specs.Outcome.{numbered_script}

module _ (schema : Schema) (start : Held) (bytes : List ℕ) where
  pub numbered : (lines : List Line) (numbers : List ℕ) → script_of schema start bytes ≡ Ok lines → numbers ≡ said_lines bytes → numbered_script schema start bytes ≡ Ok (record { lines = lines; numbers = numbers })
  numbered lines numbers read said = rw (read, said) refl

  pub refused : (refusal : Refusal) → RefusesAs refusal (script_of schema start bytes) → RefusesAs refusal (numbered_script schema start bytes)
  refused (refusals.Fault fault) refuses = rw refuses refl
  refused refusals.Memory refuses = tt

pub ruleset reads = (numbered, refused)
