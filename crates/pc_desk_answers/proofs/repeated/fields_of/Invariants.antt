use Rattle.std.proofs.Common.{◌≡◌, ◌++◌, drop}
use Rattle.pc_desk_answers.specs.Values.{fields_of}
use Rattle.pc_desk_answers.proofs.repeated.fields_of.Given as goal

abbrev pub invariant-loop-place : goal.invariant-loop-place
invariant-loop-place l = l.fields ++ fields_of (drop l.place l.columns) (drop l.place l.cells) ≡ fields_of l.columns l.cells
