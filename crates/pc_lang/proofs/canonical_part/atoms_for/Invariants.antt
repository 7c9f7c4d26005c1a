use Rattle.std.proofs.Common.{◌≡◌, ◌++◌, drop}
use Rattle.pc_lang.specs.Canonical.{atoms_for}
use Rattle.pc_lang.proofs.canonical_part.atoms_for.Given as goal

-- what is listed and what is left are the whole
abbrev pub invariant-loop-place : goal.invariant-loop-place
invariant-loop-place l = l.atoms ++ atoms_for (drop l.place l.columns) (drop l.place l.sides) ≡ atoms_for l.columns l.sides
