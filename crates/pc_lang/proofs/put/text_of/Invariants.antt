use Rattle.std.proofs.Common.{◌≡◌, ◌++◌, drop}
use Rattle.pc_lang.specs.Canonical.{constraints_text}
use Rattle.pc_lang.proofs.put.text_of.Given as goal

abbrev pub invariant-loop-constraint : goal.invariant-loop-constraint
invariant-loop-constraint l = l.text.items ++ constraints_text l.schema (drop l.constraint-index l.constraints) ≡ constraints_text l.schema l.constraints
