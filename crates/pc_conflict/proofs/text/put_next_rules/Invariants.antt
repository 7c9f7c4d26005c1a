use Rattle.std.proofs.Common.{◌≡◌, ◌++◌, take}
use Rattle.pc_conflict.specs.Texts.{next_rules_text}
use Rattle.pc_conflict.proofs.text.put_next_rules.Given as goal

abbrev pub invariant-loop-place : goal.invariant-loop-place
invariant-loop-place l = l.out.items ≡ l.fn.out.items ++ next_rules_text l.constraints (take l.place-index l.places)
