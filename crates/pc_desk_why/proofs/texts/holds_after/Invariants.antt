use Rattle.std.proofs.Common.{◌≡◌, take}
use Rattle.pc_desk_why.specs.Texts.{holds_after}
use Rattle.pc_desk_why.proofs.texts.holds_after.Given as goal

abbrev pub invariant-loop-hold : goal.invariant-loop-hold
invariant-loop-hold l = l.bytes.items ≡ holds_after l.constraints (take l.hold-index l.holds)
