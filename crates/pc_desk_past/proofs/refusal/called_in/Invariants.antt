use Rattle.std.proofs.Common.{◌≡◌, take}
use Rattle.pc_desk_past.specs.Texts.{called_in}
use Rattle.pc_desk_past.proofs.refusal.called_in.Given as goal

abbrev pub invariant-loop-column : goal.invariant-loop-column
invariant-loop-column l = l.names ≡ called_in (take l.column-index l.columns)
