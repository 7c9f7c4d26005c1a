use Rattle.std.proofs.Common.{◌≡◌, map, take}
use Rattle.pc_nested.specs.Narrowed.{flat}
use Rattle.pc_nested.proofs.starting.without_prices.Given as goal

abbrev pub invariant-loop-step : goal.invariant-loop-step
invariant-loop-step l = l.changed ≡ map flat (take l.step-index l.steps)
