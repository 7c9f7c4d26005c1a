use Rattle.std.proofs.Common.{◌≡◌, ◌-◌, ◌^◌}
use Rattle.pc_desk_draw.specs.Axes.{first_step, round_numbers, step_for}
use Rattle.pc_desk_draw.proofs.axis.step_for.Given as goal

-- what is left decides
abbrev pub invariant-loop : goal.invariant-loop
invariant-loop l = record {
  power : l.power ≡ 10 ^ l.counter;
  found : first_step l.length (round_numbers l.power (38 - l.counter)) ≡ step_for l.length;
}
