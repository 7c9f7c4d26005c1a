use Rattle.std.proofs.Common.{◌≡◌, ◌≤◌, take}
use Rattle.pc_desk_schema.specs.Numbers.{decimals_spelled}
use Rattle.pc_desk_schema.proofs.numbers.decimals_spelled.Given as goal

abbrev pub invariant-loop-text : goal.invariant-loop-text
invariant-loop-text l = record {
  most : l.most ≡ decimals_spelled (take l.text-index l.texts);
  few : l.most ≤ 6;
}
