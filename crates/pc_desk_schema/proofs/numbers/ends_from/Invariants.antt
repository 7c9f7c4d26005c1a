use Rattle.std.proofs.Common.{◌≡◌, take}
use Rattle.pc_model.specs.WellFormed.{IsSpan}
use Rattle.pc_desk_schema.specs.Numbers.{ends_from}
use Rattle.pc_desk_schema.proofs.numbers.ends_from.Given as goal

abbrev pub invariant-loop-text : goal.invariant-loop-text
invariant-loop-text l = record {
  ends : l.ends ≡ ends_from l.scale l.fn.start (take l.text-index l.texts);
  span : IsSpan l.ends.low l.ends.high;
}
