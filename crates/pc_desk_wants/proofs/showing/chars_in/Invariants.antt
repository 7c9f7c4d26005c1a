use Rattle.std.proofs.Common.{◌≡◌, ◌≤◌, take}
use Rattle.pc_desk_wants.specs.Shown.{chars_in}
use Rattle.pc_desk_wants.proofs.showing.chars_in.Given as goal

abbrev pub invariant-loop-byte : goal.invariant-loop-byte
invariant-loop-byte l = record {
  so_far : l.count ≡ chars_in (take l.byte-index l.text);
  within : l.count ≤ l.byte-index;
}
