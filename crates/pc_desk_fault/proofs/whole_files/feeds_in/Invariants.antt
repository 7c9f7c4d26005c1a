use Rattle.std.proofs.Common.{◌≡◌, ◌≤◌, ◌+◌, drop}
use Rattle.pc_desk_fault.specs.WholeFiles.{feeds_in}
use Rattle.pc_desk_fault.proofs.whole_files.feeds_in.Given as goal

-- what is left decides
abbrev pub invariant-loop-byte : goal.invariant-loop-byte
invariant-loop-byte l = record {
  same : feeds_in l.text ≡ l.count + feeds_in (drop l.byte-index l.text);
  within : l.count ≤ l.byte-index;
}
