-- No entry that was passed has the name.
use Rattle.std.proofs.Common.{◌≡◌, drop}
use Rattle.pc_base.specs.Files.{file_of}
use Rattle.pc_base.proofs.memory_shelf.bytes_of.Given as goal

-- what is left decides
abbrev pub invariant-loop-entry : goal.invariant-loop-entry
invariant-loop-entry l = file_of l.files l.name ≡ file_of (drop l.entry-index l.files) l.name
