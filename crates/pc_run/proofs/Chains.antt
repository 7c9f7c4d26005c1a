-- Which loads there were of the files of any words.
use Rattle.std.proofs.Common.{◌≡◌, inl, [], Option, Some, None}
use Rattle.pc_run_words.specs.Words.{Asked}
use Rattle.pc_files.specs.Loading.{Reading, IsInOrder}
use Rattle.pc_run.specs.Outcome.{files_of, AreInOrder}

pub order_of_command : (reading : Reading) (asked : Asked) (command : Option Asked) → command ≡ Some asked → IsInOrder reading (files_of asked) → AreInOrder reading command
order_of_command reading asked command is in_order = rw is in_order

pub nothing_loaded : (reading : Reading) (command : Option Asked) → reading.did [] → AreInOrder reading command
nothing_loaded reading None nothing = nothing
nothing_loaded reading (Some asked) nothing = inl (0, nothing)
