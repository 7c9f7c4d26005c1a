-- What a sink in memory tells of itself.
use Rattle.std.specs.Prelude.{Some}
use Rattle.pc_base.specs.declared.memory_sink.MemSink.{MemSink}
use Rattle.pc_base.specs.Shelves.{SinkState}

-- it tells its bytes
abbrev pub told_of : MemSink → SinkState
told_of sink = record { kept = Some sink.kept; faults = sink.faults; calls = sink.calls }
