use Rattle.std.proofs.Common.{◌≡◌, map, take}
use Rattle.serde_json.specs.View.{view}
use Rattle.pc_desk_table.specs.Json.{repeated_data}
use Rattle.pc_desk_table.proofs.end_data.rows_data.Given as goal

abbrev pub invariant-loop-repeated : goal.invariant-loop-repeated
invariant-loop-repeated l = map view l.values.items ≡ map repeated_data (take l.repeated-index l.rows)
