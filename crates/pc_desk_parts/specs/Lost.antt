-- The parts of lost rows.
use Rattle.std.specs.Prelude.{List, Some, filter, map}
use Rattle.pc_model.specs.declared.row.Run.{Run}
use Rattle.pc_desk_parts.specs.declared.asked.Asked.{Asked}
use Rattle.pc_desk_parts.specs.declared.asked.Reached.{Reached}
use Rattle.pc_desk_parts.specs.declared.part.Part.{Part}
use Rattle.pc_desk_parts.specs.Ends.{adds_of, is_told, number_of}
use Rattle.pc_desk_parts.specs.Held.{held_of, places_under}

-- a run of lost rows
abbrev pub lost_part : Asked → Reached → Run → Part
lost_part ask reached run = record {
  rows = run.times;
  value = number_of ask.query.now run.row;
  adds = adds_of ask reached run.times run.row;
  under = Some (places_under ask.constraints.now run.row);
  held = held_of ask reached run.row;
}

-- a part for each run that is told, in their order
abbrev pub lost_parts : Asked → Reached → List Part
lost_parts ask reached = map (lost_part ask reached) (filter (λ (run : Run). is_told ask reached run.row) reached.runs.now)
