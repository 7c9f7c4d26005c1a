use Rattle.std.proofs.Common.{◌≡◌, drop, take}
use Rattle.csv.specs.Reading.{default_config, records, strip_bom}
use Rattle.csv.specs.Records.{fields_of}
use Rattle.pc_desk_schema.specs.Draft.{found_for, nothing_found}
use Rattle.pc_desk_schema.specs.Sound.{IsSound}
use Rattle.pc_desk_schema.proofs.found.found_for.Given as goal

abbrev pub invariant-loop-name : goal.invariant-loop-name
invariant-loop-name l = record {
  found : l.found ≡ found_for (fields_of l.header) (drop 1 (records default_config (strip_bom l.text))) nothing_found (take l.name-index l.names);
  sound : IsSound l.found;
  count : l.found.count ≡ l.name-index;
}
