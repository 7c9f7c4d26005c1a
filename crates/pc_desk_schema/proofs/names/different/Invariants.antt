use Rattle.std.proofs.Common.{◌≡◌, [], take}
use Rattle.pc_model.specs.WellFormed.{AreNames}
use Rattle.pc_desk_schema.specs.Names.{different_from}
use Rattle.pc_desk_schema.proofs.names.different.Given as goal

abbrev pub invariant-loop-text : goal.invariant-loop-text
invariant-loop-text l = record {
  found : l.names ≡ different_from [] (take l.text-index l.texts);
  are : AreNames l.names;
}
