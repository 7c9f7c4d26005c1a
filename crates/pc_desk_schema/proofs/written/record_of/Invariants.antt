use Rattle.std.proofs.Common.{◌≡◌, [], ◌∷◌, take}
use Rattle.csv.specs.Records.{fields_of, partial_of}
use Rattle.pc_desk_schema.proofs.written.record_of.Given as goal

abbrev pub invariant-loop-field : goal.invariant-loop-field
invariant-loop-field l = record {
  fields : fields_of l.row ≡ l.name ∷ take l.field-index l.fields;
  whole : partial_of l.row ≡ [];
}
