use Rattle.std.proofs.Common.{◌≡◌, false, take}
use Rattle.csv.specs.Records.{fields_of}
use Rattle.pc_desk_schema.specs.Draft.{is_field_of}
use Rattle.pc_desk_schema.proofs.draft.is_field_of.Given as goal

abbrev pub invariant-loop-place : goal.invariant-loop-place
invariant-loop-place l = is_field_of (take l.place (fields_of l.header)) l.name ≡ false
