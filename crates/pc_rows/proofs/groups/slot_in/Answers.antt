use Rattle.std.proofs.Common.{◌≡◌, None, arith, of_z, to_z, w64}
use Rattle.std.proofs.lemmas.Int.{ints}
use Rattle.pc_rows.proofs.Grouping.{slot_some}
use Rattle.pc_rows.proofs.groups.slot_in.Goals as goal

pub returns-in-Some : goal.returns-in-Some
returns-in-Some c names small held =
    let same : to_z w64 (of_z w64 c.args.number) ≡ c.args.number = omega (arith, ints) in
    let above = rw same at c.if-number-lt0.false in
    let found = rw same at (c.in-Some.ensures.lookup.3.0) in
    let is = rw same at (c.in-Some.ensures.lookup.3.1 None) in
    slot_some names c.args.slots.now small held c.args.number c.in-Some.slot.now above found is
