use Rattle.std.proofs.Common.{rules, ◌≡◌, ◌<◌, length, get_or, arith, sym, pos, to_z, w64}
use Rattle.std.proofs.lemmas.Int.{to_z_pos}
use Rattle.pc_rows.proofs.Finding.{finder_known, finder_new}
use Rattle.pc_rows.proofs.column.number_names.Goals as goal
use Rattle.pc_rows.proofs.column.number_names.Goals.{then-not-contains_key+in_ok-insert, else-not-contains_key}

pub loop-place-preserved : goal.loop-place-preserved
loop-place-preserved c =
    let names = c.args.names.now in
    let at = c.loop-place.place in
    let inside : at < length names = omega arith in
    let number : to_z w64 at ≡ pos at = to_z_pos w64 at (omega (arith, c.requires)) in
    let key = c.as_bytes-name.result in
    let is : key.now ≡ get_or names c.loop-place.place c.index-names-place.result = search rules in
    elim c.if-not-contains_key.branch [
      | then-not-contains_key+in_ok-insert w ↦
          rw w.places-is
          (finder_new names at key c.index-names-place.result inside is c.loop-place.places c.loop-place.invariant w.insert.new.self (sym w.if-not-contains_key.ensures) (rw number at w.in_ok-insert.ensures.updates))
      | else-not-contains_key w ↦
          rw w.places-is
          (finder_known names at key c.index-names-place.result inside is c.loop-place.places c.loop-place.invariant (sym w.if-not-contains_key.ensures))
    ]
