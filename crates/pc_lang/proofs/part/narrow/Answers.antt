use Rattle.std.proofs.Common.{◌≡◌, ◌<◌, length, sym, arith}
use Rattle.std.proofs.lemmas.Result.{err_from_is_err_and}
use Rattle.pc_lang.proofs.Narrowing.{found_narrows, found_fails}
use Rattle.pc_lang.proofs.part.narrow.Goals as goal

pub returns-in_err-sides : goal.returns-in_err-sides
returns-in_err-sides c =
    let p = err_from_is_err_and c.from_residual.result c.from_residual.ensures.1 in
    let even : length c.args.columns.now ≡ length c.loop-place.sides.items = rw c.loop-place.invariant.same c.requires.even in
    let inside : c.loop-place.place < length c.args.columns.now = omega arith in
    rw (p.1, p.2, ← c.loop-place.invariant.same)
    (found_fails c.args.columns.now c.args.atom.now c.loop-place.sides.items c.loop-place.place c.index-columns-place.result c.index.result.now c.in_err-sides.field-0.0 even inside c.index-columns-place.is c.index.ensures (sym c.if-eq.ensures) c.loop-place.invariant.left (sym c.in_err-sides.ensures))

pub returns-then-eq : goal.returns-then-eq
returns-then-eq c =
    let even : length c.args.columns.now ≡ length c.loop-place.sides.items = rw c.loop-place.invariant.same c.requires.even in
    let inside : c.loop-place.place < length c.args.columns.now = omega arith in
    rw (← c.loop-place.invariant.same)
    (found_narrows c.args.columns.now c.args.atom.now c.loop-place.sides.items c.loop-place.place c.index-columns-place.result c.index.result.now c.in_ok-sides.field-0 even inside c.index-columns-place.is c.index.ensures (sym c.if-eq.ensures) c.loop-place.invariant.left (sym c.in_ok-sides.ensures))
