use Rattle.std.proofs.Common.{◌≡◌, ◌<◌, ◌≤◌, length, Ok, Err, sym, ◌∙◌, arith}
use Rattle.std.proofs.lemmas.Result.{err_from_is_err_and}
use Rattle.pc_lang.specs.Parts.{narrowed}
use Rattle.pc_lang.proofs.Narrowing.{as_many, atom_narrows, atom_fails, atoms_end, sides_give, sides_fail}
use Rattle.pc_lang.proofs.part.narrowed_region.Goals as goal

pub returns-in_err-narrow : goal.returns-in_err-narrow
returns-in_err-narrow c =
    let p = err_from_is_err_and c.from_residual-in_err-narrow.result c.from_residual-in_err-narrow.ensures.1 in
    let columns = c.as_slice-columns.result.now in
    let atoms = c.as_slice-atoms.result.now in
    let inside : c.loop-atom.atom-index < length atoms = omega arith in
    let fails : narrowed columns c.atom-item.result c.loop-atom.sides.items ≡ Err c.in_err-narrow.field-0.0 = c.in_err-narrow.ensures in
    rw (p.1, p.2)
    (sides_fail c.args.schema.now c.args.part.now c.in_err-narrow.field-0.0
    (sym c.loop-atom.invariant.left ∙ atom_fails columns atoms c.loop-atom.sides.items c.loop-atom.atom-index c.atom-item.result c.in_err-narrow.field-0.0 inside c.atom-item.is fails))

pub loop-atom-preserved : goal.loop-atom-preserved
loop-atom-preserved c =
    let columns = c.as_slice-columns.result.now in
    let atoms = c.as_slice-atoms.result.now in
    let inside : c.loop-atom.atom-index < length atoms = omega arith in
    let narrows : narrowed columns c.atom-item.result c.loop-atom.sides.items ≡ Ok c.narrow.new.sides.items = c.in_ok-narrow.ensures in
    record {
      left = sym (atom_narrows columns atoms c.loop-atom.sides.items c.narrow.new.sides.items c.loop-atom.atom-index c.atom-item.result inside c.atom-item.is narrows) ∙ c.loop-atom.invariant.left;
      even = c.loop-atom.invariant.even ∙ sym (as_many columns c.atom-item.result c.loop-atom.sides.items c.narrow.new.sides.items narrows);
    }

pub returns : goal.returns
returns c =
    let past : length c.as_slice-atoms.result.now ≤ c.loop-atom.atom-index = omega arith in
    rw c.from_vec.ensures
    (sides_give c.args.schema.now c.args.part.now c.loop-atom.sides.items
    (sym c.loop-atom.invariant.left ∙ atoms_end c.as_slice-columns.result.now c.as_slice-atoms.result.now c.loop-atom.sides.items c.loop-atom.atom-index past))
