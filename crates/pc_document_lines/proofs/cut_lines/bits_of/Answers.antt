use Rattle.std.proofs.Common.{◌≡◌, ◌-◌, ◌<◌, ◌≤◌, length, get_or, sym, subst, arith}
use Rattle.pc_lang.proofs.Bits.{bits_step, bits_room}
use Rattle.pc_document_lines.specs.TokenLines.{names_of}
use Rattle.pc_document_lines.proofs.cut_lines.bits_of.Goals as goal

pub loop-place-preserved : goal.loop-place-preserved
loop-place-preserved c =
    let some : 0 < c.loop-place.place = omega arith in
    let inside : c.loop-place.place ≤ length c.args.names.now = omega arith in
    record {
      bits = bits_step (names_of c.args.rest.now) c.args.names.now c.loop-place.place c.loop-place.bits c.bit_of.result c.as_bytes.result.now some inside (subst (λ name. name ≡ get_or c.args.names.now (c.loop-place.place - 1) name) (sym c.as_bytes.ensures) c.index-names-place.is) c.loop-place.invariant.bits c.bit_of.ensures.exact;
      small = bits_room c.loop-place.bits c.bit_of.result (length c.args.names.now) c.loop-place.place some inside c.loop-place.invariant.small c.bit_of.ensures.small;
    }
