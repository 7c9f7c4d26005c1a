use Rattle.std.proofs.Common.{arith, sym, ◌∙◌}
use Rattle.std.proofs.lemmas.Bool.{false≢true}
use Rattle.pc_program.proofs.OneBits.{HasOneBits-from, HasOneBit-of, HasAtMostTwo-of}
use Rattle.pc_program.proofs.conditions.has_one_bits.Goals as goal

pub returns-then-not-have_one_bit : goal.returns-then-not-have_one_bit
returns-then-not-have_one_bit c =
    let bits = rw (c.as_slice.ensures, c.len-2.ensures) at c.have_one_bit.ensures in (
      λ e. absurd (false≢true e),
      λ one_bits. sym c.if-not-have_one_bit.true ∙ bits.1 (λ i h. HasOneBit-of c.args.p.now one_bits i h),
    )

pub returns : goal.returns
returns c =
    let bits = (rw (c.as_slice.ensures, c.len-2.ensures) at c.have_one_bit.ensures) in
    let floors = (rw c.as_slice-2.ensures at c.are_none.ensures) in
    let gains = (rw c.as_slice-3.ensures at c.are_small.ensures) in (
      λ twos. HasOneBits-from c.args.p.now c.requires.program (omega (arith, c.len.ensures, c.if-len-gt40.false)) (bits.0 c.if-not-have_one_bit.false)
          (floors.0 c.if-not-are_none.false) (gains.0 c.if-not-are_small.false) (c.have_two_at_most.ensures.0 twos),
      λ one_bits. c.have_two_at_most.ensures.1 (λ k h. HasAtMostTwo-of c.args.p.now one_bits k),
    )
