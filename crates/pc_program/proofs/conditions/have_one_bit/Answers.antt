use Rattle.std.proofs.Common.{sym, ◌∙◌}
use Rattle.std.proofs.lemmas.Bool.{false≢true}
use Rattle.pc_program_bound.specs.Sums.{nat_at}
use Rattle.pc_program.specs.Conditions.{HasOneBit}
use Rattle.pc_program.proofs.OneBits.{one_more}
use Rattle.pc_program.proofs.conditions.have_one_bit.Goals as goal

pub returns-then-not-has_one_bit : goal.returns-then-not-has_one_bit
returns-then-not-has_one_bit c = (
  λ e. absurd (false≢true e),
  λ all. sym c.if-not-has_one_bit.true ∙ c.has_one_bit.ensures.1 (all c.loop-mask.mask-index c.loop-mask-test.true),
)

pub loop-mask-preserved : goal.loop-mask-preserved
loop-mask-preserved c =
    one_more (λ i. HasOneBit (nat_at c.args.masks.now i) c.args.constraints) c.loop-mask.mask-index c.loop-mask.invariant
    (c.has_one_bit.ensures.0 c.if-not-has_one_bit.false)
