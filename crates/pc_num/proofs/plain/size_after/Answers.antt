use Rattle.std.proofs.Common.{◌≡◌, ◌-◌, get_or, rules, sym, ◌∙◌}
use Rattle.pc_num.proofs.PlainSizes.{size_step}
use Rattle.pc_num.proofs.plain.size_after.Goals as goal

pub loop-digit-preserved : goal.loop-digit-preserved
loop-digit-preserved c =
    let kept = c.loop-digit.invariant in
    let value : c.from.result ≡ get_or c.args.digits.now c.loop-digit.digit-index 0 - 48 = search rules in
    let step = size_step c.args.digits.now c.loop-digit.digit-index c.args.before c.loop-digit.size c.loop-digit-test.true (sym c.is_ascii_digit.ensures.value ∙ c.if-not-is_ascii_digit.false) kept.2 kept.3 in
    (c.if-size-gt-GREATEST_SIZE.false, step.0, step.1, (rw (sym value) at step.2))
