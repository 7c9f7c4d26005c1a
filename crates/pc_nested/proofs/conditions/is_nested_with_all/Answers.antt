use Rattle.std.proofs.Common.{◌<◌, ◌∙◌, true≢false, inl, inr, refl, subst, sym, arith}
use Rattle.std.proofs.lemmas.Bool.{cases_eq}
use Rattle.pc_program_bound.specs.Allocation.{constraints_of}
use Rattle.pc_nested.specs.Nested.{AreNestedPair}
use Rattle.pc_nested.proofs.conditions.is_nested_with_all.Goals as goal

pub loop-other-preserved : goal.loop-other-preserved
loop-other-preserved c k h = elim (cases_eq k c.loop-other.other) [
  | inl e ↦ subst (AreNestedPair c.args.p.now c.args.constraint) (sym e) (c.is_nested_pair.ensures.0 c.if-not-is_nested_pair.false)
  | inr apart ↦ c.loop-other.invariant k (omega (arith, h, apart))
]

pub returns-then-not-is_nested_pair : goal.returns-then-not-is_nested_pair
returns-then-not-is_nested_pair c =
    let there : c.loop-other.other < constraints_of c.args.p.now = omega (arith, c.loop-other-test.true, c.len-other-end.ensures) in (
      λ e. absurd (true≢false (sym e)),
      λ all. absurd (true≢false (sym (c.is_nested_pair.ensures.1 (all c.loop-other.other there)) ∙ c.if-not-is_nested_pair.true)),
    )

pub returns : goal.returns
returns c = (λ e k h. c.loop-other.invariant k (omega (arith, h, c.loop-other-test.false, c.len-other-end.ensures)), λ all. refl)
