use Rattle.std.proofs.Common.{◌<◌, ◌∙◌, true≢false, inl, inr, refl, subst, sym, arith}
use Rattle.std.proofs.lemmas.Bool.{cases_eq}
use Rattle.pc_program_bound.specs.Allocation.{constraints_of}
use Rattle.pc_nested.specs.Nested.{AreNestedPair}
use Rattle.pc_nested.proofs.conditions.are_nested_pairs.Goals as goal

pub loop-constraint-preserved : goal.loop-constraint-preserved
loop-constraint-preserved c j h k there = elim (cases_eq j c.loop-constraint.constraint) [
  | inl e ↦ subst (λ n. AreNestedPair c.args.p.now n k) (sym e) (c.is_nested_with_all.ensures.0 c.if-not-is_nested_with_all.false k there)
  | inr apart ↦ c.loop-constraint.invariant j (omega (arith, h, apart)) k there
]

pub returns-then-not-is_nested_with_all : goal.returns-then-not-is_nested_with_all
returns-then-not-is_nested_with_all c =
    let there : c.loop-constraint.constraint < constraints_of c.args.p.now = omega (arith, c.loop-constraint-test.true, c.len-constraint-end.ensures) in (
      λ e. absurd (true≢false (sym e)),
      λ all. absurd (true≢false (sym (c.is_nested_with_all.ensures.1 (λ k h. all c.loop-constraint.constraint k there h)) ∙ c.if-not-is_nested_with_all.true)),
    )

pub returns : goal.returns
returns c =
    (λ e j k h there. c.loop-constraint.invariant j (omega (arith, h, c.loop-constraint-test.false, c.len-constraint-end.ensures)) k there, λ all. refl)
