use Rattle.std.proofs.Common.{◌+◌, List, drop, subst, arith}
use Rattle.std.proofs.lemmas.List.{drop_more, drop_all}
use Rattle.pc_nested.specs.declared.narrowing.Step.{Step}
use Rattle.pc_nested.specs.Priced.{AreUndone}
use Rattle.pc_nested.proofs.pricing.undo_all.Goals as goal

pub loop-step-init : goal.loop-step-init
loop-step-init c = record { priced = c.requires.priced; undone = λ gains counts k m h. h }

pub loop-step-preserved : goal.loop-step-preserved
loop-step-preserved c = record {
  priced = c.undo-pricing.ensures.priced;
  undone = λ gains counts k m h. c.undo-pricing.ensures.undone gains counts k m (drop (c.loop-step.step-index + 1) c.args.steps.now)
      (subst (λ (steps : List Step). AreUndone (record c.args.p.now { gain = gains }) counts k m steps c.loop-step.pricing.by c.loop-step.pricing.prices)
      (drop_more c.args.steps.now c.loop-step.step-index _ c.loop-step-test.true) (c.loop-step.invariant.undone gains counts k m h));
}

pub returns-clause-undone : goal.returns-clause-undone
returns-clause-undone c = λ gains counts k m h.
    subst (λ (steps : List Step). AreUndone (record c.args.p.now { gain = gains }) counts k m steps c.loop-step.pricing.by c.loop-step.pricing.prices)
    (drop_all c.loop-step.step-index c.args.steps.now (omega (arith, c.loop-step-test.false))) (c.loop-step.invariant.undone gains counts k m h)
