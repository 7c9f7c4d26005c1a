use Rattle.std.proofs.Common.{sym, subst}
use Rattle.std.specs.List.Sorted.{IsPermutation}
use Rattle.std.proofs.lemmas.Result.{IfOk-weaker}
use Rattle.pc_agg.proofs.FallingSteps.{same_falling}
use Rattle.pc_agg.proofs.falling.falling_of.Goals as goal

pub returns : goal.returns
returns c =
    let moved = subst (IsPermutation c.args.numbers.items) (sym c.as_slice.ensures.value) c.sort_unstable.ensures.permutation in
    IfOk-weaker c.from_last.result _ _ (λ falling is. same_falling c.args.numbers.items c.as_slice.result.now falling moved is) c.from_last.ensures
