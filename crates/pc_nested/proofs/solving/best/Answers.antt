use Rattle.std.proofs.Common.{arith, ◌≡◌, ◌∙◌, to_z, of_z}
use Rattle.std.proofs.lemmas.Int.{ints}
use mir.Syntax.{w128}
use Rattle.pc_nested.proofs.Starts.{small_steps}
use Rattle.pc_nested.proofs.Ending.{IsSolved-best, fits_best}
use Rattle.pc_nested.proofs.solving.best.Goals as goal

pub undo_all-pricing-requires-clause-small : goal.undo_all-pricing-requires-clause-small
undo_all-pricing-requires-clause-small c = rw c.as_slice-4.ensures (small_steps c.args.p.now c.args.narrowing.steps c.requires.narrowing.with_gains.in_order)

pub returns-clause-solved : goal.returns-clause-solved
returns-clause-solved c =
    let n = c.args.narrowing in
    let same : to_z w128 (of_z w128 c.worth_of-value.result) ≡ c.worth_of-value.result = omega (arith, ints) in
    let chosen = rw (c.as_slice.ensures, c.as_slice-2.ensures) at c.in_ok-counts.ensures in
    let undoes = rw (c.as_slice-4.ensures, c.in_ok-start.ensures.by, c.in_ok-start.ensures.prices) at c.undo_all-pricing.ensures.undone in
    IsSolved-best c.args.p.now n.steps n.lows n.highs c.in_ok-counts.counts _ _ c.requires.program c.requires.nested c.requires.narrowing chosen undoes
    c.requires.whole _ (same ∙ (rw c.as_slice-3.ensures at c.worth_of-value.ensures.value))

pub returns-clause-fits : goal.returns-clause-fits
returns-clause-fits c =
    let n = c.args.narrowing in
    let chosen = rw (c.as_slice.ensures, c.as_slice-2.ensures) at c.in_ok-counts.ensures in
    let undoes = rw (c.as_slice-4.ensures, c.in_ok-start.ensures.by, c.in_ok-start.ensures.prices) at c.undo_all-pricing.ensures.undone in
    (fits_best c.args.p.now n.steps n.lows n.highs c.in_ok-counts.counts _ _ c.requires.program c.requires.nested c.requires.narrowing chosen undoes, omega (arith, ints))
