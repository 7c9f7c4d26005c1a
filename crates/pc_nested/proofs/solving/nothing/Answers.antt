use Rattle.std.proofs.Common.{◌≡◌, ◌≤◌, inl, inr, map, to_z, of_z, arith}
use Rattle.std.specs.Prelude.{nat_abs}
use mir.Syntax.{w128}
use Rattle.std.proofs.lemmas.Int.{ints}
use Rattle.pc_nested.specs.Narrowed.{flat}
use Rattle.pc_nested.proofs.Starts.{flat_steps_small, ArePriced-apart}
use Rattle.pc_nested.proofs.Ending.{IsVoid-stopped, fits_stopped}
use Rattle.pc_nested.proofs.solving.nothing.Goals as goal

pub undo_all-pricing-requires-clause-small : goal.undo_all-pricing-requires-clause-small
undo_all-pricing-requires-clause-small c =
    rw (c.as_slice-3.ensures, c.in_ok-steps.ensures, c.as_slice-2.ensures)
    (flat_steps_small c.args.p.now (map flat c.args.narrowing.steps) c.requires.narrowing.without_gains.in_order)

pub undo_all-pricing-requires-clause-priced : goal.undo_all-pricing-requires-clause-priced
undo_all-pricing-requires-clause-priced c =
    let sign = c.sign_of-sign.result in
    let same : to_z w128 (of_z w128 sign) ≡ sign = omega (arith, ints) in
    let start = rw same at c.in_ok-start.ensures.prices in
    let small : nat_abs sign ≤ 1 = elim c.sign_of-sign.ensures [
      | inl (short, e) ↦ rw e (omega arith)
      | inr (enough, e) ↦ rw e (omega arith)
    ] in
    rw (c.in_ok-start.ensures.by, same) (ArePriced-apart c.args.p.now c.args.place sign c.in_ok-start.start.prices c.requires.there small start)

pub returns-clause-solved : goal.returns-clause-solved
returns-clause-solved c =
    let n = c.args.narrowing in
    let sign = rw c.as_slice.ensures at c.sign_of-sign.ensures in
    let same : to_z w128 (of_z w128 c.sign_of-sign.result) ≡ c.sign_of-sign.result = omega (arith, ints) in
    let start = rw same at c.in_ok-start.ensures.prices in
    let undoes = rw (c.as_slice-3.ensures, c.in_ok-steps.ensures, c.as_slice-2.ensures, c.in_ok-start.ensures.by, same) at c.undo_all-pricing.ensures.undone in
    IsVoid-stopped c.args.p.now n.steps n.lows n.highs c.args.place c.sign_of-sign.result c.in_ok-start.start.prices _ _ c.requires.program c.requires.nested
    c.requires.there c.requires.narrowing c.requires.order start undoes sign c.requires.stopped

pub returns-clause-fits : goal.returns-clause-fits
returns-clause-fits c =
    let n = c.args.narrowing in
    let sign = rw c.as_slice.ensures at c.sign_of-sign.ensures in
    let same : to_z w128 (of_z w128 c.sign_of-sign.result) ≡ c.sign_of-sign.result = omega (arith, ints) in
    let start = rw same at c.in_ok-start.ensures.prices in
    let undoes = rw (c.as_slice-3.ensures, c.in_ok-steps.ensures, c.as_slice-2.ensures, c.in_ok-start.ensures.by, same) at c.undo_all-pricing.ensures.undone in (
      fits_stopped c.args.p.now n.steps n.lows n.highs c.args.place c.sign_of-sign.result c.in_ok-start.start.prices _ _ c.requires.program c.requires.nested
          c.requires.there c.requires.narrowing c.requires.order start undoes sign,
      omega (arith, ints),
    )
