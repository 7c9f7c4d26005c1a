use Rattle.std.proofs.Common.{subst, sym}
use Rattle.pc_nested.specs.Narrowed.{IsNarrowing, IsRaised, IsLowered}
use Rattle.pc_nested.proofs.Ends.{IsNarrowing-more}
use Rattle.pc_nested.proofs.narrowing.narrow.Goals as goal

pub returns-clause-narrowing : goal.returns-clause-narrowing
returns-clause-narrowing c =
    let p = c.args.p.now in
    let k = c.args.place in
    let n = c.args.narrowing in
    let raised = c.raise-raised.result in
    let lowered = c.in_ok-lowered.lowered in
    let up = subst (λ highs. IsRaised p k n.lows highs raised.counts raised.price) c.as_slice.ensures c.raise-raised.ensures in
    let down = subst (λ lows. IsLowered p k lows n.highs lowered.counts lowered.price) c.as_slice-2.ensures c.in_ok-lowered.ensures in
    subst (λ steps. IsNarrowing p steps raised.counts lowered.counts) (sym c.in_ok-push_front.ensures.ok)
    (IsNarrowing-more p n.steps (record { place = k; raised = raised.price; lowered = lowered.price }) n.lows n.highs raised.counts lowered.counts
    c.requires.there c.requires.narrowing up down c.requires.order)
