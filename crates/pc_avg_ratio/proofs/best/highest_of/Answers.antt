use Rattle.std.proofs.Common.{◌+◌, sym, subst, arith}
use Rattle.pc_avg_ratio.proofs.BestSoFar.{IsSoFar, so_far_has_rows, so_far_stays, so_far_moves, so_far_whole}
use Rattle.pc_avg_ratio.proofs.best.highest_of.Goals as goal
use Rattle.pc_avg_ratio.proofs.best.highest_of.Goals.{then-is_higher, else-is_higher}

pub is_higher-requires-clause-best : goal.is_higher-requires-clause-best
is_higher-requires-clause-best c = so_far_has_rows c.args.f.now c.args.found.now c.loop-place.best c.loop-place.place c.loop-place.invariant

pub loop-place-preserved : goal.loop-place-preserved
loop-place-preserved c = elim c.if-is_higher.branch [
  | then-is_higher w ↦
      subst (IsSoFar c.args.f.now c.args.found.now (c.loop-place.place + 1)) (sym w.best-is)
      (so_far_moves c.args.f.now c.args.found.now c.loop-place.best c.loop-place.place (omega (arith, c.loop-place-test.true)) c.loop-place.invariant (c.is_higher.ensures.higher w.if-is_higher.true))
  | else-is_higher w ↦
      subst (IsSoFar c.args.f.now c.args.found.now (c.loop-place.place + 1)) (sym w.best-is)
      (so_far_stays c.args.f.now c.args.found.now c.loop-place.best c.loop-place.place c.loop-place.invariant (c.is_higher.ensures.no_higher w.if-is_higher.false))
]

pub returns : goal.returns
returns c =
    so_far_whole c.args.f.now c.args.found.now c.loop-place.best c.loop-place.place (omega (arith, c.loop-place-test.false)) c.loop-place.invariant
