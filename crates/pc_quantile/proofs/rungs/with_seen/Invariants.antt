use Rattle.std.proofs.Common.{◌≡◌, ◌++◌, map, take}
use Rattle.pc_agg_search.specs.Ends.{signed}
use Rattle.pc_quantile.proofs.rungs.with_seen.Given as goal

abbrev pub invariant-loop-place : goal.invariant-loop-place
invariant-loop-place l = l.all ≡ l.fn.keys ++ map (signed l.fn.extreme) (take l.place l.fn.seen)
