use Rattle.std.proofs.Common.{◌≡◌, ◌<◌, ℕ, get_or, pos}
use Rattle.pc_agg.proofs.settling.are_all.Given as goal

abbrev pub invariant-loop-each : goal.invariant-loop-each
invariant-loop-each l = (i : ℕ) → i < l.each-index → get_or l.gains i (pos 0) ≡ l.gain
