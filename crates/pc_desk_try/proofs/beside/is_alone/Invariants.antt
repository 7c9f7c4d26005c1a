use Rattle.std.proofs.Common.{◌≡◌}
use Rattle.pc_desk_try.specs.Beside.{is_alone}
use Rattle.pc_desk_try.proofs.beside.is_alone.Given as goal

abbrev pub invariant-loop-k : goal.invariant-loop-k
invariant-loop-k l = l.alone ≡ is_alone l.k l.place l.mask
