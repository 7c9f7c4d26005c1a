use Rattle.pc_simplex_short.proofs.Mixing.{IsMixTo}
use Rattle.pc_simplex_short.proofs.entry.wide_mix.Given as goal

abbrev pub invariant-loop-place : goal.invariant-loop-place
invariant-loop-place l = IsMixTo 64 l.places l.numbers l.sum l.place-index
