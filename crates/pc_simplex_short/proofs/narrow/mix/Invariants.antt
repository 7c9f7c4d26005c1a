use Rattle.pc_simplex_short.proofs.Mixing.{IsMixTo}
use Rattle.pc_simplex_short.proofs.narrow.mix.Given as goal

abbrev pub invariant-loop-place : goal.invariant-loop-place
invariant-loop-place l = IsMixTo 55 l.places l.numbers l.sum l.place-index
