use Rattle.pc_nested.specs.Narrowed.{IsNarrowing, places_of}
use Rattle.pc_nested.specs.Sized.{ArePast}
use Rattle.pc_nested.proofs.ordering.narrow_sized.Given as goal

abbrev pub invariant-loop-place : goal.invariant-loop-place
invariant-loop-place l = record {
  narrowing : IsNarrowing l.p l.narrowing.steps l.narrowing.lows l.narrowing.highs;
  past : ArePast l.p (places_of l.narrowing.steps) l.size l.place;
}
