use Rattle.pc_nested.specs.Narrowed.{IsNarrowing, places_of}
use Rattle.pc_nested.specs.Sized.{ArePast}
use Rattle.pc_nested.proofs.ordering.narrow_all.Given as goal

abbrev pub invariant-loop-size : goal.invariant-loop-size
invariant-loop-size l = record {
  narrowing : IsNarrowing l.p l.narrowing.steps l.narrowing.lows l.narrowing.highs;
  past : ArePast l.p (places_of l.narrowing.steps) l.size 0;
}
