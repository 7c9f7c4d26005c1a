use Rattle.std.proofs.Common.{ℕ, List, drop}
use Rattle.std.specs.Prelude.{ℤ}
use Rattle.pc_nested.specs.Priced.{ArePriced, AreUndone}
use Rattle.pc_nested.proofs.pricing.undo_all.Given as goal

abbrev pub invariant-loop-step : goal.invariant-loop-step
invariant-loop-step l = record {
  priced : ArePriced l.p l.pricing.by l.pricing.prices;
  undone : (gains : List ℤ) (counts : List ℕ) (k : ℕ) (m : ℤ) → AreUndone (record l.p { gain = gains }) counts k m l.steps l.fn.pricing.by l.fn.pricing.prices
      → AreUndone (record l.p { gain = gains }) counts k m (drop l.step-index l.steps) l.pricing.by l.pricing.prices;
}
