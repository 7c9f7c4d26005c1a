use Rattle.pc_nested.specs.Priced.{IsRepriced}
use Rattle.pc_nested.proofs.pricing.with_price.Given as goal

abbrev pub invariant-loop-cell : goal.invariant-loop-cell
invariant-loop-cell l = IsRepriced l.p l.place l.fn.prices l.price l.cell l.prices.items
