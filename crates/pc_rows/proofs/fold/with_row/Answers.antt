use Rattle.std.proofs.Common.{arith}
use Rattle.std.proofs.lemmas.Int.{ints, to_z-of_z}
use Rattle.pc_rows.proofs.Folding.{with_some}
use Rattle.pc_rows.proofs.fold.with_row.Goals as goal

pub returns-clause-more : goal.returns-clause-more
returns-clause-more c = with_some _ _ _ _ _ _ _ _ c.in-Some.is c.number-number.ensures (omega (arith, ints)) (grind (arith, to_z-of_z)) (grind (arith, to_z-of_z))
