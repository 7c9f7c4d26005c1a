use Rattle.std.proofs.Common.{arith}
use Rattle.pc_simplex.proofs.Corners.{length-columns}
use Rattle.pc_simplex.proofs.corner.Corner.entry_at.Goals as goal

pub entry_at-requires-clause-column : goal.entry_at-requires-clause-column
entry_at-requires-clause-column c =
    let long = length-columns _ c.in-Short.setting c.in-Short.tableau c.args.self.now c.in-Short.is c.self.view_is in
    omega (arith, c.requires.column, long)
