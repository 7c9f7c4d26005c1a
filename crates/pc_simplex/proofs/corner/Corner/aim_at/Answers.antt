use Rattle.std.proofs.Common.{arith}
use Rattle.pc_simplex.proofs.Corners.{length-columns}
use Rattle.pc_simplex.proofs.corner.Corner.aim_at.Goals as goal

pub aim_at-requires-clause-column : goal.aim_at-requires-clause-column
aim_at-requires-clause-column c =
    let long = length-columns _ c.in-Short.setting c.in-Short.tableau c.args.self.now c.in-Short.is c.self.view_is in
    omega (arith, c.requires, long)
