use Rattle.std.proofs.Common.{rules}
use Rattle.pc_simplex.proofs.Corners.{length-columns}
use Rattle.pc_simplex.proofs.corner.Corner.value_at.Goals as goal

pub returns-in-Short : goal.returns-in-Short
returns-in-Short c =
    let long = length-columns _ c.in-Short.setting c.in-Short.tableau c.args.self.now c.in-Short.is c.self.view_is in
    rw long (search rules)
