use Rattle.std.proofs.Common.{length, ap, arith}
use Rattle.pc_simplex_tableau.specs.Tableau.{Tableau}
use Rattle.pc_simplex.proofs.Corners.{length-turned}
use Rattle.pc_simplex.proofs.corner.Corner.columns.Goals as goal

pub returns-in-Short : goal.returns-in-Short
returns-in-Short c =
    let long = length-turned _ c.in-Short._setting c.in-Short.tableau c.args.self.now c.in-Short.is c.self.view_is c.self.invariant in
    let turned = ap (λ (t : Tableau). length t.turned) c.tableau-in-Short.view_is in
    omega (arith, c.len-in-Short.ensures, turned, long)
