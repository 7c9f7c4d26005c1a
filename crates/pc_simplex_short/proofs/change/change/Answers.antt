use Rattle.std.proofs.Common.{sym, subst}
use Rattle.std.specs.Bool.{IsTrue}
use Rattle.pc_simplex_tableau.specs.Tableau.{does_way_fit}
use Rattle.pc_simplex_tableau.specs.Ways.{way_of}
use Rattle.pc_simplex_short.specs.Short.{spelled}
use Rattle.pc_simplex_short.proofs.Changing.{turning_fits, pivoting_fits}
use Rattle.pc_simplex_short.proofs.change.change.Goals as goal

pub returns-in-Turning-clause-fits : goal.returns-in-Turning-clause-fits
returns-in-Turning-clause-fits c true_result =
    let f = c.args.setting.now in
    let t = c.args.tableau.now in
    subst (λ way. IsTrue (does_way_fit f.columns c.args.enters c.args.leaves (way_of way) (spelled f t))) (sym c.in-Turning.is)
    (turning_fits f t c.requires.setting c.requires.short c.args.enters c.args.leaves)

pub returns-in-Pivoting-clause-fits : goal.returns-in-Pivoting-clause-fits
returns-in-Pivoting-clause-fits c true_result =
    let f = c.args.setting.now in
    let t = c.args.tableau.now in
    subst (λ way. IsTrue (does_way_fit f.columns c.args.enters c.args.leaves (way_of way) (spelled f t))) (sym c.in-Pivoting.is)
    (pivoting_fits f t c.requires.setting c.requires.short c.args.enters c.args.leaves c.in-Pivoting.at (rw c.in-Pivoting.is at c.requires.way))
