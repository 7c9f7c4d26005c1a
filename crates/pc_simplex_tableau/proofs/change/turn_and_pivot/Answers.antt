use Rattle.std.proofs.Common.{◌<◌, length, arith, refl}
use Rattle.pc_simplex_tableau.proofs.Sizes.{turned_rows, pivoted_sized}
use Rattle.pc_simplex_tableau.proofs.change.turn_and_pivot.Goals as goal

pub returns-clause-sized : goal.returns-clause-sized
returns-clause-sized c is_true =
    let turned = c.if-not-turn.ensures in
    let many = turned_rows c.args.columns.now c.args.leaves c.end-range.result c.args.tableau.now c.turn.new.self (turned.turned refl) in
    let within : c.args.at < length c.turn.new.self.rows = omega (arith, many, c.requires.at) in
    rw (c.pivot.ensures.pivoted is_true) (pivoted_sized c.args.columns.now c.turn.new.self c.args.at (turned.sized refl) within c.args.enters c.requires.enters)
