use Rattle.std.proofs.Common.{◌<◌, length, arith, refl}
use Rattle.pc_simplex_short.specs.Short.{turned_short}
use Rattle.pc_simplex_short.specs.Kept.{IsShortRow, IsSmallRow}
use Rattle.pc_simplex_short.proofs.Made.{made_more, made_at}
use Rattle.pc_simplex_short.proofs.rows.turn_all.Goals as goal

pub loop-row-preserved : goal.loop-row-preserved
loop-row-preserved c =
    let l = c.loop-row in
    let f = c.args.setting.now in
    let inside : l.row-index < length l.rows = omega (arith, l.auto.rows, c.loop-row-test.true) in
    let found = c.if-not-turn.ensures in
    made_more (turned_short f c.args.turned.now c.args.column c.args.range) (IsShortRow f) c.args.rows.now l.rows l.row-index
    c.row-item.result c.turn.new.self c.loop-row-test.true inside l.invariant (found.turned refl) (found.short refl)

pub returns-then-not-turn-clause-given : goal.returns-then-not-turn-clause-given
returns-then-not-turn-clause-given c small =
    let l = c.loop-row in
    c.if-not-turn.ensures.given (made_at (turned_short c.args.setting.now c.args.turned.now c.args.column c.args.range) (IsShortRow c.args.setting.now) c.args.rows.now l.rows l.row-index
    IsSmallRow c.row-item.result c.loop-row-test.true l.invariant small)
