use Rattle.std.proofs.Common.{◌<◌, length, arith, refl}
use Rattle.pc_simplex_short.specs.Short.{freed_short}
use Rattle.pc_simplex_short.specs.Kept.{IsShortRow, IsSmallRow}
use Rattle.pc_simplex_short.proofs.Made.{made_more, made_at}
use Rattle.pc_simplex_short.proofs.rows.free_all.Goals as goal

pub loop-row-preserved : goal.loop-row-preserved
loop-row-preserved c =
    let l = c.loop-row in
    let f = c.args.setting.now in
    let inside : l.row-index < length l.rows = omega (arith, l.auto.rows, c.loop-row-test.true) in
    let found = c.if-not-free.ensures in
    made_more (freed_short f c.args.turned.now c.args.column c.args.other.now) (IsShortRow f) c.args.rows.now l.rows l.row-index
    c.row-item.result c.free.new.self c.loop-row-test.true inside l.invariant (found.freed refl) (found.short refl)

pub returns-then-not-free-clause-given : goal.returns-then-not-free-clause-given
returns-then-not-free-clause-given c small =
    let l = c.loop-row in
    c.if-not-free.ensures.given (made_at (freed_short c.args.setting.now c.args.turned.now c.args.column c.args.other.now) (IsShortRow c.args.setting.now) c.args.rows.now l.rows l.row-index
    IsSmallRow c.row-item.result c.loop-row-test.true l.invariant small)
