use Rattle.std.proofs.Common.{◌≡◌, ◌<◌, length, ap, refl, arith}
use Rattle.std.specs.Prelude.{vec_len}
use Rattle.pc_simplex_tableau.specs.Tableau.{Tableau}
use Rattle.pc_simplex.proofs.FreedRows.{freed_start, freed_stops, freed_more}
use Rattle.pc_simplex.proofs.aims.free_of_basics.Goals as goal

pub loop-at-init : goal.loop-at-init
loop-at-init c = freed_start c.args.tableau.now c.requires.fits

pub returns-then-not-free_aim-clause-value : goal.returns-then-not-free_aim-clause-value
returns-then-not-free_aim-clause-value c =
    let l = c.loop-at in
    let full : vec_len c.tableau.inside.rows ≡ length c.tableau.inside.rows.items = omega (arith, c.tableau.inside.rows.ok) in
    let counted = ap (λ (t : Tableau). length t.rows) c.tableau.view_is in
    let within : l.at < length c.args.tableau.now.rows = omega (arith, c.loop-at-test.true, c.len-at-end.ensures, full, counted) in
    freed_stops l.at c.args.tableau.now l.tableau within c.requires.rows l.invariant c.basic_at-basic.result c.basic_at-basic.ensures c.if-not-free_aim.ensures.value

pub loop-at-preserved : goal.loop-at-preserved
loop-at-preserved c =
    let l = c.loop-at in
    let full : vec_len c.tableau.inside.rows ≡ length c.tableau.inside.rows.items = omega (arith, c.tableau.inside.rows.ok) in
    let counted = ap (λ (t : Tableau). length t.rows) c.tableau.view_is in
    let within : l.at < length c.args.tableau.now.rows = omega (arith, c.loop-at-test.true, c.len-at-end.ensures, full, counted) in
    let found = c.if-not-free_aim.ensures in
    freed_more l.at c.args.tableau.now l.tableau within c.requires.rows l.invariant c.basic_at-basic.result c.basic_at-basic.ensures c.free_aim.new.self
    found.value (found.freed refl) (found.fits refl)
