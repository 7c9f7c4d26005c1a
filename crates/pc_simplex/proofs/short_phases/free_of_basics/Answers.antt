use Rattle.std.proofs.Common.{◌≡◌, ◌<◌, length, ap, refl, arith}
use Rattle.std.specs.Prelude.{vec_len}
use Rattle.pc_simplex_tableau.specs.Tableau.{Tableau}
use Rattle.pc_simplex.proofs.ShortFreed.{freed_start, freed_more}
use Rattle.pc_simplex.proofs.short_phases.free_of_basics.Goals as goal

pub loop-at-init : goal.loop-at-init
loop-at-init c = freed_start c.args.setting.now c.args.tableau.now c.requires.short

pub loop-at-preserved : goal.loop-at-preserved
loop-at-preserved c =
    let l = c.loop-at in
    let full : vec_len c.tableau.inside.rows ≡ length c.tableau.inside.rows.items = omega (arith, c.tableau.inside.rows.ok) in
    let counted = ap (λ (t : Tableau). length t.rows) c.tableau.view_is in
    let within : l.at < length l.tableau.rows = omega (arith, c.loop-at-test.true, c.len-at-end.ensures, full, counted, l.invariant.many) in
    let found = c.if-not-free_aim.ensures in
    freed_more c.args.setting.now l.at c.basic_at-basic.result c.args.tableau.now l.tableau c.free_aim.new.self within c.basic_at-basic.ensures
    found.fits (found.freed refl) (found.short refl) l.invariant
