use Rattle.std.proofs.Common.{◌≡◌, IfOk, IfSome, ap, ap₂, subst, ◌∙◌}
use Rattle.pc_simplex_tableau.specs.Numbers.{table}
use Rattle.pc_simplex_tableau.specs.Relaxation.{columns_of, phase_one, phase_one_from, first_tableau}
use Rattle.pc_simplex_tableau.specs.Standing.{gain_one}
use Rattle.pc_simplex_short.specs.Short.{ShortSetting, spelled}
use Rattle.pc_simplex.specs.Ended.{ending_of}
use Rattle.pc_simplex.proofs.ShortStart.{first_spells, first_is_short}
use Rattle.pc_simplex.proofs.short_phases.take_short_phases.Goals as goal

pub phase_one-requires-clause-short : goal.phase_one-requires-clause-short
phase_one-requires-clause-short c =
    let p = c.args.p.now in
    let floors = c.args.floor.now in
    rw (c.in_ok-setting.ensures.value, c.in_ok-tableau.ensures)
    (first_is_short p floors c.args.columns (table (columns_of p) (gain_one p floors)) c.requires.program c.requires.floors c.requires.columns c.requires.none)

pub returns-clause-value : goal.returns-clause-value
returns-clause-value c caps is =
    let p = c.args.p.now in
    let floors = c.args.floor.now in
    let setting = c.in_ok-setting.ensures.value in
    let columns : c.in_ok-setting.setting.columns ≡ phase_one p floors caps = ap (λ (f : ShortSetting). f.columns) setting ∙ is in
    let start : spelled c.in_ok-setting.setting c.in_ok-tableau.tableau ≡ first_tableau p floors caps =
    ap₂ spelled setting c.in_ok-tableau.ensures ∙ first_spells p floors c.args.columns 1 c.requires.program c.requires.columns in
    subst (λ t. IfOk c.phase_one.result (λ o. IfSome o (λ e. ending_of e ≡ phase_one_from p floors caps t))) start (c.phase_one.ensures.value floors caps columns)
