use Rattle.std.proofs.Common.{◌≡◌, ◌≤◌, ◌^◌, Some, IfOk, IfSome, refl, ap, ap₂, subst, sym, ◌∙◌}
use Rattle.std.proofs.lemmas.Result.{IfOk-weaker}
use Rattle.pc_simplex_tableau.specs.Numbers.{table}
use Rattle.pc_simplex_tableau.specs.Tableau.{Columns}
use Rattle.pc_simplex_tableau.specs.Relaxation.{columns_of, phase_two, with_gains}
use Rattle.pc_simplex_tableau.specs.Standing.{gain_two}
use Rattle.pc_simplex_short.specs.Short.{ShortSetting, spelled}
use Rattle.pc_simplex_short.specs.Kept.{IsShort}
use Rattle.pc_simplex.specs.Ended.{ending_of}
use Rattle.pc_simplex.specs.Shorts.{setting_of, IsEndingFrom}
use Rattle.pc_simplex.proofs.ShortSecond.{second_spells, second_is_short}
use Rattle.pc_simplex.proofs.ShortEnds.{ending_from, some-weaker}
use Rattle.pc_simplex.proofs.short_phases.phase_two.Goals as goal

pub phase_two_from-requires-clause-short : goal.phase_two_from-requires-clause-short
phase_two_from-requires-clause-short c =
    let p = c.args.p.now in
    let f = c.args.setting in
    let columns : Columns = record f.columns { helper = Some 0 } in
    let gains = table (columns_of p) (gain_two p) in
    let top = c.in_ok-setting.setting.top in
    let start = rw c.in-Some.is at c.in_ok-start.ensures.value in
    let before : IsShort (setting_of p f.columns f.gains f.top) c.args.tableau = subst (λ s. IsShort s c.args.tableau) c.requires.of c.requires.short in
    let light : top ≤ 2 ^ 69 = rw (ap (λ (s : ShortSetting). s.top) c.setting.view_is) at (rw c.in-Some.is at c.in_ok-start.ensures.light) in
    subst (λ s. IsShort s c.in-Some.start) (sym c.in_ok-setting.ensures.value)
    (subst (IsShort (setting_of p columns gains top)) (sym start) (second_is_short p f.columns columns f.gains gains f.top top c.args.tableau refl light before))

pub returns-in-Some-clause-value : goal.returns-in-Some-clause-value
returns-in-Some-clause-value c floors caps is =
    let p = c.args.p.now in
    let f = c.args.setting in
    let columns : Columns = record f.columns { helper = Some 0 } in
    let setting = c.in_ok-setting.ensures.value in
    let start = rw c.in-Some.is at c.in_ok-start.ensures.value in
    let before : IsShort (setting_of p f.columns f.gains f.top) c.args.tableau = subst (λ s. IsShort s c.args.tableau) c.requires.of c.requires.short in
    let spells : spelled c.in_ok-setting.setting c.in-Some.start ≡ with_gains p (spelled f c.args.tableau) =
    ap₂ spelled setting start
    ∙ second_spells p f.columns columns f.gains f.top c.in_ok-setting.setting.top c.args.tableau c.requires.columns.count c.requires.columns.count
    (before.turned ∙ c.requires.columns.count)
    ∙ ap (λ s. with_gains p (spelled s c.args.tableau)) (sym c.requires.of) in
    let named : c.in_ok-setting.setting.columns ≡ phase_two p floors caps =
    ap (λ (s : ShortSetting). s.columns) setting ∙ ap (λ (g : Columns). record g { helper = Some 0 }) is in
    let found = subst (λ t. IfOk c.phase_two_from.result (λ o. IfSome o (λ e. IsEndingFrom c.in_ok-setting.setting.columns c.args.left c.args.steps t (ending_of e)))) spells
    c.phase_two_from.ensures.value in
    let ends = subst (λ g. IfOk c.phase_two_from.result (λ o. IfSome o (λ e. IsEndingFrom g c.args.left c.args.steps (with_gains p (spelled f c.args.tableau)) (ending_of e)))) named found in
    IfOk-weaker c.phase_two_from.result _ _ (λ o h. some-weaker o _ _ (λ e k. ending_from p floors caps c.args.left c.args.steps (spelled f c.args.tableau) (ending_of e) k) h) ends
