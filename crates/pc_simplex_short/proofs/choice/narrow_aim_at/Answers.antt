use Rattle.std.proofs.Common.{◌≡◌, ap, sym, ◌∙◌, arith}
use Rattle.pc_program_bound.specs.Bound.{IsFit}
use Rattle.pc_num.proofs.Signed.{passed}
use Rattle.pc_simplex_tableau.specs.Tableau.{Tableau}
use Rattle.pc_simplex_short.specs.Kept.{IsWithin}
use Rattle.pc_simplex_short.proofs.Sizes.{narrow_weight}
use Rattle.pc_simplex_short.proofs.Spelled.{at-aim}
use Rattle.pc_simplex_short.proofs.Words.{FitsWord, passed_word}
use Rattle.pc_simplex_short.proofs.choice.narrow_aim_at.Goals as goal

pub returns : goal.returns
returns c =
    let f = c.args.setting.now in
    let t = c.args.tableau.now in
    let turned = c.as_slice.ensures.value ∙ ap (λ (s : Tableau). s.turned) c.tableau.view_is in
    let aim = c.as_slice-2.ensures.value ∙ ap (λ (s : Tableau). s.aim) c.tableau.view_is in
    let weight : c.tableau.inside.weight ≡ t.weight = ap (λ (s : Tableau). s.weight) c.tableau.view_is in
    let light : IsWithin 60 t.weight = narrow_weight f.top t.weight c.requires.setting.some c.requires.narrow.light in
    let wide : IsFit t.weight = omega (arith, light) in
    let fits : FitsWord t.weight = omega (arith, light) in
    let narrowed : c.narrow_weight.result ≡ t.weight = rw (weight, passed t.weight wide) at c.narrow_weight.ensures in
    let made : FitsWord c.narrow_aim_entry.result = omega (arith, c.narrow_aim_entry.ensures.small) in
    let value = rw (turned, aim, narrowed, passed_word t.weight fits) at c.narrow_aim_entry.ensures.value in
    passed_word c.narrow_aim_entry.result made ∙ value ∙ sym (at-aim f t.turned t.weight t.aim c.args.column c.requires.column)
