-- What is read off a tableau in short form.
use Rattle.std.proofs.Common.{◌≡◌, length, ap, sym, subst, ◌∙◌}
use Rattle.pc_simplex_tableau.specs.Tableau.{Tableau}
use Rattle.pc_simplex_short.specs.Short.{ShortSetting}
use Rattle.pc_simplex_short.proofs.Spelled.{length-aim}
use Rattle.pc_simplex.specs.declared.corner.Form as code
use Rattle.pc_simplex.specs.declared.corner.Form.TheVariants.{Short}
use Rattle.pc_simplex.specs.Corners.{tableau_of, IsSoundForm}

module _ (form : code.Form) (f : ShortSetting) (t now : Tableau) (is : form ≡ Short f t) (view : tableau_of form ≡ now) where
  pub length-columns : length now.aim ≡ f.columns.count
  length-columns = ap (λ (s : Tableau). length s.aim) (sym view ∙ ap tableau_of is) ∙ length-aim f t.turned t.weight t.aim

  pub length-turned : IsSoundForm form → length t.turned ≡ length now.aim
  length-turned sound = (subst IsSoundForm is sound).1.turned ∙ sym length-columns
