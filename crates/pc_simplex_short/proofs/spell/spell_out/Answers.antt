use Rattle.std.proofs.Common.{sym, subst}
use Rattle.std.proofs.lemmas.Result.{IfOk-weaker}
use Rattle.pc_simplex_tableau.specs.Conditions.{IsSized, AreFitNumbers}
use Rattle.pc_simplex_short.proofs.Fits.{spelled_sized, spelled_fits}
use Rattle.pc_simplex_short.proofs.spell.spell_out.Goals as goal

pub returns-clause-sized : goal.returns-clause-sized
returns-clause-sized c =
    IfOk-weaker c.spell_parts.result _ _
    (λ t e. subst (IsSized c.args.setting.now.columns) (sym e) (spelled_sized c.args.setting.now c.args.short c.requires.setting c.requires.short)) c.spell_parts.ensures

pub returns-clause-fits : goal.returns-clause-fits
returns-clause-fits c =
    IfOk-weaker c.spell_parts.result _ _
    (λ t e. subst AreFitNumbers (sym e) (spelled_fits c.args.setting.now c.args.short c.requires.setting c.requires.short)) c.spell_parts.ensures
