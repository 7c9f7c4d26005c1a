use Rattle.std.proofs.Common.{◌∙◌}
use Rattle.pc_simplex.proofs.Settings.{made_is_setting}
use Rattle.pc_simplex.proofs.setting.first_setting.Goals as goal

pub returns-clause-setting : goal.returns-clause-setting
returns-clause-setting c =
    made_is_setting c.args.p.now c.args.floor.now c.args.columns _ _ _ c.in_ok-places.ensures
    (c.from_vec-gains.ensures ∙ c.in_ok-first_aim.ensures) c.len.ensures
    c.requires.program c.requires.columns
