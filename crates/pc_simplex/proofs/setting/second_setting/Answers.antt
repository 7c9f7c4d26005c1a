use Rattle.pc_simplex.proofs.Settings.{renewed_is_setting}
use Rattle.pc_simplex.proofs.setting.second_setting.Goals as goal

pub returns-clause-setting : goal.returns-clause-setting
returns-clause-setting c =
    let top = c.greatest_gain.ensures in
    renewed_is_setting c.args.p.now c.args.setting _ _ _ _ c.setting.view_is c.columns.view_is c.requires.setting c.in_ok-gains.ensures
    c.requires.program c.requires.columns top.some top.most
