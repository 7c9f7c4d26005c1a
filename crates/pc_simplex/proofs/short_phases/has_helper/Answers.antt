use Rattle.std.proofs.Common.{◌∙◌}
use Rattle.pc_simplex.proofs.ShortFreed.{has_left-spelled}
use Rattle.pc_simplex.proofs.short_phases.has_helper.Goals as goal

pub returns : goal.returns
returns c = c.is_any_left.ensures ∙ has_left-spelled c.args.setting.now c.args.tableau.now
