use Rattle.pc_box.proofs.CommonRows.{common_rows, common_alike}
use Rattle.pc_box.proofs.common.meet.Goals as goal

pub returns-clause-rows : goal.returns-clause-rows
returns-clause-rows c = common_rows c.args.a.now c.args.b.now c.common_region.result c.requires.alike c.common_region.ensures

pub returns-clause-alike : goal.returns-clause-alike
returns-clause-alike c = common_alike c.args.a.now c.args.b.now c.common_region.result c.requires.alike c.common_region.ensures
