use Rattle.pc_box.proofs.RestRows.{rest_rows, rest_alike}
use Rattle.pc_box.proofs.rest.minus.Goals as goal

pub returns-clause-rows : goal.returns-clause-rows
returns-clause-rows c = rest_rows c.args.a.now c.args.b.now c.rest_of.result c.requires.alike c.rest_of.ensures

pub returns-clause-alike : goal.returns-clause-alike
returns-clause-alike c = rest_alike c.args.a.now c.args.b.now c.rest_of.result c.requires.alike c.rest_of.ensures
