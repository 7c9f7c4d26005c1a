use Rattle.pc_script.proofs.OneMore.{begun}
use Rattle.pc_script.proofs.script.begin.Goals as goal

pub returns-clause-reading : goal.returns-clause-reading
returns-clause-reading c =
    rw (c.new.ensures, c.count.ensures.counted, c.in_ok-copies_of.ensures)
    (λ schema. begun schema (record { rows = c.args.rows.now; constraints = c.args.constraints.now }))
