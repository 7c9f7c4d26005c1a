use Rattle.pc_script.proofs.line.dropped.Goals as goal

pub returns-then-eq-clause-can : goal.returns-then-eq-clause-can
returns-then-eq-clause-can c = c.dropped_row.ensures.can c.args.schema.now

pub returns-then-eq-2-clause-can : goal.returns-then-eq-2-clause-can
returns-then-eq-2-clause-can c = c.dropped_rule.ensures.can c.args.schema.now
