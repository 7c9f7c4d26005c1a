use Rattle.pc_agg.proofs.aim.aim_at_both.Goals as goal

pub aim_on-requires-clause-low : goal.aim_on-requires-clause-low
aim_on-requires-clause-low c = rw c.in-At.is at c.in_ok-low.ensures.aimed

pub returns-in-At-clause-nested : goal.returns-in-At-clause-nested
returns-in-At-clause-nested c nested = c.aim_on.ensures.nested nested (rw c.in-At.is at (c.in_ok-low.ensures.nested nested))

pub returns-in-Nothing-clause-aimed : goal.returns-in-Nothing-clause-aimed
returns-in-Nothing-clause-aimed c = rw c.in-Nothing.is at c.in_ok-low.ensures.aimed
