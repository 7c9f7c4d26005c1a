use Rattle.pc_agg.proofs.aim.aim_on.Goals as goal

pub returns-in-At-clause-aimed : goal.returns-in-At-clause-aimed
returns-in-At-clause-aimed c = record { low = c.requires.low; high = (rw c.in-At.is at c.in_ok-high.ensures.aimed) }

pub returns-in-At-clause-nested : goal.returns-in-At-clause-nested
returns-in-At-clause-nested c nested reached = record { low = reached; high = (rw c.in-At.is at (c.in_ok-high.ensures.nested nested)) }

pub returns-in-Nothing-clause-aimed : goal.returns-in-Nothing-clause-aimed
returns-in-Nothing-clause-aimed c = rw c.in-Nothing.is at c.in_ok-high.ensures.aimed
