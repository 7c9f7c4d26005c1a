use Rattle.pc_gen.proofs.Stepping.{and_then}
use Rattle.pc_gen.proofs.constraint.constraint_by.Goals as goal

pub returns-in_err-name_of-clause-state : goal.returns-in_err-name_of-clause-state
returns-in_err-name_of-clause-state c = and_then 1 1 _ _ _ c.draw.ensures.state c.draw-2.ensures.state

pub returns-in_err-priced_region-clause-state : goal.returns-in_err-priced_region-clause-state
returns-in_err-priced_region-clause-state c = and_then 1 1 _ _ _ c.draw.ensures.state c.draw-2.ensures.state

pub returns-clause-state : goal.returns-clause-state
returns-clause-state c = and_then 1 1 _ _ _ c.draw.ensures.state c.draw-2.ensures.state
