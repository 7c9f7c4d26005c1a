use Rattle.pc_gen.proofs.Stepping.{and_then}
use Rattle.pc_gen.proofs.constraint.draw_span.Goals as goal

pub returns-clause-state : goal.returns-clause-state
returns-clause-state c = and_then 1 1 _ _ _ c.draw.ensures.state c.draw-2.ensures.state
