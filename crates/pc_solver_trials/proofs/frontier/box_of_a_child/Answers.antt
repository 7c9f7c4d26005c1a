use Rattle.pc_solver_trials.proofs.FrontierSamples.{fitting_sample}
use Rattle.pc_solver_trials.proofs.frontier.box_of_a_child.Goals as goal

pub box_of-requires-clause-fits : goal.box_of-requires-clause-fits
box_of-requires-clause-fits g c = fitting_sample c.in_ok-frontier.frontier.nodes c.in_ok-frontier.ensures
