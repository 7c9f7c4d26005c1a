use Rattle.std.proofs.Common.{All, take}
use Rattle.pc_program_bound.specs.Walk.{HasFitNumbers}
use Rattle.pc_bench.proofs.trials.walking.have_fit_numbers.Given as goal

abbrev pub invariant-loop-node : goal.invariant-loop-node
invariant-loop-node l = All HasFitNumbers (take l.node-index l.nodes)
