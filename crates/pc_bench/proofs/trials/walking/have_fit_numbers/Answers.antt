use Rattle.std.proofs.Common.{subst}
use Rattle.std.specs.Prelude.{All}
use Rattle.std.proofs.lemmas.List.{take_all}
use Rattle.std.proofs.lemmas.List.Elements.{All-more}
use Rattle.pc_program_bound.specs.Walk.{HasFitNumbers}
use Rattle.pc_bench.proofs.trials.walking.have_fit_numbers.Goals as goal

pub loop-node-preserved : goal.loop-node-preserved
loop-node-preserved c =
    All-more HasFitNumbers c.args.nodes.now c.loop-node.node-index c.node-item.result c.loop-node-test.true c.loop-node.invariant
    (subst HasFitNumbers c.node-item.is (c.has_fit_numbers.ensures c.if-not-has_fit_numbers.false))

pub returns : goal.returns
returns c = λ all. subst (All HasFitNumbers) (take_all c.loop-node.node-index c.args.nodes.now c.loop-node-test.false) c.loop-node.invariant
