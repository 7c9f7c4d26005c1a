use Rattle.std.proofs.Common.{arith, ◌≡◌, ◌∙◌, to_z, of_z}
use Rattle.std.proofs.lemmas.Int.{ints}
use mir.Syntax.{w128}
use Rattle.pc_program.proofs.Optimal.{IsSolved-all}
use Rattle.pc_program.proofs.Fitting.{fit_settled}
use Rattle.pc_program.proofs.solving.greedy.Goals as goal

pub returns-in-All-clause-solved : goal.returns-in-All-clause-solved
returns-in-All-clause-solved c =
    let same : to_z w128 (of_z w128 c.worth_of-value.result) ≡ c.worth_of-value.result = omega (arith, ints) in
    IsSolved-all c.args.p.now c.in-All.counts c.in-All.multipliers _ c.requires.program c.requires.one_bits (rw c.in-All.is at c.in_ok-counts.ensures)
    (same ∙ (rw c.as_slice.ensures at c.worth_of-value.ensures.value))

pub returns-in-All-clause-fits : goal.returns-in-All-clause-fits
returns-in-All-clause-fits c = (fit_settled c.args.p.now c.in-All.counts c.in-All.multipliers (rw c.in-All.is at c.in_ok-counts.ensures), omega (arith, ints))
