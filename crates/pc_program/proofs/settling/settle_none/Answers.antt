use Rattle.std.proofs.Common.{arith, ◌≤◌}
use Rattle.pc_program_bound.specs.Sums.{nat_at}
use Rattle.pc_program.proofs.FewCells.{IsSettled-none}
use Rattle.pc_program.proofs.settling.settle_none.Goals as goal

pub returns : goal.returns
returns c =
    let few : nat_at c.as_slice.result.now c.args.constraint ≤ 0 = omega (arith, c.if-as_slice-constraint-gt0.false) in
    IsSettled-none c.args.p.now c.args.constraint c.requires.none (rw c.as_slice.ensures at few)
