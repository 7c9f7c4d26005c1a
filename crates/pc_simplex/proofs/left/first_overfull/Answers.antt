use Rattle.std.proofs.Common.{◌<◌, arith}
use Rattle.pc_program_bound.specs.Allocation.{constraints_of}
use Rattle.pc_simplex_tableau.proofs.Deciding.{none_first, none_more, first_found}
use Rattle.pc_simplex.specs.Floors.{is_overfull}
use Rattle.pc_simplex.proofs.left.first_overfull.Goals as goal

pub loop-constraint-init : goal.loop-constraint-init
loop-constraint-init c = none_first (is_overfull c.args.p.now c.args.floor.now)

pub returns-then-is_overfull : goal.returns-then-is_overfull
returns-then-is_overfull c =
    let l = c.loop-constraint in
    let within : l.constraint < constraints_of c.args.p.now = omega (arith, c.loop-constraint-test.true, c.len-constraint-end.ensures) in
    first_found (is_overfull c.args.p.now c.args.floor.now) (constraints_of c.args.p.now) l.constraint within l.invariant c.if-is_overfull.ensures

pub loop-constraint-preserved : goal.loop-constraint-preserved
loop-constraint-preserved c =
    none_more (is_overfull c.args.p.now c.args.floor.now) c.loop-constraint.constraint c.loop-constraint.invariant c.if-is_overfull.ensures
