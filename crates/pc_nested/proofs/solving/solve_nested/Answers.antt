use Rattle.std.proofs.Common.{◌+◌, subst, arith}
use Rattle.pc_program_bound.specs.Allocation.{cells_of}
use Rattle.pc_nested.specs.Narrowed.{places_of}
use Rattle.pc_nested.specs.Ordered.{IsNarrowedTo}
use Rattle.pc_nested.proofs.Sizes.{ArePast-all}
use Rattle.pc_nested.proofs.solving.solve_nested.Goals as goal

pub best-requires-clause-whole : goal.best-requires-clause-whole
best-requires-clause-whole c =
    let p = c.args.p.now in
    let whole = subst (IsNarrowedTo p (cells_of p + 1) 0) c.in-Whole.is c.in_ok-narrowing.ensures in
    ArePast-all p (places_of c.in-Whole.narrowing.steps) (cells_of p + 1) (omega arith) whole.1
