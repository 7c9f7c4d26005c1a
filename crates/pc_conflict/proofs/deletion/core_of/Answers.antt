use Rattle.pc_conflict.proofs.Steps.{is_core}
use Rattle.pc_conflict.proofs.deletion.core_of.Goals as goal

pub returns-clause-found : goal.returns-clause-found
returns-clause-found c = λ schema budget is.
    let without = rw (c.as_slice.ensures, c.as_slice-2.ensures) at c.in_ok-without.ensures in
    is_core schema c.args.constraints.now c.args.deletion c.in_ok-without.without is (without schema is.each)
