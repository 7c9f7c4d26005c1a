use Rattle.std.proofs.Common.{sym}
use Rattle.std.proofs.lemmas.Result.{err_from_is_err_and}
use Rattle.pc_proof.specs.Documents.{lines_of}
use Rattle.pc_check.proofs.AskedAgain.{over_leaves}
use Rattle.pc_check.proofs.asked.divided.Goals as goal

pub returns-in_err-leaves-clause-found : goal.returns-in_err-leaves-clause-found
returns-in_err-leaves-clause-found c = λ s given.
    let p = err_from_is_err_and c.from_residual.result c.from_residual.ensures.1 in
    rw (p.1, p.2) (c.in_err-leaves.ensures s given)

pub returns-clause-found : goal.returns-clause-found
returns-clause-found c = λ s given. let found = c.in_ok-leaves.ensures s given in (found.0, tt)

pub returns-clause-over : goal.returns-clause-over
returns-clause-over c =
    over_leaves c.args.premises.now c.args.query c.args.nodes.now (lines_of c.args.tree.now) c.args.line c.in_ok-leaves.leaves c.in_ok-cells.cells c.in_ok-leaves.ensures
    (rw (sym c.as_slice.ensures) c.in_ok-cells.ensures.cells)
