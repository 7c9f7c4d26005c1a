use Rattle.std.proofs.Common.{None, subst}
use Rattle.std.specs.Prelude.{IfOk}
use Rattle.pc_proof.specs.Documents.{premises_of}
use Rattle.pc_proof.proofs.DocumentLines.{right-from_document}
use Rattle.pc_proof.proofs.Formed.{form_of_document}
use Rattle.pc_check.specs.Verdicts.{IsVerdictOn}
use Rattle.pc_check.proofs.document.check.Goals as goal

pub returns-clause-verdict : goal.returns-clause-verdict
returns-clause-verdict c =
    c.verdict_of.ensures (premises_of c.args.schema.now c.args.rows.now c.args.constraints.now) c.args.doc.now.blocks (rw c.as_slice.ensures at c.judge_blocks.ensures)

pub returns-clause-right : goal.returns-clause-right
returns-clause-right c is_yes =
    let schema = c.args.schema.now in
    let blocks = c.args.doc.now.blocks in
    let case = premises_of schema c.args.rows.now c.args.constraints.now in
    let whole = subst (λ r. IfOk r (IsVerdictOn case blocks)) is_yes (c.verdict_of.ensures case blocks (rw c.as_slice.ensures at c.judge_blocks.ensures)) in
    right-from_document case None blocks
    (λ k block there. record { formed = c.requires.well_formed; query = (c.requires.formed k block there).query })
    (form_of_document case None blocks tt c.requires.formed) whole
