use Rattle.std.proofs.Common.{sym, subst}
use Rattle.std.specs.Prelude.{option_copied}
use Rattle.std.proofs.lemmas.Result.{err_from_is_err_and}
use Rattle.pc_proof.specs.Form.{IsFormedBlock}
use Rattle.pc_check.specs.Premises.{case_of}
use Rattle.pc_check.proofs.AskedAgain.{kept_over}
use Rattle.pc_check.proofs.DocumentSteps.{in_preorder, stop_here, go_on}
use Rattle.pc_check.proofs.document.judge_blocks.Goals as goal

pub returns-in_err-asked : goal.returns-in_err-asked
returns-in_err-asked c =
    let p = err_from_is_err_and c.from_residual-in_err-asked.result c.from_residual-in_err-asked.ensures.1 in
    let loop = c.loop-block in
    rw (p.1, p.2)
    (stop_here (case_of c.args.premises.now) c.args.blocks.now loop.block-index loop.line (option_copied loop.before) c.block-item.result _ c.loop-block-test.true c.block-item.is
    loop.invariant.at_block c.in_err-asked.field-0.0 (rw c.nodes_after-nodes.ensures at c.in_err-asked.ensures.found))

pub loop-block-preserved : goal.loop-block-preserved
loop-block-preserved c =
    let loop = c.loop-block in
    let block = c.block-item.result in
    let before = option_copied loop.before in
    let formed = subst (IsFormedBlock c.args.premises.now.schema.now) (sym c.block-item.is) (c.requires.formed loop.block-index _ c.loop-block-test.true) in
    record {
      at_block = rw (c.nodes_after-nodes.ensures, c.block_count-line.ensures)
          (go_on (case_of c.args.premises.now) c.args.blocks.now loop.block-index loop.line before block _ c.loop-block-test.true c.block-item.is loop.invariant.at_block tt
          (in_preorder c.args.premises.now.schema.now before block.tree formed.tree loop.invariant.at_block.ordered) (rw c.nodes_after-nodes.ensures at c.in_ok-asked.ensures.found));
      kept_over = c.in_ok-asked.ensures.kept;
      seen = c.in_ok-seen.ensures.kept;
    }

pub judge_next-requires-clause-before : goal.judge_next-requires-clause-before
judge_next-requires-clause-before c =
    let loop = c.loop-block in
    rw (c.nodes_after-nodes.ensures, c.kept_for-over.ensures)
    (kept_over c.args.premises.now (option_copied loop.before) loop.kept c.block-item.result.tree loop.invariant.kept_over)
