use Rattle.std.proofs.Common.{sym, subst}
use Rattle.pc_proof.specs.declared.document.BlockTree.{BlockTree}
use Rattle.pc_proof.specs.Documents.{lines_of}
use Rattle.pc_check.specs.Blocks.{IsTreeFinding}
use Rattle.pc_check.proofs.block_tree.judge_tree.Goals as goal

pub returns-in-Same : goal.returns-in-Same
returns-in-Same c =
    subst (λ (tree : BlockTree). IsTreeFinding (lines_of tree) c.args.line c.args.premises.now c.args.area.now c.args.nodes.now c.judge_same.result) (sym c.in-Same.is)
    c.judge_same.ensures
