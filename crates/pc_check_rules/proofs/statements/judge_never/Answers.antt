use Rattle.std.proofs.Common.{sym, subst}
use Rattle.pc_proof.specs.declared.answer.NeverBy.{NeverBy}
use Rattle.pc_check_rules.specs.Statements.{IsNeverFinding}
use Rattle.pc_check_rules.proofs.statements.judge_never.Goals as goal

pub returns-in-Tree : goal.returns-in-Tree
returns-in-Tree c = λ s of_scene.
    subst (λ (by' : NeverBy). IsNeverFinding s c.args.line by' c.judge_tree_never.result) (sym c.in-Tree.is) (c.judge_tree_never.ensures s of_scene)
