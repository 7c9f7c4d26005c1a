use Rattle.std.proofs.Common.{sym, subst}
use Rattle.pc_proof.specs.declared.answer.AlwaysBy.{AlwaysBy}
use Rattle.pc_check_rules.specs.Statements.{IsAlwaysFinding}
use Rattle.pc_check_rules.proofs.statements.judge_always.Goals as goal

pub returns-in-Ends : goal.returns-in-Ends
returns-in-Ends c = λ s of_scene.
    subst (λ (by' : AlwaysBy). IsAlwaysFinding s c.args.line by' c.judge_ends_always.result) (sym c.in-Ends.is) (c.judge_ends_always.ensures s of_scene)
