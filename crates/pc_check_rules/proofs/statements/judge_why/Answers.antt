use Rattle.std.proofs.Common.{sym, subst}
use Rattle.pc_proof.specs.declared.answer.Why.{Why}
use Rattle.pc_check_rules.specs.Statements.{IsWhyFinding}
use Rattle.pc_check_rules.proofs.statements.judge_why.Goals as goal

pub returns-in-Cross : goal.returns-in-Cross
returns-in-Cross c = λ s of_scene.
    subst (λ (why : Why). IsWhyFinding s c.args.line why c.judge_cross.result) (sym c.in-Cross.is) (c.judge_cross.ensures s of_scene)

pub returns-in-Ends : goal.returns-in-Ends
returns-in-Ends c = λ s of_scene.
    subst (λ (why : Why). IsWhyFinding s c.args.line why c.judge_ends_why.result) (sym c.in-Ends.is) (c.judge_ends_why.ensures s of_scene)
