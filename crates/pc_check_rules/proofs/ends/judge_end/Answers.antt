use Rattle.std.proofs.Common.{Ok, sym, subst}
use Rattle.pc_proof.specs.declared.answer.Proof.{Proof}
use Rattle.pc_check_rules.specs.Findings.{IsEndFinding}
use Rattle.pc_check_rules.proofs.TreeFindings.{end_of_values}
use Rattle.pc_check_rules.proofs.ends.judge_end.Goals as goal

pub returns-in-Values : goal.returns-in-Values
returns-in-Values c = λ s of_scene.
    let scene = c.args.scene.now in
    subst (λ (proof : Proof). IsEndFinding c.args.extreme s c.args.line scene.agg c.args.value.now proof (Ok c.values_show.result)) (sym c.in-Values.is)
    (end_of_values s c.args.line c.args.value.now scene of_scene c.args.extreme c.values_show.result c.values_show.ensures)
