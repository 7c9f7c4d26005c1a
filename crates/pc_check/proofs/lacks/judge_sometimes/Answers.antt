use Rattle.std.proofs.Common.{◌+◌, length}
use Rattle.pc_proof.specs.Demands.{gives_none, gives_some}
use Rattle.pc_check_rules.proofs.Verdicts.{goes_on}
use Rattle.pc_check.specs.Verdicts.{runs_demands}
use Rattle.pc_check.proofs.lacks.judge_sometimes.Goals as goal

pub returns : goal.returns
returns c = λ s of_matter.
    let line = c.args.line in
    let without = c.args.without.now in
    let runs = c.args.with.now in
    goes_on s (runs_demands line without gives_none) (runs_demands (line + 1 + length without) runs gives_some)
    {X = Unit {0}} (λ kept. Unit {0}) c.judge_with.result (c.in_ok-judge_without.ensures s of_matter).0 (c.judge_with.ensures s of_matter)
