use Rattle.pc_report.proofs.RunsShown.{possible_runs_are_shown}
use Rattle.pc_report.proofs.laws.possible_runs_are_shown.Goals as goal

pub returns : goal.returns
returns c = possible_runs_are_shown
