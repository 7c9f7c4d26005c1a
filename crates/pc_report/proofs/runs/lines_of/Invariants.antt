use Rattle.std.proofs.Common.{◌≡◌, take}
use Rattle.pc_report.specs.RunLines.{run_lines}
use Rattle.pc_report.proofs.runs.lines_of.Given as goal

abbrev pub invariant-loop-run : goal.invariant-loop-run
invariant-loop-run l = l.lines.items ≡ run_lines l.schema (take l.run-index l.runs)
