use Rattle.std.proofs.Common.{◌≡◌, ◌++◌, take}
use Rattle.pc_desk_short.specs.ClashTexts.{next_runs_text}
use Rattle.pc_desk_short.proofs.clash_line.put_next_runs.Given as goal

abbrev pub invariant-loop-run : goal.invariant-loop-run
invariant-loop-run l = l.out.items ≡ l.fn.out.items ++ next_runs_text l.schema (take l.run-index l.runs)
