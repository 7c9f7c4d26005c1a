use Rattle.std.proofs.Common.{◌≡◌, ◌+◌, ◌^◌, ◌≤◌, drop}
use Rattle.std.specs.List.{sum_by}
use Rattle.pc_model.specs.declared.row.Run.{Run}
use Rattle.pc_witness.proofs.fold.total_times.Given as goal

abbrev pub invariant-loop-run : goal.invariant-loop-run
invariant-loop-run l = record {
  left : l.total + sum_by (λ (run : Run). run.times) (drop l.run-index l.runs) ≡ sum_by (λ (run : Run). run.times) l.runs;
  small : l.total ≤ 2 ^ 36;
}
