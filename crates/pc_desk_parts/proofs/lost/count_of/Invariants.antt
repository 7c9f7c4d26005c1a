use Rattle.std.proofs.Common.{◌≡◌, cond, take}
use Rattle.std.specs.List.{sum_by}
use Rattle.pc_model.specs.declared.row.Run.{Run}
use Rattle.pc_model.specs.Membership.{is_under}
use Rattle.pc_desk_parts.proofs.lost.count_of.Given as goal

abbrev pub invariant-loop-run : goal.invariant-loop-run
invariant-loop-run l = l.count ≡ sum_by (λ (run : Run). cond (is_under l.constraints l.constraint run.row) run.times 0) (take l.run-index l.runs)
