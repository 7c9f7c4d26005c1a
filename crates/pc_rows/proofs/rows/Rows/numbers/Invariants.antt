use Rattle.std.proofs.Common.{◌≡◌}
use Rattle.pc_rows.proofs.Asking.{numbers_to}
use Rattle.pc_rows.proofs.rows.Rows.numbers.Given as goal

abbrev pub invariant-loop-place : goal.invariant-loop-place
invariant-loop-place l = l.numbers ≡ numbers_to l.query l.self l.place
