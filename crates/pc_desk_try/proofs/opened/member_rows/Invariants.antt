use Rattle.std.proofs.Common.{◌≡◌, take}
use Rattle.pc_desk_try.specs.Opened.{member_rows}
use Rattle.pc_desk_try.proofs.opened.member_rows.Given as goal

abbrev pub invariant-loop-place : goal.invariant-loop-place
invariant-loop-place l = l.rows.items ≡ member_rows l.opening l.query (take l.place l.constraints)
