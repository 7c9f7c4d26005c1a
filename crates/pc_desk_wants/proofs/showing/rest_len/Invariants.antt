use Rattle.std.proofs.Common.{◌≡◌, ℕ, ◌<◌, false, get_or}
use Rattle.pc_desk_wants.specs.Shown.{begins_char}
use Rattle.pc_desk_wants.proofs.showing.rest_len.Given as goal

abbrev pub invariant-loop-place : goal.invariant-loop-place
invariant-loop-place l = (k : ℕ) → k < l.place → begins_char (get_or l.text k 0) ≡ false
