use Rattle.std.proofs.Common.{◌≡◌, ◌+◌, drop}
use Rattle.pc_desk_draw.specs.Questions.{same_len}
use Rattle.pc_desk_draw.proofs.question.same_len.Given as goal

-- what is left decides
abbrev pub invariant-loop-place : goal.invariant-loop-place
invariant-loop-place l = same_len l.line l.query l.entries ≡ l.place + same_len l.line l.query (drop l.place l.entries)
