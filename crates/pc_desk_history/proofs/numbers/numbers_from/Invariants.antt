use Rattle.std.proofs.Common.{◌≡◌, IfSome, None, drop}
use Rattle.pc_desk_history.specs.Draft.{AreFew, numbers_from}
use Rattle.pc_desk_history.proofs.numbers.numbers_from.Given as goal

abbrev pub invariant-loop-place : goal.invariant-loop-place
invariant-loop-place l =
    (numbers_from l.lost (drop l.place l.counts) (drop l.place l.totals) l.numbers ≡ numbers_from l.lost l.counts l.totals None)
    × IfSome l.numbers AreFew
