use Rattle.std.proofs.Common.{◌≡◌, ◌≤◌, drop, unsigned_abs, IfSome}
use Rattle.pc_desk_why.specs.Bars.{limit, total_of}
use Rattle.pc_desk_why.proofs.totals.total_of.Given as goal

abbrev pub invariant-loop-part : goal.invariant-loop-part
invariant-loop-part l =
    (total_of l.total (drop l.part-index l.parts) ≡ total_of l.fn.start l.fn.parts) × IfSome l.total (λ total. unsigned_abs total ≤ limit)
