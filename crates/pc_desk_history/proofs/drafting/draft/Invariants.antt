use Rattle.std.proofs.Common.{◌≡◌, ◌+◌, ◌++◌, drop}
use Rattle.pc_desk_history.specs.Draft.{drafted_from, drafted_of}
use Rattle.pc_desk_history.proofs.drafting.draft.Given as goal

abbrev pub invariant-loop-place : goal.invariant-loop-place
invariant-loop-place l =
    l.drafted ++ drafted_from l.schema l.wish l.rows l.chosen (l.place + 1) (drop l.place l.cells) ≡ drafted_of l.schema l.rows l.chosen l.cells l.wish
