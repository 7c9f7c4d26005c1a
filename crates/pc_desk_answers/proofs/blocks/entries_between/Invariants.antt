use Rattle.std.proofs.Common.{◌≡◌, ◌++◌, drop}
use Rattle.pc_desk_answers.specs.Blocks.{entries_between, ground_in}
use Rattle.pc_desk_answers.proofs.blocks.entries_between.Given as goal

abbrev pub invariant-loop-place : goal.invariant-loop-place
invariant-loop-place l =
    l.entries ++ entries_between (ground_in l.scope) l.query (drop l.place l.blocks) (drop l.place l.lefts) ≡ entries_between (ground_in l.scope) l.query l.blocks l.lefts
