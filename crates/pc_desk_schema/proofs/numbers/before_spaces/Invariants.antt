use Rattle.std.proofs.Common.{◌≡◌, length, reverse}
use Rattle.pc_rows.specs.RowFile.{after_spaces}
use Rattle.pc_desk_schema.proofs.numbers.before_spaces.Given as goal

abbrev pub invariant-loop-text : goal.invariant-loop-text
invariant-loop-text l = after_spaces (reverse l.text) ≡ after_spaces (reverse l.fn.text)

abbrev pub decreases-loop-text : goal.decreases-loop-text
decreases-loop-text l = length l.text
