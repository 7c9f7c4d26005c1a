use Rattle.std.proofs.Common.{◌≡◌, length, []}
use Rattle.pc_desk_divide.specs.Reading.{divisions_after, texts_of}
use Rattle.pc_desk_divide.proofs.reading.divisions_from.Given as goal

abbrev pub invariant-loop-first : goal.invariant-loop-first
invariant-loop-first l = divisions_after l.columns l.divisions (texts_of l.rest) ≡ divisions_after l.columns [] (texts_of l.text)

abbrev pub decreases-loop-first : goal.decreases-loop-first
decreases-loop-first l = length l.rest
