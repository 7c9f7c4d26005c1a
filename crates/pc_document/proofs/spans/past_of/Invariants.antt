use Rattle.pc_document.specs.Spans.{ArePast}
use Rattle.pc_document.proofs.spans.past_of.Given as goal

abbrev pub invariant-loop-place : goal.invariant-loop-place
invariant-loop-place l = ArePast l.flags l.past.items l.place
