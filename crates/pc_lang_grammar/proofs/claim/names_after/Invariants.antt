use Rattle.std.proofs.Common.{◌≡◌, length, []}
use Rattle.pc_lang_grammar.specs.Parsing.{names_after}
use Rattle.pc_lang_grammar.proofs.claim.names_after.Given as goal

-- what is read and what is left are the whole
abbrev pub invariant-loop-rest : goal.invariant-loop-rest
invariant-loop-rest l = names_after [] l.tokens ≡ names_after l.names l.rest

abbrev pub decreases-loop-rest : goal.decreases-loop-rest
decreases-loop-rest l = length l.rest
