use Rattle.std.proofs.Common.{◌≡◌, drop}
use Rattle.pc_lang_grammar.specs.Halts.{halt_from}
use Rattle.pc_lang_grammar.proofs.halt.halt_of.Given as goal

-- the tokens before may stand where they do
abbrev pub invariant-loop-place : goal.invariant-loop-place
invariant-loop-place l = halt_from 0 l.fn.start l.tokens ≡ halt_from l.place l.want (drop l.place l.tokens)
