use Rattle.pc_lang_tokens.specs.Places.{HasRead}
use Rattle.pc_lang_tokens.proofs.tokens.read_tokens.Given as goal

abbrev pub invariant-loop-place : goal.invariant-loop-place
invariant-loop-place l = HasRead l.text l.place l.tokens l.taken
