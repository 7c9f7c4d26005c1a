use Rattle.std.proofs.Common.{◌≡◌, ◌+◌, [], drop, false}
use Rattle.pc_lang_tokens.specs.Lexing.{quoted_from}
use Rattle.pc_lang_tokens.proofs.lexer.quoted_from.Given as goal

-- what is read and what is left are the whole
abbrev pub invariant-loop-place : goal.invariant-loop-place
invariant-loop-place l = quoted_from false 1 [] l.text ≡ quoted_from l.closing (l.place + 1) l.name (drop l.place l.text)
