use Rattle.std.proofs.Common.{◌≡◌, ◌+◌, drop}
use Rattle.pc_lang_tokens.specs.Lexing.{letters_len}
use Rattle.pc_lang_tokens.proofs.lexer.letters_len.Given as goal

-- what is left decides
abbrev pub invariant-loop-place : goal.invariant-loop-place
invariant-loop-place l = letters_len l.text ≡ l.place + letters_len (drop l.place l.text)
