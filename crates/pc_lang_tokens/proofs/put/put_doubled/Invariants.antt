use Rattle.std.proofs.Common.{◌≡◌, ◌++◌, drop}
use Rattle.pc_lang_tokens.specs.Spelling.{doubled}
use Rattle.pc_lang_tokens.proofs.put.put_doubled.Given as goal

-- what is written and what is left are the whole
abbrev pub invariant-loop-byte : goal.invariant-loop-byte
invariant-loop-byte l = l.out.items ++ doubled (drop l.byte-index l.name) ≡ l.fn.out.items ++ doubled l.name
