use Rattle.std.proofs.Common.{◌≡◌, ◌++◌, drop}
use Rattle.pc_lang_tokens.specs.Texts.{texts_after}
use Rattle.pc_lang_tokens.proofs.texts.put_after.Given as goal

-- what is written and what is left are the whole
abbrev pub invariant-loop-next : goal.invariant-loop-next
invariant-loop-next l = l.out.items ++ texts_after l.last (drop l.next-index l.rest) ≡ l.fn.out.items ++ texts_after l.first l.rest
