use Rattle.std.proofs.Common.{◌≡◌, ◌++◌, drop}
use Rattle.pc_lang_grammar.specs.Grammar.{further_parts}
use Rattle.pc_lang_grammar.proofs.spell.put_further_parts.Given as goal

-- what is written and what is left are the whole
abbrev pub invariant-loop-part : goal.invariant-loop-part
invariant-loop-part l = l.out ++ further_parts (drop l.part-index l.parts) ≡ l.fn.out ++ further_parts l.parts
