use Rattle.std.proofs.Common.{◌≡◌, ◌++◌, drop}
use Rattle.pc_lang_grammar.specs.Grammar.{further_names}
use Rattle.pc_lang_grammar.proofs.spell.put_further_names.Given as goal

-- what is written and what is left are the whole
abbrev pub invariant-loop-name : goal.invariant-loop-name
invariant-loop-name l = l.out ++ further_names (drop l.name-index l.names) ≡ l.fn.out ++ further_names l.names
