use Rattle.std.proofs.Common.{◌≡◌, ◌++◌, drop}
use Rattle.pc_lang_grammar.specs.Grammar.{further_atoms}
use Rattle.pc_lang_grammar.proofs.spell.put_further_atoms.Given as goal

-- what is written and what is left are the whole
abbrev pub invariant-loop-atom : goal.invariant-loop-atom
invariant-loop-atom l = l.out ++ further_atoms (drop l.atom-index l.atoms) ≡ l.fn.out ++ further_atoms l.atoms
