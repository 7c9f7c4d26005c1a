use Rattle.std.proofs.Common.{◌≡◌, length, []}
use Rattle.std.specs.List.{slice_split}
use Rattle.pc_lang_grammar.specs.Parsing.{atoms_from, is_and}
use Rattle.pc_lang_grammar.proofs.part.atoms_of.Given as goal

-- what is read and what is left are the whole
abbrev pub invariant-loop-piece : goal.invariant-loop-piece
invariant-loop-piece l = atoms_from [] (slice_split is_and l.tokens) ≡ atoms_from l.atoms (slice_split is_and l.rest)

abbrev pub decreases-loop-piece : goal.decreases-loop-piece
decreases-loop-piece l = length l.rest
