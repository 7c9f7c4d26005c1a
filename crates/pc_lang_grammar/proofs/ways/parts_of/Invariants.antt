use Rattle.std.proofs.Common.{◌≡◌, length, []}
use Rattle.std.specs.List.{slice_split}
use Rattle.pc_lang_grammar.specs.Parsing.{is_or, parts_from}
use Rattle.pc_lang_grammar.proofs.ways.parts_of.Given as goal

-- what is read and what is left are the whole
abbrev pub invariant-loop-piece : goal.invariant-loop-piece
invariant-loop-piece l = parts_from [] (slice_split is_or l.tokens) ≡ parts_from l.parts (slice_split is_or l.rest)

abbrev pub decreases-loop-piece : goal.decreases-loop-piece
decreases-loop-piece l = length l.rest
