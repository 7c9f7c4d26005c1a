-- The parts between the `or`s, as far as a loop has come.
use Rattle.std.proofs.Common.{◌≡◌, List, [], ◌∷◌, ◌++◌, Ok, refl}
use Rattle.std.specs.List.{slice_split}
use Rattle.pc_model.specs.declared.fault.ReadStop.{ReadStop}
use Rattle.pc_model.specs.declared.fault.ReadStop.TheVariants as stops
use Rattle.pc_model.specs.Refusals.{StopsAs}
use Rattle.pc_lang_tokens.specs.declared.token.Token.{Token}
use Rattle.pc_lang_grammar.specs.declared.syntax.Part.{Part}
use Rattle.pc_lang_grammar.specs.Parsing.{is_or, part_of, parts_from}

-- the part of a piece
pub parts_step : (before : List Part) (list piece rest : List Token) (found : Part) → slice_split is_or list ≡ piece ∷ slice_split is_or rest → part_of piece ≡ Ok found → parts_from before (slice_split is_or list) ≡ parts_from (before ++ found ∷ []) (slice_split is_or rest)
unfolding parts_from
parts_step before list piece rest found split here = rw (split, here) refl

pub parts_stop : (stop : ReadStop) (before : List Part) (list piece rest : List Token) → slice_split is_or list ≡ piece ∷ slice_split is_or rest → StopsAs stop (part_of piece) → StopsAs stop (parts_from before (slice_split is_or list))
unfolding parts_from
parts_stop (stops.Reason reason) before list piece rest split here = rw (split, here) refl
parts_stop stops.Memory before list piece rest split here = tt

-- the last piece
pub parts_end : (before : List Part) (list : List Token) (found : Part) → slice_split is_or list ≡ list ∷ [] → part_of list ≡ Ok found → parts_from before (slice_split is_or list) ≡ Ok (before ++ found ∷ [])
unfolding parts_from
parts_end before list found split here = rw (split, here) refl

pub parts_end_stop : (stop : ReadStop) (before : List Part) (list : List Token) → slice_split is_or list ≡ list ∷ [] → StopsAs stop (part_of list) → StopsAs stop (parts_from before (slice_split is_or list))
unfolding parts_from
parts_end_stop (stops.Reason reason) before list split here = rw (split, here) refl
parts_end_stop stops.Memory before list split here = tt

pub ruleset steps = (parts_step, parts_stop, parts_end, parts_end_stop)
