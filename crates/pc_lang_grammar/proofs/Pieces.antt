-- The atoms between the `and`s, as far as a loop has come.
use Rattle.std.proofs.Common.{◌≡◌, List, [], ◌∷◌, ◌++◌, Ok, refl}
use Rattle.std.specs.List.{slice_split}
use Rattle.pc_model.specs.declared.fault.ReadStop.{ReadStop}
use Rattle.pc_model.specs.declared.fault.ReadStop.TheVariants as stops
use Rattle.pc_model.specs.Refusals.{StopsAs}
use Rattle.pc_lang_tokens.specs.declared.token.Token.{Token}
use Rattle.pc_lang_grammar.specs.declared.syntax.Atom.{Atom}
use Rattle.pc_lang_grammar.specs.Parsing.{atom_of, atoms_from, is_and}

-- the atom of a piece
pub atoms_step : (before : List Atom) (list piece rest : List Token) (found : Atom) → slice_split is_and list ≡ piece ∷ slice_split is_and rest → atom_of piece ≡ Ok found → atoms_from before (slice_split is_and list) ≡ atoms_from (before ++ found ∷ []) (slice_split is_and rest)
unfolding atoms_from
atoms_step before list piece rest found split here = rw (split, here) refl

pub atoms_stop : (stop : ReadStop) (before : List Atom) (list piece rest : List Token) → slice_split is_and list ≡ piece ∷ slice_split is_and rest → StopsAs stop (atom_of piece) → StopsAs stop (atoms_from before (slice_split is_and list))
unfolding atoms_from
atoms_stop (stops.Reason reason) before list piece rest split here = rw (split, here) refl
atoms_stop stops.Memory before list piece rest split here = tt

-- the last piece
pub atoms_end : (before : List Atom) (list : List Token) (found : Atom) → slice_split is_and list ≡ list ∷ [] → atom_of list ≡ Ok found → atoms_from before (slice_split is_and list) ≡ Ok (before ++ found ∷ [])
unfolding atoms_from
atoms_end before list found split here = rw (split, here) refl

pub atoms_end_stop : (stop : ReadStop) (before : List Atom) (list : List Token) → slice_split is_and list ≡ list ∷ [] → StopsAs stop (atom_of list) → StopsAs stop (atoms_from before (slice_split is_and list))
unfolding atoms_from
atoms_end_stop (stops.Reason reason) before list split here = rw (split, here) refl
atoms_end_stop stops.Memory before list split here = tt

pub ruleset steps = (atoms_step, atoms_stop, atoms_end, atoms_end_stop)
