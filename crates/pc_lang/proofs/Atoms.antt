-- The atoms that are listed so far, and those of the columns that are left.
use Rattle.std.proofs.Common.{◌≡◌, ℕ, ◌+◌, ◌<◌, ◌≤◌, List, [], ◌∷◌, ◌++◌, length, get_or, drop, refl}
use Rattle.pc_model.specs.declared.schema.Column.{Column}
use Rattle.pc_model.specs.declared.region.Side.{Side}
use Rattle.pc_model.proofs.Pieces.{pieces_step, pieces_past, pieces_spent}
use Rattle.pc_lang_grammar.specs.declared.syntax.Atom.{Atom}
use Rattle.pc_lang.specs.Canonical.{atoms_for, side_atoms}

next_atom : (column : Column) (columns : List Column) (side : Side) (sides : List Side) → atoms_for (column ∷ columns) (side ∷ sides) ≡ side_atoms column side ++ atoms_for columns sides
unfolding atoms_for
next_atom column columns side sides = refl

no_columns : (sides : List Side) → atoms_for [] sides ≡ []
unfolding atoms_for
no_columns sides = refl

no_sides : (columns : List Column) → atoms_for columns [] ≡ []
unfolding atoms_for
no_sides [] = refl
no_sides (column ∷ columns) = refl

pub atoms_step : (atoms : List Atom) (columns : List Column) (sides : List Side) (i : ℕ) (column : Column) (side : Side) → i < length columns → i < length sides → (atoms ++ side_atoms (get_or columns i column) (get_or sides i side)) ++ atoms_for (drop (i + 1) columns) (drop (i + 1) sides) ≡ atoms ++ atoms_for (drop i columns) (drop i sides)
atoms_step = pieces_step atoms_for side_atoms next_atom

pub atoms_past : (atoms : List Atom) (columns : List Column) (sides : List Side) (i : ℕ) → length columns ≤ i → atoms ++ atoms_for (drop i columns) (drop i sides) ≡ atoms
atoms_past = pieces_past atoms_for no_columns

pub atoms_spent : (atoms : List Atom) (columns : List Column) (sides : List Side) (i : ℕ) → length sides ≤ i → atoms ++ atoms_for (drop i columns) (drop i sides) ≡ atoms
atoms_spent = pieces_spent atoms_for no_sides

pub ruleset steps = (atoms_step, atoms_past, atoms_spent)
