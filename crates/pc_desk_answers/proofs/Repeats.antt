-- The fields of a row so far, and those that are left.
use Rattle.std.proofs.Common.{◌≡◌, ℕ, ℤ, ◌+◌, ◌<◌, ◌≤◌, List, [], ◌∷◌, ◌++◌, length, get_or, drop, refl}
use Rattle.pc_model.specs.declared.schema.Column.{Column}
use Rattle.pc_model.proofs.Pieces.{pieces_step, pieces_past, pieces_spent}
use Rattle.pc_desk_table.specs.declared.entry.Field.{Field}
use Rattle.pc_desk_answers.specs.Values.{field_of, fields_of}

next_field : (column : Column) (columns : List Column) (cell : ℤ) (cells : List ℤ) → fields_of (column ∷ columns) (cell ∷ cells) ≡ (field_of column cell ∷ []) ++ fields_of columns cells
unfolding fields_of
next_field column columns cell cells = refl

no_columns : (cells : List ℤ) → fields_of [] cells ≡ []
unfolding fields_of
no_columns cells = refl

no_cells : (columns : List Column) → fields_of columns [] ≡ []
unfolding fields_of
no_cells [] = refl
no_cells (column ∷ columns) = refl

pub fields_step : (items : List Field) (columns : List Column) (cells : List ℤ) (i : ℕ) (column : Column) (cell : ℤ) → i < length columns → i < length cells →
    (items ++ field_of (get_or columns i column) (get_or cells i cell) ∷ []) ++ fields_of (drop (i + 1) columns) (drop (i + 1) cells) ≡ items ++ fields_of (drop i columns) (drop i cells)
fields_step = pieces_step fields_of (λ column cell. field_of column cell ∷ []) next_field

pub fields_past : (items : List Field) (columns : List Column) (cells : List ℤ) (i : ℕ) → length columns ≤ i → items ++ fields_of (drop i columns) (drop i cells) ≡ items
fields_past = pieces_past fields_of no_columns

pub fields_spent : (items : List Field) (columns : List Column) (cells : List ℤ) (i : ℕ) → length cells ≤ i → items ++ fields_of (drop i columns) (drop i cells) ≡ items
fields_spent = pieces_spent fields_of no_cells

pub ruleset steps = (fields_step, fields_past, fields_spent)
