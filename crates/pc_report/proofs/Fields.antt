-- The fields that are written so far, and those that are left.
use Rattle.std.proofs.Common.{◌≡◌, ℕ, ℤ, ◌+◌, ◌<◌, ◌≤◌, List, [], ◌∷◌, ◌++◌, length, get_or, drop, codes, refl}
use Rattle.pc_model.specs.declared.schema.Column.{Column}
use Rattle.pc_model.proofs.Pieces.{pieces_step, pieces_past, pieces_spent}
use Rattle.pc_report.specs.RunLines.{field_text, next_fields_text}

next_field : (column : Column) (columns : List Column) (cell : ℤ) (cells : List ℤ) →
    next_fields_text (column ∷ columns) (cell ∷ cells) ≡ (codes ", " ++ field_text column.kind cell) ++ next_fields_text columns cells
unfolding next_fields_text
next_field column columns cell cells = refl

no_columns : (cells : List ℤ) → next_fields_text [] cells ≡ []
unfolding next_fields_text
no_columns cells = refl

no_cells : (columns : List Column) → next_fields_text columns [] ≡ []
unfolding next_fields_text
no_cells [] = refl
no_cells (column ∷ columns) = refl

pub fields_step : (items : List ℕ) (columns : List Column) (cells : List ℤ) (i : ℕ) (column : Column) (cell : ℤ) → i < length columns → i < length cells → (items ++ (codes ", " ++ field_text (get_or columns i column).kind (get_or cells i cell))) ++ next_fields_text (drop (i + 1) columns) (drop (i + 1) cells) ≡ items ++ next_fields_text (drop i columns) (drop i cells)
fields_step = pieces_step next_fields_text (λ column cell. codes ", " ++ field_text column.kind cell) next_field

pub fields_past : (items : List ℕ) (columns : List Column) (cells : List ℤ) (i : ℕ) → length columns ≤ i → items ++ next_fields_text (drop i columns) (drop i cells) ≡ items
fields_past = pieces_past next_fields_text no_columns

pub fields_spent : (items : List ℕ) (columns : List Column) (cells : List ℤ) (i : ℕ) → length cells ≤ i → items ++ next_fields_text (drop i columns) (drop i cells) ≡ items
fields_spent = pieces_spent next_fields_text no_cells

pub ruleset steps = (fields_step, fields_past, fields_spent)
