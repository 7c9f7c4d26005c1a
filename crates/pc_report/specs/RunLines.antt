-- The lines of runs.
use Rattle.std.specs.Prelude.{ℕ, ◌≤◌, ℤ, pos, negsuc, List, [], ◌∷◌, ◌++◌, get_or, codes, decimal, flat_map, All, ⊤}
use Rattle.pc_num.specs.Put.{scaled_text}
use Rattle.pc_model.specs.declared.schema.Kind.{Kind}
use Rattle.pc_model.specs.declared.schema.Kind.TheVariants.{Int, Dec, Cat}
use Rattle.pc_model.specs.declared.schema.Column.{Column}
use Rattle.pc_model.specs.declared.schema.Schema.{Schema}
use Rattle.pc_model.specs.declared.row.Run.{Run}
use Rattle.pc_lang_tokens.specs.Spelling.{name_text}

-- the decimals of a column are few enough to be written
abbrev pub HasScale : Kind → Type 0
HasScale (Int low high) = ⊤
HasScale (Dec scale low high) = scale ≤ 6
HasScale (Cat names) = ⊤

abbrev pub HaveScales : List Column → Type 0
HaveScales columns = All (λ (column : Column). HasScale column.kind) columns

-- the name at a place of a column's list
abbrev pub name_at : List (List ℕ) → ℤ → List ℕ
name_at names (pos place) = get_or names place []
name_at names (negsuc below) = []

-- a number of a column: with its decimals, or the name that stands at its place
unfoldable pub field_text : Kind → ℤ → List ℕ
field_text (Int low high) cell = scaled_text cell 0
field_text (Dec scale low high) cell = scaled_text cell scale
field_text (Cat names) cell = name_text (name_at names cell)

-- the fields of a row in the order of the columns, each with a comma and a space before it
unfoldable pub next_fields_text : List Column → List ℤ → List ℕ
next_fields_text [] cells = []
next_fields_text (column ∷ columns) [] = []
next_fields_text (column ∷ columns) (cell ∷ cells) = (codes ", " ++ field_text column.kind cell) ++ next_fields_text columns cells

-- the same with no comma before the first
abbrev pub fields_text : List Column → List ℤ → List ℕ
fields_text [] cells = []
fields_text (column ∷ columns) [] = []
fields_text (column ∷ columns) (cell ∷ cells) = field_text column.kind cell ++ next_fields_text columns cells

unfoldable pub run_line : Schema → Run → List ℕ
run_line schema run = (codes "run " ++ decimal run.times ++ codes ": ") ++ fields_text schema.columns run.row.cells ++ (10 ∷ [])

unfoldable pub run_lines : Schema → List Run → List ℕ
run_lines schema runs = flat_map (run_line schema) runs
