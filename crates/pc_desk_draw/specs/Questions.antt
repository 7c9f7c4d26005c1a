-- Which blocks stand in one picture, and its title.
use Rattle.std.specs.Prelude.{◌≡◌, ℕ, ◌+◌, ◌==◌, ◌&&◌, Bool, true, false, List, [], ◌∷◌, ◌++◌, bytes_eq, chars, codes, decimal, length, Option, Some, None, if◌then◌else◌}
use Rattle.std.specs.List.{concat}
use Rattle.unicode_width.specs.Width.{str_width}
use Rattle.pc_desk_table.specs.declared.entry.Entry.{Entry}

abbrev pub same_line : Option ℕ → Option ℕ → Bool
same_line None None = true
same_line None (Some other) = false
same_line (Some line) None = false
same_line (Some line) (Some other) = line == other

-- whether a block asks what a query in a line does
abbrev pub asks : Option ℕ → List ℕ → Entry → Bool
asks line query entry = same_line entry.line line && bytes_eq entry.query query

-- a block before pictures: in the first of them, if that asks the same
abbrev pub joined : Entry → List (List Entry) → List (List Entry)
joined entry [] = (entry ∷ []) ∷ []
joined entry ([] ∷ more) = (entry ∷ []) ∷ more
joined entry ((next ∷ others) ∷ more) =
    if asks entry.line entry.query next then (entry ∷ next ∷ others) ∷ more else (entry ∷ []) ∷ (next ∷ others) ∷ more

-- blocks that ask the same and stand one after the other are one picture
unfoldable pub pictures_of : List Entry → List (List Entry)
pictures_of [] = []
pictures_of (entry ∷ rest) = joined entry (pictures_of rest)

-- the blocks of the first picture, and those after them
abbrev pub IsCut : List Entry → List Entry → List Entry → Type 0
IsCut entries picture after = pictures_of entries ≡ picture ∷ pictures_of after

-- how many blocks ask this before one that asks something else
unfoldable pub same_len : Option ℕ → List ℕ → List Entry → ℕ
same_len line query [] = 0
same_len line query (entry ∷ rest) = if asks line query entry then same_len line query rest + 1 else 0

-- the line of a question, where a script asked it
abbrev pub line_text : Option ℕ → List ℕ
line_text None = []
line_text (Some line) = concat (codes "line " ∷ decimal line ∷ codes ": " ∷ [])

-- what the blocks of a picture ask
unfoldable pub title_of : List Entry → List ℕ
title_of [] = []
title_of (entry ∷ rest) = line_text entry.line ++ entry.query

-- how many columns that takes
abbrev pub title_width : List Entry → ℕ
title_width [] = 0
title_width (entry ∷ rest) = length (line_text entry.line) + str_width false (chars entry.query)
