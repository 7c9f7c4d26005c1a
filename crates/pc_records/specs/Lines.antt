-- The plain text of records.
use Rattle.std.specs.Prelude.{ℕ, List, [], ◌∷◌, ◌++◌}
use Rattle.csv.specs.Writing.{default_writer, row_text}

-- the records line by line, with a field in quotes where it calls for them
unfoldable pub lines_text : List (List (List ℕ)) → List ℕ
lines_text [] = []
lines_text (fields ∷ rest) = row_text default_writer fields ++ lines_text rest
