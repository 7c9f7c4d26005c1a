-- Texts one after another.
use Rattle.std.specs.Prelude.{ℕ, ◌==◌, List, [], ◌∷◌, ◌++◌, length, codes, if◌then◌else◌}

-- what stands between a text and so many after it
abbrev pub joint : List ℕ → ℕ → List ℕ
joint last left = if left == 0 then [] else (if left == 1 then last else codes ", ")

-- the texts with commas between them, and this one between the last two
unfoldable pub joined : List ℕ → List (List ℕ) → List ℕ
joined last [] = []
joined last (text ∷ rest) = text ++ (joint last (length rest) ++ joined last rest)
