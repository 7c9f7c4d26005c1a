-- The lines that close boxes, and their names.
use Rattle.std.specs.Prelude.{ℕ, not, Bool, bytes_eq, codes, decimal, List, [], ◌∷◌, drop, filter, length, map, take}
use Rattle.std.specs.Int.{div_ceil}
use Rattle.std.specs.List.{concat, list_any, range_with_len}
use Rattle.pc_model.specs.declared.region.Region.{Region}
use Rattle.pc_model.specs.declared.constraint.When.TheVariants.{Boxes}
use Rattle.pc_model.specs.declared.constraint.Constraint.{Constraint}
use Rattle.pc_model.specs.declared.schema.Schema.{Schema}
use Rattle.pc_model.specs.Accepted.{constraint_limit}
use Rattle.pc_model.specs.Boxes.{box_limit}
use Rattle.pc_model.specs.Regions.{whole_region}

-- ---- names

abbrev pub closed_name : ℕ → List ℕ
closed_name number = concat (codes "closed_" ∷ decimal number ∷ [])

-- as many as a file has constraints at most
unfoldable pub closed_names : List (List ℕ)
closed_names = map closed_name (range_with_len 1 constraint_limit)

-- whether a constraint has the name
abbrev pub is_taken : List Constraint → List ℕ → Bool
is_taken constraints name = list_any (λ (c : Constraint). bytes_eq c.name name) constraints

abbrev pub is_free : List Constraint → List ℕ → Bool
is_free constraints name = not (is_taken constraints name)

abbrev pub free_names : List Constraint → List (List ℕ)
free_names constraints = filter (is_free constraints) closed_names

-- ---- lines

-- no row of these boxes may be lost
abbrev pub closing_line : Schema → List ℕ → List Region → Constraint
closing_line schema name boxes = record {
  name = name;
  when = Boxes (record { boxes = boxes });
  values = whole_region schema;
  least = 0;
  most = 0;
}

-- lines of these names, each of as many of the boxes as an area may have, until no box is left
abbrev pub closing_lines : Schema → List (List ℕ) → List Region → List Constraint
closing_lines schema [] boxes = []
closing_lines schema (name ∷ names) [] = []
closing_lines schema (name ∷ names) (box ∷ boxes) =
    closing_line schema name (take box_limit (box ∷ boxes)) ∷ closing_lines schema names (drop box_limit (box ∷ boxes))

-- how many lines close the boxes
abbrev pub lines_for : List Region → ℕ
lines_for boxes = div_ceil (length boxes) box_limit
