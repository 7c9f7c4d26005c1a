-- The fields of a record.
use Rattle.std.specs.Prelude.{ℕ, List, [], get_or}

-- the field at a place, or no bytes where it is missing
abbrev pub field : List (List ℕ) → ℕ → List ℕ
field fields place = get_or fields place []
