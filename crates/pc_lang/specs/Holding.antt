-- When an atom holds of a row, in plain words.
use Rattle.std.specs.Prelude.{◌≡◌, ℕ, ◌&&◌, Bool, false, ℤ, pos, negsuc, int_le, int_lt, List, [], ◌∷◌, bytes_eq, slice_get, Option, Some, None, Result, Ok, Err, if◌then◌else◌}
use Rattle.std.specs.List.{list_all, list_any}
use Rattle.std.specs.Ordering.{int_eq}
use Rattle.pc_model.specs.declared.fault.Reason.{Reason}
use Rattle.pc_model.specs.declared.schema.Kind.{Kind}
use Rattle.pc_model.specs.declared.schema.Kind.TheVariants.{Int, Dec, Cat}
use Rattle.pc_model.specs.declared.schema.Column.{Column}
use Rattle.pc_model.specs.declared.schema.Schema.{Schema}
use Rattle.pc_model.specs.declared.row.Row.{Row}
use Rattle.pc_model.specs.declared.region.Region.{Region}
use Rattle.pc_model.specs.declared.area.Area.{Area}
use Rattle.pc_model.specs.Membership.{has, in_domain, is_in}
use Rattle.pc_model.specs.Numbers.{number_of}
use Rattle.pc_model.specs.WellFormed.{IsWellFormed}
use Rattle.pc_lang_grammar.specs.declared.syntax.Claim.{Claim}
use Rattle.pc_lang_grammar.specs.declared.syntax.Claim.TheVariants as claims
use Rattle.pc_lang_grammar.specs.declared.syntax.Atom.{Atom}
use Rattle.pc_lang_grammar.specs.declared.syntax.Part.{Part}
use Rattle.pc_lang_grammar.specs.declared.syntax.Ways.{Ways}
use Rattle.pc_lang.specs.Areas.{all_parts, area_of}
use Rattle.pc_lang.specs.Claims.{is_among}
use Rattle.pc_lang.specs.Parts.{region_of}

-- a number that a text spells passes a test
abbrev pub passes : Result ℤ Reason → (ℤ → Bool) → Bool
passes (Ok number) test = test number
passes (Err reason) test = false

-- what a claim says of a number of a column of numbers
unfoldable pub number_claim : ℕ → Claim → ℤ → Bool
number_claim scale (claims.Number text) cell = passes (number_of scale text) (λ n. int_eq cell n)
number_claim scale (claims.Name name) cell = false
number_claim scale (claims.AtLeast text) cell = passes (number_of scale text) (λ n. int_le n cell)
number_claim scale (claims.AtMost text) cell = passes (number_of scale text) (λ n. int_le cell n)
number_claim scale (claims.Above text) cell = passes (number_of scale text) (λ n. int_lt n cell)
number_claim scale (claims.Below text) cell = passes (number_of scale text) (λ n. int_lt cell n)
number_claim scale (claims.Within from_text upto_text) cell =
    passes (number_of scale from_text) (λ from. int_le from cell) && passes (number_of scale upto_text) (λ upto. int_le cell upto)
number_claim scale (claims.Among first others) cell = false

abbrev pub is_one_of : List (List ℕ) → Option (List ℕ) → Bool
is_one_of names None = false
is_one_of names (Some name) = is_among names name

-- the name at a place is one of those that are stated
abbrev pub is_name_of : List (List ℕ) → List (List ℕ) → ℤ → Bool
is_name_of names stated (pos place) = is_one_of stated (slice_get names place)
is_name_of names stated (negsuc below) = false

-- what a claim says of a place of a column of names
unfoldable pub name_claim : List (List ℕ) → Claim → ℤ → Bool
name_claim names (claims.Number text) cell = false
name_claim names (claims.Name name) cell = is_name_of names (name ∷ []) cell
name_claim names (claims.AtLeast text) cell = false
name_claim names (claims.AtMost text) cell = false
name_claim names (claims.Above text) cell = false
name_claim names (claims.Below text) cell = false
name_claim names (claims.Within from_text upto_text) cell = false
name_claim names (claims.Among first others) cell = is_name_of names (first ∷ others) cell

-- whether a claim states a number of a column of this kind
unfoldable pub states : Kind → Claim → ℤ → Bool
states (Int low high) claim cell = number_claim 0 claim cell
states (Dec scale low high) claim cell = number_claim scale claim cell
states (Cat names) claim cell = name_claim names claim cell

-- an atom of these columns holds of their cells
unfoldable pub cells_hold : List Column → Atom → List ℤ → Bool
cells_hold [] atom cells = false
cells_hold (column ∷ columns) atom [] = false
cells_hold (column ∷ columns) atom (cell ∷ cells) =
    if bytes_eq column.name atom.column then states column.kind atom.claim cell else cells_hold columns atom cells

-- what an atom says of its column is so in the row
abbrev pub atom_holds : Schema → Atom → Row → Bool
atom_holds schema atom row = cells_hold schema.columns atom row.cells

-- all atoms of a part hold of the row
abbrev pub part_holds : Schema → Part → Row → Bool
part_holds schema part row = list_all (λ atom. atom_holds schema atom row) part.atoms

-- the region of a part has the rows of the domain of which the part holds
abbrev pub PartsHold : Type 0
PartsHold =
    (schema : Schema) (part : Part) (region : Region) → IsWellFormed schema → region_of schema part ≡ Ok region →
    (row : Row) → has region row ≡ (in_domain schema row && part_holds schema part row)

-- the area of parts has the rows of the domain of which some part holds
abbrev pub WaysHold : Type 0
WaysHold =
    (schema : Schema) (ways : Ways) (area : Area) → IsWellFormed schema → area_of schema ways ≡ Ok area →
    (row : Row) → is_in area row ≡ (in_domain schema row && list_any (λ part. part_holds schema part row) (all_parts ways))
