-- The rows that a cut puts into the first part, and the cuts that divide a box.
use Rattle.std.specs.Prelude.{ℤ, pos, int_le, int_lt, nat_lt, ◌&&◌, Bool, true, false, Option, Some, None, slice_get, slice_index_or, ◌≡◌}
use Rattle.std.specs.Int.Bits.{bit_and}
use Rattle.pc_model.specs.declared.row.Row.{Row}
use Rattle.pc_model.specs.declared.region.Side.{Side}
use Rattle.pc_model.specs.declared.region.Side.TheVariants.{Span, Names}
use Rattle.pc_model.specs.declared.region.Region.{Region}
use Rattle.pc_model.specs.declared.tree.Cut.{Cut}
use Rattle.pc_model.specs.declared.tree.Cut.TheVariants.{At, Among}
use Rattle.pc_model.specs.Places.{is_place_of, places_outside}
use Rattle.pc_model.specs.CutTrees.{column_of}

-- the cut puts a row with this number into the first part
abbrev pub takes : Cut → ℤ → Bool
takes (At column at) number = int_le number at
takes (Among column bits) number = is_place_of bits number

-- the cut puts the row into the first part
abbrev pub is_first : Cut → Row → Bool
is_first cut row = takes cut (slice_index_or row.cells (column_of cut) (pos 0))

-- the cut is of the side's kind, and leaves some of its numbers on either hand
unfoldable pub divides_side : Cut → Side → Bool
divides_side (At column at) (Span low high) = int_le low at && int_lt at high
divides_side (At column at) (Names bits) = false
divides_side (Among column bits) (Span low high) = false
divides_side (Among column bits) (Names held) = nat_lt 0 (bit_and held bits) && nat_lt 0 (places_outside held bits)

abbrev pub divides_found : Cut → Option Side → Bool
divides_found cut None = false
divides_found cut (Some side) = divides_side cut side

-- the cut divides the side of its column
abbrev pub divides : Region → Cut → Bool
divides a cut = divides_found cut (slice_get a.sides (column_of cut))

abbrev pub Divides : Region → Cut → Type 0
Divides a cut = divides a cut ≡ true
