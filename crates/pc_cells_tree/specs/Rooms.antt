-- How far a box can still be cut.
use Rattle.std.specs.Prelude.{ℕ, ◌-ℤ◌, nat_abs, sum_by}
use Rattle.pc_model.specs.declared.region.Side.{Side}
use Rattle.pc_model.specs.declared.region.Side.TheVariants.{Span, Names}
use Rattle.pc_model.specs.declared.region.Region.{Region}

abbrev pub room_of : Side → ℕ
room_of (Span low high) = nat_abs (high -ℤ low)
room_of (Names bits) = bits

abbrev pub room : Region → ℕ
room part = sum_by room_of part.sides
