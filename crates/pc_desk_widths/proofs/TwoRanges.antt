-- The pieces of two ranges tell both.
use Rattle.std.proofs.Common.{◌≡◌, ℤ, int_le, true, arith}
use Rattle.std.proofs.lemmas.Int.{ints, clamps}
use Rattle.pc_desk_widths.specs.declared.pieces.Ends.{Ends}
use Rattle.pc_desk_widths.specs.Pieces.{PiecesTell, pieces_of}

pub pieces_tell : (standing other : Ends) (number : ℤ) → int_le standing.low standing.high ≡ true → int_le other.low other.high ≡ true →
    PiecesTell standing other (pieces_of standing other) number
pieces_tell standing other number one two = record { stands = grind (arith, ints, clamps); changed = grind (arith, ints, clamps) }
