-- Where a line begins.
use Rattle.std.proofs.Common.{ℕ, ◌+◌, List, refl, sym, ◌∙◌, arith}
use Rattle.pc_document_format.specs.Lines.{IsLineEnd}
use Rattle.pc_document.specs.Places.{IsLineStart}

pub starts_after : (bytes : List ℕ) (at end : ℕ) → IsLineStart bytes at → IsLineEnd bytes at end → IsLineStart bytes (end + 1)
starts_after bytes at end start ended = record { within = let inside = ended.inside in omega arith; rest = sym ended.rest ∙ start.rest }

-- the bytes begin with one
pub first_start : (bytes : List ℕ) → IsLineStart bytes 0
first_start bytes = record { within = omega arith; rest = refl }
