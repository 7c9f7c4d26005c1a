-- What a put leaves.
use Rattle.std.specs.Prelude.{◌≡◌, ℕ, ⊤, List, ◌++◌, take, Option, Some, None}
use Rattle.pc_base.specs.declared.outside.Put.{Put}
use Rattle.pc_base.specs.declared.outside.Put.TheVariants.{All, Failed, Memory}
use Rattle.pc_base.specs.Counts.{Rose}

-- the piece is appended, or a front of it, or nothing
abbrev pub Leaves : Option (List ℕ) → Option (List ℕ) → List ℕ → Put → Type 0
Leaves None None piece put = ⊤
Leaves None (Some new) piece put = ⊥
Leaves (Some old) None piece put = ⊥
Leaves (Some old) (Some new) piece All = new ≡ old ++ piece
Leaves (Some old) (Some new) piece Failed = (n : ℕ) × (new ≡ old ++ take n piece)
Leaves (Some old) (Some new) piece Memory = new ≡ old

-- a put that failed is counted, and one of the whole piece is not
abbrev pub HasPutCause : ℕ → ℕ → Put → Type 0
HasPutCause before now Failed = Rose before now
HasPutCause before now All = now ≡ before
HasPutCause before now Memory = ⊤
