-- A map that finds the first place of a name.
use Rattle.std.specs.Prelude.{◌≡◌, ℕ, ℤ, pos, ⊤, List, position}
use Rattle.std.specs.Str.{bytes_eq}
use Rattle.std.specs.Option.{option_map}
use Rattle.std.proofs.Common.{Bor}
use Rattle.indexmap.specs.IndexMap.{IndexMap, get_by}
use Rattle.pc_model.specs.declared.schema.Kind.{Kind}
use Rattle.pc_model.specs.declared.schema.Kind.TheVariants.{Int, Dec, Cat}

-- at each text the map has its first place among the names
abbrev pub IsFinder : {S : Type 0} → List (List ℕ) → IndexMap (Bor (List ℕ)) ℤ S → Type 0
IsFinder names places = (text : List ℕ) → get_by (λ (name : Bor (List ℕ)). bytes_eq text name.now) places ≡ option_map pos (position (bytes_eq text) names)

-- the same for a column of names; numbers need no map
abbrev pub IsReader : {S : Type 0} → Kind → IndexMap (Bor (List ℕ)) ℤ S → Type 0
IsReader (Int low high) places = ⊤
IsReader (Dec scale low high) places = ⊤
IsReader (Cat names) places = IsFinder names places
