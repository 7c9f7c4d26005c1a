-- A header of one field.
use Rattle.std.proofs.Common.{◌≡◌, ◌≢◌, ℕ, true, false, List, [], ◌∷◌, length, Some, None, refl, arith}
use Rattle.std.specs.List.{list_any}
use Rattle.pc_records.specs.Fields.{field}
use Rattle.pc_desk_schema.specs.Draft.{odd_header, parts_fields}

pub more_fields : (header : List (List ℕ)) → length header ≢ 1 → odd_header header ≡ None
more_fields [] other = refl
more_fields (one ∷ []) other = absurd (other refl)
more_fields (one ∷ two ∷ rest) other = refl

pub plain_field : (header : List (List ℕ)) → length header ≡ 1 → list_any parts_fields (field header 0) ≡ false → odd_header header ≡ None
plain_field [] one plain = absurd (omega (arith, one))
plain_field (text ∷ []) one plain = rw plain refl
plain_field (text ∷ two ∷ rest) one plain = absurd (omega (arith, one))

pub odd_field : (header : List (List ℕ)) → length header ≡ 1 → list_any parts_fields (field header 0) ≡ true → odd_header header ≡ Some (field header 0)
odd_field [] one odd = absurd (omega (arith, one))
odd_field (text ∷ []) one odd = rw odd refl
odd_field (text ∷ two ∷ rest) one odd = absurd (omega (arith, one))

pub ruleset steps = (more_fields, plain_field, odd_field)
