-- The columns stand in a plain header one after the other.
use Rattle.std.proofs.Common.{◌≡◌, ◌≢◌, ◌∙◌, ℕ, suc, ◌+◌, ◌<◌, List, [], ◌∷◌, ◌++◌, length, get_or, drop, All, AllPairs, false, Some, None, Ok, refl, sym, ap, arith, length-append, append_assoc}
use Rattle.std.specs.Str.{bytes_eq}
use Rattle.std.proofs.lemmas.List.{append-nil, get_or-append-add, get_or_append_left, get_or-map, length-map, map-append}
use Rattle.std.proofs.lemmas.List.Elements.{All-tail}
use Rattle.std.proofs.Math.Seq.{drop-append-add, get_or-append_seam}
use Rattle.pc_model.specs.declared.schema.Column.{Column}
use Rattle.pc_rows.specs.Plain.{header_fields}
use Rattle.pc_rows.specs.RowFile.{place_from, place_in, places_from}
use Rattle.pc_model.proofs.Lists.{bytes_eq-other, bytes_eq-same}

-- one place for each column, from here on
abbrev pub places_at : ℕ → List Column → List ℕ
places_at place [] = []
places_at place (column ∷ columns) = place ∷ places_at (place + 1) columns

-- none of them is the name
abbrev AreOther : List ℕ → List (List ℕ) → Type 0
AreOther name others = All (λ (other : List ℕ). bytes_eq name other ≡ false) others

-- no two columns have one name
abbrev pub HaveOwnNames : List Column → Type 0
HaveOwnNames columns = AllPairs (λ (a b : Column). a.name ≢ b.name) columns

first_place : (name : List ℕ) (before rest : List (List ℕ)) (start : ℕ) → AreOther name before → place_from start name (before ++ name ∷ rest) ≡ Some (start + length before)
unfolding place_from
first_place name [] rest start other = rw (bytes_eq-same name) (ap Some (omega arith))
first_place name (first ∷ before) rest start other =
    rw (other 0 first (omega arith)) (first_place name before rest (start + 1) (All-tail (λ (other : List ℕ). bytes_eq name other ≡ false) first before other) ∙ ap Some (omega arith))

no_place : (name : List ℕ) (rest : List (List ℕ)) (start : ℕ) → AreOther name rest → place_from start name rest ≡ None
unfolding place_from
no_place name [] start other = refl
no_place name (first ∷ rest) start other =
    rw (other 0 first (omega arith)) (no_place name rest (start + 1) (All-tail (λ (other : List ℕ). bytes_eq name other ≡ false) first rest other))

module _ (before rest : List Column) (column : Column) (own : HaveOwnNames (before ++ column ∷ rest)) where
  others_before : AreOther column.name (header_fields before)
  others_before k d inside =
      let within : k < length before = omega (arith, length-map before (λ (other : Column). other.name)) in
      let here : length before < length (before ++ column ∷ rest) = omega (arith, length-append before (column ∷ rest)) in
      let apart = own k (length before) column within here in
      let apart : (get_or before k column).name ≢ column.name = rw (get_or_append_left before (column ∷ rest) column k within, get_or-append_seam before column rest column) at apart in
      rw (get_or-map (λ (other : Column). other.name) before k column d within) (bytes_eq-other column.name (get_or before k column).name (λ same. apart (sym same)))

  others_after : AreOther column.name (header_fields rest)
  others_after k d inside =
      let within : k < length rest = omega (arith, length-map rest (λ (other : Column). other.name)) in
      let there : length before + suc k < length (before ++ column ∷ rest) = omega (arith, length-append before (column ∷ rest)) in
      let apart = own (length before) (length before + suc k) column (omega arith) there in
      let apart : column.name ≢ (get_or rest k column).name = rw (get_or-append_seam before column rest column, get_or-append-add before (column ∷ rest) (suc k) column) at apart in
      rw (get_or-map (λ (other : Column). other.name) rest k column d within) (bytes_eq-other column.name (get_or rest k column).name apart)

  place_again : (place : ℕ) (header : List (List ℕ)) → header ≡ header_fields (before ++ column ∷ rest) → place ≡ length before → place_in column.name header ≡ Ok place
  unfolding place_in
  place_again place header e at =
      let names = header_fields before in
      let parts : header ≡ names ++ column.name ∷ header_fields rest = e ∙ map-append (λ (other : Column). other.name) before (column ∷ rest) in
      let count : length names ≡ place = length-map before (λ (other : Column). other.name) ∙ sym at in
      let found : place_from 0 column.name (names ++ column.name ∷ header_fields rest) ≡ Some place = first_place column.name names (header_fields rest) 0 others_before ∙ ap Some (omega (arith, count)) in
      let left : drop (place + 1) (names ++ column.name ∷ header_fields rest) ≡ header_fields rest = rw (← count) (drop-append-add names (column.name ∷ header_fields rest) 1) in
      rw (parts, found, left, no_place column.name (header_fields rest) (place + 1) others_after) refl

pub places_again : (columns before : List Column) (places : List ℕ) (place : ℕ) (header : List (List ℕ)) → header ≡ header_fields (before ++ columns) → place ≡ length before → HaveOwnNames (before ++ columns) → places_from places columns header ≡ Ok (places ++ places_at place columns)
unfolding places_from
places_again [] before places place header e at own = rw (append-nil places) refl
places_again (column ∷ rest) before places place header e at own =
    let longer : (before ++ column ∷ []) ++ rest ≡ before ++ column ∷ rest = append_assoc before (column ∷ []) rest in
    rw (place_again before rest column own place header e at)
    (places_again rest (before ++ column ∷ []) (places ++ place ∷ []) (place + 1) header (e ∙ ap header_fields (sym longer)) (omega (arith, at, length-append before (column ∷ []))) (rw longer own)
    ∙ ap Ok (append_assoc places (place ∷ []) (places_at (place + 1) rest)))
