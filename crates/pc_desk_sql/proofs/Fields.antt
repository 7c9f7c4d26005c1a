-- What a test comes to of the field of a column: where the field is a value of the column, whether its side has that value.
use Rattle.std.proofs.Common.{◌≡◌, ◌≢◌, ◌∙◌, ℕ, ◌+◌, ℤ, pos, Bool, true, false, List, [], ◌∷◌, All, AllPairs, position, is_some, Option, Some, None, Result, Ok, Err, refl, sym, ap, subst, inl, inr, true≢false}
use Rattle.std.specs.List.{list_any, position_from}
use Rattle.std.specs.Str.{bytes_eq}
use Rattle.std.specs.Cmp.Lexicographic.{bytes_decides}
use Rattle.std.proofs.lemmas.Bool.{cases_Bool, false≢true}
use Rattle.std.proofs.lemmas.Iterator.Adapters.{position_from-zero}
use Rattle.std.proofs.lemmas.List.Elements.{All-head, All-tail}
use Rattle.pc_model.proofs.Lists.{AllPairs-head, AllPairs-tail, bytes_eq-other}
use Rattle.pc_model.specs.declared.fault.Reason.{Reason}
use Rattle.pc_model.specs.declared.region.Side.{Side}
use Rattle.pc_model.specs.declared.region.Side.TheVariants.{Span, Names}
use Rattle.pc_model.specs.declared.schema.Kind.{Kind}
use Rattle.pc_model.specs.declared.schema.Kind.TheVariants.{Int, Dec, Cat}
use Rattle.pc_model.specs.Membership.{holds}
use Rattle.pc_model.specs.Places.{is_place_of}
use Rattle.pc_model.specs.Regions.{is_side_of}
use Rattle.pc_model.specs.WellFormed.{IsKind}
use Rattle.pc_rows.specs.RowFile.{cell_of, place_number}
use Rattle.pc_desk_sql.specs.Holding.{is_true, passes}
use Rattle.pc_desk_sql.specs.Tests.{Among, Known, Within, chosen_names, test_of}
use Rattle.pc_desk_sql.specs.Values.{Null, Number, Value, cell_in, number_if, read_as, value_if, value_of}

-- ---- the names of a set

abbrev Differs : List ℕ → List ℕ → Type 0
Differs a b = a ≢ b

abbrev has_name : List ℕ → List (List ℕ) → Bool
has_name text names = list_any (bytes_eq text) names

-- a name that the column has not is in no set of its names
not_chosen : (bits place : ℕ) (text : List ℕ) (names : List (List ℕ)) → All (Differs text) names → has_name text (chosen_names bits place names) ≡ false
unfolding chosen_names
not_chosen bits place text [] others = refl
not_chosen bits place text (first ∷ rest) others =
    let other : bytes_eq text first ≡ false = bytes_eq-other text first (All-head (Differs text) first rest others) in
    let later = not_chosen bits (place + 1) text rest (All-tail (Differs text) first rest others) in
    elim (cases_Bool (is_place_of bits (pos place))) [
      | inl set ↦ rw (set, other) later
      | inr unset ↦ rw unset later
    ]

abbrev number_or : ℕ → Option ℕ → ℕ
number_or other None = other
number_or other (Some number) = number

none_is_some : {A : Type 0} (goal : Type 0) (found : A) → ◌≡◌ {A = Option A} None (Some found) → goal
none_is_some {A} goal found e = absurd (true≢false (sym (ap is_some e)))

-- the name at a place is in a set where the bit of that place is set
chosen_first : (bits place : ℕ) (text first : List ℕ) (rest : List (List ℕ)) → bytes_eq text first ≡ true → has_name text (chosen_names bits (place + 1) rest) ≡ false
    → has_name text (chosen_names bits place (first ∷ rest)) ≡ is_place_of bits (pos place)
unfolding chosen_names
chosen_first bits place text first rest same later = elim (cases_Bool (is_place_of bits (pos place))) [
  | inl set ↦ rw (set, same) refl
  | inr unset ↦ rw unset later
]

chosen_later : (bits place : ℕ) (text first : List ℕ) (rest : List (List ℕ)) (wanted : Bool) → bytes_eq text first ≡ false → has_name text (chosen_names bits (place + 1) rest) ≡ wanted
    → has_name text (chosen_names bits place (first ∷ rest)) ≡ wanted
unfolding chosen_names
chosen_later bits place text first rest wanted other later = elim (cases_Bool (is_place_of bits (pos place))) [
  | inl set ↦ rw (set, other) later
  | inr unset ↦ rw unset later
]

chosen_at : (bits place found : ℕ) (text : List ℕ) (names : List (List ℕ)) → AllPairs Differs names → position_from (bytes_eq text) place names ≡ Some found
    → has_name text (chosen_names bits place names) ≡ is_place_of bits (pos found)
chosen_at bits place found text [] apart at = none_is_some _ found at
chosen_at bits place found text (first ∷ rest) apart at =
    elim (cases_Bool (bytes_eq text first)) [
      | inl same ↦
          let e : place ≡ found = ap (number_or place) (rw same at at) in
          let is : text ≡ first = (bytes_decides text first).0 same in
          let others : All (Differs text) rest = subst (λ name. All (Differs name) rest) (sym is) (AllPairs-head Differs first rest apart) in
          chosen_first bits place text first rest same (not_chosen bits (place + 1) text rest others) ∙ ap (λ n. is_place_of bits (pos n)) e
      | inr other ↦
          chosen_later bits place text first rest (is_place_of bits (pos found)) other
          (chosen_at bits (place + 1) found text rest (AllPairs-tail Differs first rest apart) (rw other at at))
    ]

-- ---- a field of a column

-- A condition over what may be unknown says what a test says of a value, where there is one, and is else not true.
abbrev pub Tells : {X : Type 0} → (X → Bool) → Option X → Option Bool → Type 0
Tells test None held = is_true held ≡ false
Tells test (Some x) held = held ≡ Some (test x)

span_tells : (kind : Kind) (from upto : ℤ) (text : List ℕ) (found : Result ℤ Reason) → read_as kind text ≡ Number
    → Tells (holds (Span from upto)) (number_if found) (passes (Within from upto) (value_if kind text (number_if found)))
unfolding holds
span_tells kind from upto text (Ok cell) numeric = ap (λ (read : ℤ → Value). passes (Within from upto) (read cell)) numeric
span_tells kind from upto text (Err reason) numeric = refl

name_tells : (names : List (List ℕ)) (bits : ℕ) (text : List ℕ) (found : Option ℕ) → AllPairs Differs names → position_from (bytes_eq text) 0 names ≡ found
    → Tells (holds (Names bits)) (number_if (place_number found)) (passes (Among (chosen_names bits 0 names)) (value_if (Cat names) text (number_if (place_number found))))
unfolding holds
name_tells names bits text (Some found) apart at = ap (λ held. Some held) (chosen_at bits 0 found text names apart at)
name_tells names bits text None apart at = refl

pub side_tells : (kind : Kind) (side : Side) (field : Option (List ℕ)) → IsKind kind → is_side_of kind side ≡ true
    → Tells (holds side) (cell_in kind field) (passes (test_of kind side) (value_of kind field))
unfolding cell_of
side_tells (Int low high) (Span from upto) None is own = refl
side_tells (Int low high) (Span from upto) (Some text) is own = span_tells (Int low high) from upto text (cell_of (Int low high) text) refl
side_tells (Int low high) (Names bits) field is own = absurd (false≢true own)
side_tells (Dec scale low high) (Span from upto) None is own = refl
side_tells (Dec scale low high) (Span from upto) (Some text) is own = span_tells (Dec scale low high) from upto text (cell_of (Dec scale low high) text) refl
side_tells (Dec scale low high) (Names bits) field is own = absurd (false≢true own)
side_tells (Cat names) (Span from upto) field is own = absurd (false≢true own)
side_tells (Cat names) (Names bits) None is own = refl
side_tells (Cat names) (Names bits) (Some text) is own =
    name_tells names bits text (position (bytes_eq text) names) is.own.different (sym (position_from-zero (bytes_eq text) names))

-- a field is known where it is a value of its column
pub known_tells : (kind : Kind) (field : Option (List ℕ)) → passes Known (value_of kind field) ≡ Some (is_some (cell_in kind field))
known_tells kind None = refl
known_tells kind (Some text) = by_found kind (cell_of kind text)
  where
    by_found : (kind : Kind) (found : Result ℤ Reason) → passes Known (value_if kind text (number_if found)) ≡ Some (is_some (number_if found))
    by_found (Int low high) (Ok cell) = refl
    by_found (Dec scale low high) (Ok cell) = refl
    by_found (Cat names) (Ok cell) = refl
    by_found kind (Err reason) = refl

-- of no field at all
pub nothing_tells : (kind : Kind) (side : Side) → is_side_of kind side ≡ true → is_true (passes (test_of kind side) Null) ≡ false
nothing_tells (Int low high) (Span from upto) own = refl
nothing_tells (Int low high) (Names bits) own = absurd (false≢true own)
nothing_tells (Dec scale low high) (Span from upto) own = refl
nothing_tells (Dec scale low high) (Names bits) own = absurd (false≢true own)
nothing_tells (Cat names) (Span from upto) own = absurd (false≢true own)
nothing_tells (Cat names) (Names bits) own = refl
