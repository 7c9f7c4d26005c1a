-- What is read are divisions of the schema.
use Rattle.std.proofs.Common.{◌≡◌, ◌∙◌, ℕ, ◌<◌, ◌≤◌, ◌==◌, ◌&&◌, int_le, Bool, true, false, ℤ, pos, unsigned_abs, List, [], ◌∷◌, length, get_or, slice_get, Option, Some, None, Result, Ok, Err, IfOk, if◌then◌else◌, refl, sym, subst, arith, true≢false}
use Rattle.std.specs.Prelude.{IsSomeAnd, ⊤, ◌≢◌}
use Rattle.std.proofs.lemmas.Bool.{and_parts}
use Rattle.std.proofs.lemmas.Bool.Decides.{nat_tests}
use Rattle.std.proofs.lemmas.Int.{ints}
use Rattle.std.proofs.lemmas.List.Elements.{All-nil, All-push}
use Rattle.std.proofs.lemmas.List.Folds.{list_any_at}
use Rattle.std.proofs.lemmas.List.Quantifiers.{all_pairs_push, position-Some}
use Rattle.std.proofs.lemmas.Option.{slice_get-get_or}
use Rattle.pc_model.specs.declared.fault.Reason.{Reason}
use Rattle.pc_model.specs.declared.schema.Column.{Column}
use Rattle.pc_model.specs.declared.schema.Kind.{Kind}
use Rattle.pc_model.specs.declared.schema.Kind.TheVariants.{Int, Dec, Cat}
use Rattle.pc_model.specs.declared.schema.Schema.{Schema}
use Rattle.pc_model.specs.Accepted.{HasNames, IsNumeric}
use Rattle.pc_model.specs.Numbers.{number_of}
use Rattle.pc_model.specs.Refusals.{◌>>=◌}
use Rattle.pc_desk_divide.specs.declared.division.Division.{Division}
use Rattle.pc_desk_divide.specs.declared.division.Pieces.TheVariants as pieces
use Rattle.pc_desk_divide.specs.declared.fault.DivisionFault.{DivisionFault}
use Rattle.pc_desk_divide.specs.declared.fault.Wrong.{Wrong}
use Rattle.pc_desk_divide.specs.declared.fault.Wrong.TheVariants as wrongs
use Rattle.pc_desk_divide.specs.Pieces.{AreDivisions, IsDivision, range_limit}
use Rattle.pc_desk_divide.specs.Reading.{Gives, cut_division, division, division_at, division_of, divisions_after, divisions_of, has_names, is_called, is_divided, is_named, is_of_names, last_cut, parted, parted_at, parts_in, parts_of, parts_within, place_of, plain, ranged, texts_of, with_division, with_found}

-- ---- kinds

named_kind : (kind : Kind) → is_of_names kind ≡ true → HasNames kind
named_kind (Int low high) h = absurd (true≢false (sym h))
named_kind (Dec scale low high) h = absurd (true≢false (sym h))
named_kind (Cat names) h = tt

numeric_kind : (kind : Kind) → is_of_names kind ≡ false → IsNumeric kind
numeric_kind (Int low high) h = tt
numeric_kind (Dec scale low high) h = tt
numeric_kind (Cat names) h = absurd (true≢false h)

named_column : (found : Option Column) → is_named found ≡ true → IsSomeAnd found (λ (column : Column). HasNames column.kind)
named_column None h = absurd (true≢false (sym h))
named_column (Some column) h = named_kind column.kind h

abbrev AreParts : ℕ → Type 0
AreParts parts = (1 ≤ parts) × (parts ≤ range_limit)

numeric_column : (found : Option Column) (column : Column) (parts : ℕ) → found ≡ Some column → is_named found ≡ false → AreParts parts →
    IsSomeAnd found (λ (c : Column). IsNumeric c.kind × (1 ≤ parts) × (parts ≤ range_limit))
numeric_column None column parts e h few = absurd (cc)
numeric_column (Some c) column parts e h few = (numeric_kind c.kind h, few.0, few.1)

-- ---- parts

abbrev ArePartsIf : Option ℕ → Type 0
ArePartsIf None = ⊤
ArePartsIf (Some parts) = AreParts parts

within_are_parts : (number : ℤ) → ArePartsIf (parts_within number)
within_are_parts number = by_test (int_le (pos 1) number && int_le number (pos 20)) refl
  where
    by_test : (test : Bool) → (int_le (pos 1) number && int_le number (pos 20)) ≡ test → ArePartsIf (if test then Some (unsigned_abs number) else None)
    by_test true e =
        let p = and_parts (int_le (pos 1) number) (int_le number (pos 20)) e in
        (grind (arith, ints, p.0, p.1), grind (arith, ints, p.0, p.1))
    by_test false e = tt

read_are_parts : (read : Result ℤ Reason) → ArePartsIf (parts_in read)
read_are_parts (Ok number) = within_are_parts number
read_are_parts (Err reason) = tt

parts_are : (text : List ℕ) → ArePartsIf (parts_of text)
unfolding parts_of
parts_are text = read_are_parts (number_of 0 text)

-- ---- one text

module _ (schema : Schema) (before : List Division) where
  abbrev IsNew : Division → Type 0
  IsNew new = IsDivision schema new × (is_divided before new.column ≡ false)

  plain_new : (column : ℕ) → IfOk (plain schema.columns before column) IsNew
  unfolding plain
  plain_new column = by_tests (is_divided before column) refl (has_names schema.columns column) refl
    where
      by_tests : (t : Bool) → is_divided before column ≡ t → (u : Bool) → has_names schema.columns column ≡ u →
          IfOk (if t then Err wrongs.Twice else if u then Ok (division column pieces.Names) else Err wrongs.NoParts) IsNew
      by_tests true e u f = tt
      by_tests false e true f = (named_column (slice_get schema.columns column) f, e)
      by_tests false e false f = tt

  ranged_new : (column : ℕ) (parts : Option ℕ) → column < length schema.columns → ArePartsIf parts → is_divided before column ≡ false → has_names schema.columns column ≡ false →
      IfOk (ranged column parts) IsNew
  ranged_new column None there few new numbers = tt
  ranged_new column (Some parts) there few new numbers =
      let other : Column = record { name = []; kind = Cat [] } in
      (numeric_column (slice_get schema.columns column) (get_or schema.columns column other) parts (slice_get-get_or schema.columns column other there) numbers few, new)

  parted_new : (column : ℕ) (parts : List ℕ) → column < length schema.columns → IfOk (parted schema.columns before column parts) IsNew
  unfolding parted
  parted_new column parts there = by_tests (is_divided before column) refl (has_names schema.columns column) refl
    where
      by_tests : (t : Bool) → is_divided before column ≡ t → (u : Bool) → has_names schema.columns column ≡ u →
          IfOk (if t then Err wrongs.Twice else if u then Err wrongs.NamesWithParts else ranged column (parts_of parts)) IsNew
      by_tests true e u f = tt
      by_tests false e true f = tt
      by_tests false e false f = ranged_new column (parts_of parts) there (parts_are parts) e f

  parted_at_new : (name parts : List ℕ) (place : Option ℕ) → place_of schema.columns name ≡ place → IfOk (parted_at schema.columns before parts place) IsNew
  parted_at_new name parts None e = tt
  parted_at_new name parts (Some column) e =
      parted_new column parts (position-Some (is_called name) schema.columns column (record { name = []; kind = Cat [] }) e).0

  cut_new : (cut : Option (List ℕ × List ℕ)) → IfOk (cut_division schema.columns before cut) IsNew
  cut_new None = tt
  cut_new (Some cut) = parted_at_new cut.0 cut.1 (place_of schema.columns cut.0) refl

  at_new : (text : List ℕ) (place : Option ℕ) → IfOk (division_at schema.columns before text place) IsNew
  at_new text None = cut_new (last_cut text)
  at_new text (Some column) = plain_new column

  division_new : (text : List ℕ) → IfOk (division_of schema.columns before text) IsNew
  unfolding division_of
  division_new text = by_test (length text == 0)
    where
      by_test : (t : Bool) → IfOk (if t then Err wrongs.Empty else division_at schema.columns before text (place_of schema.columns text)) IsNew
      by_test true = tt
      by_test false = at_new text (place_of schema.columns text)

  with_accepted : AreDivisions schema before → (text : List ℕ) (read : Result Division Wrong) → IfOk read IsNew → IfOk (with_found before text read) (AreDivisions schema)
  with_accepted accepted text (Ok new) is = record {
    each = All-push (IsDivision schema) before new accepted.each is.0;
    own_columns = all_pairs_push (λ (a b : Division). a.column ≢ b.column) before new accepted.own_columns
        (λ k d inside same. true≢false (sym (list_any_at (λ (other : Division). other.column == new.column) before k d inside (grind (arith, nat_tests, same))) ∙ is.1));
  }
  with_accepted accepted text (Err wrong) is = tt

-- ---- all texts

bound_accepted : (schema : Schema) (read : Result (List Division) DivisionFault) (next : List Division → Result (List Division) DivisionFault) → IfOk read (AreDivisions schema) →
    ((after : List Division) → AreDivisions schema after → IfOk (next after) (AreDivisions schema)) → IfOk (read >>= next) (AreDivisions schema)
bound_accepted schema (Ok after) next accepted each = each after accepted
bound_accepted schema (Err fault) next accepted each = tt

after_accepted : (schema : Schema) (texts : List (List ℕ)) (before : List Division) → AreDivisions schema before → IfOk (divisions_after schema.columns before texts) (AreDivisions schema)
unfolding divisions_after
after_accepted schema [] before accepted = accepted
after_accepted schema (text ∷ rest) before accepted =
    bound_accepted schema (with_division schema.columns before text) (λ after. divisions_after schema.columns after rest)
    (with_accepted schema before accepted text (division_of schema.columns before text) (division_new schema before text))
    (λ after is. after_accepted schema rest after is)

none_accepted : (schema : Schema) → AreDivisions schema []
none_accepted schema = record {
  each = All-nil (IsDivision schema);
  own_columns = λ i j d before inside same. absurd (omega arith);
}

pub divisions_accepted : (schema : Schema) (text : List ℕ) (result : Result (List Division) DivisionFault) → Gives result (divisions_of schema text) → IfOk result (AreDivisions schema)
divisions_accepted schema text (Ok divisions) e =
    subst (λ (read : Result (List Division) DivisionFault). IfOk read (AreDivisions schema)) e (after_accepted schema (texts_of text) [] (none_accepted schema))
divisions_accepted schema text (Err fault) e = tt
