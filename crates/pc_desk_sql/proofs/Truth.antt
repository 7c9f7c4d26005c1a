-- What conditions say of a row: where its fields are values of their columns, whether it is in boxes; else they are not true.
use Rattle.std.proofs.Common.{◌≡◌, ◌∙◌, ℕ, ◌&&◌, ◌||◌, not, ℤ, Bool, true, false, is_some, List, [], ◌∷◌, ◌++◌, All, Option, Some, None, flat_map, map, refl, sym, ap, ap₂, subst, true≢false}
use Rattle.std.specs.Cmp.Lexicographic.{pointwise}
use Rattle.std.specs.List.{list_any}
use Rattle.std.proofs.lemmas.Bool.{and_parts, false≢true}
use Rattle.std.proofs.lemmas.List.Elements.{All-head, All-tail}
use Rattle.pc_model.specs.declared.constraint.Constraint.{Constraint}
use Rattle.pc_model.specs.declared.constraint.When.{When}
use Rattle.pc_model.specs.declared.constraint.When.TheVariants.{Boxes, Outside}
use Rattle.pc_model.specs.declared.region.Region.{Region}
use Rattle.pc_model.specs.declared.region.Side.{Side}
use Rattle.pc_model.specs.declared.schema.Column.{Column}
use Rattle.pc_model.specs.declared.schema.Schema.{Schema}
use Rattle.pc_model.specs.Boxes.{IsServable, IsWhenOf}
use Rattle.pc_model.specs.Membership.{has, holds as has_number, is_meant, is_named, is_named_by_some, row_from}
use Rattle.pc_model.specs.Regions.{is_region_of, is_side_of}
use Rattle.pc_model.specs.WellFormed.{IsColumn}
use Rattle.pc_desk_sql.proofs.Fields.{Tells, known_tells, nothing_tells, side_tells}
use Rattle.pc_desk_sql.specs.Holding.{both, box_holds, breaks, either, holds, is_true, passes, some_hold, turned}
use Rattle.pc_desk_sql.specs.Statement.{broken_of}
use Rattle.pc_desk_sql.specs.Tests.{Clause, NoneOf, OneOf, box_of, known, none_named, outside_of, test_of, tests_of, under_of}
use Rattle.pc_desk_sql.specs.Values.{Null, Value, cell_in, cells_in, value_of, values_of, with_cell}

-- ---- what is true, false or unknown

both_of : (a b : Bool) → both (Some a) (Some b) ≡ Some (a && b)
both_of true b = refl
both_of false b = refl

either_of : (a b : Bool) → either (Some a) (Some b) ≡ Some (a || b)
either_of true b = refl
either_of false b = refl

both_known : (a b : Bool) (x y : Option Bool) → x ≡ Some a → y ≡ Some b → both x y ≡ Some (a && b)
both_known a b x y e f = ap₂ both e f ∙ both_of a b

either_known : (a b : Bool) (x y : Option Bool) → x ≡ Some a → y ≡ Some b → either x y ≡ Some (a || b)
either_known a b x y e f = ap₂ either e f ∙ either_of a b

-- what is not true makes nothing true that it is part of
both_left : (x y : Option Bool) → is_true x ≡ false → is_true (both x y) ≡ false
both_left (Some true) y e = absurd (true≢false e)
both_left (Some false) y e = refl
both_left None (Some true) e = refl
both_left None (Some false) e = refl
both_left None None e = refl

both_right : (x y : Option Bool) → is_true y ≡ false → is_true (both x y) ≡ false
both_right (Some true) y e = e
both_right (Some false) y e = refl
both_right None (Some true) e = absurd (true≢false e)
both_right None (Some false) e = refl
both_right None None e = refl

neither : (x y : Option Bool) → is_true x ≡ false → is_true y ≡ false → is_true (either x y) ≡ false
neither (Some true) y e f = absurd (true≢false e)
neither (Some false) y e f = f
neither None (Some true) e f = absurd (true≢false f)
neither None (Some false) e f = refl
neither None None e f = refl

both_true : (x : Option Bool) → both x (Some true) ≡ x
both_true (Some true) = refl
both_true (Some false) = refl
both_true None = refl

both_again : (x y z : Option Bool) → both (both x y) z ≡ both x (both y z)
both_again (Some true) y z = refl
both_again (Some false) y z = refl
both_again None (Some true) z = refl
both_again None (Some false) (Some true) = refl
both_again None (Some false) (Some false) = refl
both_again None (Some false) None = refl
both_again None None (Some true) = refl
both_again None None (Some false) = refl
both_again None None None = refl

either_false : (x : Option Bool) → either x (Some false) ≡ x
either_false (Some true) = refl
either_false (Some false) = refl
either_false None = refl

holds-append : (first second : List Clause) (values : List Value) → holds (first ++ second) values ≡ both (holds first values) (holds second values)
unfolding holds
holds-append [] second values = refl
holds-append (clause ∷ first) second values = ap (both _) (holds-append first second values) ∙ sym (both_again _ (holds first values) (holds second values))

-- ---- a box

module _ (side : Side) (sides : List Side) where
  -- a field and the fields after it
  cons_tells : (cell : Option ℤ) (cells : Option (List ℤ)) (here later : Option Bool) → Tells (has_number side) cell here → Tells (pointwise has_number sides) cells later
      → Tells (pointwise has_number (side ∷ sides)) (with_cell cell cells) (both here later)
  cons_tells None cells here later e f = both_left here later e
  cons_tells (Some cell) None here later e f = both_right here later f
  cons_tells (Some cell) (Some cells) here later e f = both_known (has_number side cell) (pointwise has_number sides cells) here later e f

sides_tell : (columns : List Column) (sides : List Side) (fields : List (Option (List ℕ))) → All IsColumn columns → pointwise (λ (column : Column). is_side_of column.kind) columns sides ≡ true
    → Tells (pointwise has_number sides) (cells_in columns fields) (box_holds (tests_of columns sides) (values_of columns fields))
unfolding box_holds tests_of values_of cells_in
sides_tell [] [] fields all own = refl
sides_tell [] (side ∷ sides) fields all own = absurd (false≢true own)
sides_tell (column ∷ columns) [] fields all own = absurd (false≢true own)
sides_tell (column ∷ columns) (side ∷ sides) [] all own =
    let parts = and_parts (is_side_of column.kind side) (pointwise (λ (c : Column). is_side_of c.kind) columns sides) own in
    both_left (passes (test_of column.kind side) Null) _ (nothing_tells column.kind side parts.0)
sides_tell (column ∷ columns) (side ∷ sides) (field ∷ fields) all own =
    let parts = and_parts (is_side_of column.kind side) (pointwise (λ (c : Column). is_side_of c.kind) columns sides) own in
    cons_tells side sides (cell_in column.kind field) (cells_in columns fields) (passes (test_of column.kind side) (value_of column.kind field)) (box_holds (tests_of columns sides) (values_of columns fields))
    (side_tells column.kind side field (All-head IsColumn column columns all).kind parts.0)
    (sides_tell columns sides fields (All-tail IsColumn column columns all) parts.1)

cons_known : (cell : Option ℤ) (cells : Option (List ℤ)) → (is_some cell && is_some cells) ≡ is_some (with_cell cell cells)
cons_known None cells = refl
cons_known (Some cell) None = refl
cons_known (Some cell) (Some cells) = refl

-- each field is known where the row is one of the schema
pub own_tells : (columns : List Column) (fields : List (Option (List ℕ))) → box_holds (known columns) (values_of columns fields) ≡ Some (is_some (cells_in columns fields))
unfolding box_holds values_of cells_in
own_tells [] fields = refl
own_tells (column ∷ columns) [] = refl
own_tells (column ∷ columns) (field ∷ fields) =
    both_known _ _ _ _ (known_tells column.kind field) (own_tells columns fields)
    ∙ ap (λ held. Some held) (cons_known (cell_in column.kind field) (cells_in columns fields))

-- ---- clauses

module _ (schema : Schema) (columns_are : All IsColumn schema.columns) (fields : List (Option (List ℕ))) where
  abbrev cells : Option (List ℤ)
  cells = cells_in schema.columns fields

  abbrev values : List Value
  values = values_of schema.columns fields

  abbrev in_box : Region → List ℤ → Bool
  in_box region row = has region (row_from row)

  abbrev in_some : List Region → List ℤ → Bool
  in_some boxes row = list_any (λ (box : Region). has box (row_from row)) boxes

  region_tells : (region : Region) → is_region_of schema region ≡ true → Tells (in_box region) cells (box_holds (box_of schema.columns region) values)
  unfolding has is_region_of
  region_tells region own = sides_tell schema.columns region.sides fields columns_are own

  or_tells : (found : Option (List ℤ)) (region : Region) (boxes : List Region) (here later : Option Bool) → Tells (in_box region) found here → Tells (in_some boxes) found later
      → Tells (in_some (region ∷ boxes)) found (either here later)
  or_tells None region boxes here later e f = neither here later e f
  or_tells (Some row) region boxes here later e f = either_known (in_box region row) (in_some boxes row) here later e f

  none_tells : (found : Option (List ℤ)) → Tells (in_some []) found (Some false)
  none_tells None = refl
  none_tells (Some row) = refl

  boxes_tell : (boxes : List Region) → All (λ (box : Region). is_region_of schema box ≡ true) boxes → Tells (in_some boxes) cells (some_hold (map (box_of schema.columns) boxes) values)
  unfolding some_hold
  boxes_tell [] own = none_tells cells
  boxes_tell (region ∷ boxes) own =
      or_tells cells region boxes _ _ (region_tells region (All-head (λ (box : Region). is_region_of schema box ≡ true) region boxes own)) (boxes_tell boxes (All-tail (λ (box : Region). is_region_of schema box ≡ true) region boxes own))

  -- what a constraint speaks of
  abbrev meant : List Constraint → When → List ℤ → Bool
  meant constraints when row = is_meant constraints when (row_from row)

  own_clause : some_hold (known schema.columns ∷ []) values ≡ Some (is_some cells)
  unfolding some_hold
  own_clause = either_false (box_holds (known schema.columns) values) ∙ own_tells schema.columns fields

  not_either : (a b : Bool) → (not a && not b) ≡ not (a || b)
  not_either true b = refl
  not_either false b = refl

  none_clause : (row : List ℤ) (when : When) (clauses : List Clause) (later : Bool) → cells ≡ Some row → IsWhenOf schema when → holds clauses values ≡ Some (not later)
      → holds (none_named schema.columns when ++ clauses) values ≡ Some (not (is_named when (row_from row) || later))
  unfolding holds
  none_clause row (Boxes area) clauses later e is rest =
      let here : some_hold (map (box_of schema.columns) area.boxes) values ≡ Some (in_some area.boxes row) = subst (λ found. Tells (in_some area.boxes) found (some_hold (map (box_of schema.columns) area.boxes) values)) e (boxes_tell area.boxes is.each) in
      both_known (not (in_some area.boxes row)) (not later) (turned (some_hold (map (box_of schema.columns) area.boxes) values)) (holds clauses values) (ap turned here) rest
      ∙ ap (λ held. Some held) (not_either (in_some area.boxes row) later)
  none_clause row Outside clauses later e is rest = rest

  none_clauses : (row : List ℤ) (constraints : List Constraint) → cells ≡ Some row → All (IsServable schema) constraints
      → holds (flat_map (λ (c : Constraint). none_named schema.columns c.when) constraints) values ≡ Some (not (is_named_by_some constraints (row_from row)))
  unfolding holds
  none_clauses row [] e servable = refl
  none_clauses row (c ∷ constraints) e servable =
      none_clause row c.when (flat_map (λ (c : Constraint). none_named schema.columns c.when) constraints) (is_named_by_some constraints (row_from row)) e
      (All-head (IsServable schema) c constraints servable).when_area
      (none_clauses row constraints e (All-tail (IsServable schema) c constraints servable))

  outside_tells : (constraints : List Constraint) (found : Option (List ℤ)) → All (IsServable schema) constraints → cells ≡ found
      → Tells (meant constraints Outside) found (holds (outside_of schema.columns constraints) values)
  unfolding holds
  outside_tells constraints None servable e = both_left (some_hold (known schema.columns ∷ []) values) _ (ap is_true (own_clause ∙ ap (λ (found : Option (List ℤ)). Some (is_some found)) e))
  outside_tells constraints (Some row) servable e =
      both_known true (not (is_named_by_some constraints (row_from row))) (some_hold (known schema.columns ∷ []) values) _
      (own_clause ∙ ap (λ (found : Option (List ℤ)). Some (is_some found)) e) (none_clauses row constraints e servable)

  area_tells : (boxes : List Region) → All (λ (box : Region). is_region_of schema box ≡ true) boxes → Tells (in_some boxes) cells (holds (OneOf (map (box_of schema.columns) boxes) ∷ []) values)
  unfolding holds
  area_tells boxes own = subst (Tells (in_some boxes) cells) (sym (both_true (some_hold (map (box_of schema.columns) boxes) values))) (boxes_tell boxes own)

  pub under_tells : (constraints : List Constraint) (when : When) → All (IsServable schema) constraints → IsWhenOf schema when
      → Tells (meant constraints when) cells (holds (under_of schema.columns constraints when) values)
  under_tells constraints (Boxes area) servable is = area_tells area.boxes is.each
  under_tells constraints Outside servable is = outside_tells constraints cells servable refl

  -- .. and what breaks it
  abbrev breaking : List Constraint → Constraint → List ℤ → Bool
  breaking constraints c row = breaks constraints c (row_from row)

  not_in_box : (region : Region) (row : List ℤ) → is_region_of schema region ≡ true → cells ≡ Some row → holds (NoneOf (box_of schema.columns region ∷ []) ∷ []) values ≡ Some (not (in_box region row))
  unfolding holds some_hold
  not_in_box region row own e =
      let here : box_holds (box_of schema.columns region) values ≡ Some (in_box region row) = subst (λ found. Tells (in_box region) found (box_holds (box_of schema.columns region) values)) e (region_tells region own) in
      both_true (turned (either (box_holds (box_of schema.columns region) values) (Some false)))
      ∙ ap turned (either_false (box_holds (box_of schema.columns region) values) ∙ here)

  broken_by : (constraints : List Constraint) (c : Constraint) (found : Option (List ℤ)) → is_region_of schema c.values ≡ true → cells ≡ found
      → Tells (meant constraints c.when) found (holds (under_of schema.columns constraints c.when) values)
      → Tells (breaking constraints c) found (both (holds (under_of schema.columns constraints c.when) values) (holds (NoneOf (box_of schema.columns c.values ∷ []) ∷ []) values))
  broken_by constraints c None own e under = both_left (holds (under_of schema.columns constraints c.when) values) _ under
  broken_by constraints c (Some row) own e under =
      both_known (meant constraints c.when row) (not (in_box c.values row)) (holds (under_of schema.columns constraints c.when) values) _ under (not_in_box c.values row own e)

  pub broken_tells : (constraints : List Constraint) (c : Constraint) → All (IsServable schema) constraints → IsServable schema c
      → Tells (breaking constraints c) cells (holds (broken_of schema.columns constraints c) values)
  broken_tells constraints c servable is =
      subst (Tells (breaking constraints c) cells) (sym (holds-append (under_of schema.columns constraints c.when) (NoneOf (box_of schema.columns c.values ∷ []) ∷ []) values))
      (broken_by constraints c cells is.value_region refl (under_tells constraints c.when servable is.when_area))
