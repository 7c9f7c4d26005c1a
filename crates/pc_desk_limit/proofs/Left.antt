-- What is left of boxes of a schema are boxes of it, and has the rows of the first that are not in the others.
use Rattle.std.proofs.Common.{◌≡◌, ◌∙◌, ℕ, ◌+◌, ◌&&◌, ◌||◌, not, cond, Bool, true, false, List, [], ◌∷◌, ◌++◌, fold, get_or, refl, sym, ap, ap₂}
use Rattle.std.specs.List.{list_any}
use Rattle.std.specs.Prelude.{Ok}
use Rattle.std.proofs.lemmas.Bool.{and_parts}
use Rattle.std.proofs.lemmas.List.Elements.{All-nil, All-cons, All-head, All-tail, All-append}
use Rattle.std.proofs.lemmas.List.Folds.{list_any-append, list_any_at}
use Rattle.std.proofs.lemmas.List.Sums.{sum_by-append}
use Rattle.pc_model.specs.declared.row.Row.{Row}
use Rattle.pc_model.specs.declared.region.Region.{Region}
use Rattle.pc_model.specs.declared.schema.Schema.{Schema}
use Rattle.pc_model.specs.CutTrees.{IsApart}
use Rattle.pc_model.specs.Membership.{has}
use Rattle.pc_model.specs.Regions.{is_region_of}
use Rattle.pc_box.specs.Boxes.{AreAlike}
use Rattle.pc_box.specs.Sides.{regions_meet, rest_after, rest_of}
use Rattle.pc_box.proofs.RestRows.{rest_rows, rest_alike}
use Rattle.pc_box.proofs.Rows.{apart_from_test, test_from_apart}
use Rattle.pc_box.proofs.Schemas.{AreAlike-from_schema, is_region-from_inside}
use Rattle.pc_desk_limit.specs.Closing.{AreRegions, count_of_row, left_of, with_box, without}
use Rattle.pc_desk_limit.proofs.Quantified.{any_from_count, more_counted, one_if}

-- ---- one box without another

pub apart_rest : (a b : Region) → AreAlike a b → IsApart a b → rest_of a b ≡ a ∷ []
apart_rest a b alike apart = rw (test_from_apart a b alike apart) refl

pub met_rest : (a b : Region) → AreAlike a b → (IsApart a b → ⊥) → rest_of a b ≡ rest_after [] a.sides b.sides
met_rest a b alike meet = by_test (regions_meet a b) refl
  where
    by_test : (test : Bool) → regions_meet a b ≡ test → rest_of a b ≡ rest_after [] a.sides b.sides
    by_test true e = rw e refl
    by_test false e = absurd (meet (apart_from_test a b alike e))

-- some box holds the row, and how many do
abbrev pub in_some : List Region → Row → Bool
in_some boxes row = list_any (λ (box : Region). has box row) boxes

abbrev pub held_by : List Region → Row → ℕ
held_by boxes row = count_of_row row boxes

held_append : (xs ys : List Region) (row : Row) → held_by (xs ++ ys) row ≡ held_by xs row + held_by ys row
held_append xs ys row = sum_by-append (λ (box : Region). one_if (has box row)) xs ys

module _ (schema : Schema) where
  abbrev IsRegion : Region → Type 0
  IsRegion box = is_region_of schema box ≡ true

  rest_held : (a b : Region) (row : Row) → IsRegion a → IsRegion b → held_by (rest_of a b) row ≡ one_if (has a row && not (has b row))
  rest_held a b row is other = rest_rows a b (Ok (rest_of a b)) (AreAlike-from_schema schema a b is other) refl row

  rest_regions : (a b : Region) → IsRegion a → IsRegion b → AreRegions schema (rest_of a b)
  rest_regions a b is other = λ place d here.
      let alike = rest_alike a b (Ok (rest_of a b)) (AreAlike-from_schema schema a b is other) refl in
      is_region-from_inside schema a (get_or (rest_of a b) place d) is (alike place d here)
      (λ row held. (and_parts (has a row) (not (has b row))
      (sym (any_from_count (λ (box : Region). has box row) (rest_of a b) (has a row && not (has b row)) (rest_held a b row is other))
      ∙ list_any_at (λ (box : Region). has box row) (rest_of a b) place d here held)).0)

  -- ---- boxes without others

  without_regions : (boxes : List Region) (other : Region) → AreRegions schema boxes → IsRegion other → AreRegions schema (without boxes other)
  without_regions [] other are is = All-nil IsRegion
  without_regions (box ∷ boxes) other are is =
      All-append IsRegion (rest_of box other) (without boxes other)
      (rest_regions box other (All-head IsRegion box boxes are) is)
      (without_regions boxes other (All-tail IsRegion box boxes are) is)

  none_held : (o : Bool) → ◌≡◌ {A = ℕ} 0 (cond o 0 0)
  none_held true = refl
  none_held false = refl

  one_more : (b o : Bool) (n : ℕ) → one_if (b && not o) + cond o 0 n ≡ cond o 0 (one_if b + n)
  one_more true true n = refl
  one_more true false n = refl
  one_more false true n = refl
  one_more false false n = refl

  without_held : (boxes : List Region) (other : Region) (row : Row) → AreRegions schema boxes → IsRegion other →
      held_by (without boxes other) row ≡ cond (has other row) 0 (held_by boxes row)
  without_held [] other row are is = none_held (has other row)
  without_held (box ∷ boxes) other row are is =
      held_append (rest_of box other) (without boxes other) row
      ∙ ap₂ (λ (x y : ℕ). x + y) (rest_held box other row (All-head IsRegion box boxes are) is) (without_held boxes other row (All-tail IsRegion box boxes are) is)
      ∙ one_more (has box row) (has other row) (held_by boxes row)
      ∙ ap (λ (n : ℕ). cond (has other row) 0 n) (sym (more_counted (λ (b : Region). has b row) box boxes))

  pub left_regions : (boxes others : List Region) → AreRegions schema boxes → AreRegions schema others → AreRegions schema (left_of boxes others)
  left_regions boxes [] are others_are = are
  left_regions boxes (other ∷ others) are others_are =
      left_regions (without boxes other) others
      (without_regions boxes other are (All-head IsRegion other others others_are)) (All-tail IsRegion other others others_are)

  without_each : (o r : Bool) (n : ℕ) → cond r 0 (cond o 0 n) ≡ cond (o || r) 0 n
  without_each true true n = refl
  without_each true false n = refl
  without_each false r n = refl

  left_held : (boxes others : List Region) (row : Row) → AreRegions schema boxes → AreRegions schema others →
      held_by (left_of boxes others) row ≡ cond (in_some others row) 0 (held_by boxes row)
  left_held boxes [] row are others_are = refl
  left_held boxes (other ∷ others) row are others_are =
      let is = All-head IsRegion other others others_are in
      left_held (without boxes other) others row (without_regions boxes other are is) (All-tail IsRegion other others others_are)
      ∙ ap (λ (n : ℕ). cond (in_some others row) 0 n) (without_held boxes other row are is)
      ∙ without_each (has other row) (in_some others row) (held_by boxes row)

  -- ---- boxes that are closed

  module _ (named : List Region) (are_named : AreRegions schema named) where
    one_region : (box : Region) → IsRegion box → AreRegions schema (box ∷ [])
    one_region box is = All-cons IsRegion box [] is (All-nil IsRegion)

    with_box_regions : (closed : List Region) (box : Region) → AreRegions schema closed → IsRegion box → AreRegions schema (with_box named closed box)
    with_box_regions closed box are is =
        All-append IsRegion closed (left_of (box ∷ []) (named ++ closed)) are
        (left_regions (box ∷ []) (named ++ closed) (one_region box is) (All-append IsRegion named closed are_named are))

    pub closed_regions : (closed boxes : List Region) → AreRegions schema closed → AreRegions schema boxes → AreRegions schema (fold (with_box named) closed boxes)
    closed_regions closed [] are more = are
    closed_regions closed (box ∷ boxes) are more =
        closed_regions (with_box named closed box) boxes
        (with_box_regions closed box are (All-head IsRegion box boxes more)) (All-tail IsRegion box boxes more)

    closed_once : (t n b : Bool) → one_if t + cond (n || t) 0 (one_if b + 0) ≡ one_if (t || (b && not n))
    closed_once true true b = refl
    closed_once true false b = refl
    closed_once false true true = refl
    closed_once false true false = refl
    closed_once false false true = refl
    closed_once false false false = refl

    with_box_held : (closed : List Region) (box : Region) (row : Row) (held : Bool) → AreRegions schema closed → IsRegion box → held_by closed row ≡ one_if held →
        held_by (with_box named closed box) row ≡ one_if (held || (has box row && not (in_some named row)))
    with_box_held closed box row held are is count =
        let closed_in = any_from_count (λ (b : Region). has b row) closed held count in
        let others = list_any-append (λ (b : Region). has b row) named closed ∙ ap (λ (t : Bool). in_some named row || t) closed_in in
        let left = left_held (box ∷ []) (named ++ closed) row (one_region box is) (All-append IsRegion named closed are_named are)
        ∙ ap₂ (λ (t : Bool) (n : ℕ). cond t 0 n) others (more_counted (λ (b : Region). has b row) box []) in
        held_append closed (left_of (box ∷ []) (named ++ closed)) row
        ∙ ap₂ (λ (x y : ℕ). x + y) count left
        ∙ closed_once held (in_some named row) (has box row)

    closed_too : (t b s n : Bool) → ((t || (b && not n)) || (s && not n)) ≡ (t || ((b || s) && not n))
    closed_too true b s n = refl
    closed_too false true s true = none_more s
      where
        none_more : (s : Bool) → (s && false) ≡ false
        none_more true = refl
        none_more false = refl
    closed_too false true s false = refl
    closed_too false false s n = refl

    or_none : (t : Bool) → t ≡ (t || false)
    or_none true = refl
    or_none false = refl

    pub closed_held : (closed boxes : List Region) (row : Row) (held : Bool) → AreRegions schema closed → AreRegions schema boxes →
        held_by closed row ≡ one_if held →
        held_by (fold (with_box named) closed boxes) row ≡ one_if (held || (in_some boxes row && not (in_some named row)))
    closed_held closed [] row held are more count = count ∙ ap one_if (or_none held)
    closed_held closed (box ∷ boxes) row held are more count =
        let is = All-head IsRegion box boxes more in
        closed_held (with_box named closed box) boxes row (held || (has box row && not (in_some named row)))
        (with_box_regions closed box are is) (All-tail IsRegion box boxes more) (with_box_held closed box row held are is count)
        ∙ ap one_if (closed_too held (has box row) (in_some boxes row) (in_some named row))
