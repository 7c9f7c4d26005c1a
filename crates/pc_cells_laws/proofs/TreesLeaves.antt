-- The leaves of a tree of proper cuts.
use Rattle.std.proofs.Common.{◌≡◌, ◌+◌, ◌&&◌, not, cond, Bool, true, false, List, [], ◌++◌, length, All, Any, refl, ◌∙◌, arith, sym}
use Rattle.std.specs.Prelude.{count_by}
use Rattle.std.proofs.lemmas.Bool.{and_parts}
use Rattle.std.proofs.lemmas.List.{length-append, get_or_append_left, get_or-append-add}
use Rattle.std.proofs.lemmas.List.Elements.{All-nil, All-cons, All-append}
use Rattle.std.proofs.lemmas.List.Sums.{sum_by-append}
use Rattle.pc_model.specs.declared.row.Row.{Row}
use Rattle.pc_model.specs.declared.region.Region.{Region}
use Rattle.pc_model.specs.declared.schema.Schema.{Schema}
use Rattle.pc_model.specs.declared.tree.Cut.{Cut}
use Rattle.pc_model.specs.declared.tree.Leaf.{Leaf}
use Rattle.pc_model.specs.Membership.{has}
use Rattle.pc_model.specs.Regions.{is_region_of}
use Rattle.pc_model.specs.CutTrees.{CutShape, leaf, inner, leaves_of, first_part, second_part, HasRow, IsInside, IsProper, HasProperCuts}
use Rattle.pc_box.specs.Cuts.{is_first}
use Rattle.pc_box.proofs.CutRows.{first_rows, second_rows, first_alike, second_alike}
use Rattle.pc_box.proofs.Proper.{Divides-from_proper}
use Rattle.pc_box.proofs.Schemas.{IsBox-from_schema, is_region-from_inside}

-- ---- the parts of a proper cut

module _ (region : Region) (cut : Cut) (proper : IsProper region cut) where
  first_has : (row : Row) → has (first_part region cut) row ≡ (has region row && is_first cut row)
  first_has row = first_rows region cut (Divides-from_proper region cut proper) (first_part region cut) refl row

  second_has : (row : Row) → has (second_part region cut) row ≡ (has region row && not (is_first cut row))
  second_has row = second_rows region cut (Divides-from_proper region cut proper) (second_part region cut) refl row

  first_inside : IsInside (first_part region cut) region
  first_inside row held = (and_parts (has region row) (is_first cut row) (sym (first_has row) ∙ held)).0

  second_inside : IsInside (second_part region cut) region
  second_inside row held = (and_parts (has region row) (not (is_first cut row)) (sym (second_has row) ∙ held)).0

-- ---- a row of the box is in one leaf

in_one_part : (held taken : Bool) → cond (held && taken) 1 0 + cond (held && not taken) 1 0 ≡ cond held 1 0
in_one_part true true = refl
in_one_part true false = refl
in_one_part false taken = refl

pub one_leaf : (region : Region) (tree : CutShape) (row : Row) → HasProperCuts region tree → count_by (λ (found : Leaf). has found.region row) (leaves_of region tree) ≡ cond (has region row) 1 0
one_leaf region (leaf mark) row proper = omega arith
one_leaf region (inner cut first second) row proper =
    sum_by-append (λ (found : Leaf). cond (has found.region row) 1 0) (leaves_of (first_part region cut) first) (leaves_of (second_part region cut) second)
    ∙ rw (one_leaf (first_part region cut) first row proper.1, one_leaf (second_part region cut) second row proper.2, first_has region cut proper.0 row, second_has region cut proper.0 row)
    (in_one_part (has region row) (is_first cut row))

module _ {X : Type 0} (P : X → Type 0) where
  Any-append_left : (xs ys : List X) → Any P xs → Any P (xs ++ ys)
  Any-append_left xs ys found = let long = length-append xs ys in let lt = found.2 in (found.0, found.1, omega arith, get_or_append_left xs ys found.1 found.0 lt ∙ found.3, found.4)

  Any-append_right : (xs ys : List X) → Any P ys → Any P (xs ++ ys)
  Any-append_right xs ys found = let long = length-append xs ys in let lt = found.2 in (length xs + found.0, found.1, omega arith, get_or-append-add xs ys found.0 found.1 ∙ found.3, found.4)

-- some leaf has the row
abbrev pub IsInLeaves : List Leaf → Row → Type 0
IsInLeaves leaves row = Any (λ (found : Leaf). has found.region row ≡ true) leaves

pub some_leaf : (region : Region) (tree : CutShape) (row : Row) → HasProperCuts region tree → has region row ≡ true → IsInLeaves (leaves_of region tree) row
some_leaf region (leaf mark) row proper held = (0, record { region = region; mark = mark }, omega arith, refl, held)
some_leaf region (inner cut first second) row proper held =
    by_part (is_first cut row) refl (some_leaf (first_part region cut) first row proper.1) (some_leaf (second_part region cut) second row proper.2)
  where
    by_part : (taken : Bool) → is_first cut row ≡ taken → (has (first_part region cut) row ≡ true → IsInLeaves (leaves_of (first_part region cut) first) row) →
        (has (second_part region cut) row ≡ true → IsInLeaves (leaves_of (second_part region cut) second) row) → IsInLeaves (leaves_of region (inner cut first second)) row
    by_part true e in_first in_second =
        Any-append_left (λ (found : Leaf). has found.region row ≡ true) (leaves_of (first_part region cut) first) (leaves_of (second_part region cut) second)
        (in_first (first_has region cut proper.0 row ∙ rw (held, e) refl))
    by_part false e in_first in_second =
        Any-append_right (λ (found : Leaf). has found.region row ≡ true) (leaves_of (first_part region cut) first) (leaves_of (second_part region cut) second)
        (in_second (second_has region cut proper.0 row ∙ rw (held, e) refl))

-- ---- what passes to the parts of proper cuts holds of each leaf

module _ (P : Region → Type 0) (passes : (region : Region) (cut : Cut) → IsProper region cut → P region → P (first_part region cut) × P (second_part region cut)) where
  each_leaf : (region : Region) (tree : CutShape) → P region → HasProperCuts region tree → All (λ (found : Leaf). P found.region) (leaves_of region tree)
  each_leaf region (leaf mark) here proper =
      All-cons (λ (found : Leaf). P found.region) (record { region = region; mark = mark }) [] here (All-nil (λ (found : Leaf). P found.region))
  each_leaf region (inner cut first second) here proper =
      let parts = passes region cut proper.0 here in
      All-append (λ (found : Leaf). P found.region) (leaves_of (first_part region cut) first) (leaves_of (second_part region cut) second)
      (each_leaf (first_part region cut) first parts.0 proper.1) (each_leaf (second_part region cut) second parts.1 proper.2)

-- its rows are rows of the box
pub leaf_inside : (region : Region) (tree : CutShape) → HasProperCuts region tree → All (λ (found : Leaf). IsInside found.region region) (leaves_of region tree)
leaf_inside region tree =
    each_leaf (λ (part : Region). IsInside part region)
    (λ part cut proper within. (λ row held. within row (first_inside part cut proper row held), λ row held. within row (second_inside part cut proper row held)))
    region tree (λ row held. held)

-- it has a row
pub leaf_rows : (region : Region) (tree : CutShape) → HasRow region → HasProperCuts region tree → All (λ (found : Leaf). HasRow found.region) (leaves_of region tree)
leaf_rows region tree = each_leaf HasRow (λ part cut proper some. (proper.first, proper.second)) region tree

-- it is a region of the schema
pub leaf_regions : (schema : Schema) (region : Region) (tree : CutShape) → is_region_of schema region ≡ true → HasProperCuts region tree →
    All (λ (found : Leaf). is_region_of schema found.region ≡ true) (leaves_of region tree)
leaf_regions schema region tree =
    each_leaf (λ (part : Region). is_region_of schema part ≡ true)
    (λ part cut proper h.
    let divided = Divides-from_proper part cut proper in
    let filled = IsBox-from_schema schema part h in (
      is_region-from_inside schema part (first_part part cut) h (first_alike part cut divided (first_part part cut) filled refl) (first_inside part cut proper),
      is_region-from_inside schema part (second_part part cut) h (second_alike part cut divided (second_part part cut) filled refl) (second_inside part cut proper),
    ))
    region tree
