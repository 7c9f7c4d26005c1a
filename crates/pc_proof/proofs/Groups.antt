-- The rows that a query speaks of are those of its area, for a name of a group too.
use Rattle.std.proofs.Common.{◌≡◌, ℕ, zero, suc, ◌^◌, ◌<◌, ◌==◌, ◌&&◌, ◌||◌, ℤ, pos, negsuc, Bool, true, false, cond, List, [], ◌∷◌, length, map, filter, get_or, All, Option, Some, None, IfSome, IsSomeAnd, slice_get, slice_index_or, ⊎_elim, refl, sym, ap, subst, ◌∙◌, true≢false, arith}
use Rattle.std.specs.List.{list_any}
use Rattle.std.specs.Cmp.Lexicographic.{pointwise}
use Rattle.std.specs.Int.{bit_at}
use Rattle.std.proofs.Math.Bool.{and-true}
use Rattle.std.proofs.lemmas.Bool.{and_parts, cases_eq}
use Rattle.std.proofs.lemmas.Int.{ints}
use Rattle.std.proofs.lemmas.List.Elements.{All-head, All-tail}
use Rattle.std.proofs.lemmas.Nat.Bits.{bit_at-pow_same, bit_at-pow_other}
use Rattle.pc_model.specs.declared.schema.Kind.{Kind}
use Rattle.pc_model.specs.declared.schema.Kind.TheVariants.{Int, Dec, Cat}
use Rattle.pc_model.specs.declared.schema.Column.{Column}
use Rattle.pc_model.specs.declared.schema.Schema.{Schema}
use Rattle.pc_model.specs.declared.row.Row.{Row}
use Rattle.pc_model.specs.declared.region.Side.{Side}
use Rattle.pc_model.specs.declared.region.Side.TheVariants.{Span, Names}
use Rattle.pc_model.specs.declared.region.Region.{Region}
use Rattle.pc_model.specs.declared.area.Area.{Area}
use Rattle.pc_model.specs.declared.tree.Cut.TheVariants.{Among}
use Rattle.pc_model.specs.Accepted.{HasNames, IsColumnWhere}
use Rattle.pc_model.specs.Aggregate.{number_at, is_in_group}
use Rattle.pc_model.specs.Boxes.{IsAreaOf}
use Rattle.pc_model.specs.Membership.{holds, has, is_between, is_in}
use Rattle.pc_model.specs.Places.{is_place_of}
use Rattle.pc_model.specs.Regions.{is_side_of, is_region_of}
use Rattle.pc_model.specs.CutTrees.{side_at, first_side, first_part}
use Rattle.pc_model.specs.Right.{Question}
use Rattle.pc_model.proofs.Between.{between_parts, between_from}
use Rattle.pc_model.proofs.Bools.{same_tests}
use Rattle.pc_box.proofs.CutRows.{held_set}
use Rattle.pc_model.proofs.SharedPlaces.{shared_place}
use Rattle.pc_proof.specs.Setting.{allows_name, boxes_for, narrowed, area_of}
use Rattle.pc_proof.specs.Unbroken.{IsWellPosed}
use Rattle.pc_proof.proofs.Seen.{keeps}

-- ---- a column of names

named_side : (kind : Kind) (side : Side) → HasNames kind → is_side_of kind side ≡ true → (held : ℕ) × (side ≡ Names held)
named_side (Int low high) side names h = absurd names
named_side (Dec scale low high) side names h = absurd names
named_side (Cat list) (Span low high) names h = absurd (true≢false (sym h))
named_side (Cat list) (Names held) names h = (held, refl)

-- a side of names stands at the column
abbrev IsNamedAt : List Side → ℕ → Type 0
IsNamedAt sides column = (held : ℕ) × (column < length sides) × (slice_index_or sides column (Names 0) ≡ Names held)

named_at : (columns : List Column) (sides : List Side) (column : ℕ) → IsSomeAnd (slice_get columns column) (λ (c : Column). HasNames c.kind) →
    pointwise (λ (c : Column). is_side_of c.kind) columns sides ≡ true → IsNamedAt sides column
named_at [] sides column names h = absurd names
named_at (c ∷ columns) [] column names h = absurd (true≢false (sym h))
named_at (c ∷ columns) (side ∷ sides) zero names h =
    let found = named_side c.kind side names (and_parts (is_side_of c.kind side) (pointwise (λ (x : Column). is_side_of x.kind) columns sides) h).0 in
    (found.0, omega arith, found.1)
named_at (c ∷ columns) (side ∷ sides) (suc column) names h =
    let found = named_at columns sides column names (and_parts (is_side_of c.kind side) (pointwise (λ (x : Column). is_side_of x.kind) columns sides) h).1 in
    let inside = found.1 in
    (found.0, omega arith, found.2)

named_in : (schema : Schema) (box : Region) (column : ℕ) → IsColumnWhere HasNames schema column → is_region_of schema box ≡ true → IsNamedAt box.sides column
unfolding is_region_of
named_in schema box column names h = named_at schema.columns box.sides column names h

-- ---- one place

one_place : (place : ℕ) (n : ℤ) → is_place_of (2 ^ place) n ≡ is_between (pos place) (pos place) n
one_place place (pos i) =
    ⊎_elim
    (λ same. rw same (same_tests (bit_at (2 ^ place) place == 1) (is_between (pos place) (pos place) (pos place))
    (λ set. between_from (pos place) (pos place) (pos place) (omega (arith, ints)) (omega (arith, ints))) (λ between. rw (bit_at-pow_same place) refl)))
    (λ other. same_tests (bit_at (2 ^ place) i == 1) (is_between (pos place) (pos place) (pos i))
    (λ set. let clear : (bit_at (2 ^ place) i == 1) ≡ (0 == 1) = ap (λ bit. bit == 1) (bit_at-pow_other place i other) in absurd (true≢false (sym set ∙ clear)))
    (λ between. let parts = between_parts (pos place) (pos place) (pos i) between in absurd (other (omega (arith, ints, parts)))))
    (cases_eq i place)
one_place place (negsuc below) = refl

module _ (column place : ℕ) where
  one_name_held : (side : Side) (held : ℕ) → side ≡ Names held → (n : ℤ) → holds (first_side (Among column (2 ^ place)) side) n ≡ (holds side n && is_between (pos place) (pos place) n)
  unfolding holds first_side
  one_name_held side held is n = rw is (shared_place held (2 ^ place) n ∙ ap (λ test. is_place_of held n && test) (one_place place n))

  -- the rows of a name are those of the part that it leaves
  keeps_name : (box : Region) → IsNamedAt box.sides column → (row : Row) →
      (has box row && is_between (pos place) (pos place) (number_at row column)) ≡ has (first_part box (Among column (2 ^ place))) row
  unfolding has
  keeps_name box named row =
      sym (held_set (is_between (pos place) (pos place)) box.sides row.cells column (first_side (Among column (2 ^ place)) (side_at box column)) (Names 0) named.1
      (one_name_held (side_at box column) named.0 named.2))

  held_at : (sides : List Side) (cells : List ℤ) (at : ℕ) (d : Side) → at < length sides → pointwise holds sides cells ≡ true → holds (slice_index_or sides at d) (slice_index_or cells at (pos 0)) ≡ true
  held_at [] cells at d inside h = absurd (omega arith)
  held_at (side ∷ sides) [] at d inside h = absurd (true≢false (sym h))
  held_at (side ∷ sides) (n ∷ cells) zero d inside h = (and_parts (holds side n) (pointwise holds sides cells) h).0
  held_at (side ∷ sides) (n ∷ cells) (suc at) d inside h = held_at sides cells at d (omega (arith, inside)) (and_parts (holds side n) (pointwise holds sides cells) h).1

  not_both : (a b : Bool) → (a ≡ true → b ≡ true → ⊥) → (a && b) ≡ false
  not_both true true apart = absurd (apart refl refl)
  not_both true false apart = refl
  not_both false b apart = refl

  -- a box without the name has no row of it
  skips_name : (box : Region) → IsNamedAt box.sides column → (row : Row) → allows_name column place box ≡ false → (has box row && is_between (pos place) (pos place) (number_at row column)) ≡ false
  unfolding has
  skips_name box named row barred =
      not_both (has box row) (is_between (pos place) (pos place) (number_at row column))
      (λ held between.
      let ends = between_parts (pos place) (pos place) (number_at row column) between in
      let same : number_at row column ≡ pos place = omega (arith, ints, ends) in
      true≢false (sym (subst (λ n. holds (side_at box column) n ≡ true) same (held_at box.sides row.cells column (Names 0) named.1 held)) ∙ barred))

  or-both : (a b c : Bool) → ((a || b) && c) ≡ ((a && c) || (b && c))
  or-both true b true = refl
  or-both true true false = refl
  or-both true false false = refl
  or-both false b c = refl

  -- the rows of a name in some box are those of the parts
  keeps_boxes : (boxes : List Region) → All (λ (box : Region). IsNamedAt box.sides column) boxes → (row : Row) →
      (list_any (λ (box : Region). has box row) boxes && is_between (pos place) (pos place) (number_at row column)) ≡ list_any (λ (box : Region). has box row) (boxes_for column place boxes)
  keeps_boxes [] named row = refl
  keeps_boxes (box ∷ boxes) named row =
      or-both (has box row) (list_any (λ (b : Region). has b row) boxes) (is_between (pos place) (pos place) (number_at row column))
      ∙ ap (λ test. (has box row && is_between (pos place) (pos place) (number_at row column)) || test) (keeps_boxes boxes (All-tail (λ (b : Region). IsNamedAt b.sides column) box boxes named) row)
      ∙ by_name (allows_name column place box) refl
    where
      by_name : (allowed : Bool) → allows_name column place box ≡ allowed →
          ((has box row && is_between (pos place) (pos place) (number_at row column)) || list_any (λ (b : Region). has b row) (boxes_for column place boxes))
          ≡ list_any (λ (b : Region). has b row) (map (λ (b : Region). first_part b (Among column (2 ^ place))) (cond allowed (box ∷ filter (allows_name column place) boxes) (filter (allows_name column place) boxes)))
      by_name true e =
          ap (λ test. test || list_any (λ (b : Region). has b row) (boxes_for column place boxes))
          (keeps_name box (All-head (λ (b : Region). IsNamedAt b.sides column) box boxes named) row)
      by_name false e =
          ap (λ test. test || list_any (λ (b : Region). has b row) (boxes_for column place boxes))
          (skips_name box (All-head (λ (b : Region). IsNamedAt b.sides column) box boxes named) row e)

-- ---- the rows of a query

keeps_narrowed : (schema : Schema) (chosen : Area) → IsAreaOf schema chosen → (group name : Option ℕ) → IfSome group (IsColumnWhere HasNames schema) → (row : Row) →
    (is_in chosen row && is_in_group group name row) ≡ is_in (narrowed chosen group name) row
keeps_narrowed schema chosen h (Some column) (Some place) names row = keeps_boxes column place chosen.boxes (λ k d inside. named_in schema (get_or chosen.boxes k d) column names (h.each k d inside)) row
keeps_narrowed schema chosen h (Some column) None names row = and-true (is_in chosen row)
keeps_narrowed schema chosen h None name names row = and-true (is_in chosen row)

pub keeps_area : (q : Question) → IsWellPosed q → (row : Row) → keeps q row ≡ is_in (area_of q) row
keeps_area q posed row = keeps_narrowed q.schema q.query.chosen posed.query.chosen q.query.group q.name posed.query.grouped row
