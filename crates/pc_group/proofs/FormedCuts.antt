-- The cuts of a tree that is cut along boxes are in form.
use Rattle.std.proofs.Common.{◌≡◌, ℕ, zero, suc, ◌+◌, ◌≤◌, ◌^◌, ◌&&◌, nat_lt, not, true, true≢false, List, [], ◌∷◌, ◌++◌, length, All, refl, sym, subst, ◌∙◌, arith, ltb-true}
use Rattle.std.specs.Prelude.{ℤ, ◌≤ℤ◌, int_le, int_lt, nat_abs, slice_get, IfSome, IsSomeAnd}
use Rattle.std.specs.Cmp.Lexicographic.{pointwise}
use Rattle.std.specs.Int.Bits.{bit_and}
use Rattle.std.proofs.Math.Pow.{pow_mono}
use Rattle.std.proofs.lemmas.Bool.{and_parts}
use Rattle.std.proofs.lemmas.Int.{ints}
use Rattle.std.proofs.lemmas.List.{get_or_append_left, get_or-append-add, length-append}
use Rattle.std.proofs.lemmas.List.Elements.{All-nil, All-cons, All-append, All-head, All-tail}
use Rattle.std.proofs.lemmas.Nat.{and_le_r}
use Rattle.pc_num.specs.Scaled.{greatest_size}
use Rattle.pc_model.specs.declared.schema.Kind.{Kind}
use Rattle.pc_model.specs.declared.schema.Kind.TheVariants.{Int, Dec, Cat}
use Rattle.pc_model.specs.declared.schema.Column.{Column}
use Rattle.pc_model.specs.declared.schema.Schema.{Schema}
use Rattle.pc_model.specs.declared.region.Side.{Side}
use Rattle.pc_model.specs.declared.region.Side.TheVariants.{Span, Names}
use Rattle.pc_model.specs.declared.region.Region.{Region}
use Rattle.pc_model.specs.declared.area.Area.{Area}
use Rattle.pc_model.specs.declared.constraint.Constraint.{Constraint}
use Rattle.pc_model.specs.declared.tree.Cut.{Cut}
use Rattle.pc_model.specs.declared.tree.Cut.TheVariants.{At, Among}
use Rattle.pc_model.specs.declared.tree.CutNode.{CutNode}
use Rattle.pc_model.specs.declared.tree.CutNode.TheVariants as forms
use Rattle.pc_model.specs.declared.tree.LeafMark.{LeafMark}
use Rattle.pc_model.specs.declared.tree.LeafMark.TheVariants as marks
use Rattle.pc_model.specs.Cells.{IsSettled, IsSettledAs, IsSettledTree}
use Rattle.pc_model.specs.CutTrees.{CutShape, leaf, inner, size_of, nodes_from, leaves_of, shape_of, column_of, first_part, second_part, IsProper, HasProperCuts}
use Rattle.pc_model.specs.Membership.{has}
use Rattle.pc_model.specs.Places.{places_outside}
use Rattle.pc_model.specs.Regions.{is_side_of, is_region_of, whole_region}
use Rattle.pc_model.specs.WellFormed.{IsKind, IsSpan, IsColumn, IsWellFormed}
use Rattle.pc_model.proofs.WholeDomain.{whole_is_region}
use Rattle.pc_box.specs.Cuts.{is_first, divides_side, divides_found}
use Rattle.pc_box.proofs.CutRows.{first_rows, second_rows, first_alike, second_alike}
use Rattle.pc_box.proofs.Proper.{Divides-from_proper}
use Rattle.pc_box.proofs.Schemas.{IsBox-from_schema, is_region-from_inside}
use Rattle.pc_cells_tree.specs.Owned.{HasBitsOf, HasOwnBits, IsOwnNode, HasOwnCuts}
use Rattle.pc_cells_tree.specs.Walking.{HasCutsAt}
use Rattle.pc_proof.specs.Form.{IsFormedCut, IsFormedCutOf, IsFormedMarkOf, IsFormedCutNode, IsFormedCutTree}
use Rattle.pc_group.specs.Trees.{HasOwnShape}

-- ---- proper cuts

between_small : (low high from at to : ℤ) → IsSpan low high → low ≤ℤ from → from ≤ℤ at → at ≤ℤ to → to ≤ℤ high → nat_abs at ≤ greatest_size
between_small low high from at to span first second third fourth = omega (arith, ints, span.small_low, span.small_high, first, second, third, fourth)

span_formed : (low high from to at : ℤ) → IsSpan low high → (int_le low from && (int_le from to && int_le to high)) ≡ true → (int_le from at && int_lt at to) ≡ true → nat_abs at ≤ greatest_size
span_formed low high from to at span own divided =
    let outer = and_parts (int_le low from) (int_le from to && int_le to high) own in
    let ends = and_parts (int_le from to) (int_le to high) outer.1 in
    let cut = and_parts (int_le from at) (int_lt at to) divided in
    between_small low high from at to span (omega (arith, ints, outer.0)) (omega (arith, ints, cut.0)) (omega (arith, ints, cut.1)) (omega (arith, ints, ends.1))

kind_formed : (kind : Kind) (side : Side) (cut : Cut) → IsKind kind → is_side_of kind side ≡ true → divides_side cut side ≡ true → HasBitsOf cut kind → IsFormedCutOf cut kind
unfolding divides_side
kind_formed (Int low high) (Names held) cut is own divided bits = absurd (true≢false (sym own))
kind_formed (Int low high) (Span from to) (At column at) is own divided bits = (tt, span_formed low high from to at is own divided)
kind_formed (Int low high) (Span from to) (Among column set) is own divided bits = absurd (true≢false (sym divided))
kind_formed (Dec scale low high) (Names held) cut is own divided bits = absurd (true≢false (sym own))
kind_formed (Dec scale low high) (Span from to) (At column at) is own divided bits = (tt, span_formed low high from to at is.1 own divided)
kind_formed (Dec scale low high) (Span from to) (Among column set) is own divided bits = absurd (true≢false (sym divided))
kind_formed (Cat names) (Span from to) cut is own divided bits = absurd (true≢false (sym own))
kind_formed (Cat names) (Names held) (At column at) is own divided bits = absurd (true≢false (sym divided))
kind_formed (Cat names) (Names held) (Among column set) is own divided bits =
    let parts = and_parts (nat_lt 0 (bit_and held set)) (nat_lt 0 (places_outside held set)) divided in
    let some = ltb-true 0 (bit_and held set) parts.0 in
    let less = and_le_r held set in
    (omega (arith, some, less), bits)

formed_at : (columns : List Column) (sides : List Side) (place : ℕ) (cut : Cut) → All IsColumn columns → pointwise (λ (c : Column). is_side_of c.kind) columns sides ≡ true → divides_found cut (slice_get sides place) ≡ true →
    IfSome (slice_get columns place) (λ (c : Column). HasBitsOf cut c.kind) → IsSomeAnd (slice_get columns place) (λ (c : Column). IsFormedCutOf cut c.kind)
formed_at [] [] place cut are h divided bits = absurd (true≢false (sym divided))
formed_at [] (s ∷ sides) place cut are h divided bits = absurd (true≢false (sym h))
formed_at (c ∷ columns) [] place cut are h divided bits = absurd (true≢false (sym h))
formed_at (c ∷ columns) (s ∷ sides) zero cut are h divided bits =
    kind_formed c.kind s cut (All-head IsColumn c columns are).kind (and_parts (is_side_of c.kind s) (pointwise (λ (x : Column). is_side_of x.kind) columns sides) h).0 divided bits
formed_at (c ∷ columns) (s ∷ sides) (suc place) cut are h divided bits =
    formed_at columns sides place cut (All-tail IsColumn c columns are) (and_parts (is_side_of c.kind s) (pointwise (λ (x : Column). is_side_of x.kind) columns sides) h).1 divided bits

cut_formed : (schema : Schema) (box : Region) (cut : Cut) → IsWellFormed schema → is_region_of schema box ≡ true → IsProper box cut → HasOwnBits schema cut → IsFormedCut schema cut
unfolding is_region_of
cut_formed schema box cut formed h proper bits = formed_at schema.columns box.sides (column_of cut) cut formed.columns.all h (Divides-from_proper box cut proper) bits

-- the parts of a proper cut are regions of the schema
parts_regions : (schema : Schema) (box : Region) (cut : Cut) → is_region_of schema box ≡ true → IsProper box cut → (is_region_of schema (first_part box cut) ≡ true) × (is_region_of schema (second_part box cut) ≡ true)
parts_regions schema box cut h proper =
    let divided = Divides-from_proper box cut proper in
    let filled = IsBox-from_schema schema box h in (
      is_region-from_inside schema box (first_part box cut) h (first_alike box cut divided (first_part box cut) filled refl)
          (λ row held. (and_parts (has box row) (is_first cut row) (sym (first_rows box cut divided (first_part box cut) refl row) ∙ held)).0),
      is_region-from_inside schema box (second_part box cut) h (second_alike box cut divided (second_part box cut) filled refl)
          (λ row held. (and_parts (has box row) (not (is_first cut row)) (sym (second_rows box cut divided (second_part box cut) refl row) ∙ held)).0),
    )

-- ---- trees

-- a tree with the cuts of another
pub own_shape : (schema : Schema) (nodes : List CutNode) (k : ℕ) (shape : CutShape) → HasOwnCuts schema nodes → HasCutsAt nodes k shape → HasOwnShape schema shape
own_shape schema nodes k (leaf mark) own cuts = tt
own_shape schema nodes k (inner cut t u) own cuts =
    (subst (IsOwnNode schema) cuts.2 (own k), own_shape schema nodes cuts.0 t own cuts.3, own_shape schema nodes cuts.1 u own cuts.4)

all_left : {X : Type 0} (P : X → Type 0) (xs ys : List X) → All P (xs ++ ys) → All P xs
all_left P xs ys each place d inside = subst P (get_or_append_left xs ys d place inside) (each place d (let long = length-append xs ys in omega (arith, inside, long)))

all_right : {X : Type 0} (P : X → Type 0) (xs ys : List X) → All P (xs ++ ys) → All P ys
all_right P xs ys each place d inside = subst P (get_or-append-add xs ys place d) (each (length xs + place) d (let long = length-append xs ys in omega (arith, inside, long)))

mark_formed : (constraints : List Constraint) (area : Area) (box : Region) (mark : LeafMark) → length constraints ≤ 20 → IsSettledAs constraints area box mark → IsFormedMarkOf mark
mark_formed constraints area box marks.Barren few settled = tt
mark_formed constraints area box (marks.Class mask chosen) few settled =
    let most : 2 ^ length constraints ≤ 2 ^ 20 = pow_mono few in
    let short = settled.short in
    omega (arith, short, most)

module _ (schema : Schema) (formed : IsWellFormed schema) (constraints : List Constraint) (few : length constraints ≤ 20) (area : Area) where
  formed_from : (k : ℕ) (box : Region) (shape : CutShape) → is_region_of schema box ≡ true → HasProperCuts box shape → HasOwnShape schema shape → All (IsSettled constraints area) (leaves_of box shape) →
      All (IsFormedCutNode schema) (nodes_from k shape)
  formed_from k box (leaf mark) h proper own settled =
      let here = All-head (IsSettled constraints area) (record { region = box; mark = mark }) [] settled in
      All-cons (IsFormedCutNode schema) (forms.Leaf mark) [] (mark_formed constraints area box mark few here) (All-nil (IsFormedCutNode schema))
  formed_from k box (inner cut t u) h proper own settled =
      let parts = parts_regions schema box cut h proper.0 in
      let first = formed_from (k + 1) (first_part box cut) t parts.0 proper.1 own.1 (all_left (IsSettled constraints area) (leaves_of (first_part box cut) t) (leaves_of (second_part box cut) u) settled) in
      let second = formed_from (k + 1 + size_of t) (second_part box cut) u parts.1 proper.2 own.2 (all_right (IsSettled constraints area) (leaves_of (first_part box cut) t) (leaves_of (second_part box cut) u) settled) in
      All-cons (IsFormedCutNode schema) (forms.Inner cut (k + 1) (k + 1 + size_of t)) (nodes_from (k + 1) t ++ nodes_from (k + 1 + size_of t) u) (cut_formed schema box cut formed h proper.0 own.0)
      (All-append (IsFormedCutNode schema) (nodes_from (k + 1) t) (nodes_from (k + 1 + size_of t) u) first second)

  pub tree_formed : (nodes : List CutNode) → IsSettledTree schema constraints area nodes → HasOwnShape schema (shape_of nodes) → IsFormedCutTree schema (record { nodes = nodes })
  tree_formed nodes tree own = record {
    preorder = tree.preorder;
    nodes = subst (All (IsFormedCutNode schema)) (sym tree.preorder) (formed_from 0 (whole_region schema) (shape_of nodes) (whole_is_region schema formed) tree.proper own tree.settled);
  }
