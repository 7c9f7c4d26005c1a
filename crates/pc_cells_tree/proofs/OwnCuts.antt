-- The cuts of a tree that is cut along boxes are of names that the schema has.
use Rattle.std.proofs.Common.{◌≡◌, ℕ, zero, suc, ◌<◌, ◌≤◌, ◌^◌, ◌==◌, nat_lt, Bool, true, false, true≢false, List, [], ◌∷◌, length, All, Any, ◌⊎◌, inl, inr, Option, Some, None, refl, sym, ap, subst, ◌∙◌, ltb-true}
use Rattle.std.specs.Prelude.{pos, ◌-ℤ◌, int_lt, slice_get, slice_index_or, IfSome, if◌then◌else◌}
use Rattle.std.specs.Cmp.Lexicographic.{pointwise}
use Rattle.std.proofs.lemmas.Bool.{and_parts, cases_lt}
use Rattle.std.proofs.lemmas.List.{get_or_past}
use Rattle.std.proofs.lemmas.Option.{none-some, same_Some}
use Rattle.pc_model.specs.declared.schema.Kind.{Kind}
use Rattle.pc_model.specs.declared.schema.Kind.TheVariants.{Int, Dec, Cat}
use Rattle.pc_model.specs.declared.schema.Column.{Column}
use Rattle.pc_model.specs.declared.schema.Schema.{Schema}
use Rattle.pc_model.specs.declared.region.Side.{Side}
use Rattle.pc_model.specs.declared.region.Side.TheVariants.{Span, Names}
use Rattle.pc_model.specs.declared.region.Region.{Region}
use Rattle.pc_model.specs.declared.area.Area.{Area}
use Rattle.pc_model.specs.declared.constraint.When.{When}
use Rattle.pc_model.specs.declared.constraint.When.TheVariants.{Boxes, Outside}
use Rattle.pc_model.specs.declared.constraint.Constraint.{Constraint}
use Rattle.pc_model.specs.declared.tree.Cut.{Cut}
use Rattle.pc_model.specs.declared.tree.Cut.TheVariants.{At, Among}
use Rattle.pc_model.specs.declared.tree.CutNode.{CutNode}
use Rattle.pc_model.specs.declared.tree.CutNode.TheVariants as forms
use Rattle.pc_model.specs.declared.tree.LeafMark.{LeafMark}
use Rattle.pc_model.specs.declared.tree.LeafMark.TheVariants as marks
use Rattle.pc_model.specs.Boxes.{IsAreaOf, IsWhenOf, IsServable}
use Rattle.pc_model.specs.CutTrees.{column_of, side_at}
use Rattle.pc_model.specs.Places.{places_outside}
use Rattle.pc_model.specs.Regions.{is_side_of, is_region_of}
use Rattle.pc_cells_tree.specs.Decisions.{IsCutFor, IsCutThroughWhen, IsNeeded}
use Rattle.pc_cells_tree.specs.Linked.{IsTree, IsDone, HasKept, HasNeededCuts, box_at, node_at, is_leaf_node}
use Rattle.pc_cells_tree.specs.Stances.{side_cut, IsAlong, IsCutThroughArea}
use Rattle.pc_cells_tree.specs.Owned.{HasBitsOf, HasOwnBits, IsOwnNode, HasOwnCuts}

-- ---- the bits of a cut along a box

test_bits : (names : List (List ℕ)) (column bits : ℕ) (test : Bool) (cut : Cut) → bits < 2 ^ length names → (if test then None else Some (Among column bits)) ≡ Some cut → HasBitsOf cut (Cat names)
test_bits names column bits true cut few e = absurd (none-some cut e)
test_bits names column bits false cut few e = subst (λ (c : Cut). HasBitsOf c (Cat names)) (same_Some (Among column bits) cut e) few

side_bits : (kind : Kind) (side other : Side) (column : ℕ) (cut : Cut) → is_side_of kind other ≡ true → side_cut column side other ≡ Some cut → HasBitsOf cut kind
unfolding side_cut
side_bits (Int low high) side other column cut own e = tt
side_bits (Dec scale low high) side other column cut own e = tt
side_bits (Cat names) side (Span low high) column cut own e = absurd (true≢false (sym own))
side_bits (Cat names) (Span low high) (Names bits) column cut own e = absurd (none-some cut e)
side_bits (Cat names) (Names held) (Names bits) column cut own e =
    let parts = and_parts (nat_lt 0 bits) (nat_lt bits (2 ^ length names)) own in
    test_bits names column bits (places_outside held bits == 0) cut (ltb-true bits (2 ^ length names) parts.1) e

-- the cut is of that column
test_column : (column : ℕ) (test : Bool) (made cut : Cut) (later : Option Cut) → column_of made ≡ column → (later ≡ Some cut → column_of cut ≡ column) → (if test then Some made else later) ≡ Some cut → column_of cut ≡ column
test_column column true made cut later is next e = ap column_of (sym (same_Some made cut e)) ∙ is
test_column column false made cut later is next e = next e

test_none : (column : ℕ) (test : Bool) (made cut : Cut) → column_of made ≡ column → (if test then None else Some made) ≡ Some cut → column_of cut ≡ column
test_none column true made cut is e = absurd (none-some cut e)
test_none column false made cut is e = ap column_of (sym (same_Some made cut e)) ∙ is

column_is : (column : ℕ) (side other : Side) (cut : Cut) → side_cut column side other ≡ Some cut → column_of cut ≡ column
unfolding side_cut
column_is column (Span low high) (Span from to) cut e =
    test_column column (int_lt low from) (At column (from -ℤ pos 1)) cut (if int_lt to high then Some (At column to) else None) refl
    (test_column column (int_lt to high) (At column to) cut None refl (λ none. absurd (none-some cut none))) e
column_is column (Span low high) (Names bits) cut e = absurd (none-some cut e)
column_is column (Names held) (Span from to) cut e = absurd (none-some cut e)
column_is column (Names held) (Names bits) cut e = test_none column (places_outside held bits == 0) (Among column bits) cut refl e

bits_at : (columns : List Column) (sides : List Side) (place column : ℕ) (side : Side) (cut : Cut) → pointwise (λ (c : Column). is_side_of c.kind) columns sides ≡ true →
    side_cut column side (slice_index_or sides place (Names 0)) ≡ Some cut → IfSome (slice_get columns place) (λ (c : Column). HasBitsOf cut c.kind)
bits_at [] sides place column side cut h e = tt
bits_at (c ∷ columns) [] place column side cut h e = absurd (true≢false (sym h))
bits_at (c ∷ columns) (s ∷ sides) zero column side cut h e = side_bits c.kind side s column cut (and_parts (is_side_of c.kind s) (pointwise (λ (x : Column). is_side_of x.kind) columns sides) h).0 e
bits_at (c ∷ columns) (s ∷ sides) (suc place) column side cut h e = bits_at columns sides place column side cut (and_parts (is_side_of c.kind s) (pointwise (λ (x : Column). is_side_of x.kind) columns sides) h).1 e

along_bits : (schema : Schema) (part box : Region) (cut : Cut) → is_region_of schema box ≡ true → IsAlong part box cut → HasOwnBits schema cut
unfolding is_region_of
along_bits schema part box cut h along =
    subst (λ (n : ℕ). IfSome (slice_get schema.columns n) (λ (c : Column). HasBitsOf cut c.kind)) (sym (column_is along.0 (side_at part along.0) (side_at box along.0) cut along.2))
    (bits_at schema.columns box.sides along.0 along.0 (side_at part along.0) cut h along.2)

module _ (schema : Schema) (part : Region) (cut : Cut) where
  -- of a box of an area
  area_bits : (area : Area) → IsAreaOf schema area → IsCutThroughArea part area cut → HasOwnBits schema cut
  area_bits area is_area needed =
      let found = needed.through in
      along_bits schema part found.1 cut (subst (λ (box : Region). is_region_of schema box ≡ true) found.3 (is_area.each found.0 found.1 found.2)) found.4.along

  when_bits : (when : When) → IsWhenOf schema when → IsCutThroughWhen part when cut → HasOwnBits schema cut
  when_bits (Boxes area) is_when through = area_bits area is_when through
  when_bits Outside is_when through = absurd through

module _ (schema : Schema) (constraints : List Constraint) (chosen : Area) (servable : All (IsServable schema) constraints) (asked : IsAreaOf schema chosen) where
  cut_bits : (part : Region) (cut : Cut) (c : Constraint) → IsServable schema c → IsCutFor constraints part cut c → HasOwnBits schema cut
  cut_bits part cut c own (inl within) = along_bits schema part c.values cut own.value_region within.1.along
  cut_bits part cut c own (inr through) = when_bits schema part cut c.when own.when_area through

  needed_bits : (part : Region) (cut : Cut) → IsNeeded constraints chosen part cut → HasOwnBits schema cut
  needed_bits part cut needed = by_part needed.through
    where
      by_part : Any (IsCutFor constraints part cut) constraints ⊎ IsCutThroughArea part chosen cut → HasOwnBits schema cut
      by_part (inl found) = cut_bits part cut found.1 (subst (IsServable schema) found.3 (servable found.0 found.1 found.2)) found.4
      by_part (inr through) = area_bits schema part cut chosen asked through

  -- a tree that is cut on has such cuts where it had them before
  pub own_more : (before after : List CutNode) → IsTree schema before → IsTree schema after → HasKept schema constraints chosen before after → HasNeededCuts schema constraints chosen before after →
      HasOwnCuts schema before → HasOwnCuts schema after
  own_more before after boxed tree kept needed mine k = by_node (node_at after k) refl
    where
      stays : (node : CutNode) → node_at before k ≡ node → is_leaf_node node ≡ false → k < length before → IsDone constraints chosen (box_at boxed.0 k) (node_at before k)
      stays (forms.Leaf mark) is inner_is inside = absurd (true≢false inner_is)
      stays (forms.Inner cut first second) is inner_is inside = subst (IsDone constraints chosen (box_at boxed.0 k)) (sym is) tt

      by_place : (cut : Cut) (first second : ℕ) → node_at after k ≡ forms.Inner cut first second → is_leaf_node (node_at before k) ≡ false → (k < length before) ⊎ (length before ≤ k) → IsOwnNode schema (forms.Inner cut first second)
      by_place cut first second is inner_is (inl inside) =
          let same = kept.same boxed.0 boxed.1 k inside (stays (node_at before k) refl inner_is inside) in
          subst (IsOwnNode schema) (sym same ∙ is) (mine k)
      by_place cut first second is inner_is (inr past) = absurd (true≢false (ap is_leaf_node (sym (get_or_past before k (forms.Leaf marks.Barren) past)) ∙ inner_is))

      by_test : (cut : Cut) (first second : ℕ) → node_at after k ≡ forms.Inner cut first second → (test : Bool) → is_leaf_node (node_at before k) ≡ test → IsOwnNode schema (forms.Inner cut first second)
      by_test cut first second is true test_is = needed_bits (box_at tree.0 k) cut (needed tree.0 tree.1 k cut first second test_is is)
      by_test cut first second is false test_is = by_place cut first second is test_is (cases_lt k (length before))

      by_node : (node : CutNode) → node_at after k ≡ node → IsOwnNode schema (node_at after k)
      by_node (forms.Leaf mark) is = subst (IsOwnNode schema) (sym is) tt
      by_node (forms.Inner cut first second) is = subst (IsOwnNode schema) (sym is) (by_test cut first second is (is_leaf_node (node_at before k)) refl)

-- ---- a tree before its first cut

pub one_leaf_own : (schema : Schema) (nodes : List CutNode) (mark : LeafMark) → nodes ≡ forms.Leaf mark ∷ [] → HasOwnCuts schema nodes
one_leaf_own schema nodes mark is = subst (HasOwnCuts schema) (sym is) at
  where
    at : (k : ℕ) → IsOwnNode schema (node_at (forms.Leaf mark ∷ []) k)
    at zero = tt
    at (suc k) = tt
