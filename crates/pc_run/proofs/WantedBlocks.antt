-- Each question wants a block: of a grouped one, some name of the group column is allowed.
use Rattle.std.proofs.Common.{◌≡◌, ◌⊎◌, inl, inr, ℕ, zero, suc, ◌<◌, ◌≤◌, ◌^◌, ◌==◌, nat_lt, Bool, true, cond, pos, List, [], ◌∷◌, ◌++◌, length, get_or, map, filter, All, Option, Some, None, IfSome, IsSomeAnd, refl, sym, ap, ◌∙◌, true≢false, ltb-true, arith}
use Rattle.std.specs.Prelude.{slice_get}
use Rattle.std.specs.Cmp.Lexicographic.{pointwise}
use Rattle.std.specs.Int.{bit_at, trailing_zeros}
use Rattle.std.specs.Int.Width.{w128}
use Rattle.std.specs.List.{list_any}
use Rattle.std.proofs.Math.Pow.{pow_mono}
use Rattle.std.proofs.lemmas.Bool.{and_parts, cases_lt}
use Rattle.std.proofs.lemmas.List.{length-append, length-map}
use Rattle.std.proofs.lemmas.List.Elements.{All-head, All-tail, filter-append}
use Rattle.std.proofs.lemmas.Nat.Bits.{bit_at-trailing_zeros}
use Rattle.pc_model.specs.declared.schema.Kind.{Kind}
use Rattle.pc_model.specs.declared.schema.Kind.TheVariants.{Int, Dec, Cat}
use Rattle.pc_model.specs.declared.schema.Column.{Column}
use Rattle.pc_model.specs.declared.schema.Schema.{Schema}
use Rattle.pc_model.specs.declared.region.Side.{Side}
use Rattle.pc_model.specs.declared.region.Side.TheVariants.{Span, Names}
use Rattle.pc_model.specs.declared.region.Region.{Region}
use Rattle.pc_model.specs.declared.query.Query.{Query}
use Rattle.pc_model.specs.Accepted.{HasNames, IsColumnWhere, IsQuery}
use Rattle.pc_model.specs.Boxes.{IsAreaOf}
use Rattle.pc_model.specs.Membership.{allows, holds}
use Rattle.pc_model.specs.Regions.{is_region_of, is_side_of}
use Rattle.pc_model.specs.WellFormed.{IsColumn, IsKind, IsWellFormed}
use Rattle.pc_model.proofs.Regions.{side_inside}
use Rattle.pc_proof.specs.Setting.{allows_name}
use Rattle.pc_group.specs.Wanted.{allowed_names, is_allowed, names_at, names_in, places_below, wanted_by, wanted_in, wanted_of}

-- ---- a name that an area allows

below_count : (names : List (List ℕ)) (place : ℕ) → allows (Cat names) (pos place) ≡ true → place < length names
unfolding allows
below_count names place allowed = ltb-true place (length names) allowed

-- the place of a name that a side holds
record HasName (kind : Kind) (side : Side) : Type 0 where
  place : ℕ
  below : place < names_in kind
  held : holds side (pos place) ≡ true

lowest_held : (set : ℕ) → 0 < set → set < 2 ^ 128 → holds (Names set) (pos (trailing_zeros w128 set)) ≡ true
unfolding holds
lowest_held set some small = let bit = (bit_at-trailing_zeros w128 set some small).1 in rw bit refl

some_name : (kind : Kind) (side : Side) → IsKind kind → is_side_of kind side ≡ true → HasNames kind → HasName kind side
some_name (Int low high) side are is named = absurd named
some_name (Dec scale low high) side are is named = absurd named
some_name (Cat names) (Span from to) are is named = absurd (true≢false (sym is))
some_name (Cat names) (Names set) are is named =
    let parts = and_parts (nat_lt 0 set) (nat_lt set (2 ^ length names)) is in
    let small = ltb-true set (2 ^ length names) parts.1 in
    let wide : 2 ^ length names ≤ 2 ^ 128 = pow_mono are.few in
    let held = lowest_held set (ltb-true 0 set parts.0) (omega (arith, small, wide)) in
    record { place = trailing_zeros w128 set; below = below_count names (trailing_zeros w128 set) (side_inside (Cat names) (Names set) (pos (trailing_zeros w128 set)) is held); held = held }

-- .. that the side of a column holds, or some box of an area
record AllowsSome (columns : List Column) (column : ℕ) (allowed : ℕ → Bool) : Type 0 where
  place : ℕ
  below : place < names_at (slice_get columns column)
  held : allowed place ≡ true

box_allows : (columns : List Column) (sides : List Side) (column : ℕ) → All IsColumn columns → pointwise (λ (c : Column). is_side_of c.kind) columns sides ≡ true → IsSomeAnd (slice_get columns column) (λ (c : Column). HasNames c.kind) →
    AllowsSome columns column (λ place. holds (get_or sides column (Names 0)) (pos place))
box_allows [] sides column are fits named = absurd named
box_allows (c ∷ columns) [] column are fits named = absurd (true≢false (sym fits))
box_allows (c ∷ columns) (side ∷ sides) zero are fits named =
    let found = some_name c.kind side (All-head IsColumn c columns are).kind (and_parts (is_side_of c.kind side) (pointwise (λ (x : Column). is_side_of x.kind) columns sides) fits).0 named in
    record { place = found.place; below = found.below; held = found.held }
box_allows (c ∷ columns) (side ∷ sides) (suc column) are fits named =
    let found = box_allows columns sides column (All-tail IsColumn c columns are) (and_parts (is_side_of c.kind side) (pointwise (λ (x : Column). is_side_of x.kind) columns sides) fits).1 named in
    record { place = found.place; below = found.below; held = found.held }

region_allows : (schema : Schema) (box : Region) (column : ℕ) → IsWellFormed schema → is_region_of schema box ≡ true → IsColumnWhere HasNames schema column → AllowsSome schema.columns column (λ place. allows_name column place box)
unfolding is_region_of
region_allows schema box column formed fits named = box_allows schema.columns box.sides column formed.columns.all fits named

area_allows : (schema : Schema) (boxes : List Region) (column : ℕ) → IsWellFormed schema → 1 ≤ length boxes → All (λ (box : Region). is_region_of schema box ≡ true) boxes → IsColumnWhere HasNames schema column →
    AllowsSome schema.columns column (λ place. list_any (allows_name column place) boxes)
area_allows schema [] column formed some each named = absurd (omega (arith, some))
area_allows schema (box ∷ boxes) column formed some each named =
    let found = region_allows schema box column formed (All-head (λ (box : Region). is_region_of schema box ≡ true) box boxes each) named in
    record { place = found.place; below = found.below; held = let first = found.held in rw first refl }

-- ---- it is among the allowed names

last_kept : (test : ℕ → Bool) (front : List ℕ) (n place : ℕ) → test place ≡ true → (1 ≤ length front) ⊎ (place ≡ n) → 1 ≤ length (front ++ filter test (n ∷ []))
last_kept test front n place is (inl some) = rw (length-append front (filter test (n ∷ []))) (omega (arith, some))
last_kept test front n place is (inr same) = let kept : test n ≡ true = ap test (sym same) ∙ is in rw (kept, length-append front (n ∷ [])) (omega arith)

some_kept : (test : ℕ → Bool) (n place : ℕ) → place < n → test place ≡ true → 1 ≤ length (filter test (places_below n))
unfolding places_below
some_kept test zero place below is = absurd (omega (arith, below))
some_kept test (suc n) place below is =
    let before : (1 ≤ length (filter test (places_below n))) ⊎ (place ≡ n)
    = elim (cases_lt place n) [
      | inl lower ↦ inl (some_kept test n place lower is)
      | inr above ↦ inr (omega (arith, above, below))
    ] in
    rw (filter-append test (places_below n) (n ∷ [])) (last_kept test (filter test (places_below n)) n place is before)

names_some : (schema : Schema) (query : Query) (column : ℕ) → AllowsSome schema.columns column (is_allowed query.chosen column) → 1 ≤ length (allowed_names schema query column)
unfolding allowed_names
names_some schema query column found = some_kept (is_allowed query.chosen column) (names_at (slice_get schema.columns column)) found.place found.below found.held

wanted_some : (schema : Schema) (query : Query) (group : Option ℕ) → IsWellFormed schema → IsAreaOf schema query.chosen → IfSome group (IsColumnWhere HasNames schema) → 1 ≤ length (wanted_in schema query group)
wanted_some schema query None formed chosen named = omega arith
wanted_some schema query (Some column) formed chosen named =
    let some = names_some schema query column (area_allows schema query.chosen.boxes column formed chosen.some chosen.each named) in
    rw (length-map (allowed_names schema query column) (wanted_of query)) some

pub wants_some : (schema : Schema) (query : Query) → IsWellFormed schema → IsQuery schema query → 1 ≤ length (wanted_by schema query)
wants_some schema query formed is = wanted_some schema query query.group formed is.chosen is.grouped
