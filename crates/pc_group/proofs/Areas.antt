-- The areas of the wanted blocks, query by query and name by name.
use Rattle.std.proofs.Common.{◌≡◌, ℕ, zero, suc, ◌+◌, ◌<◌, ◌≤◌, List, [], ◌∷◌, ◌++◌, length, map, get_or, take, All, Option, Some, None, refl, sym, ap, subst, ◌∙◌, arith}
use Rattle.std.specs.Prelude.{flat_map}
use Rattle.std.proofs.lemmas.Grind.{flat_map-append}
use Rattle.std.proofs.lemmas.List.{append-nil, append_assoc, map-append, map_more, take_all, take_more}
use Rattle.std.proofs.lemmas.List.Elements.{All-nil, All-append, All-cons, All-contains, All-head, All-map, All-tail, All-weaker, Contains-append_left, Contains-append_right, Contains-get_or}
use Rattle.pc_model.specs.declared.schema.Schema.{Schema}
use Rattle.pc_model.specs.declared.constraint.Constraint.{Constraint}
use Rattle.pc_model.specs.declared.area.Area.{Area}
use Rattle.pc_model.specs.declared.query.Query.{Query}
use Rattle.pc_model.specs.declared.tree.CutNode.{CutNode}
use Rattle.pc_model.specs.Accepted.{IsQuery}
use Rattle.pc_model.specs.Boxes.{IsAreaOf}
use Rattle.pc_cells_tree.specs.Linked.{IsDividedFor}
use Rattle.pc_proof.specs.Unbroken.{AllowsName}
use Rattle.pc_proof.proofs.NameParts.{narrowed_is_area}
use Rattle.pc_group.specs.Trees.{AreDividedFor}
use Rattle.pc_group.specs.Wanted.{Wanted, allowed_names, area_of, wanted, wanted_by, wanted_in, wanted_of}
use Rattle.pc_group.proofs.GroupNames.{names_allowed}

-- ---- lists

module _ {X Y : Type 0} (f : X → List Y) where
  -- one item more, and what it gives
  flat_more : (xs : List X) (i : ℕ) (x : X) → i < length xs → x ≡ get_or xs i x → flat_map f (take (i + 1) xs) ≡ flat_map f (take i xs) ++ f x
  flat_more xs i x inside is =
      ap (flat_map f) (take_more xs i x inside) ∙ flat_map-append f (take i xs) (get_or xs i x ∷ []) ∙ ap (λ (l : List Y). flat_map f (take i xs) ++ l) (append-nil (f (get_or xs i x)) ∙ ap f (sym is))

  -- what holds of all that items give holds of what one gives
  flat_part : (P : Y → Type 0) (xs : List X) (i : ℕ) (d : X) → i < length xs → All P (flat_map f xs) → All P (f (get_or xs i d))
  flat_part P [] i d inside each = let no : ⊥ = omega (arith, inside) in absurd no
  flat_part P (x ∷ xs) zero d inside each = λ k e within. All-contains P (f x ++ flat_map f xs) (get_or (f x) k e) each (Contains-append_left (f x) (flat_map f xs) (get_or (f x) k e) (Contains-get_or (f x) k e within))
  flat_part P (x ∷ xs) (suc i) d inside each =
      flat_part P xs i d (omega (arith, inside))
      (λ k e within. All-contains P (f x ++ flat_map f xs) (get_or (flat_map f xs) k e) each (Contains-append_right (f x) (flat_map f xs) (get_or (flat_map f xs) k e) (Contains-get_or (flat_map f xs) k e within)))

  flat_all : (P : Y → Type 0) (xs : List X) → All (λ (x : X). All P (f x)) xs → All P (flat_map f xs)
  flat_all P [] each = All-nil P
  flat_all P (x ∷ xs) each = All-append P (f x) (flat_map f xs) (All-head (λ (z : X). All P (f z)) x xs each) (flat_all P xs (All-tail (λ (z : X). All P (f z)) x xs each))

-- what holds of all images
images : {X Y : Type 0} (P : Y → Type 0) (f : X → Y) (xs : List X) → All P (map f xs) → All (λ (x : X). P (f x)) xs
images P f [] each = All-nil (λ x. P (f x))
images P f (x ∷ xs) each = All-cons (λ z. P (f z)) x xs (All-head P (f x) (map f xs) each) (images P f xs (All-tail P (f x) (map f xs) each))

-- ---- areas of blocks

module _ (schema : Schema) (queries : List Query) where
  pub wanted_more : (i : ℕ) (query : Query) → i < length queries → query ≡ get_or queries i query → wanted schema (take (i + 1) queries) ≡ wanted schema (take i queries) ++ wanted_by schema query
  unfolding wanted
  wanted_more i query inside is = flat_more (wanted_by schema) queries i query inside is

  pub areas_more : (areas : List Area) (i : ℕ) (query : Query) → i < length queries → query ≡ get_or queries i query → areas ≡ map area_of (wanted schema (take i queries)) →
      areas ++ map area_of (wanted_by schema query) ≡ map area_of (wanted schema (take (i + 1) queries))
  areas_more areas i query inside is so_far =
      sym (ap (map area_of) (wanted_more i query inside is) ∙ map-append area_of (wanted schema (take i queries)) (wanted_by schema query) ∙ ap (λ (l : List Area). l ++ map area_of (wanted_by schema query)) (sym so_far))

  pub wanted_whole : (i : ℕ) → length queries ≤ i → wanted schema (take i queries) ≡ wanted schema queries
  wanted_whole i past = ap (wanted schema) (take_all i queries past)

  pub areas_whole : (areas : List Area) (i : ℕ) → length queries ≤ i → areas ≡ map area_of (wanted schema (take i queries)) → areas ≡ map area_of (wanted schema queries)
  areas_whole areas i past so_far = so_far ∙ ap (map area_of) (wanted_whole i past)

pub one_wanted : (schema : Schema) (query : Query) → wanted schema (query ∷ []) ≡ wanted_by schema query
unfolding wanted
one_wanted schema query = append-nil (wanted_by schema query)

pub none_wanted : (schema : Schema) → [] ≡ wanted schema []
unfolding wanted
none_wanted schema = refl

module _ (query : Query) (names : List ℕ) where
  -- the blocks of names after those before
  pub blocks_more : (blocks : List Wanted) (i d : ℕ) → i < length names → (blocks ++ map (wanted_of query) (take i names)) ++ wanted_of query (get_or names i d) ∷ [] ≡ blocks ++ map (wanted_of query) (take (i + 1) names)
  blocks_more blocks i d inside =
      append_assoc blocks (map (wanted_of query) (take i names)) (wanted_of query (get_or names i d) ∷ []) ∙ ap (λ (l : List Wanted). blocks ++ l) (sym (map_more (wanted_of query) names i d inside))

  -- the areas of names after those before
  pub parts_none : (areas : List Area) → areas ≡ areas ++ map area_of (map (wanted_of query) (take 0 names))
  parts_none areas = sym (append-nil areas)

  pub parts_more : (before areas : List Area) (i name : ℕ) → i < length names → name ≡ get_or names i name → areas ≡ before ++ map area_of (map (wanted_of query) (take i names)) →
      areas ++ area_of (wanted_of query name) ∷ [] ≡ before ++ map area_of (map (wanted_of query) (take (i + 1) names))
  parts_more before areas i name inside is so_far =
      ap (λ (l : List Area). l ++ area_of (wanted_of query name) ∷ []) so_far
      ∙ ap (λ (n : ℕ). (before ++ map area_of (map (wanted_of query) (take i names))) ++ area_of (wanted_of query n) ∷ []) is
      ∙ append_assoc before (map area_of (map (wanted_of query) (take i names))) (area_of (wanted_of query (get_or names i name)) ∷ [])
      ∙ ap (λ (l : List Area). before ++ l)
      (sym (ap (map area_of) (map_more (wanted_of query) names i name inside) ∙ map-append area_of (map (wanted_of query) (take i names)) (wanted_of query (get_or names i name) ∷ [])))

  pub parts_whole : (before areas : List Area) (i : ℕ) → length names ≤ i → areas ≡ before ++ map area_of (map (wanted_of query) (take i names)) → areas ≡ before ++ map area_of (map (wanted_of query) names)
  parts_whole before areas i past so_far = so_far ∙ ap (λ (l : List ℕ). before ++ map area_of (map (wanted_of query) l)) (take_all i names past)

pub ruleset by_query = (areas_more, areas_whole)

pub ruleset by_name = (parts_none, parts_more, parts_whole)

-- ---- what is known of them

-- the blocks of a query, by its group
pub ungrouped : (schema : Schema) (query : Query) → query.group ≡ None → wanted_by schema query ≡ record { query = query; name = None } ∷ []
ungrouped schema query is = ap (wanted_in schema query) is

pub grouped : (schema : Schema) (query : Query) (column : ℕ) → query.group ≡ Some column → wanted_by schema query ≡ map (wanted_of query) (allowed_names schema query column)
grouped schema query column is = ap (wanted_in schema query) is

no_name : (query : Query) → AllowsName query.chosen query.group None
no_name query = by query.group
  where
    by : (group : Option ℕ) → AllowsName query.chosen group None
    by None = tt
    by (Some column) = tt

module _ (schema : Schema) where
  abbrev IsIn : Area → Type 0
  IsIn area = IsAreaOf schema area

  query_areas : (query : Query) → IsQuery schema query → (group : Option ℕ) → query.group ≡ group → All (λ (w : Wanted). IsIn (area_of w)) (wanted_in schema query group)
  query_areas query well None is = All-cons (λ (w : Wanted). IsIn (area_of w)) (record { query = query; name = None }) [] (narrowed_is_area schema query.chosen query.group None (no_name query) well.chosen) (All-nil (λ (w : Wanted). IsIn (area_of w)))
  query_areas query well (Some column) is =
      All-map (λ (w : Wanted). IsIn (area_of w)) (wanted_of query) (allowed_names schema query column)
      (All-weaker (λ (name : ℕ). AllowsName query.chosen query.group (Some name)) (λ (name : ℕ). IsIn (area_of (wanted_of query name)))
      (λ name allowed. narrowed_is_area schema query.chosen query.group (Some name) allowed well.chosen) (allowed_names schema query column) (names_allowed schema query column is))

  pub are_areas : (queries : List Query) (areas : List Area) → All (IsQuery schema) queries → areas ≡ map area_of (wanted schema queries) → All (λ (area : Area). IsAreaOf schema area) areas
  unfolding wanted
  are_areas queries areas well is =
      subst (All IsIn) (sym is)
      (All-map IsIn area_of (flat_map (wanted_by schema) queries)
      (flat_all (wanted_by schema) (λ (w : Wanted). IsIn (area_of w)) queries
      (All-weaker (IsQuery schema) (λ (query : Query). All (λ (w : Wanted). IsIn (area_of w)) (wanted_by schema query)) (λ query h. query_areas query h query.group refl) queries well)))

  module _ (constraints : List Constraint) (nodes : List CutNode) where
    -- divided for the areas, and so for the blocks
    pub divided_for : (blocks : List Wanted) (areas : List Area) → areas ≡ map area_of blocks → All (λ (area : Area). IsDividedFor schema constraints area nodes) areas → AreDividedFor schema constraints nodes blocks
    divided_for blocks areas is each =
        images (λ (area : Area). IsDividedFor schema constraints area nodes) area_of blocks (subst (All (λ (area : Area). IsDividedFor schema constraints area nodes)) is each)

    pub divided_of : (queries : List Query) (i : ℕ) (query : Query) → i < length queries → query ≡ get_or queries i query → AreDividedFor schema constraints nodes (wanted schema queries) → AreDividedFor schema constraints nodes (wanted_by schema query)
    unfolding wanted
    divided_of queries i query inside is each =
        subst (λ (q : Query). AreDividedFor schema constraints nodes (wanted_by schema q)) (sym is) (flat_part (wanted_by schema) (λ (w : Wanted). IsDividedFor schema constraints (area_of w) nodes) queries i query inside each)

    -- of a query without a group
    pub divided_alone : (query : Query) → query.group ≡ None → AreDividedFor schema constraints nodes (wanted_by schema query) → IsDividedFor schema constraints (area_of (record { query = query; name = None })) nodes
    divided_alone query is each = subst (AreDividedFor schema constraints nodes) (ungrouped schema query is) each 0 (record { query = query; name = None }) (omega arith)

    pub divided_at : (query : Query) (names : List ℕ) (i d : ℕ) → i < length names → AreDividedFor schema constraints nodes (map (wanted_of query) names) → IsDividedFor schema constraints (area_of (wanted_of query (get_or names i d))) nodes
    divided_at query names i d inside each = images (λ (w : Wanted). IsDividedFor schema constraints (area_of w) nodes) (wanted_of query) names each i d inside
