-- The rungs of a ladder are where its end can stand.
use Rattle.std.proofs.Common.{◌≡◌, ℕ, ◌<◌, ℤ, pos, Bool, true, false, cond, inl, inr, List, [], ◌∷◌, ◌++◌, length, map, get_or, All, Any, Contains, Option, Some, None, IfSome, refl, sym, ap, subst, ◌∙◌, arith}
use Rattle.std.specs.Prelude.{◌⊎◌}
use Rattle.std.specs.Option.{option_to_list}
use Rattle.std.proofs.lemmas.List.{length-map, get_or-map, get_or_default}
use Rattle.std.proofs.lemmas.List.Elements.{All-append, All-cons, All-nil, All-weaker, Contains-append_left, Contains-append_right}
use Rattle.pc_model.specs.declared.schema.Schema.{Schema}
use Rattle.pc_model.specs.declared.constraint.Constraint.{Constraint}
use Rattle.pc_model.specs.declared.query.Query.{Query}
use Rattle.pc_model.specs.declared.tree.CutNode.{CutNode}
use Rattle.pc_model.specs.Cells.{Class, classes_of, leaves_in}
use Rattle.pc_program_bound.proofs.CellPlaces.{no_class}
use Rattle.pc_cells.specs.declared.cells.Cell.{Cell}
use Rattle.pc_cells.specs.Found.{class_of_cell, cells_of}
use Rattle.pc_cells.proofs.Decomposed.{classes_of_cells}
use Rattle.pc_proof.specs.Setting.{Setting, cells, on_chosen}
use Rattle.pc_agg_search.specs.declared.extreme.Extreme.{Extreme}
use Rattle.pc_agg.specs.declared.ladder.Test.{Test}
use Rattle.pc_agg.specs.declared.ladder.Test.TheVariants.{Reach, Avoid}
use Rattle.pc_agg.specs.Falling.{IsFallingOf}
use Rattle.pc_agg.specs.Kept.{passes, HasKey, AreKept, AreStandable}
use Rattle.pc_agg_search.specs.Keys.{key_of}
use Rattle.pc_agg.specs.Rungs.{AreRungs}
use Rattle.pc_agg_search.specs.Settings.{unseen}
use Rattle.pc_agg_search.specs.Targets.{cell_at}
use Rattle.pc_agg.proofs.LadderRungs.{reach_apart, reach_each, reach_top, reach_bottom, avoid_apart, avoid_each, avoid_top, avoid_bottom, none_standable}

abbrev is_chosen : Class → Bool
is_chosen class = class.chosen

-- ---- what stands gives the rungs

are_rungs : (s : Setting) (extreme : Extreme) (test : Test) (seen : Option ℤ) (numbers rungs : List ℤ) → AreStandable is_chosen (key_of s extreme) (cells s) test seen numbers → IsFallingOf numbers rungs
    → AreRungs s extreme test seen rungs
are_rungs s extreme Reach seen numbers rungs are falling = record {
  falling = falling.falls;
  apart = reach_apart is_chosen (key_of s extreme) (cells s) seen numbers rungs falling are;
  each = reach_each is_chosen (key_of s extreme) (cells s) seen numbers rungs falling are;
  top = reach_top is_chosen (key_of s extreme) (cells s) seen numbers rungs falling are;
  bottom = reach_bottom is_chosen (key_of s extreme) (cells s) seen numbers rungs falling are;
  absent = none_standable is_chosen (key_of s extreme) (cells s) seen numbers rungs falling Reach are;
}
are_rungs s extreme Avoid seen numbers rungs are falling = record {
  falling = falling.falls;
  apart = avoid_apart is_chosen (key_of s extreme) (cells s) seen numbers rungs falling are;
  each = avoid_each is_chosen (key_of s extreme) (cells s) seen numbers rungs falling are;
  top = avoid_top is_chosen (key_of s extreme) (cells s) seen numbers rungs falling are;
  bottom = avoid_bottom is_chosen (key_of s extreme) (cells s) seen numbers rungs falling are;
  absent = none_standable is_chosen (key_of s extreme) (cells s) seen numbers rungs falling Avoid are;
}

-- ---- the keys that were gathered are those of the chosen classes

module _ (schema : Schema) (constraints : List Constraint) (query : Query) (nodes : List CutNode) (found : List Cell) (listed : found ≡ cells_of (leaves_in schema nodes))
    (extreme : Extreme) (keys : List ℤ) (keyed : keys ≡ map (on_chosen (key_of (unseen schema constraints query nodes) extreme)) (cells (unseen schema constraints query nodes))) where
  abbrev u : Setting
  u = unseen schema constraints query nodes

  classes : map class_of_cell found ≡ cells u
  classes = ap (map class_of_cell) listed ∙ classes_of_cells (leaves_in schema nodes) (classes_of (leaves_in schema nodes))

  pub long : length found ≡ length (cells u)
  long = sym (length-map found class_of_cell) ∙ ap length classes

  pub class_is : (i : ℕ) → i < length found → class_of_cell (cell_at found i) ≡ get_or (cells u) i no_class
  class_is i inside = sym (get_or-map class_of_cell found i (record { mask = 0; chosen = false; leaves = [] }) no_class inside) ∙ ap (λ list. get_or list i no_class) classes

  pub key_is : (i : ℕ) → i < length found → (cell_at found i).chosen ≡ true → get_or keys i (pos 0) ≡ key_of u extreme (get_or (cells u) i no_class)
  key_is i inside chosen =
      let class = get_or (cells u) i no_class in
      let chosen_is : class.chosen ≡ true = ap is_chosen (sym (class_is i inside)) ∙ chosen in
      ap (λ list. get_or list i (pos 0)) keyed ∙ get_or-map (on_chosen (key_of u extreme)) (cells u) i no_class (pos 0) (omega (arith, inside, long)) ∙ ap (λ b. cond b (key_of u extreme class) (pos 0)) chosen_is

  module _ (test : Test) (seen : Option ℤ) (kept : List ℤ) (are : AreKept found keys test seen (length found) kept) where
    abbrev IsKey : ℤ → Type 0
    IsKey number = Any (λ (class : Class). (class.chosen ≡ true) × (key_of u extreme class ≡ number)) (cells u)

    abbrev IsOne : ℤ → Type 0
    IsOne number = (IsKey number × (passes test seen number ≡ true)) ⊎ (seen ≡ Some number)

    is_key : (number : ℤ) → HasKey found keys (length found) number → IsKey number
    is_key number has =
        let class = get_or (cells u) has.0 no_class in
        let inside : has.0 < length (cells u) = omega (arith, has.1, long) in
        (has.0, class, inside, get_or_default (cells u) has.0 class no_class inside, (ap is_chosen (sym (class_is has.0 has.1)) ∙ has.2, sym (key_is has.0 has.1 has.2) ∙ has.3))

    own_is : (o : Option ℤ) → seen ≡ o → All IsOne (option_to_list o)
    own_is None is = All-nil IsOne
    own_is (Some m) is = All-cons IsOne m [] (inr is) (All-nil IsOne)

    own_there : (o : Option ℤ) → IfSome o (Contains (kept ++ option_to_list o))
    own_there None = tt
    own_there (Some m) = Contains-append_right kept (m ∷ []) m (0, omega arith, refl)

    standable : (numbers : List ℤ) → numbers ≡ kept ++ option_to_list seen → AreStandable is_chosen (key_of u extreme) (cells u) test seen numbers
    standable numbers is = subst (AreStandable is_chosen (key_of u extreme) (cells u) test seen) (sym is) (record {
      from = All-append IsOne kept (option_to_list seen)
          (All-weaker (λ number. HasKey found keys (length found) number × (passes test seen number ≡ true)) IsOne (λ number has. inl (is_key number has.0, has.1)) kept are.from)
          (own_is seen refl);
      each = λ i d inside chosen passed.
          let there : i < length found = omega (arith, inside, long) in
          let same : get_or (cells u) i d ≡ get_or (cells u) i no_class = get_or_default (cells u) i d no_class inside in
          let cell_chosen : (cell_at found i).chosen ≡ true = ap is_chosen (class_is i there) ∙ sym (ap is_chosen same) ∙ chosen in
          let key : get_or keys i (pos 0) ≡ key_of u extreme (get_or (cells u) i d) = key_is i there cell_chosen ∙ ap (key_of u extreme) (sym same) in
          subst (Contains (kept ++ option_to_list seen)) key
          (Contains-append_left kept (option_to_list seen) (get_or keys i (pos 0)) (are.each i there cell_chosen (ap (passes test seen) key ∙ passed)));
      own = own_there seen;
    })

    pub ladder_rungs : (numbers rungs : List ℤ) → numbers ≡ kept ++ option_to_list seen → IsFallingOf numbers rungs → AreRungs u extreme test seen rungs
    ladder_rungs numbers rungs is falling = are_rungs u extreme test seen numbers rungs (standable numbers is) falling
