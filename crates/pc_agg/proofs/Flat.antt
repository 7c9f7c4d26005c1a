-- The tree of one leaf, whose multipliers are 0, shows that nothing gains where no cell that has rows does.
use Rattle.std.proofs.Common.{◌≡◌, ℕ, ◌<◌, ◌≤◌, Bool, true, false, cond, List, length, map, get_or, All, refl, ap, ap₂, ◌∙◌, arith}
use Rattle.std.specs.Prelude.{ℤ, pos, ◌*ℤ◌, ◌≤ℤ◌, int_le, int_lt, ◌&&◌}
use Rattle.std.proofs.lemmas.Bool.{false_from_ne_true}
use Rattle.std.proofs.lemmas.Int.{ints}
use Rattle.std.proofs.lemmas.List.{length-map, get_or-map}
use Rattle.pc_model.specs.declared.schema.Schema.{Schema}
use Rattle.pc_model.specs.declared.constraint.Constraint.{Constraint}
use Rattle.pc_model.specs.declared.query.Query.{Query}
use Rattle.pc_model.specs.declared.tree.CutNode.{CutNode}
use Rattle.pc_model.specs.Accepted.{AreConstraints}
use Rattle.pc_model.specs.WellFormed.{IsWellFormed}
use Rattle.pc_model.specs.Cells.{Class, IsSettledTree}
use Rattle.pc_program_bound.specs.Sums.{int_at}
use Rattle.pc_program_bound.specs.CellPrograms.{cap_of}
use Rattle.pc_program_bound.proofs.CellPlaces.{no_class, cell_inside, floor_is}
use Rattle.pc_branch.specs.Ends.{HasSmallGains}
use Rattle.pc_proof.specs.Setting.{Setting, cells, on_chosen, counting, open_cap, program_for, program_without}
use Rattle.pc_proof.specs.Table.{one}
use Rattle.pc_agg_search.specs.declared.extreme.Extreme.{Extreme}
use Rattle.pc_agg_search.specs.declared.want.Want.TheVariants as wants
use Rattle.pc_agg_search.specs.Flat.{flat_tree}
use Rattle.pc_agg_search.specs.Keys.{key_of}
use Rattle.pc_agg.specs.Rungs.{AllUpTo}
use Rattle.pc_agg_search.specs.Settings.{unseen}
use Rattle.pc_agg_search.specs.Wants.{FallsShort}
use Rattle.pc_agg_search.specs.Limits.{greatest_gain}
use Rattle.pc_agg_search.proofs.FlatTrees.{no_product, flat_short}
use Rattle.pc_agg_search.proofs.UnseenPrograms.{tested_small, for_program, for_small, without_program, without_small}

-- ---- programs of cells

no_more : (x : ℤ) → x ≡ pos 0 → x ≤ℤ pos 0
no_more x none = omega (arith, ints, none)

-- what a closed cell gains, or one that is not chosen
no_gain : (chosen passes : Bool) → (chosen ≡ true → passes ≡ false) → cond (chosen && passes) (pos 1) (pos 0) ≡ pos 0
no_gain true passes fails = ap (λ test. cond test (pos 1) (pos 0)) (fails refl)
no_gain false passes fails = refl

no_share : (chosen closed : Bool) (cap : ℕ) → (chosen ≡ true → closed ≡ true) → cond chosen (pos 1) (pos 0) *ℤ pos (cond (chosen && closed) 0 cap) ≡ pos 0
no_share true closed cap shut = ap (λ test. pos 1 *ℤ pos (cond test 0 cap)) (shut refl)
no_share false closed cap shut = omega (arith, ints)

not_chosen : (chosen : Bool) → (chosen ≡ true → ⊥) → cond chosen (pos 1) (pos 0) ≡ pos 0
not_chosen true never = absurd (never refl)
not_chosen false never = refl

module _ (schema : Schema) (constraints : List Constraint) (query : Query) (nodes : List CutNode) (formed : IsWellFormed schema)
    (are : AreConstraints schema constraints) (tree : IsSettledTree schema constraints query.chosen nodes) (budget : ℕ) (some : 1 ≤ budget) where
  abbrev u : Setting
  u = unseen schema constraints query nodes

  abbrev class_at : ℕ → Class
  class_at i = get_or (cells u) i no_class

  there : (gains : List ℤ) (i : ℕ) → i < length (map (λ (class : Class). class.mask) (cells u)) → i < length (cells u)
  there gains i h = cell_inside constraints (cells u) gains i h

  long : length (map (λ (c : Constraint). c.least) constraints) ≡ length constraints
  long = length-map constraints (λ (c : Constraint). c.least)

  -- no cell gains anything
  no_gains : (gain : Class → ℤ) → HasSmallGains (program_for u gain) → ((i : ℕ) → i < length (cells u) → gain (class_at i) ≡ pos 0) →
      FallsShort (program_for u gain) wants.Gaining budget (flat_tree (length constraints))
  no_gains gain small each =
      flat_short (program_for u gain) (λ i h. floor_is constraints (cells u) (map gain (cells u)) i (there (map gain (cells u)) i h))
      (λ i h. no_more _ (no_product (int_at (map gain (cells u)) i) _ (get_or-map gain (cells u) i no_class (pos 0) (there (map gain (cells u)) i h) ∙ each i (there (map gain (cells u)) i h))))
      budget (length constraints) (for_program schema constraints query nodes formed are tree gain) small long some

  pub flat_none : All (λ (class : Class). class.chosen ≡ true → ⊥) (cells u) → FallsShort (program_for u (on_chosen one)) wants.Gaining budget (flat_tree (length constraints))
  flat_none never =
      no_gains (on_chosen one) (for_small schema constraints query nodes formed are tree (on_chosen one) (λ class. tested_small (greatest_gain) class.chosen (pos 1) (omega arith)))
      (λ i h. not_chosen (class_at i).chosen (never i no_class h))

  module _ (extreme : Extreme) (key : ℤ) (most : AllUpTo u extreme key) where
    -- no chosen cell is above the key
    pub flat_reach : FallsShort (program_for u (counting (λ class. int_lt key (key_of u extreme class)))) wants.Gaining budget (flat_tree (length constraints))
    flat_reach =
        no_gains (counting (λ class. int_lt key (key_of u extreme class)))
        (for_small schema constraints query nodes formed are tree (counting (λ class. int_lt key (key_of u extreme class)))
        (λ class. tested_small (greatest_gain) (class.chosen && int_lt key (key_of u extreme class)) (pos 1) (omega arith)))
        (λ i h. no_gain (class_at i).chosen (int_lt key (key_of u extreme (class_at i)))
        (λ chosen. let less = most i no_class h chosen in false_from_ne_true (int_lt key (key_of u extreme (class_at i))) (λ e. omega (arith, ints, less, e))))

    abbrev closed : Class → Bool
    closed class = int_le (key_of u extreme class) key

    shut : (i : ℕ) → i < length (cells u) → (class_at i).chosen ≡ true → closed (class_at i) ≡ true
    shut i h chosen = let less = most i no_class h chosen in grind (arith, ints, less)

    pub flat_avoid : FallsShort (program_without u (λ class. int_le (key_of u extreme class) key)) wants.Gaining budget (flat_tree (length constraints))
    flat_avoid =
        flat_short (program_without u closed) (λ i h. floor_is constraints (cells u) (map (on_chosen one) (cells u)) i (there (map (on_chosen one) (cells u)) i h))
        (λ i h.
        let inside = there (map (on_chosen one) (cells u)) i h in
        no_more _ (ap₂ (λ x (n : ℕ). x *ℤ pos n) (get_or-map (on_chosen one) (cells u) i no_class (pos 0) inside) (get_or-map (open_cap u closed) (cells u) i no_class 0 inside)
        ∙ no_share (class_at i).chosen (closed (class_at i)) (cap_of constraints (class_at i)) (shut i inside)))
        budget (length constraints) (without_program schema constraints query nodes formed are tree closed) (without_small schema constraints query nodes formed are tree closed) long some
