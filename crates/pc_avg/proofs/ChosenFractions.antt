-- The fraction of the chosen rows of cells meets what its greatest ratio asks.
use Rattle.std.proofs.Common.{◌≡◌, ℕ, ◌<◌, ◌≤◌, ◌*◌, ℤ, pos, Bool, true, false, cond, inl, inr, ◌⊎◌, List, length, get_or, All, Contains, refl, sym, subst, ◌∙◌, arith}
use Rattle.std.specs.Prelude.{nat_abs}
use Rattle.std.specs.List.{AllZip}
use Rattle.std.proofs.lemmas.List.{length-map, get_or-map}
use Rattle.std.proofs.lemmas.List.Elements.{All-weaker, All-contains_itself}
use Rattle.pc_num.specs.Scaled.{greatest_size}
use Rattle.pc_model.specs.declared.schema.Schema.{Schema}
use Rattle.pc_model.specs.declared.row.Row.{Row}
use Rattle.pc_model.specs.declared.constraint.Constraint.{Constraint}
use Rattle.pc_model.specs.declared.query.Query.{Query}
use Rattle.pc_model.specs.declared.tree.CutNode.{CutNode}
use Rattle.pc_model.specs.Accepted.{AreConstraints}
use Rattle.pc_model.specs.Cells.{Class, HasRowOf, IsSettledTree}
use Rattle.pc_model.specs.WellFormed.{IsWellFormed}
use Rattle.pc_cells_laws.proofs.Cells.{classes_of-differ}
use Rattle.pc_cells_laws.proofs.SettledTrees.{classes_of_tree}
use Rattle.pc_program_bound.specs.declared.program.Program.{Program}
use Rattle.pc_program_bound.specs.Sums.{int_at}
use Rattle.pc_program_bound.specs.Allocation.{IsProgram}
use Rattle.pc_program_bound.specs.Allocation as allocations
use Rattle.pc_program_bound.proofs.CellPlaces.{no_class, cell_inside, floor_is}
use Rattle.pc_proof.specs.Setting.{Setting, cells, leaves, on_chosen, program_for}
use Rattle.pc_proof.specs.Table.{one}
use Rattle.pc_avg_ratio.specs.Fractional.{IsFractional}
use Rattle.pc_agg_search.specs.declared.extreme.Extreme.{Extreme}
use Rattle.pc_agg_search.specs.Keys.{key_of, IsAtEnd}
use Rattle.pc_agg_search.specs.Settings.{unseen}
use Rattle.pc_agg_search.specs.Wants.{most_chosen}
use Rattle.pc_agg_search.proofs.CellNumbers.{keys_small}
use Rattle.pc_agg_search.proofs.UnseenPrograms.{for_program}
use Rattle.pc_avg.proofs.FewRows.{few_rows, room}

module _ (schema : Schema) (constraints : List Constraint) (query : Query) (nodes : List CutNode) (formed : IsWellFormed schema)
    (are : AreConstraints schema constraints) (tree : IsSettledTree schema constraints query.chosen nodes) (extreme : Extreme)
    (picks : List Row) (picked : AllZip (IsAtEnd (unseen schema constraints query nodes) extreme) (cells (unseen schema constraints query nodes)) picks) where
  abbrev u : Setting
  u = unseen schema constraints query nodes

  abbrev rows : Program
  rows = most_chosen u

  abbrev sums : Program
  sums = program_for u (on_chosen (key_of u extreme))

  have_rows : All (HasRowOf schema constraints query.chosen) (cells u)
  have_rows =
      All-weaker (Contains (cells u)) (HasRowOf schema constraints query.chosen)
      (λ class listed. (classes_of_tree schema constraints query.chosen nodes formed tree class).0 listed) (cells u) (All-contains_itself (cells u))

  inside : (i : ℕ) → i < allocations.cells_of rows → i < length (cells u)
  inside i h = cell_inside constraints (cells u) rows.gain i h

  abbrev class_at : ℕ → Class
  class_at i = get_or (cells u) i no_class

  counted_at : (i : ℕ) → i < allocations.cells_of rows → int_at rows.gain i ≡ on_chosen one (class_at i)
  counted_at i h = get_or-map (on_chosen one) (cells u) i no_class (pos 0) (inside i h)

  added_at : (i : ℕ) → i < allocations.cells_of rows → int_at sums.gain i ≡ on_chosen (key_of u extreme) (class_at i)
  added_at i h = get_or-map (on_chosen (key_of u extreme)) (cells u) i no_class (pos 0) (inside i h)

  by_chosen : (test : Bool) (key counted added : ℤ) → counted ≡ cond test (pos 1) (pos 0) → added ≡ cond test key (pos 0) → ((counted ≡ pos 0) × (added ≡ pos 0)) ⊎ (counted ≡ pos 1)
  by_chosen true key counted added rows_are sums_are = inr rows_are
  by_chosen false key counted added rows_are sums_are = inl (rows_are, sums_are)

  adds_one : (i : ℕ) → i < allocations.cells_of rows → ((int_at rows.gain i ≡ pos 0) × (int_at sums.gain i ≡ pos 0)) ⊎ (int_at rows.gain i ≡ pos 1)
  adds_one i h = by_chosen (class_at i).chosen (key_of u extreme (class_at i)) (int_at rows.gain i) (int_at sums.gain i) (counted_at i h) (added_at i h)

  none_or_one : (i : ℕ) → i < allocations.cells_of rows → (int_at rows.gain i ≡ pos 0) ⊎ (int_at rows.gain i ≡ pos 1)
  none_or_one i h = either (adds_one i h)
    where
      either : ((int_at rows.gain i ≡ pos 0) × (int_at sums.gain i ≡ pos 0)) ⊎ (int_at rows.gain i ≡ pos 1) → (int_at rows.gain i ≡ pos 0) ⊎ (int_at rows.gain i ≡ pos 1)
      either (inl none) = inl none.0
      either (inr one) = inr one

  pub small_keys : All (λ n. nat_abs n ≤ greatest_size) sums.gain
  small_keys = keys_small u extreme formed (cells u) picks picked

  sized_sums : length sums.gain ≡ allocations.cells_of rows
  sized_sums = length-map (cells u) (on_chosen (key_of u extreme)) ∙ sym (length-map (cells u) (λ (class : Class). class.mask))

  pub is_fractional : (own_rows own_sums : Program) (count : ℕ) (sum : ℤ) → own_rows ≡ rows → own_sums ≡ sums → count ≤ 1_000_000 → nat_abs sum ≤ 1_000_000 * greatest_size → (count ≡ 0 → sum ≡ pos 0)
      → IsFractional (record { rows = own_rows; sums = own_sums; count = count; sum = sum })
  is_fractional own_rows own_sums count sum rows_are sums_are few small none =
      subst (λ (r : Program). IsFractional (record { rows = r; sums = own_sums; count = count; sum = sum })) (sym rows_are)
      (subst (λ (s : Program). IsFractional (record { rows = rows; sums = s; count = count; sum = sum })) (sym sums_are) whole)
    where
      whole : IsFractional (record { rows = rows; sums = sums; count = count; sum = sum })
      whole = record {
        program = for_program schema constraints query nodes formed are tree (on_chosen one);
        same = refl;
        sized = sized_sums;
        ones = adds_one;
        small = λ i h. small_keys i (pos 0) (omega (arith, h, sized_sums));
        room = room schema constraints are (cells u) rows.gain query.chosen have_rows (classes_of-differ (leaves u));
        few = few;
        small_sum = small;
        few_rows = λ counts lawful. few_rows schema constraints are (cells u) rows.gain counts lawful none_or_one;
        none = none;
        floors = λ i h. floor_is constraints (cells u) rows.gain i (inside i h);
      }
