-- The program of the cells of a settled tree, which is nested over nested constraints.
use Rattle.std.proofs.Common.{◌≡◌, ℕ, ◌<◌, ◌≤◌, List, length, map, All, AllPairs, Contains, sym, ap, subst, ◌∙◌, arith}
use Rattle.std.specs.Prelude.{ℤ, pos, nat_abs}
use Rattle.std.proofs.lemmas.List.{length-map}
use Rattle.std.proofs.lemmas.List.Elements.{All-weaker, All-contains_itself}
use Rattle.pc_model.specs.declared.schema.Schema.{Schema}
use Rattle.pc_model.specs.declared.area.Area.{Area}
use Rattle.pc_model.specs.declared.constraint.Constraint.{Constraint}
use Rattle.pc_model.specs.declared.tree.CutNode.{CutNode}
use Rattle.pc_model.specs.Accepted.{AreConstraints}
use Rattle.pc_agg_search.specs.Easy.{IsEasy}
use Rattle.pc_model.specs.WellFormed.{IsWellFormed}
use Rattle.pc_model.specs.Cells.{Class, HasRowOf, IsSettledTree, classes_of, leaves_in}
use Rattle.pc_cells_laws.proofs.Cells.{classes_of-differ}
use Rattle.pc_cells_laws.proofs.SettledTrees.{classes_of_tree}
use Rattle.pc_program_bound.specs.declared.program.Program.{Program}
use Rattle.pc_program_bound.specs.Allocation.{IsProgram}
use Rattle.pc_branch.specs.Outcome.{IsEasyProgram}
use Rattle.pc_program_bound.specs.Bound.{HasFitWidth}
use Rattle.pc_branch.specs.Ends.{HasSmallGains}
use Rattle.pc_branch.specs.Licence.{no_multipliers}
use Rattle.pc_branch.proofs.Widths.{HasFitWidth-small}
use Rattle.pc_cells.specs.declared.cells.Cell.{Cell}
use Rattle.pc_cells.specs.Found.{class_of_cell, cells_of}
use Rattle.pc_cells.proofs.Decomposed.{classes_of_cells}
use Rattle.pc_program_bound.specs.CellPrograms.{program_with}
use Rattle.pc_agg_search.specs.Limits.{greatest_gain}
use Rattle.pc_agg_search.proofs.NestedCells.{Differ, nested_pairs, few}
use Rattle.pc_program_bound.proofs.CellPlaces.{cell_inside}
use Rattle.pc_agg_search.proofs.ManyCells.{many_cells, small_gains}
use Rattle.pc_agg_search.proofs.ProgramEnds.{is_program}

-- ---- of classes with rows that differ

module _ (schema : Schema) (constraints : List Constraint) (chosen : Area) (classes : List Class) (gains : List ℤ) (nested : IsEasy schema constraints)
    (rows : All (HasRowOf schema constraints chosen) classes) (differ : AllPairs Differ classes) where
  abbrev program : Program
  program = program_with constraints classes gains

  is_easy : AreConstraints schema constraints → length gains ≡ length classes → All (λ gain. nat_abs gain ≤ greatest_gain) gains → IsEasyProgram program
  is_easy are sized small = record {
    pairs = nested_pairs schema constraints chosen classes gains nested rows differ;
    small = λ i h. let there = inside i h in let gain = small i (pos 0) (omega (arith, there, sized)) in omega (arith, gain);
    few = let all = few schema constraints chosen classes gains nested rows differ in let limit = are.few in omega (arith, limit, all);
  }
    where
      inside : (i : ℕ) → i < length program.masks → i < length classes
      inside i h = cell_inside constraints classes gains i h

-- ---- of the cells of a settled tree

pub have_rows : (schema : Schema) (constraints : List Constraint) (chosen : Area) (nodes : List CutNode) → IsWellFormed schema → IsSettledTree schema constraints chosen nodes →
    All (HasRowOf schema constraints chosen) (classes_of (leaves_in schema nodes))
have_rows schema constraints chosen nodes formed tree =
    All-weaker (Contains (classes_of (leaves_in schema nodes))) (HasRowOf schema constraints chosen)
    (λ class listed. (classes_of_tree schema constraints chosen nodes formed tree class).0 listed) (classes_of (leaves_in schema nodes))
    (All-contains_itself (classes_of (leaves_in schema nodes)))

module _ (schema : Schema) (constraints : List Constraint) (chosen : Area) (nodes : List CutNode) (cells : List Cell) (gains : List ℤ) (formed : IsWellFormed schema)
    (tree : IsSettledTree schema constraints chosen nodes) (cells_are : cells ≡ cells_of (leaves_in schema nodes)) where
  pub classes_are : map class_of_cell cells ≡ classes_of (leaves_in schema nodes)
  classes_are = ap (map class_of_cell) cells_are ∙ classes_of_cells (leaves_in schema nodes) (classes_of (leaves_in schema nodes))

  sized_classes : length gains ≡ length cells → length gains ≡ length (map class_of_cell cells)
  sized_classes sized = sized ∙ sym (length-map cells class_of_cell)

  pub cells_program : (p : Program) → p ≡ program_with constraints (map class_of_cell cells) gains → AreConstraints schema constraints → length gains ≡ length cells → IsProgram p
  cells_program p is are sized = subst IsProgram (sym is) (is_program constraints (map class_of_cell cells) gains schema are (sized_classes sized))

  pub cells_easy : (p : Program) → p ≡ program_with constraints (map class_of_cell cells) gains → AreConstraints schema constraints → IsEasy schema constraints
      → length gains ≡ length cells → All (λ gain. nat_abs gain ≤ greatest_gain) gains → IsEasyProgram p
  cells_easy p is are nested sized small =
      subst IsEasyProgram (sym is)
      (is_easy schema constraints chosen (map class_of_cell cells) gains nested (subst (All (HasRowOf schema constraints chosen)) (sym classes_are) (have_rows schema constraints chosen nodes formed tree))
      (subst (AllPairs Differ) (sym classes_are) (classes_of-differ (leaves_in schema nodes))) are (sized_classes sized) small)

  pub cells_small : (p : Program) → p ≡ program_with constraints (map class_of_cell cells) gains → AreConstraints schema constraints
      → length gains ≡ length cells → All (λ gain. nat_abs gain ≤ greatest_gain) gains → HasSmallGains p
  cells_small p is are sized small =
      let differ = subst (AllPairs Differ) (sym classes_are) (classes_of-differ (leaves_in schema nodes)) in
      let many = many_cells schema constraints chosen (map class_of_cell cells) (subst (All (HasRowOf schema constraints chosen)) (sym classes_are) (have_rows schema constraints chosen nodes formed tree)) differ in
      subst HasSmallGains (sym is) (small_gains constraints (map class_of_cell cells) gains schema are many (sized_classes sized) small)

  pub program_is : (p : Program) → p ≡ program_with constraints (map class_of_cell cells) gains → p ≡ program_with constraints (classes_of (leaves_in schema nodes)) gains
  program_is p is = is ∙ ap (λ classes. program_with constraints classes gains) classes_are

  pub cells_fit : (p : Program) → p ≡ program_with constraints (map class_of_cell cells) gains → AreConstraints schema constraints
      → length gains ≡ length cells → All (λ gain. nat_abs gain ≤ greatest_gain) gains → HasFitWidth p (no_multipliers p)
  cells_fit p is are sized small = HasFitWidth-small p (cells_program p is are sized) (cells_small p is are sized small)
