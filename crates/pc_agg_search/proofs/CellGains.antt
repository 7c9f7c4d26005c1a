-- What the leaves of cells say of targets, as the setting of an answer says it.
use Rattle.std.proofs.Common.{◌≡◌, ℕ, ℤ, pos, cond, Bool, true, false, List, [], ◌∷◌, map, Option, Some, None, IfSome, slice_get, refl, sym, ap, ◌∙◌, subst, true≢false}
use Rattle.std.proofs.lemmas.Option.{get_or_from_slice_get, none-some}
use Rattle.std.specs.List.{AllZip}
use Rattle.pc_model.specs.declared.row.Row.{Row}
use Rattle.pc_model.specs.declared.region.Region.{Region}
use Rattle.pc_model.specs.declared.query.Agg.{Agg}
use Rattle.pc_model.specs.declared.query.Agg.TheVariants.{Count, Sum, Min, Max, Avg}
use Rattle.pc_model.specs.declared.query.Query.{Query}
use Rattle.pc_model.specs.Accepted.{Measures}
use Rattle.pc_model.specs.Aggregate.{asked}
use Rattle.pc_model.specs.Membership.{is_in}
use Rattle.pc_model.specs.Right.{always_has_value}
use Rattle.pc_model.specs.WellFormed.{IsWellFormed}
use Rattle.pc_model.specs.Cells.{Class, IsSettledTree, classes_of, boxes_of}
use Rattle.pc_cells_laws.proofs.SettledTrees.{rows_of_tree}
use Rattle.pc_proof.specs.Setting.{Setting, leaves}
use Rattle.pc_cells.specs.declared.cells.Cell.{Cell}
use Rattle.pc_cells.specs.Found.{cell_of, cells_of}
use Rattle.pc_agg_search.specs.declared.extreme.Extreme.{Extreme}
use Rattle.pc_agg_search.specs.declared.extreme.Extreme.TheVariants.{Low, High}
use Rattle.pc_agg_search.specs.Ends.{gain_towards, adds, signed, IsPick}
use Rattle.pc_agg_search.specs.FirstRows.{number_in}
use Rattle.pc_agg_search.specs.Targets.{gain_in, IsPickIn}
use Rattle.pc_agg_search.proofs.FirstRows.{in_some}

signed_cond : (extreme : Extreme) (test : Bool) (number : ℤ) → signed extreme (cond test number (pos 0)) ≡ cond test (signed extreme number) (pos 0)
signed_cond High test number = refl
signed_cond Low true number = refl
signed_cond Low false number = refl

-- what a row adds, by the query's column
pub asked_is : (query : Query) (column : ℕ) (row : Row) (number : ℤ) → query.column ≡ Some column → slice_get row.cells column ≡ Some number → asked query row ≡ number
asked_is query column row number is there = rw is (get_or_from_slice_get row.cells column number (pos 0) there)

module _ (s : Setting) (extreme : Extreme) (agg : Agg) (valued : always_has_value agg ≡ true) (measured : Measures s.question.schema agg s.question.query.column) where
  gain_is : (class : Class) → gain_in s.question.query.column extreme (cell_of (leaves s) class) ≡ gain_towards s agg extreme class
  gain_is class = by_column agg s.question.query.column extreme refl valued measured
    where
      by_column : (agg : Agg) (column : Option ℕ) (e : Extreme) → s.question.query.column ≡ column → always_has_value agg ≡ true → Measures s.question.schema agg column → gain_in column e (cell_of (leaves s) class) ≡ gain_towards s agg e class
      by_column Count None High is valued measured = refl
      by_column Count None Low is valued measured = refl
      by_column Count (Some column) e is valued measured = absurd (none-some column (sym measured))
      by_column Sum None e is valued measured = absurd measured
      by_column Sum (Some column) High is valued measured = rw is refl
      by_column Sum (Some column) Low is valued measured = rw is refl
      by_column Min column e is valued measured = absurd (true≢false (sym valued))
      by_column Max column e is valued measured = absurd (true≢false (sym valued))
      by_column Avg column e is valued measured = absurd (true≢false (sym valued))

  each_gain : (classes : List Class) → map (gain_in s.question.query.column extreme) (map (cell_of (leaves s)) classes) ≡ map (gain_towards s agg extreme) classes
  each_gain [] = refl
  each_gain (class ∷ classes) = rw (gain_is class, each_gain classes) refl

  pub gains_are : (cells : List Cell) (gains : List ℤ) → cells ≡ cells_of (leaves s) → gains ≡ map (gain_in s.question.query.column extreme) cells → gains ≡ map (gain_towards s agg extreme) (classes_of (leaves s))
  gains_are cells gains cells_are gained = gained ∙ ap (map (gain_in s.question.query.column extreme)) cells_are ∙ each_gain (classes_of (leaves s))

  module _ (row : Row) (boxes : List Region) (there : IfSome s.question.query.column (λ (named : ℕ). slice_get row.cells named ≡ Some (number_in s.question.query.column extreme boxes))) where
    added : adds agg s.question.query row ≡ cond (is_in s.question.query.chosen row) (number_in s.question.query.column extreme boxes) (pos 0)
    added = by_column agg s.question.query.column refl valued measured there
      where
        by_column : (agg : Agg) (column : Option ℕ) → s.question.query.column ≡ column → always_has_value agg ≡ true → Measures s.question.schema agg column → IfSome column (λ (named : ℕ). slice_get row.cells named ≡ Some (number_in column extreme boxes)) →
            adds agg s.question.query row ≡ cond (is_in s.question.query.chosen row) (number_in column extreme boxes) (pos 0)
        by_column Count None is valued measured there = refl
        by_column Count (Some column) is valued measured there = absurd (none-some column (sym measured))
        by_column Sum None is valued measured there = absurd measured
        by_column Sum (Some column) is valued measured there =
            ap (λ (number : ℤ). cond (is_in s.question.query.chosen row) number (pos 0)) (asked_is s.question.query column row (number_in (Some column) extreme boxes) is there)
        by_column Min column is valued measured there = absurd (true≢false (sym valued))
        by_column Max column is valued measured there = absurd (true≢false (sym valued))
        by_column Avg column is valued measured there = absurd (true≢false (sym valued))

  module _ (formed : IsWellFormed s.question.schema) (tree : IsSettledTree s.question.schema s.question.constraints s.question.query.chosen s.nodes) where
    pick_is : (class : Class) (row : Row) → IsPickIn s.question.query.column extreme (cell_of (leaves s) class) row → IsPick s agg extreme class row
    pick_is class row pick =
        let of_cell = (rows_of_tree s.question.schema s.question.constraints s.question.query.chosen s.nodes formed tree class row).1 (in_some s.question.query.column extreme (boxes_of (leaves s) class) row pick) in
        let number = number_in s.question.query.column extreme (boxes_of (leaves s) class) in
        let chosen_is : is_in s.question.query.chosen row ≡ class.chosen = ap (λ (c : Class). c.chosen) of_cell.of_class in
        record {
          of_cell = of_cell;
          adds =
              ap (signed extreme) (added row (boxes_of (leaves s) class) pick.number)
              ∙ signed_cond extreme (is_in s.question.query.chosen row) number
              ∙ ap (λ (test : Bool). cond test (signed extreme number) (pos 0)) chosen_is
              ∙ gain_is class;
          shown = pick;
        }

    each_pick : (classes : List Class) (picks : List Row) → AllZip (IsPickIn s.question.query.column extreme) (map (cell_of (leaves s)) classes) picks → AllZip (IsPick s agg extreme) classes picks
    each_pick [] [] picked = tt
    each_pick [] (pick ∷ picks) picked = absurd picked
    each_pick (class ∷ classes) [] picked = absurd picked
    each_pick (class ∷ classes) (pick ∷ picks) picked = (pick_is class pick picked.0, each_pick classes picks picked.1)

    pub picks_are : (cells : List Cell) (picks : List Row) → cells ≡ cells_of (leaves s) → AllZip (IsPickIn s.question.query.column extreme) cells picks → AllZip (IsPick s agg extreme) (classes_of (leaves s)) picks
    picks_are cells picks cells_are picked = each_pick (classes_of (leaves s)) picks (subst (λ (l : List Cell). AllZip (IsPickIn s.question.query.column extreme) l picks) cells_are picked)
