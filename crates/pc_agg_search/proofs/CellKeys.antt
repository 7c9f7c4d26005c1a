-- What the leaves of cells say of their keys at an end, as the setting of an answer says it.
use Rattle.std.proofs.Common.{◌≡◌, ℕ, ℤ, List, [], ◌∷◌, map, Option, Some, None, IfSome, slice_get, refl, ap, ap₂, ◌∙◌, subst}
use Rattle.std.specs.Prelude.{IsSomeAnd}
use Rattle.std.specs.List.{AllZip}
use Rattle.pc_model.specs.declared.row.Row.{Row}
use Rattle.pc_model.specs.Aggregate.{asked}
use Rattle.pc_model.specs.WellFormed.{IsWellFormed}
use Rattle.pc_model.specs.Cells.{Class, IsSettledTree, classes_of, boxes_of}
use Rattle.pc_cells_laws.proofs.SettledTrees.{rows_of_tree}
use Rattle.pc_proof.specs.Setting.{Setting, leaves, on_chosen}
use Rattle.pc_cells.specs.declared.cells.Cell.{Cell}
use Rattle.pc_cells.specs.Found.{cell_of, cells_of}
use Rattle.pc_agg_search.specs.declared.extreme.Extreme.{Extreme}
use Rattle.pc_agg_search.specs.declared.extreme.Extreme.TheVariants.{Low, High}
use Rattle.pc_agg_search.specs.Ends.{signed}
use Rattle.pc_agg_search.specs.Keys.{key_of}
use Rattle.pc_agg_search.specs.Keys.{IsAtEnd}
use Rattle.pc_agg_search.specs.FirstRows.{number_in}
use Rattle.pc_agg_search.specs.Targets.{gain_in, IsPickIn}
use Rattle.pc_agg_search.proofs.CellGains.{asked_is}
use Rattle.pc_agg_search.proofs.FirstRows.{in_some}

module _ (s : Setting) (extreme : Extreme) (IsNumbered : ℕ → Type 0) (numbered : IsSomeAnd s.question.query.column IsNumbered) where
  abbrev column : Option ℕ
  column = s.question.query.column

  key_is : (class : Class) → gain_in column extreme (cell_of (leaves s) class) ≡ on_chosen (key_of s extreme) class
  key_is class = by_column column extreme refl numbered
    where
      by_column : (named : Option ℕ) (e : Extreme) → column ≡ named → IsSomeAnd named IsNumbered → gain_in named e (cell_of (leaves s) class) ≡ on_chosen (key_of s e) class
      by_column None e is some = absurd some
      by_column (Some n) High is some = rw is refl
      by_column (Some n) Low is some = rw is refl

  each_key : (classes : List Class) → map (gain_in column extreme) (map (cell_of (leaves s)) classes) ≡ map (on_chosen (key_of s extreme)) classes
  each_key [] = refl
  each_key (class ∷ classes) = ap₂ ◌∷◌ (key_is class) (each_key classes)

  pub keys_are : (cells : List Cell) (gains : List ℤ) → cells ≡ cells_of (leaves s) → gains ≡ map (gain_in column extreme) cells → gains ≡ map (on_chosen (key_of s extreme)) (classes_of (leaves s))
  keys_are cells gains cells_are gained = gained ∙ ap (map (gain_in column extreme)) cells_are ∙ each_key (classes_of (leaves s))

  -- a row with the cell's number
  number_is : (class : Class) (row : Row) → IfSome column (λ (named : ℕ). slice_get row.cells named ≡ Some (number_in column extreme (boxes_of (leaves s) class))) → signed extreme (asked s.question.query row) ≡ key_of s extreme class
  number_is class row there = by_column column extreme refl numbered there
    where
      by_column : (named : Option ℕ) (e : Extreme) → column ≡ named → IsSomeAnd named IsNumbered → IfSome named (λ (n : ℕ). slice_get row.cells n ≡ Some (number_in named e (boxes_of (leaves s) class))) →
          signed e (asked s.question.query row) ≡ key_of s e class
      by_column None e is some there = absurd some
      by_column (Some n) High is some there = asked_is s.question.query n row (number_in (Some n) High (boxes_of (leaves s) class)) is there ∙ high_key n is
        where
          high_key : (n : ℕ) → column ≡ Some n → number_in (Some n) High (boxes_of (leaves s) class) ≡ key_of s High class
          high_key n is = rw is refl
      by_column (Some n) Low is some there = ap (signed Low) (asked_is s.question.query n row (number_in (Some n) Low (boxes_of (leaves s) class)) is there) ∙ low_key n is
        where
          low_key : (n : ℕ) → column ≡ Some n → signed Low (number_in (Some n) Low (boxes_of (leaves s) class)) ≡ key_of s Low class
          low_key n is = rw is refl

  module _ (formed : IsWellFormed s.question.schema) (tree : IsSettledTree s.question.schema s.question.constraints s.question.query.chosen s.nodes) where
    at_end : (class : Class) (row : Row) → IsPickIn column extreme (cell_of (leaves s) class) row → IsAtEnd s extreme class row
    at_end class row pick = record {
      of_cell = (rows_of_tree s.question.schema s.question.constraints s.question.query.chosen s.nodes formed tree class row).1 (in_some column extreme (boxes_of (leaves s) class) row pick);
      number = number_is class row pick.number;
      shown = pick;
    }

    each_end : (classes : List Class) (picks : List Row) → AllZip (IsPickIn column extreme) (map (cell_of (leaves s)) classes) picks → AllZip (IsAtEnd s extreme) classes picks
    each_end [] [] picked = tt
    each_end [] (pick ∷ picks) picked = absurd picked
    each_end (class ∷ classes) [] picked = absurd picked
    each_end (class ∷ classes) (pick ∷ picks) picked = (at_end class pick picked.0, each_end classes picks picked.1)

    pub ends_are : (cells : List Cell) (picks : List Row) → cells ≡ cells_of (leaves s) → AllZip (IsPickIn column extreme) cells picks → AllZip (IsAtEnd s extreme) (classes_of (leaves s)) picks
    ends_are cells picks cells_are picked = each_end (classes_of (leaves s)) picks (subst (λ (l : List Cell). AllZip (IsPickIn column extreme) l picks) cells_are picked)
