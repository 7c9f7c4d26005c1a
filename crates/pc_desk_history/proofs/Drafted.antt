-- The constraints of a draft are constraints of the schema.
use Rattle.std.proofs.Common.{◌≡◌, ◌≢◌, ℕ, ◌+◌, ◌<◌, ◌≤◌, List, [], ◌∷◌, All, AllPairs, length, refl, arith}
use Rattle.std.specs.List.{AllPass}
use Rattle.std.proofs.lemmas.List.Elements.{All-cons, All-head, All-nil, All-tail}
use Rattle.std.proofs.lemmas.List.Kept.{AllPairs-cons}
use Rattle.pc_model.specs.declared.area.Area.{Area}
use Rattle.pc_model.specs.declared.constraint.Constraint.{Constraint}
use Rattle.pc_model.specs.declared.row.Row.{Row}
use Rattle.pc_model.specs.declared.schema.Schema.{Schema}
use Rattle.pc_model.specs.Accepted.{AreConstraints, IsNameFor, constraint_limit, frequency_limit}
use Rattle.pc_model.specs.Boxes.{IsAreaOf, IsServable}
use Rattle.pc_model.specs.Membership.{in_domain}
use Rattle.pc_model.specs.WellFormed.{IsWellFormed}
use Rattle.pc_rows.specs.Stored.{row_limit}
use Rattle.pc_desk_history.specs.declared.wish.Wish.{Wish}
use Rattle.pc_desk_history.specs.Draft.{IsWish, cell_name, drafted_cell, drafted_from, drafted_of}
use Rattle.pc_desk_history.specs.Periods.{rows_in}
use Rattle.pc_desk_history.proofs.CellNames.{cell_is_named, cells_are_named_apart}
use Rattle.pc_desk_history.proofs.Servable.{numbers_few, numbers_ordered, rows_in_domain, rows_in_few, values_are}

module _ (schema : Schema) (wish : Wish) (rows : List Row) (chosen : Area) where
  -- what holds of each cell with a number from here to a limit
  each_drafted : (P : Constraint → Type 0) (from limit : ℕ) →
      ((number : ℕ) (cell : Area) → from ≤ number → number < limit → IsAreaOf schema cell → P (drafted_cell schema wish rows chosen number cell)) →
      (number : ℕ) (cells : List Area) → from ≤ number → number + length cells ≤ limit → All (IsAreaOf schema) cells →
      All P (drafted_from schema wish rows chosen number cells)
  unfolding drafted_from
  each_drafted P from limit each number [] above few areas = All-nil P
  each_drafted P from limit each number (cell ∷ cells) above few areas =
      All-cons P (drafted_cell schema wish rows chosen number cell) (drafted_from schema wish rows chosen (number + 1) cells)
      (each number cell above (omega arith) (All-head (IsAreaOf schema) cell cells areas))
      (each_drafted P from limit each (number + 1) cells (omega arith) (omega arith) (All-tail (IsAreaOf schema) cell cells areas))

  as_many : (number : ℕ) (cells : List Area) → length (drafted_from schema wish rows chosen number cells) ≡ length cells
  unfolding drafted_from
  as_many number [] = refl
  as_many number (cell ∷ cells) = let later = as_many (number + 1) cells in omega (arith, later)

  own_names : (number : ℕ) (cells : List Area) → number + length cells ≤ 100 → All (IsAreaOf schema) cells →
      AllPairs (λ (a b : Constraint). a.name ≢ b.name) (drafted_from schema wish rows chosen number cells)
  unfolding drafted_from
  own_names number [] few areas = λ i j d before inside. absurd (omega arith)
  own_names number (cell ∷ cells) few areas =
      let later = All-tail (IsAreaOf schema) cell cells areas in
      AllPairs-cons (λ (a b : Constraint). a.name ≢ b.name) (drafted_cell schema wish rows chosen number cell) (drafted_from schema wish rows chosen (number + 1) cells)
      (each_drafted (λ (c : Constraint). cell_name number ≢ c.name) (number + 1) 100
      (λ other area above below is. cells_are_named_apart number other (omega arith) below)
      (number + 1) cells (omega arith) (omega arith) later)
      (own_names (number + 1) cells (omega arith) later)

  module _ (formed : IsWellFormed schema) (allowed : AllPass (in_domain schema) rows) (few : length rows ≤ row_limit) (is : IsWish schema wish) where
    few_in : (cell : Area) → length (rows_in cell rows) ≤ frequency_limit
    few_in cell = rows_in_few cell rows frequency_limit (omega arith)

    servable : (number : ℕ) (cell : Area) → IsAreaOf schema cell → IsServable schema (drafted_cell schema wish rows chosen number cell)
    servable number cell area = record {
      when_area = area;
      value_region = values_are schema wish (rows_in cell rows) formed (rows_in_domain schema cell rows allowed);
      ordered = numbers_ordered schema wish (rows_in chosen rows) (rows_in cell rows) is (few_in cell);
    }

    accepted : (cells : List Area) → All (IsAreaOf schema) cells → length cells ≤ constraint_limit → AreConstraints schema (drafted_from schema wish rows chosen 1 cells)
    accepted cells areas short = record {
      few = omega (arith, as_many 1 cells);
      servable = each_drafted (IsServable schema) 1 100 (λ number cell above below area. servable number cell area) 1 cells (omega arith) (omega arith) areas;
      small = each_drafted (λ (c : Constraint). c.most ≤ frequency_limit) 1 100
          (λ number cell above below area. numbers_few schema wish (rows_in chosen rows) (rows_in cell rows) is (few_in cell)) 1 cells (omega arith) (omega arith) areas;
      named = each_drafted (λ (c : Constraint). IsNameFor c.when c.name) 1 100
          (λ number cell above below area. cell_is_named number below) 1 cells (omega arith) (omega arith) areas;
      own_names = own_names 1 cells (omega arith) areas;
    }

pub drafted_accepted : (schema : Schema) (rows : List Row) (chosen : Area) (cells : List Area) (wish : Wish) →
    IsWellFormed schema → AllPass (in_domain schema) rows → length rows ≤ row_limit → All (IsAreaOf schema) cells → length cells ≤ constraint_limit → IsWish schema wish →
    AreConstraints schema (drafted_of schema rows chosen cells wish)
drafted_accepted schema rows chosen cells wish formed allowed few areas short is = accepted schema wish rows chosen formed allowed few is cells areas short
