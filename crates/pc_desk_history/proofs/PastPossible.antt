-- The rows of a period that is past could be the lost rows.
use Rattle.std.proofs.Common.{◌≡◌, ℕ, ◌+◌, ◌≤◌, true, ℤ, List, [], ◌∷◌, All, get_or, length, None, IfSome, sym, subst, arith}
use Rattle.std.specs.Prelude.{count_by}
use Rattle.std.specs.List.{AllPass}
use Rattle.std.proofs.lemmas.List.Elements.{All-cons, All-filter, All-head, All-nil, All-tail, filter_passes}
use Rattle.std.proofs.lemmas.List.Sums.{count_by-le-length, length-filter}
use Rattle.pc_model.specs.declared.area.Area.{Area}
use Rattle.pc_model.specs.declared.constraint.Constraint.{Constraint}
use Rattle.pc_model.specs.declared.row.Row.{Row}
use Rattle.pc_model.specs.declared.schema.Schema.{Schema}
use Rattle.pc_model.specs.Accepted.{frequency_limit}
use Rattle.pc_model.specs.Aggregate.{number_at}
use Rattle.pc_model.specs.Membership.{has, in_domain, is_in}
use Rattle.pc_model.specs.Possible.{IsPossible, Meets, is_covered}
use Rattle.pc_desk_history.specs.declared.wish.Wish.{Wish}
use Rattle.pc_desk_history.specs.Draft.{drafted_cell, drafted_from, drafted_of, numbers_of, values_of}
use Rattle.pc_desk_history.specs.Laws.{ArePastPossible, AreWithin, DoCover}
use Rattle.pc_desk_history.specs.Periods.{IsPeriod, count_in, extent_of, is_of, rows_in, rows_of}
use Rattle.pc_desk_history.proofs.Apart.{drafted_cover}
use Rattle.pc_desk_history.proofs.Around.{IsAround, numbers_around}
use Rattle.pc_desk_history.proofs.Extents.{IsInside, extent_holds}
use Rattle.pc_desk_history.proofs.Holding.{values_hold}
use Rattle.pc_desk_history.proofs.Sifted.{all_passing, counted_twice, none_counted}
use Rattle.pc_desk_history.proofs.Within.{AreChosen, cells_chosen}

module _ (schema : Schema) (rows : List Row) (chosen : Area) (wish : Wish) (period : ℤ) (allowed : AllPass (in_domain schema) rows) (few : length rows ≤ frequency_limit)
    (known : wish.lost ≡ None) (is : IsPeriod schema wish.per (rows_in chosen rows) period) where
  abbrev picked : List Row
  picked = rows_in chosen rows

  abbrev past : List Row
  past = rows_of wish.per period picked

  around : (cell : Area) → AreChosen rows chosen cell → IsAround (count_by (is_in cell) past) (numbers_of schema wish picked (rows_in cell rows))
  around cell within =
      let inside = rows_in cell rows in
      let counted = counted_twice (is_in cell) (is_in chosen) (is_of wish.per period) rows within in
      let first = count_by-le-length (is_of wish.per period) inside in
      let kept = length-filter (is_in cell) rows in
      let second = count_by-le-length (is_in cell) rows in
      let small : count_in wish.per inside period ≤ frequency_limit = omega (arith, first, kept, second, few) in
      subst (λ (count : ℕ). IsAround count (numbers_of schema wish picked inside)) (sym counted)
      (numbers_around schema wish picked inside period known is small (none_counted (is_in cell) (is_in chosen) (is_of wish.per period) rows within))

  -- each row of a cell has the values of the cell
  valued : (cell : Area) → All (λ row. is_in cell row ≡ true → has (values_of schema wish (rows_in cell rows)) row ≡ true) rows
  valued cell k d there held =
      let inside = rows_in cell rows in
      values_hold schema wish inside (get_or rows k d) (allowed k d there)
      (all_passing (is_in cell) (λ row. (column : ℕ) → IfSome (extent_of column inside) (IsInside (number_at row column))) rows
      (λ i e present column. extent_holds column inside i e present) k d there held)

  meets : (all : List Constraint) (number : ℕ) (cell : Area) → AreChosen rows chosen cell → Meets all (drafted_cell schema wish rows chosen number cell) past
  meets all number cell within = record {
    in_values =
        All-filter (is_of wish.per period) Valued picked (All-filter (is_in chosen) Valued rows (valued cell));
    enough = (around cell within).least;
    not_more = (around cell within).most;
  }
    where
      Valued : Row → Type 0
      Valued row = is_in cell row ≡ true → has (values_of schema wish (rows_in cell rows)) row ≡ true

  all_meet : (all : List Constraint) (number : ℕ) (cells : List Area) → All (AreChosen rows chosen) cells → All (λ c. Meets all c past) (drafted_from schema wish rows chosen number cells)
  unfolding drafted_from
  all_meet all number [] within = All-nil (λ c. Meets all c past)
  all_meet all number (cell ∷ cells) within =
      All-cons (λ c. Meets all c past) (drafted_cell schema wish rows chosen number cell) (drafted_from schema wish rows chosen (number + 1) cells)
      (meets all number cell (All-head (AreChosen rows chosen) cell cells within)) (all_meet all (number + 1) cells (All-tail (AreChosen rows chosen) cell cells within))

  possible : (cells : List Area) → DoCover schema chosen cells → AreWithin schema chosen cells → IsPossible schema (drafted_of schema rows chosen cells wish) past
  possible cells cover within = record {
    allowed = All-filter (is_of wish.per period) (λ row. in_domain schema row ≡ true) picked picked_allowed;
    covered = All-filter (is_of wish.per period) (λ row. is_covered (drafted_of schema rows chosen cells wish) row ≡ true) picked picked_covered;
    meets = all_meet (drafted_of schema rows chosen cells wish) 1 cells (cells_chosen schema rows chosen cells allowed within);
  }
    where
      picked_allowed : AllPass (in_domain schema) picked
      picked_allowed = All-filter (is_in chosen) (λ row. in_domain schema row ≡ true) rows allowed

      picked_covered : AllPass (is_covered (drafted_of schema rows chosen cells wish)) picked
      picked_covered k d there =
          drafted_cover schema rows chosen cells wish cover (get_or picked k d) (picked_allowed k d there) (filter_passes (is_in chosen) rows k d there)

pub past_possible : (schema : Schema) (rows : List Row) (chosen : Area) (cells : List Area) (wish : Wish) →
    AllPass (in_domain schema) rows → length rows ≤ frequency_limit → wish.lost ≡ None → DoCover schema chosen cells → AreWithin schema chosen cells →
    ArePastPossible schema rows chosen cells wish
past_possible schema rows chosen cells wish allowed few known cover within period is = possible schema rows chosen wish period allowed few known is cells cover within
