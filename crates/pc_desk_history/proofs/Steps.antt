-- As far as loops have come.
use Rattle.std.proofs.Common.{◌≡◌, ◌∙◌, ℕ, ℤ, ◌+◌, ◌<◌, ◌≤◌, Bool, true, false, cond, if◌then◌else◌, List, [], ◌∷◌, ◌++◌, get_or, length, take, drop, Option, refl, sym, ap, append_assoc, append-nil, add-one, drop-cons}
use Rattle.std.proofs.lemmas.List.{take_all, drop_all}
use Rattle.std.proofs.lemmas.List.Elements.{filter_more}
use Rattle.std.proofs.lemmas.List.Sums.{fold-append}
use Rattle.pc_model.specs.declared.area.Area.{Area}
use Rattle.pc_model.specs.declared.constraint.Constraint.{Constraint}
use Rattle.pc_model.specs.declared.region.Side.{Side}
use Rattle.pc_model.specs.declared.row.Row.{Row}
use Rattle.pc_model.specs.declared.schema.Column.{Column}
use Rattle.pc_model.specs.declared.schema.Schema.{Schema}
use Rattle.pc_model.specs.Membership.{is_in, row_from as row}
use Rattle.pc_rows.specs.Stored.{row_at}
use Rattle.pc_desk_history.specs.declared.numbers.Numbers.{Numbers}
use Rattle.pc_desk_history.specs.declared.wish.Wish.{Wish}
use Rattle.pc_desk_history.specs.Draft.{drafted_cell, drafted_from, numbers_for, numbers_from, numbers_with, side_of, sides_from}
use Rattle.pc_desk_history.specs.Periods.{period_of, periods_of, periods_with, rows_in, with_period}

-- ---- periods

pub periods_more : (per : Option ℕ) (area : Area) (rows : List Row) (place : ℕ) → place < length rows →
    periods_with per area (row_at rows place) (periods_of per (rows_in area (take place rows))) ≡ periods_of per (rows_in area (take (place + 1) rows))
periods_more per area rows place here = by_test (is_in area extra) ∙ sym (ap (periods_of per) (filter_more (is_in area) rows place (row []) here))
  where
    extra : Row
    extra = row_at rows place

    before : List Row
    before = rows_in area (take place rows)

    by_test : (test : Bool) →
        (if test then with_period (periods_of per before) (period_of per extra) else periods_of per before) ≡ periods_of per (before ++ cond test (extra ∷ []) [])
    by_test true = sym (fold-append (λ (periods : List ℤ) (r : Row). with_period periods (period_of per r)) [] before (extra ∷ []))
    by_test false = sym (ap (periods_of per) (append-nil before))

pub periods_all : (per : Option ℕ) (area : Area) (rows : List Row) (place : ℕ) → length rows ≤ place → periods_of per (rows_in area (take place rows)) ≡ periods_of per (rows_in area rows)
periods_all per area rows place past = rw (take_all place rows past) refl

pub ruleset period_steps = (periods_more, periods_all)

-- ---- sides

pub sides_more : (wish : Wish) (inside : List Row) (sides : List Side) (columns : List Column) (place : ℕ) (d : Column) → place < length columns →
    (sides ++ side_of wish inside place (get_or columns place d).kind ∷ []) ++ sides_from wish inside (place + 1) (drop (place + 1) columns)
    ≡ sides ++ sides_from wish inside place (drop place columns)
unfolding sides_from
sides_more wish inside sides columns place d here = rw (drop-cons columns place d here, append_assoc sides (side_of wish inside place (get_or columns place d).kind ∷ []) (sides_from wish inside (place + 1) (drop (place + 1) columns))) (rw add-one refl)

pub sides_all : (wish : Wish) (inside : List Row) (sides : List Side) (columns : List Column) (place : ℕ) → length columns ≤ place →
    sides ++ sides_from wish inside place (drop place columns) ≡ sides
unfolding sides_from
sides_all wish inside sides columns place past = rw (drop_all place columns past) (append-nil sides)

pub ruleset side_steps = (sides_more, sides_all)

-- ---- numbers

pub numbers_more : (lost : Option ℕ) (counts totals : List ℕ) (place : ℕ) (numbers : Option Numbers) → place < length counts → place < length totals →
    numbers_from lost (drop (place + 1) counts) (drop (place + 1) totals) (numbers_with numbers (numbers_for lost (get_or counts place 0) (get_or totals place 0)))
    ≡ numbers_from lost (drop place counts) (drop place totals) numbers
numbers_more lost counts totals place numbers here there = rw (add-one, drop-cons counts place 0 here, drop-cons totals place 0 there) refl

pub numbers_all : (lost : Option ℕ) (counts totals : List ℕ) (place : ℕ) (numbers : Option Numbers) → length counts ≤ place →
    numbers_from lost (drop place counts) (drop place totals) numbers ≡ numbers
numbers_all lost counts totals place numbers past = rw (drop_all place counts past) refl

pub ruleset number_steps = (numbers_more, numbers_all)

-- ---- constraints

module _ (schema : Schema) (wish : Wish) (rows : List Row) (chosen : Area) where
  pub draft_more : (drafted : List Constraint) (cells : List Area) (place : ℕ) (d : Area) → place < length cells →
      (drafted ++ drafted_cell schema wish rows chosen (place + 1) (get_or cells place d) ∷ []) ++ drafted_from schema wish rows chosen (place + 1 + 1) (drop (place + 1) cells)
      ≡ drafted ++ drafted_from schema wish rows chosen (place + 1) (drop place cells)
  unfolding drafted_from
  draft_more drafted cells place d here = rw (drop-cons cells place d here, append_assoc drafted (drafted_cell schema wish rows chosen (place + 1) (get_or cells place d) ∷ []) (drafted_from schema wish rows chosen (place + 1 + 1) (drop (place + 1) cells))) (rw add-one refl)

  pub draft_all : (drafted : List Constraint) (cells : List Area) (place : ℕ) → length cells ≤ place →
      drafted ++ drafted_from schema wish rows chosen (place + 1) (drop place cells) ≡ drafted
  unfolding drafted_from
  draft_all drafted cells place past = rw (drop_all place cells past) (append-nil drafted)

pub ruleset draft_steps = (draft_more, draft_all)
