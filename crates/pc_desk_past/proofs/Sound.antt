-- Constraints that a call drafts hold the past.
use Rattle.std.proofs.Common.{◌≡◌, ◌≤◌, ℕ, suc, Bool, true, false, List, [], ◌∷◌, All, get_or, count_by, length, nat_lt, Option, Some, None, is_some, Result, Ok, Err, if◌then◌else◌, IfSome, ◌<◌, ℤ, ◌∙◌, refl, sym, ap, subst, arith}
use Rattle.std.specs.List.{list_any}
use Rattle.std.proofs.lemmas.Bool.{cond-true, false_from_ne_true}
use Rattle.std.proofs.lemmas.List.Elements.{All-head, All-tail}
use Rattle.std.proofs.lemmas.List.Folds.{Any-from_list_any}
use Rattle.std.proofs.lemmas.List.Quantifiers.{position-Some}
use Rattle.pc_model.specs.declared.area.Area.{Area}
use Rattle.pc_model.specs.declared.constraint.Constraint.{Constraint}
use Rattle.pc_model.specs.declared.row.Row.{Row}
use Rattle.pc_model.specs.declared.schema.Column.{Column}
use Rattle.pc_model.specs.declared.schema.Schema.{Schema}
use Rattle.pc_model.specs.Accepted.{frequency_limit}
use Rattle.pc_model.specs.Possible.{IsPossible}
use Rattle.pc_model.specs.Membership.{is_in}
use Rattle.pc_model.proofs.Tallies.{count_by-cons, count_by-skips}
use Rattle.pc_rows.specs.Stored.{row_limit}
use Rattle.pc_desk_divide.specs.declared.cells.Cells.{Cells}
use Rattle.pc_desk_divide.specs.declared.cells.Cells.TheVariants.{Divided, TooMany as TooManyCells}
use Rattle.pc_desk_divide.specs.declared.division.Division.{Division}
use Rattle.pc_desk_divide.specs.declared.fault.DivisionFault.{DivisionFault}
use Rattle.pc_desk_divide.specs.Cells.{AreCellsOf, cell_limit, cells_in, cells_of, cells_with, choices, partings_of}
use Rattle.pc_desk_divide.specs.Cells as divided
use Rattle.pc_desk_divide.specs.Pieces.{AreDivisions}
use Rattle.pc_desk_divide.specs.Reading.{divisions_of, is_called, place_of}
use Rattle.pc_desk_divide.proofs.Accepted.{divisions_accepted}
use Rattle.pc_desk_divide.proofs.CellLaws.{cells_are_of, cells_in_are}
use Rattle.pc_desk_history.specs.Draft.{IsColumnIn, IsWish, drafted_of}
use Rattle.pc_desk_history.specs.Periods.{IsPeriod, rows_of}
use Rattle.pc_desk_history.specs.Laws.{AreApart, AreWithin, DoCover}
use Rattle.pc_desk_history.proofs.Apart.{drafted_apart, drafted_cover}
use Rattle.pc_desk_history.proofs.Drafted.{drafted_accepted}
use Rattle.pc_desk_history.proofs.PastPossible.{past_possible}
use Rattle.pc_desk_words.specs.Words.{HistoryNames, IsLoss}
use Rattle.pc_desk_past.specs.declared.fault.PastFault.TheVariants as faults
use Rattle.pc_desk_past.specs.declared.past.Known.{Known}
use Rattle.pc_desk_past.specs.declared.past.Past.TheVariants.{Drafted, Refused}
use Rattle.pc_desk_past.specs.Laws.{HoldThePast, IsPer, meant}
use Rattle.pc_desk_past.specs.Past.{IsHistory, IsKnown, celled_past, cut_past, dated_past, divided_past, has_none, past_of, placed_past, wish_of}

-- ---- of cells that are apart a row is in one at most

module _ (row : Row) where
  none_holds : (cells : List Area) → All (λ (cell : Area). is_in cell row ≡ false) cells → count_by (λ (cell : Area). is_in cell row) cells ≡ 0
  none_holds [] none = refl
  none_holds (cell ∷ cells) none =
      let here = count_by-skips (λ (c : Area). is_in c row) cell cells (All-head (λ (c : Area). is_in c row ≡ false) cell cells none) in
      omega (arith, here, none_holds cells (All-tail (λ (c : Area). is_in c row ≡ false) cell cells none))

  one_holds : (cells : List Area) → divided.AreApart cells → count_by (λ (cell : Area). is_in cell row) cells ≤ 1
  one_holds [] apart = omega arith
  one_holds (cell ∷ cells) apart = by_test (is_in cell row) refl (one_holds cells (λ i j d before inside. apart (suc i) (suc j) d (omega arith) (omega arith)))
    where
      by_test : (held : Bool) → is_in cell row ≡ held → count_by (λ (c : Area). is_in c row) cells ≤ 1 → count_by (λ (c : Area). is_in c row) (cell ∷ cells) ≤ 1
      by_test true e rest =
          let others = none_holds cells (λ k d inside. false_from_ne_true (is_in (get_or cells k d) row) (λ also. apart 0 (suc k) d (omega arith) (omega arith) row e also)) in
          let counted = count_by-cons (λ (c : Area). is_in c row) cell cells in
          let first = cond-true {A = ℕ} (is_in cell row) 1 0 e in
          omega (arith, counted, first, others)
      by_test false e rest = omega (arith, count_by-skips (λ (c : Area). is_in c row) cell cells e, rest)

-- ---- the cells of divisions

divided_are : (chosen : Area) (divisions : List Division) (cells : List Area) → cells_of chosen divisions ≡ Divided cells → cells ≡ cells_in chosen divisions
unfolding cells_of cells_in
divided_are chosen divisions cells e = by_test (nat_lt cell_limit (choices (partings_of chosen divisions))) e
  where
    by_test : (test : Bool) → (if test then TooManyCells (choices (partings_of chosen divisions)) else Divided (cells_with chosen (partings_of chosen divisions))) ≡ Divided cells →
        cells ≡ cells_with chosen (partings_of chosen divisions)
    by_test true same = cc
    by_test false same = cc

-- ---- the column of the periods

module _ (schema : Schema) where
  same_per : (named : Option (List ℕ)) (one other : Option ℕ) → IsPer schema named one → IsPer schema named other → one ≡ other
  same_per None one other is also = is ∙ sym also
  same_per (Some name) one other is also = is.2 ∙ sym is.1 ∙ also.1 ∙ sym also.2

  place_inside : (columns : List Column) (name : List ℕ) (place : ℕ) → place_of columns name ≡ Some place → place < length columns
  place_inside [] name place e = let no : ⊥ = cc in absurd no
  place_inside (column ∷ columns) name place e = (position-Some (is_called name) (column ∷ columns) place column e).0

  column_in : (named : Option (List ℕ)) (per : Option ℕ) → IsPer schema named per → IsColumnIn schema per
  column_in None per is = rw is tt
  column_in (Some name) per is = rw is.2 (place_inside schema.columns name is.0 is.1)

few_lost : (lost : Option ℕ) → IfSome lost IsLoss → IfSome lost (λ (n : ℕ). n ≤ frequency_limit)
few_lost None is = tt
few_lost (Some lost) is = is.few

wish_is : (known : Known) (names : HistoryNames) (divisions : List Division) (per : Option ℕ) → IsHistory names → IsPer known.schema names.per per → IsWish known.schema (wish_of names divisions per)
wish_is known names divisions per is named = record { widen = is.widen; lost = few_lost names.lost is.lost; per = column_in known.schema names.per per named }

-- ---- a draft

module _ (known : Known) (names : HistoryNames) (is : IsKnown known) (wish : IsHistory names) (few : length known.rows ≤ row_limit) where
  abbrev chosen : Area
  chosen = known.query.chosen

  module _ (divisions : List Division) (are : AreDivisions known.schema divisions) (per : Option ℕ) (named : IsPer known.schema names.per per) where
    hold : (cells : List Area) → cells_of chosen divisions ≡ Divided cells → HoldThePast known names (drafted_of known.schema known.rows chosen cells (wish_of names divisions per))
    hold cells e =
        let same = divided_are chosen divisions cells e in
        let cut = cells_in_are known.schema chosen is.well_formed is.asked.chosen divisions are in
        let of = cells_are_of known.schema chosen is.well_formed is.asked.chosen divisions (Ok (Divided cells)) are (sym e) in
        let one_at_most : AreApart known.schema cells = λ row inside. one_holds row cells (subst divided.AreApart (sym same) cut.apart) in
        let cover : DoCover known.schema chosen cells = λ row inside held. subst (λ (all : List Area). list_any (λ (cell : Area). is_in cell row) all ≡ true) (sym same) (cut.cover row held) in
        let within : AreWithin known.schema chosen cells = λ row inside held.
        let some = Any-from_list_any (λ (cell : Area). is_in cell row) cells held in
        subst (λ (all : List Area). divided.StayWithin chosen all) (sym same) cut.within some.0 some.1 some.2 row (ap (λ (cell : Area). is_in cell row) some.3 ∙ some.4) in
        record {
          accepted = drafted_accepted known.schema known.rows chosen cells (wish_of names divisions per) is.well_formed is.seen few of.0 of.1 (wish_is known names divisions per wish named);
          apart = drafted_apart known.schema known.rows chosen cells (wish_of names divisions per) one_at_most;
          covers = drafted_cover known.schema known.rows chosen cells (wish_of names divisions per) cover;
          history = λ none other other_named. subst
              (λ (column : Option ℕ). (period : ℤ) → IsPeriod known.schema column (meant known) period
              → IsPossible known.schema (drafted_of known.schema known.rows chosen cells (wish_of names divisions per)) (rows_of column period (meant known)))
              (same_per known.schema names.per per other named other_named)
              (past_possible known.schema known.rows chosen cells (wish_of names divisions per) is.seen (omega (arith, few)) none cover within);
        }

    by_rows : (cells : List Area) (drafted : List Constraint) (none : Bool) → cells_of chosen divisions ≡ Divided cells →
        (if none then Refused faults.NoRows else Drafted (drafted_of known.schema known.rows chosen cells (wish_of names divisions per))) ≡ Drafted drafted → HoldThePast known names drafted
    by_rows cells drafted true e same = let no : ⊥ = cc in absurd no
    by_rows cells drafted false e same =
        let is_draft : drafted_of known.schema known.rows chosen cells (wish_of names divisions per) ≡ drafted = cc in
        subst (HoldThePast known names) is_draft (hold cells e)

    by_cells : (cells : Cells) (drafted : List Constraint) → cells_of chosen divisions ≡ cells → celled_past known (wish_of names divisions per) cells ≡ Drafted drafted → HoldThePast known names drafted
    by_cells (Divided cells) drafted e same = by_rows cells drafted (has_none known) e same
    by_cells (TooManyCells count) drafted e same = let no : ⊥ = cc in absurd no

    by_cut : (drafted : List Constraint) → cut_past known names divisions per ≡ Drafted drafted → HoldThePast known names drafted
    by_cut drafted same = by_cells (cells_of chosen divisions) drafted refl same

  module _ (divisions : List Division) (are : AreDivisions known.schema divisions) (drafted : List Constraint) where
    by_place : (name : List ℕ) (place : Option ℕ) → names.per ≡ Some name → place_of known.schema.columns name ≡ place → placed_past known names divisions name place ≡ Drafted drafted → HoldThePast known names drafted
    by_place name None named e same = let no : ⊥ = cc in absurd no
    by_place name (Some column) named e same = by_cut divisions are (Some column) (subst (λ (per : Option (List ℕ)). IsPer known.schema per (Some column)) (sym named) (column, e, refl)) drafted same

    by_per : (per : Option (List ℕ)) → names.per ≡ per → dated_past known names divisions per ≡ Drafted drafted → HoldThePast known names drafted
    by_per None named same = by_cut divisions are None (subst (λ (per : Option (List ℕ)). IsPer known.schema per None) (sym named) refl) drafted same
    by_per (Some name) named same = by_place name (place_of known.schema.columns name) named refl same

  by_divisions : (read : Result (List Division) DivisionFault) (drafted : List Constraint) → divisions_of known.schema names.by ≡ read → divided_past known names read ≡ Drafted drafted → HoldThePast known names drafted
  by_divisions (Ok divisions) drafted e same = by_per divisions (divisions_accepted known.schema names.by (Ok divisions) e) drafted names.per refl same
  by_divisions (Err fault) drafted e same = let no : ⊥ = cc in absurd no

  by_group : (grouped : Bool) (drafted : List Constraint) → (if grouped then Refused faults.Grouped else divided_past known names (divisions_of known.schema names.by)) ≡ Drafted drafted → HoldThePast known names drafted
  by_group true drafted same = let no : ⊥ = cc in absurd no
  by_group false drafted same = by_divisions (divisions_of known.schema names.by) drafted refl same

pub drafted_hold : (known : Known) (names : HistoryNames) (drafted : List Constraint) → IsKnown known → IsHistory names → length known.rows ≤ row_limit → past_of known names ≡ Drafted drafted → HoldThePast known names drafted
drafted_hold known names drafted is wish few same = by_group known names is wish few (is_some known.query.group) drafted same
