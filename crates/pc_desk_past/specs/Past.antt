-- What a call of `history` comes to, over a schema and rows.
use Rattle.std.specs.Prelude.{◌≤◌, ℕ, ◌==◌, ⊤, Bool, List, length, map, Option, Some, None, is_some, IfSome, Result, Ok, Err, if◌then◌else◌}
use Rattle.std.specs.List.{AllPass}
use Rattle.pc_model.specs.declared.schema.Schema.{Schema}
use Rattle.pc_model.specs.Accepted.{AreConstraints, IsQuery}
use Rattle.pc_model.specs.Aggregate.{kept}
use Rattle.pc_model.specs.Membership.{in_domain}
use Rattle.pc_model.specs.WellFormed.{IsWellFormed}
use Rattle.pc_desk_divide.specs.declared.cells.Cells.{Cells}
use Rattle.pc_desk_divide.specs.declared.cells.Cells.TheVariants.{Divided, TooMany as TooManyCells}
use Rattle.pc_desk_divide.specs.declared.division.Division.{Division}
use Rattle.pc_desk_divide.specs.declared.fault.DivisionFault.{DivisionFault}
use Rattle.pc_desk_divide.specs.Cells.{cells_of}
use Rattle.pc_desk_divide.specs.Reading.{divisions_of, place_of}
use Rattle.pc_desk_history.specs.Draft.{drafted_of}
use Rattle.pc_desk_history.specs.declared.wish.Wish.{Wish}
use Rattle.pc_desk_words.specs.Program.{most_widen}
use Rattle.pc_desk_words.specs.Words.{HistoryNames, IsLoss}
use Rattle.pc_desk_past.specs.declared.fault.PastFault.TheVariants as faults
use Rattle.pc_desk_past.specs.declared.past.Known.{Known}
use Rattle.pc_desk_past.specs.declared.past.Past.{Past}
use Rattle.pc_desk_past.specs.declared.past.Past.TheVariants.{Drafted, Refused}

-- numbers that words may ask for
pub record IsHistory (names : HistoryNames) : Type 0 where
  pub widen : names.widen ≤ most_widen
  pub lost : IfSome names.lost IsLoss

abbrev pub columns_of : List Division → List ℕ
columns_of divisions = map (λ (division : Division). division.column) divisions

-- what is wished of a draft, with the places of columns in the place of their names
abbrev pub wish_of : HistoryNames → List Division → Option ℕ → Wish
wish_of names divisions per = record { per = per; divided = columns_of divisions; widen = names.widen; lost = names.lost }

-- what was read of a schema, its rows and a predicate
pub record IsKnown (known : Known) : Type 0 where
  pub well_formed : IsWellFormed known.schema
  pub seen : AllPass (in_domain known.schema) known.rows
  pub asked : IsQuery known.schema known.query

-- no row is meant
abbrev pub has_none : Known → Bool
has_none known = length (kept known.query None known.rows) == 0

abbrev pub celled_past : Known → Wish → Cells → Past
celled_past known wish (Divided cells) =
    if has_none known then Refused faults.NoRows else Drafted (drafted_of known.schema known.rows known.query.chosen cells wish)
celled_past known wish (TooManyCells count) = Refused (faults.TooMany count)

-- the rows are cut by these divisions
abbrev pub cut_past : Known → HistoryNames → List Division → Option ℕ → Past
cut_past known names divisions per = celled_past known (wish_of names divisions per) (cells_of known.query.chosen divisions)

-- .. with the periods of a column of this name, which stands there
abbrev pub placed_past : Known → HistoryNames → List Division → List ℕ → Option ℕ → Past
placed_past known names divisions name None = Refused (faults.NoPeriod name)
placed_past known names divisions name (Some column) = cut_past known names divisions (Some column)

abbrev pub dated_past : Known → HistoryNames → List Division → Option (List ℕ) → Past
dated_past known names divisions None = cut_past known names divisions None
dated_past known names divisions (Some name) = placed_past known names divisions name (place_of known.schema.columns name)

abbrev pub divided_past : Known → HistoryNames → Result (List Division) DivisionFault → Past
divided_past known names (Ok divisions) = dated_past known names divisions names.per
divided_past known names (Err fault) = Refused (faults.By fault)

-- what the call comes to
abbrev pub past_of : Known → HistoryNames → Past
past_of known names =
    if is_some known.query.group then Refused faults.Grouped else divided_past known names (divisions_of known.schema names.by)

-- constraints that were drafted are ones that a file may have
abbrev pub IsAcceptedPast : Schema → Past → Type 0
IsAcceptedPast schema (Drafted drafted) = AreConstraints schema drafted
IsAcceptedPast schema (Refused fault) = ⊤
