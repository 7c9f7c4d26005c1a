-- How a run ends, by what it shows.
use Rattle.std.specs.Prelude.{ℕ, ◌||◌, Bool, true, false, List, [], ◌∷◌, Option, Some, None, if◌then◌else◌}
use Rattle.std.specs.List.{list_any}
use Rattle.pc_desk_table.specs.declared.entry.Entry.{Entry}
use Rattle.pc_desk_table.specs.declared.entry.Mark.{Mark}
use Rattle.pc_desk_table.specs.declared.entry.Mark.TheVariants as marks
use Rattle.pc_desk_table.specs.declared.entry.Range.{Range}
use Rattle.pc_desk_table.specs.declared.entry.Said.{Said}
use Rattle.pc_desk_table.specs.declared.entry.Said.TheVariants as saids
use Rattle.pc_desk_table.specs.declared.entry.SaidLack.{SaidLack}
use Rattle.pc_desk_table.specs.declared.entry.SaidLack.TheVariants as lacks
use Rattle.pc_desk_run.specs.declared.ended.Ended.{Ended}
use Rattle.pc_desk_run.specs.declared.ended.Ended.TheVariants as ends
use Rattle.pc_desk_schema.specs.Draft.{is_whole}
use Rattle.pc_desk_schema.specs.declared.draft.Draft.{Draft}
use Rattle.pc_desk_try.specs.declared.tried.Trial.{Trial}
use Rattle.pc_desk_weigh.specs.declared.weighed.Weighed.{Weighed}
use Rattle.pc_desk_why.specs.declared.explained.Explained.{Explained}
use Rattle.pc_desk_why.specs.declared.explained.Found.{Found}
use Rattle.pc_desk_why.specs.declared.explained.Found.TheVariants as founds
use Rattle.pc_desk_try.specs.Trials.{is_kept}

-- the number with which the program ends
abbrev pub code_of : Ended → ℕ
code_of ends.Settled = 0
code_of ends.Open = 1
code_of ends.Impossible = 2
code_of ends.Refused = 3
code_of ends.ReadFault = 4
code_of ends.WriteFault = 5
code_of ends.Memory = 6

-- ---- what is shown

abbrev pub says_impossible : Said → Bool
says_impossible saids.Possible = false
says_impossible saids.Impossible = true
says_impossible saids.Undecided = false

abbrev pub is_impossible : Entry → Bool
is_impossible entry = says_impossible entry.relation

abbrev pub says_undecided : Said → Bool
says_undecided saids.Possible = false
says_undecided saids.Impossible = false
says_undecided saids.Undecided = true

abbrev pub lack_undecided : Option SaidLack → Bool
lack_undecided None = false
lack_undecided (Some lacks.Never) = false
lack_undecided (Some lacks.Sometimes) = false
lack_undecided (Some lacks.Always) = false
lack_undecided (Some lacks.Undecided) = true

abbrev pub is_outer : Mark → Bool
is_outer marks.Exact = false
is_outer marks.Outer = true

abbrev pub has_outer : Option Range → Bool
has_outer None = false
has_outer (Some range) = is_outer range.low.mark || is_outer range.high.mark

-- something of the block is not settled
abbrev pub is_open : Entry → Bool
is_open entry = says_undecided entry.relation || (lack_undecided entry.lack || has_outer entry.range)

abbrev pub ended_of : List Entry → Ended
ended_of entries = if list_any is_impossible entries then ends.Impossible else (if list_any is_open entries then ends.Open else ends.Settled)

abbrev pub finds_impossible : Found → Bool
finds_impossible (founds.Ends low high) = false
finds_impossible founds.NoValue = false
finds_impossible founds.Impossible = true

-- of what is explained, some answer says that no lost rows are possible
abbrev pub has_impossible : List Explained → Bool
has_impossible all = list_any (λ (told : Explained). finds_impossible told.found) all

abbrev pub ended_of_reasons : List Explained → Ended
ended_of_reasons all =
    if has_impossible all then ends.Impossible else (if list_any (λ (told : Explained). told.open) all then ends.Open else ends.Settled)

-- no lost rows are possible as constraints stand; that a change would make them impossible is a finding
abbrev pub stands_impossible : List Weighed → Bool
stands_impossible [] = false
stands_impossible (standing ∷ changes) = list_any is_impossible standing.entries

abbrev pub ended_of_widths : List Weighed → Ended
ended_of_widths all =
    if stands_impossible all then ends.Impossible
    else (if list_any (λ (weighed : Weighed). list_any is_open weighed.entries) all then ends.Open else ends.Settled)

-- constraints that a table keeps are settled; where it breaks one something is to be looked at
abbrev pub ended_of_trial : Trial → Ended
ended_of_trial trial = if is_kept trial then ends.Settled else ends.Open

-- a column that is left out is to be looked at
abbrev pub ended_of_draft : Draft → Ended
ended_of_draft draft = if is_whole draft then ends.Settled else ends.Open
