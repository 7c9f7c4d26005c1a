-- What is said of an entry in words: what is not exact, or not possible.
use Rattle.std.specs.Prelude.{ℕ, Bool, true, false, List, [], ◌∷◌, ◌++◌, ◌&&◌, bytes_eq, codes, Option, Some, None, if◌then◌else◌}
use Rattle.std.specs.List.{flat_map}
use Rattle.pc_desk_table.specs.declared.entry.Entry.{Entry}
use Rattle.pc_desk_table.specs.declared.entry.Mark.{Mark}
use Rattle.pc_desk_table.specs.declared.entry.Mark.TheVariants as marks
use Rattle.pc_desk_table.specs.declared.entry.Range.{Range}
use Rattle.pc_desk_table.specs.declared.entry.Said.{Said}
use Rattle.pc_desk_table.specs.declared.entry.Said.TheVariants as saids
use Rattle.pc_desk_table.specs.declared.entry.SaidLack.{SaidLack}
use Rattle.pc_desk_table.specs.declared.entry.SaidLack.TheVariants as lacks

abbrev pub may_stand : Said → Bool
may_stand saids.Possible = true
may_stand saids.Impossible = false
may_stand saids.Undecided = true

abbrev pub may_have_value : Option SaidLack → Bool
may_have_value None = true
may_have_value (Some lacks.Never) = true
may_have_value (Some lacks.Sometimes) = true
may_have_value (Some lacks.Always) = false
may_have_value (Some lacks.Undecided) = true

-- the range that is shown: none where no rows are possible, or there is no value
unfoldable pub ends_of : Entry → Option Range
ends_of entry = if may_stand entry.relation && may_have_value entry.lack then entry.range else None

-- one number stands at both ends where these have the same text, which a rounding outward would tell apart
abbrev pub high_decimal : Range → List ℕ
high_decimal range = if bytes_eq range.low.value.text range.high.value.text then range.low.value.decimal else range.high.value.decimal

abbrev pub relation_remarks : Said → List (List ℕ)
relation_remarks saids.Possible = []
relation_remarks saids.Impossible = codes "impossible: no rows that the constraints allow" ∷ []
relation_remarks saids.Undecided = codes "not found out whether any rows are possible" ∷ []

abbrev pub lack_remarks : Option SaidLack → List (List ℕ)
lack_remarks None = []
lack_remarks (Some lacks.Never) = []
lack_remarks (Some lacks.Sometimes) = codes "may have no value" ∷ []
lack_remarks (Some lacks.Always) = codes "has no value" ∷ []
lack_remarks (Some lacks.Undecided) = codes "not found out whether it may have no value" ∷ []

abbrev pub low_remarks : Mark → List ℕ → List (List ℕ)
low_remarks marks.Exact low = []
low_remarks marks.Outer low = (codes "not found out below " ++ low) ∷ []

abbrev pub high_remarks : Mark → List ℕ → List (List ℕ)
high_remarks marks.Exact high = []
high_remarks marks.Outer high = (codes "not found out beyond " ++ high) ∷ []

abbrev pub range_remarks : Option Range → List (List ℕ)
range_remarks None = []
range_remarks (Some range) = low_remarks range.low.mark range.low.value.decimal ++ high_remarks range.high.mark (high_decimal range)

abbrev pub remarks_of : Entry → List (List ℕ)
remarks_of entry = (relation_remarks entry.relation ++ lack_remarks entry.lack) ++ range_remarks (ends_of entry)

abbrev pub next_remark : List ℕ → List ℕ
next_remark remark = codes "; " ++ remark

-- two spaces, and the remarks; nothing where there are none
abbrev pub remarks_text : List (List ℕ) → List ℕ
remarks_text [] = []
remarks_text (first ∷ rest) = (codes "  " ++ first) ++ flat_map next_remark rest
