-- How wide the range of a block is as constraints stand and under each change, and how much wider than it was.
use Rattle.std.specs.Prelude.{ℕ, ◌^◌, ℤ, ◌-ℤ◌, nat_le, unsigned_abs, List, [], ◌∷◌, length, slice_get, Option, Some, None, option_and_then, if◌then◌else◌}
use Rattle.pc_desk_table.specs.declared.entry.Entry.{Entry}
use Rattle.pc_desk_table.specs.declared.entry.Range.{Range}
use Rattle.pc_desk_table.specs.Remarks.{ends_of}
use Rattle.pc_desk_weigh.specs.declared.change.Change.{Change}
use Rattle.pc_desk_weigh.specs.declared.weighed.Weighed.{Weighed}

-- ---- what stands at a place

-- the change there; as constraints stand there is none
abbrev pub change_in : List Weighed → ℕ → Option Change
change_in all place = option_and_then (λ (weighed : Weighed). weighed.change) (slice_get all place)

-- the entry of a block there
abbrev pub entry_at : List Weighed → ℕ → ℕ → Option Entry
entry_at all place block = option_and_then (λ (weighed : Weighed). slice_get weighed.entries block) (slice_get all place)

-- the entries as constraints stand, one for each block
abbrev pub first_entries : List Weighed → List Entry
first_entries [] = []
first_entries (first ∷ rest) = first.entries

abbrev pub block_count : List Weighed → ℕ
block_count all = length (first_entries all)

-- ---- ends and widths, in millionths

-- the greatest size of an end that is measured, so that all differences can be counted
abbrev pub greatest : ℕ
greatest = 10 ^ 37

abbrev pub measured : Option ℤ → Option ℤ
measured None = None
measured (Some number) = if nat_le (unsigned_abs number) greatest then Some number else None

abbrev pub range_in : Option Entry → Option Range
range_in entry = option_and_then ends_of entry

abbrev pub low_in : Option Range → Option ℤ
low_in None = None
low_in (Some range) = measured range.low.value.millionths

abbrev pub high_in : Option Range → Option ℤ
high_in None = None
high_in (Some range) = measured range.high.value.millionths

-- the ends of the range that is shown of a block
abbrev pub low_of : Option Entry → Option ℤ
low_of entry = low_in (range_in entry)

abbrev pub high_of : Option Entry → Option ℤ
high_of entry = high_in (range_in entry)

-- how far one number is above another, where both are there
abbrev pub difference : Option ℤ → Option ℤ → Option ℤ
difference None to = None
difference (Some from) None = None
difference (Some from) (Some to) = Some (to -ℤ from)

abbrev pub width_of : Option Entry → Option ℤ
width_of entry = difference (low_of entry) (high_of entry)

-- how much wider the range of a block is at a place than as constraints stand
abbrev pub wider_at : List Weighed → ℕ → ℕ → Option ℤ
wider_at all place block = difference (width_of (entry_at all 0 block)) (width_of (entry_at all place block))
