-- What stands beside a bar, and the text of a tick.
use Rattle.std.specs.Prelude.{ℕ, ◌/◌, ◌%◌, ◌-◌, ◌^◌, ◌==◌, ◌||◌, ℤ, pos, int_lt, unsigned_abs, Bool, List, [], ◌∷◌, bytes_eq, codes, Option, Some, None, if◌then◌else◌}
use Rattle.std.specs.List.{concat}
use Rattle.pc_num.specs.Put.{scaled_text}
use Rattle.pc_num.specs.Scaled.{signed}
use Rattle.pc_desk_table.specs.declared.entry.Entry.{Entry}
use Rattle.pc_desk_table.specs.declared.entry.Range.{Range}
use Rattle.pc_desk_table.specs.declared.entry.Value.{Value}
use Rattle.pc_desk_table.specs.declared.entry.Said.{Said}
use Rattle.pc_desk_table.specs.declared.entry.Said.TheVariants as saids
use Rattle.pc_desk_table.specs.declared.entry.SaidLack.{SaidLack}
use Rattle.pc_desk_table.specs.declared.entry.SaidLack.TheVariants as lacks

-- two values that are the same, or are shown as the same
abbrev pub alike : Value → Value → Bool
alike low high = bytes_eq low.text high.text || bytes_eq low.decimal high.decimal

-- one number where the ends are alike
unfoldable pub range_text : Range → List ℕ
range_text range =
    if alike range.low.value range.high.value then range.low.value.decimal
    else concat (range.low.value.decimal ∷ codes " .. " ∷ range.high.value.decimal ∷ [])

abbrev pub no_value_text : Option SaidLack → List ℕ
no_value_text None = codes "no value"
no_value_text (Some lacks.Never) = codes "no value"
no_value_text (Some lacks.Sometimes) = codes "no value"
no_value_text (Some lacks.Always) = codes "no value"
no_value_text (Some lacks.Undecided) = codes "not found out"

-- what stands for a range where there is none
abbrev pub lack_text : Said → Option SaidLack → List ℕ
lack_text saids.Impossible lack = codes "impossible"
lack_text saids.Undecided lack = codes "not found out"
lack_text saids.Possible lack = no_value_text lack

abbrev pub answer_with : Entry → Option Range → List ℕ
answer_with entry None = lack_text entry.relation entry.lack
answer_with entry (Some range) = range_text range

unfoldable pub answer_text : Entry → List ℕ
answer_text entry = answer_with entry entry.range

-- how many decimals a size in millionths needs
abbrev pub decimals_needed : ℕ → ℕ
decimals_needed size =
    if size % 1_000_000 == 0 then 0
    else if size % 100_000 == 0 then 1
    else if size % 10_000 == 0 then 2
    else if size % 1_000 == 0 then 3
    else if size % 100 == 0 then 4
    else if size % 10 == 0 then 5
    else 6

-- a size with so many decimals
abbrev pub text_with : ℕ → Bool → ℕ → List ℕ
text_with decimals minus size = scaled_text (signed minus (size / 10 ^ (6 - decimals))) decimals

-- a number in millionths as a decimal, with no more decimals than it needs
unfoldable pub number_text : ℤ → List ℕ
number_text number = text_with (decimals_needed (unsigned_abs number)) (int_lt number (pos 0)) (unsigned_abs number)
