-- The fields of a column as numbers.
use Rattle.std.specs.Prelude.{ℕ, ◌==◌, ◌&&◌, not, ℤ, pos, Bool, true, false, List, [], ◌∷◌, fold, Option, Some, None, Result, Ok, Err, is_ok, length, min, max, if◌then◌else◌}
use Rattle.std.specs.List.{find, list_all, list_any}
use Rattle.std.specs.Char.{is_ascii_digit}
use Rattle.std.specs.Option.{unwrap_or}
use Rattle.std.specs.Int.{int_max, int_min}
use Rattle.pc_num.specs.declared.scaled.NumFault.{NumFault}
use Rattle.pc_num.specs.declared.scaled.NumFault.TheVariants as faults
use Rattle.pc_num.specs.Scaled.{scaled_of, without_sign}
use Rattle.pc_model.specs.declared.schema.Kind.{Kind}
use Rattle.pc_model.specs.declared.schema.Kind.TheVariants.{Int, Dec}
use Rattle.pc_rows.specs.RowFile.{after_spaces, without_spaces}
use Rattle.pc_desk_schema.specs.declared.numbers.Ends.{Ends}

-- ---- a number

-- the number of a field at this scale, with spaces around it or not
abbrev pub number_at : ℕ → List ℕ → Result ℤ NumFault
number_at scale text = scaled_of scale (without_spaces text)

abbrev pub fits_at : ℕ → List ℕ → Bool
fits_at scale text = is_ok (number_at scale text)

abbrev pub found_number : Result ℤ NumFault → ℤ
found_number (Ok number) = number
found_number (Err fault) = pos 0

abbrev pub value_at : ℕ → List ℕ → ℤ
value_at scale text = found_number (number_at scale text)

-- the scales that a column may have
abbrev pub scales : List ℕ
scales = 0 ∷ 1 ∷ 2 ∷ 3 ∷ 4 ∷ 5 ∷ 6 ∷ []

-- a number is what is read at some scale: it has at most six decimals, but for zeros at their end, and is within the limit
unfoldable pub is_number : List ℕ → Bool
is_number text = list_any (λ scale. fits_at scale text) scales

-- a text is in the form of a number where nothing but its decimals or its size is at fault
abbrev pub has_form : Result ℤ NumFault → Bool
has_form (Ok number) = true
has_form (Err faults.NotANumber) = false
has_form (Err faults.TooManyDecimals) = true
has_form (Err faults.PastLimit) = true

-- in the form of a number, and none that is read
unfoldable pub is_past_limit : List ℕ → Bool
is_past_limit text = has_form (number_at 0 text) && not (is_number text)

-- ---- a column of numbers

-- how many bytes stand behind the first point of a text
unfoldable pub behind_point : List ℕ → ℕ
behind_point [] = 0
behind_point (byte ∷ rest) = if byte == 46 then length rest else behind_point rest

-- how many decimals a field spells, as far as a column may have them
abbrev pub spelled_decimals : List ℕ → ℕ
spelled_decimals text = min 6 (behind_point (without_spaces text))

-- the decimals of the field that spells the most
abbrev pub decimals_spelled : List (List ℕ) → ℕ
decimals_spelled texts = fold (λ most text. max most (spelled_decimals text)) 0 texts

-- no decimals, those that are spelled, then each scale
abbrev pub scales_for : List (List ℕ) → List ℕ
scales_for texts = 0 ∷ decimals_spelled texts ∷ scales

-- the first of these scales at which each field is read
abbrev pub scale_of : List (List ℕ) → Option ℕ
scale_of texts = find (λ scale. list_all (fits_at scale) texts) (scales_for texts)

-- more decimals than the scale has
abbrev pub has_more : Result ℤ NumFault → Bool
has_more (Ok number) = false
has_more (Err faults.NotANumber) = false
has_more (Err faults.TooManyDecimals) = true
has_more (Err faults.PastLimit) = false

abbrev pub has_room_at : ℕ → List ℕ → Bool
has_room_at scale text = not (has_more (number_at scale text))

-- as many decimals as some of the numbers need, be one of them too large then or not
abbrev pub decimals_of : List (List ℕ) → ℕ
decimals_of texts = unwrap_or (find (λ scale. list_all (has_room_at scale) texts) scales) 6

abbrev pub is_wide_at : ℕ → List ℕ → Bool
is_wide_at scale text = not (fits_at scale text)

-- the ends of one number, and those of numbers and one more
abbrev pub lone : ℤ → Ends
lone number = record { low = number; high = number }

abbrev pub wider : Ends → ℤ → Ends
wider ends number = record { low = int_min ends.low number; high = int_max ends.high number }

abbrev pub ends_from : ℕ → Ends → List (List ℕ) → Ends
ends_from scale start texts = fold (λ ends text. wider ends (value_at scale text)) start texts

-- the least and the greatest number
abbrev pub ends_at : ℕ → List (List ℕ) → Option Ends
ends_at scale [] = None
ends_at scale (first ∷ rest) = Some (ends_from scale (lone (value_at scale first)) rest)

abbrev pub kind_at : ℕ → Ends → Kind
kind_at scale ends = if scale == 0 then Int ends.low ends.high else Dec scale ends.low ends.high

abbrev pub kind_between : ℕ → Option Ends → Option Kind
kind_between scale None = None
kind_between scale (Some ends) = Some (kind_at scale ends)

abbrev pub kind_over : List (List ℕ) → Option ℕ → Option Kind
kind_over texts None = None
kind_over texts (Some scale) = kind_between scale (ends_at scale texts)

-- Whole numbers where each field is one; else numbers with as many decimals as the field that spells the most, where each
-- is read so; else numbers with as few decimals as serve. They go from the least to the greatest.
unfoldable pub number_kind : List (List ℕ) → Option Kind
number_kind texts = kind_over texts (scale_of texts)

-- ---- zeros that are lost

abbrev pub leads_with_zero : List ℕ → Bool
leads_with_zero [] = false
leads_with_zero (first ∷ []) = false
leads_with_zero (first ∷ second ∷ rest) = (first == 48) && is_ascii_digit second

-- a 0 stands before another digit
abbrev pub has_lost_zero : List ℕ → Bool
has_lost_zero text = leads_with_zero (without_sign (after_spaces text))
