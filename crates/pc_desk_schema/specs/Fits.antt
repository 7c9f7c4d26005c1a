-- Which kind the fields of a column fit, or why they fit none.
use Rattle.std.specs.Prelude.{ℕ, ◌+◌, ◌-◌, ◌^◌, ◌==◌, min, not, Bool, List, [], length, position, Option, Some, None, Result, Ok, Err, if◌then◌else◌}
use Rattle.std.specs.List.{count_by, list_all, position_or_len}
use Rattle.std.specs.Str.{bytes_eq}
use Rattle.pc_model.specs.declared.schema.Kind.{Kind}
use Rattle.pc_model.specs.declared.schema.Kind.TheVariants.{Int, Dec, Cat}
use Rattle.pc_records.specs.Fields.{field}
use Rattle.pc_desk_schema.specs.declared.said.Odd.{Odd}
use Rattle.pc_desk_schema.specs.declared.said.Said.{Said}
use Rattle.pc_desk_schema.specs.declared.said.Said.TheVariants as saids
use Rattle.pc_desk_schema.specs.Dates.{is_date}
use Rattle.pc_desk_schema.specs.Names.{are_most, different_from, may_name, name_limit, names_of}
use Rattle.pc_desk_schema.specs.Numbers.{decimals_of, has_lost_zero, is_number, is_wide_at, number_kind}

-- ---- a field that is told

-- The record of a row at a place from 0: the header is record 1. It stays at its type's end.
abbrev pub record_at : ℕ → ℕ
record_at place = min (place + 2) (2 ^ 64 - 1)

abbrev pub odd_at : List (List ℕ) → ℕ → Odd
odd_at texts place = record { number = record_at place; text = field texts place }

abbrev pub is_no_number : List ℕ → Bool
is_no_number text = not (is_number text)

abbrev pub is_no_name : List ℕ → Bool
is_no_name text = not (may_name text)

-- the first field that is so
abbrev pub first_odd : (List ℕ → Bool) → List (List ℕ) → Odd
first_odd is_odd texts = odd_at texts (position_or_len is_odd texts)

-- the first name past those of which a column has as many as it may
abbrev pub name_past : List (List ℕ) → List ℕ
name_past texts = field (different_from [] texts) name_limit

-- ---- why there is none

-- What is said of a column that fits no kind. Fields that are each a number may not all be read with the decimals that some
-- of them need; and of others the kind that most are tells which field is odd.
unfoldable pub said_of : List (List ℕ) → Said
said_of texts =
    if length texts == 0 then saids.NoRows
    else if list_all is_number texts then saids.TooWide (first_odd (is_wide_at (decimals_of texts)) texts)
    else if are_most is_number texts then saids.Numbers (count_by is_number texts) (length texts) (first_odd is_no_number texts)
    else if are_most is_date texts then saids.Dates (count_by is_date texts) (length texts)
    else if list_all may_name texts then saids.ManyNames (first_odd (bytes_eq (name_past texts)) texts)
    else saids.NoName (first_odd is_no_name texts)

-- ---- the kind

abbrev pub name_or : List (List ℕ) → Option (List (List ℕ)) → Result Kind Said
name_or texts (Some names) = Ok (Cat names)
name_or texts None = Err (said_of texts)

abbrev pub number_or : List (List ℕ) → Option Kind → Result Kind Said
number_or texts (Some kind) = Ok kind
number_or texts None = name_or texts (names_of texts)

-- numbers, else names
unfoldable pub fit_of : List (List ℕ) → Result Kind Said
fit_of texts = number_or texts (number_kind texts)

-- ---- what is lost of a column that fits

abbrev pub odd_found : List (List ℕ) → Option ℕ → Option Odd
odd_found texts (Some place) = Some (odd_at texts place)
odd_found texts None = None

-- the first number of a column in front of which a 0 stands
abbrev pub zero_of : List (List ℕ) → Kind → Option Odd
zero_of texts (Int low high) = odd_found texts (position has_lost_zero texts)
zero_of texts (Dec scale low high) = odd_found texts (position has_lost_zero texts)
zero_of texts (Cat names) = None
