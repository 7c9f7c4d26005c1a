-- The lines that are told of a draft.
use Rattle.std.specs.Prelude.{ℕ, ◌==◌, List, [], ◌∷◌, ◌++◌, length, codes, decimal, flat_map, Option, Some, None, if◌then◌else◌}
use Rattle.std.specs.List.{concat}
use Rattle.pc_desk_records.specs.Shown.{shown}
use Rattle.pc_desk_schema.specs.declared.draft.Draft.{Draft}
use Rattle.pc_desk_schema.specs.declared.said.Odd.{Odd}
use Rattle.pc_desk_schema.specs.declared.said.Remark.{Remark}
use Rattle.pc_desk_schema.specs.declared.said.Said.{Said}
use Rattle.pc_desk_schema.specs.declared.said.Said.TheVariants as saids
use Rattle.pc_desk_schema.specs.Numbers.{is_past_limit}

abbrev pub line_end : List ℕ
line_end = 10 ∷ []

-- ---- a field

abbrev pub record_front : ℕ → List ℕ
record_front number = concat (codes "record " ∷ decimal number ∷ codes " \"" ∷ [])

-- the record of a field, and what stands in it
unfoldable pub record_text : Odd → List ℕ
record_text odd = (record_front odd.number ++ shown odd.text) ++ codes "\""

abbrev pub empty_text : ℕ → List ℕ
empty_text number = concat (codes "record " ∷ decimal number ∷ codes " is empty" ∷ [])

abbrev pub fault_text : List ℕ → List ℕ → List ℕ
fault_text text fault = if is_past_limit text then codes " is a number past what is read" else fault

-- a field that is odd for this fault, if not for its being empty or a number that is not read
unfoldable pub odd_text : Odd → List ℕ → List ℕ
odd_text odd fault = if length odd.text == 0 then empty_text odd.number else record_text odd ++ fault_text odd.text fault

-- ---- a column

abbrev pub share_text : ℕ → ℕ → List ℕ
share_text count fields = concat (decimal count ∷ codes " of " ∷ decimal fields ∷ codes " fields are numbers; " ∷ [])

abbrev pub dates_text : ℕ → ℕ → List ℕ
dates_text count fields =
    concat (decimal count ∷ codes " of " ∷ decimal fields ∷ codes " fields are dates; `pc` reads whole numbers, decimals and names" ∷ [])

-- why a column is left out
abbrev pub left_text : Said → List ℕ
left_text saids.BadName = codes "the field of the header is no name"
left_text saids.Repeated = codes "the name stands twice"
left_text saids.NoRows = codes "there are no rows"
left_text (saids.TooWide odd) = odd_text odd (codes " is too large for the decimals of the others")
left_text (saids.Numbers count fields odd) = share_text count fields ++ odd_text odd (codes " is not")
left_text (saids.Dates count fields) = dates_text count fields
left_text (saids.ManyNames odd) = codes "more than 128 names, the first past them at " ++ record_text odd
left_text (saids.NoName odd) = odd_text odd (codes " is no name")
left_text (saids.Zero odd) = []

abbrev pub zero_text : Odd → List ℕ
zero_text odd = (codes ": " ++ record_text odd) ++ codes " begins with 0, which a number loses"

abbrev pub said_text : Said → List ℕ
said_text (saids.Zero odd) = zero_text odd
said_text other = codes " is left out: " ++ left_text other

-- a column by its name, or by its number where the header has no name for it
abbrev pub column_text : Said → ℕ → List ℕ → List ℕ
column_text saids.BadName number name = concat (codes "column " ∷ decimal number ∷ [])
column_text other number name = shown name

unfoldable pub remark_line : Remark → List ℕ
remark_line remark = (column_text remark.said remark.number remark.name ++ said_text remark.said) ++ line_end

-- ---- the draft

abbrev pub header_line : Option (List ℕ) → List ℕ
header_line None = []
header_line (Some text) = (codes "the header has no comma: one column \"" ++ shown text) ++ 34 ∷ 10 ∷ []

abbrev pub many_text : ℕ → List ℕ
many_text further = concat (decimal further ∷ codes " more columns fit: a schema has at most 12, and those that are wanted may be named" ∷ [])

abbrev pub further_text : ℕ → List ℕ
further_text further =
    if further == 1 then codes "1 more column fits: a schema has at most 12, and those that are wanted may be named" else many_text further

abbrev pub further_line : ℕ → List ℕ
further_line further = if further == 0 then [] else further_text further ++ line_end

-- what is said of the header, of the columns in their order, and of those that fit and find no room
unfoldable pub remark_lines : Draft → List ℕ
remark_lines draft = (header_line draft.header ++ flat_map remark_line draft.remarks) ++ further_line draft.further
