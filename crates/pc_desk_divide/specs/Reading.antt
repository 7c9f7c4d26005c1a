-- Which divisions a text names: `COLUMN` for a column of names, `COLUMN/PARTS` for one of numbers, with commas between.
use Rattle.std.specs.Prelude.{◌≡◌, ℕ, ◌==◌, ◌&&◌, ⊤, ℤ, pos, int_le, unsigned_abs, Bool, true, false, bytes_eq, List, [], ◌∷◌, ◌++◌, length, position, slice_get, Option, Some, None, Result, Ok, Err, if◌then◌else◌}
use Rattle.std.specs.List.{list_any, slice_split}
use Rattle.pc_model.specs.declared.fault.Reason.{Reason}
use Rattle.pc_model.specs.declared.schema.Column.{Column}
use Rattle.pc_model.specs.declared.schema.Kind.{Kind}
use Rattle.pc_model.specs.declared.schema.Kind.TheVariants.{Int, Dec, Cat}
use Rattle.pc_model.specs.declared.schema.Schema.{Schema}
use Rattle.pc_model.specs.Numbers.{number_of}
use Rattle.pc_model.specs.Refusals.{◌>>=◌}
use Rattle.pc_desk_divide.specs.declared.division.Division.{Division}
use Rattle.pc_desk_divide.specs.declared.division.Pieces.{Pieces}
use Rattle.pc_desk_divide.specs.declared.division.Pieces.TheVariants as pieces
use Rattle.pc_desk_divide.specs.declared.fault.DivisionFault.{DivisionFault}
use Rattle.pc_desk_divide.specs.declared.fault.DivisionFault.TheVariants as faults
use Rattle.pc_desk_divide.specs.declared.fault.Wrong.{Wrong}
use Rattle.pc_desk_divide.specs.declared.fault.Wrong.TheVariants as wrongs

-- ---- the parts of a text

-- what stands between the commas
abbrev pub texts_of : List ℕ → List (List ℕ)
texts_of text = slice_split (λ byte. byte == 44) text

abbrev pub cut_after : ℕ → List ℕ → Option (List ℕ × List ℕ) → Option (List ℕ × List ℕ)
cut_after byte rest None = if byte == 47 then Some ([], rest) else None
cut_after byte rest (Some cut) = Some (byte ∷ cut.0, cut.1)

-- what stands before the last slash and behind it, if there is one
unfoldable pub last_cut : List ℕ → Option (List ℕ × List ℕ)
last_cut [] = None
last_cut (byte ∷ rest) = cut_after byte rest (last_cut rest)

abbrev pub front_of : Option (List ℕ × List ℕ) → List ℕ → List ℕ
front_of None text = text
front_of (Some cut) text = cut.0

-- what names the column where the text as a whole does not
abbrev pub column_text : List ℕ → List ℕ
column_text text = front_of (last_cut text) text

-- ---- columns and parts

abbrev pub is_called : List ℕ → Column → Bool
is_called name column = bytes_eq column.name name

abbrev pub place_of : List Column → List ℕ → Option ℕ
place_of columns name = position (is_called name) columns

abbrev pub is_of_names : Kind → Bool
is_of_names (Int low high) = false
is_of_names (Dec scale low high) = false
is_of_names (Cat names) = true

abbrev pub is_named : Option Column → Bool
is_named None = false
is_named (Some column) = is_of_names column.kind

abbrev pub has_names : List Column → ℕ → Bool
has_names columns place = is_named (slice_get columns place)

abbrev pub is_divided : List Division → ℕ → Bool
is_divided before column = list_any (λ (division : Division). division.column == column) before

-- a number from 1 to 20
abbrev pub parts_within : ℤ → Option ℕ
parts_within number = if int_le (pos 1) number && int_le number (pos 20) then Some (unsigned_abs number) else None

abbrev pub parts_in : Result ℤ Reason → Option ℕ
parts_in (Ok number) = parts_within number
parts_in (Err reason) = None

unfoldable pub parts_of : List ℕ → Option ℕ
parts_of text = parts_in (number_of 0 text)

-- ---- one text

abbrev pub division : ℕ → Pieces → Division
division column by = record { column = column; pieces = by }

-- a column without parts
unfoldable pub plain : List Column → List Division → ℕ → Result Division Wrong
plain columns before column =
    if is_divided before column then Err wrongs.Twice
    else if has_names columns column then Ok (division column pieces.Names)
    else Err wrongs.NoParts

abbrev pub ranged : ℕ → Option ℕ → Result Division Wrong
ranged column None = Err wrongs.WrongParts
ranged column (Some parts) = Ok (division column (pieces.Ranges parts))

-- a column with a text for its parts
unfoldable pub parted : List Column → List Division → ℕ → List ℕ → Result Division Wrong
parted columns before column parts =
    if is_divided before column then Err wrongs.Twice
    else if has_names columns column then Err wrongs.NamesWithParts
    else ranged column (parts_of parts)

abbrev pub parted_at : List Column → List Division → List ℕ → Option ℕ → Result Division Wrong
parted_at columns before parts None = Err wrongs.NoColumn
parted_at columns before parts (Some column) = parted columns before column parts

abbrev pub cut_division : List Column → List Division → Option (List ℕ × List ℕ) → Result Division Wrong
cut_division columns before None = Err wrongs.NoColumn
cut_division columns before (Some cut) = parted_at columns before cut.1 (place_of columns cut.0)

abbrev pub division_at : List Column → List Division → List ℕ → Option ℕ → Result Division Wrong
division_at columns before text None = cut_division columns before (last_cut text)
division_at columns before text (Some column) = plain columns before column

-- The division that a text names, after those before it. A text that is a column's name as a whole has no parts, slash or not.
unfoldable pub division_of : List Column → List Division → List ℕ → Result Division Wrong
division_of columns before text =
    if length text == 0 then Err wrongs.Empty else division_at columns before text (place_of columns text)

-- ---- the whole text

-- what is wrong, with the text that is wrong
abbrev pub fault_of : Wrong → List ℕ → DivisionFault
fault_of wrongs.Empty text = faults.Empty
fault_of wrongs.NoColumn text = faults.NoColumn (column_text text)
fault_of wrongs.Twice text = faults.Twice text
fault_of wrongs.NoParts text = faults.NoParts text
fault_of wrongs.WrongParts text = faults.WrongParts text
fault_of wrongs.NamesWithParts text = faults.NamesWithParts text

abbrev pub with_found : List Division → List ℕ → Result Division Wrong → Result (List Division) DivisionFault
with_found before text (Ok division) = Ok (before ++ division ∷ [])
with_found before text (Err wrong) = Err (fault_of wrong text)

-- these divisions, and that of a text
abbrev pub with_division : List Column → List Division → List ℕ → Result (List Division) DivisionFault
with_division columns before text = with_found before text (division_of columns before text)

-- these, and those of texts one after the other
unfoldable pub divisions_after : List Column → List Division → List (List ℕ) → Result (List Division) DivisionFault
divisions_after columns before [] = Ok before
divisions_after columns before (text ∷ rest) =
    with_division columns before text >>= λ after. divisions_after columns after rest

abbrev pub divisions_of : Schema → List ℕ → Result (List Division) DivisionFault
divisions_of schema text = divisions_after schema.columns [] (texts_of text)

-- ---- what a reader answers

abbrev pub RefusesAs : {A : Type 0} → DivisionFault → Result A DivisionFault → Type 0
RefusesAs faults.Empty wanted = wanted ≡ Err faults.Empty
RefusesAs (faults.NoColumn text) wanted = wanted ≡ Err (faults.NoColumn text)
RefusesAs (faults.Twice text) wanted = wanted ≡ Err (faults.Twice text)
RefusesAs (faults.NoParts text) wanted = wanted ≡ Err (faults.NoParts text)
RefusesAs (faults.WrongParts text) wanted = wanted ≡ Err (faults.WrongParts text)
RefusesAs (faults.NamesWithParts text) wanted = wanted ≡ Err (faults.NamesWithParts text)
RefusesAs faults.Memory wanted = ⊤

-- what was answered is what is wanted, unless memory ran out
abbrev pub Gives : {A : Type 0} → Result A DivisionFault → Result A DivisionFault → Type 0
Gives (Ok x) wanted = wanted ≡ Ok x
Gives (Err fault) wanted = RefusesAs fault wanted
