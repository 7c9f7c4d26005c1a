-- What holds of the fields of a column that is left out.
use Rattle.std.specs.Prelude.{◌≡◌, ℕ, ◌<◌, ◌-◌, Bool, true, false, List, [], length}
use Rattle.std.specs.List.{count_by}
use Rattle.std.specs.Str.{bytes_eq}
use Rattle.pc_records.specs.Fields.{field}
use Rattle.pc_desk_schema.specs.declared.said.Odd.{Odd}
use Rattle.pc_desk_schema.specs.declared.said.Said.{Said}
use Rattle.pc_desk_schema.specs.declared.said.Said.TheVariants as saids
use Rattle.pc_desk_schema.specs.Dates.{is_date}
use Rattle.pc_desk_schema.specs.Fits.{name_past, record_at}
use Rattle.pc_desk_schema.specs.Names.{different_from, may_name, name_limit}
use Rattle.pc_desk_schema.specs.Numbers.{decimals_of, fits_at, is_number}

-- so many of so many fields pass a test, and fewer do not
pub record IsShare (test : List ℕ → Bool) (texts : List (List ℕ)) (count fields : ℕ) : Type 0 where
  pub so_many : count ≡ count_by test texts
  pub of_all : fields ≡ length texts
  pub most : fields - count < count

-- the record and the text of a field that fails a test, before which each field passes it
pub record IsFirstOdd (test : List ℕ → Bool) (texts : List (List ℕ)) (odd : Odd) : Type 0 where
  pub place : ℕ
  pub inside : place < length texts
  pub numbered : odd.number ≡ record_at place
  pub stands : odd.text ≡ field texts place
  pub fails : test odd.text ≡ false
  pub passes : (before : ℕ) → before < place → test (field texts before) ≡ true

-- the record and the text of the first field that is this name
pub record IsFirstOf (name : List ℕ) (texts : List (List ℕ)) (odd : Odd) : Type 0 where
  pub place : ℕ
  pub inside : place < length texts
  pub numbered : odd.number ≡ record_at place
  pub stands : odd.text ≡ field texts place
  pub same : bytes_eq name odd.text ≡ true
  pub others : (before : ℕ) → before < place → bytes_eq name (field texts before) ≡ false

-- what is said of the fields of a column is so
abbrev pub Tells : List (List ℕ) → Said → Type 0
Tells texts saids.BadName = ⊥
Tells texts saids.Repeated = ⊥
Tells texts saids.NoRows = length texts ≡ 0
Tells texts (saids.TooWide odd) = IsFirstOdd (fits_at (decimals_of texts)) texts odd
Tells texts (saids.Numbers count fields odd) = IsShare is_number texts count fields × IsFirstOdd is_number texts odd
Tells texts (saids.Dates count fields) = IsShare is_date texts count fields
Tells texts (saids.ManyNames odd) = (name_limit < length (different_from [] texts)) × IsFirstOf (name_past texts) texts odd
Tells texts (saids.NoName odd) = IsFirstOdd may_name texts odd
Tells texts (saids.Zero odd) = ⊥
