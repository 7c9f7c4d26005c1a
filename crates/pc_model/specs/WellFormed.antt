-- Which schemas are well-formed.
use Rattle.std.specs.Prelude.{◌≢◌, ℕ, ◌≤◌, ℤ, ◌≤ℤ◌, unsigned_abs, ⊤, List, length, All, AllPairs}
use Rattle.pc_num.specs.Scaled.{greatest_size}
use Rattle.pc_model.specs.declared.schema.Kind.{Kind}
use Rattle.pc_model.specs.declared.schema.Kind.TheVariants.{Int, Dec, Cat}
use Rattle.pc_model.specs.declared.schema.Column.{Column}
use Rattle.pc_model.specs.declared.schema.Schema.{Schema}
use Rattle.pc_model.specs.Texts.{IsName}

abbrev pub IsSmall : ℤ → Type 0
IsSmall number = unsigned_abs number ≤ greatest_size

pub record IsSpan (low high : ℤ) : Type 0 where
  pub small_low : IsSmall low
  pub small_high : IsSmall high
  pub ordered : low ≤ℤ high

-- names of which no two are the same
pub record AreNames (names : List (List ℕ)) : Type 0 where
  pub all : All IsName names
  pub different : AllPairs (λ a b. a ≢ b) names

pub record AreValues (names : List (List ℕ)) : Type 0 where
  pub some : 1 ≤ length names
  pub few : length names ≤ 128
  pub own : AreNames names

abbrev pub IsKind : Kind → Type 0
IsKind (Int low high) = IsSpan low high
IsKind (Dec scale low high) = (scale ≤ 6) × IsSpan low high
IsKind (Cat names) = AreValues names

pub record IsColumn (column : Column) : Type 0 where
  pub name : IsName column.name
  pub kind : IsKind column.kind

-- columns of which no two have one name, and of which there are not too many
pub record AreColumns (columns : List Column) : Type 0 where
  pub few : length columns ≤ 12
  pub all : All IsColumn columns
  pub own_names : AllPairs (λ (a b : Column). a.name ≢ b.name) columns

pub record IsWellFormed (schema : Schema) : Type 0 where
  pub some : 1 ≤ length schema.columns
  pub columns : AreColumns schema.columns

-- the names of a column fit the bits of a side
abbrev pub HasFewNames : Kind → Type 0
HasFewNames (Int low high) = ⊤
HasFewNames (Dec scale low high) = ⊤
HasFewNames (Cat names) = length names ≤ 128

abbrev pub HaveFewNames : List Column → Type 0
HaveFewNames columns = All (λ (column : Column). HasFewNames column.kind) columns
