-- What the short form keeps of its lengths and the sizes of its numbers.
use Rattle.std.specs.Prelude.{◌≡◌, ◌<◌, ◌≤◌, ◌+◌, ◌*◌, ◌^◌, ℕ, nat_abs, ℤ, pos, List, [], ◌∷◌, length, All, Some}
use Rattle.pc_program_bound.specs.Sums.{int_at}
use Rattle.pc_simplex_tableau.specs.Tableau.{TableauRow, Tableau, range_of}
use Rattle.pc_simplex_short.specs.Short.{ShortSetting, places_of}

-- a number of at most so many bits
abbrev pub IsWithin : ℕ → ℤ → Type 0
IsWithin bits z = nat_abs z ≤ 2 ^ bits

-- a column of one constraint, which gains nothing
pub record IsSlackOf (f : ShortSetting) (j k : ℕ) : Type 0 where
  pub within : k < f.columns.count
  pub place : places_of f k ≡ j ∷ []
  pub gainless : int_at f.gains k ≡ pos 0

pub record ArePlaces (f : ShortSetting) (places : List ℕ) : Type 0 where
  pub few : length places ≤ 32
  pub within : All (λ j. j < f.constraints) places

pub record IsSetting (f : ShortSetting) : Type 0 where
  pub ranges : length f.columns.ranges ≤ f.columns.count
  pub few : f.columns.count < 2 ^ 32
  pub ends : (k u : ℕ) → range_of f.columns k ≡ Some u → u < 2 ^ 64
  pub listed : length f.places ≡ f.columns.count
  pub places : All (ArePlaces f) f.places
  pub gains : length f.gains ≡ f.columns.count
  pub top : All (λ g. nat_abs g ≤ f.top) f.gains
  pub some : 1 ≤ f.top
  pub slacks : (j : ℕ) → j < f.constraints → (k : ℕ) × IsSlackOf f j k

-- a row has a number for each constraint and a value, all of them small
pub record IsShortRow (f : ShortSetting) (row : TableauRow) : Type 0 where
  pub numbers : length row.numbers ≡ f.constraints + 1
  pub basic : row.basic < f.columns.count
  pub small : All (IsWithin 50) row.numbers

abbrev pub AreSmall : List ℤ → Type 0
AreSmall = All (IsWithin 50)

abbrev pub IsSmallRow : TableauRow → Type 0
IsSmallRow row = AreSmall row.numbers

-- the objective row has a number for each constraint; with its weight it is small enough too
pub record IsShortAim (f : ShortSetting) (weight : ℤ) (aim : List ℤ) : Type 0 where
  pub numbers : length aim ≡ f.constraints
  pub small : All (IsWithin 64) aim
  pub light : nat_abs weight * f.top ≤ 2 ^ 69

-- an objective row so small that what is added up of it fits 64 bits
pub record IsNarrow (most : ℕ) (weight : ℤ) (aim : List ℤ) : Type 0 where
  pub top : most ≤ 2 ^ 60
  pub light : nat_abs weight * most ≤ 2 ^ 60
  pub small : All (IsWithin 55) aim

pub record IsShort (f : ShortSetting) (t : Tableau) : Type 0 where
  pub rows : All (IsShortRow f) t.rows
  pub turned : length t.turned ≡ f.columns.count
  pub aim : IsShortAim f t.weight t.aim
