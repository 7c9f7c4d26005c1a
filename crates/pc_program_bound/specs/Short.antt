-- Multipliers, gains and cells so small that no number on the way to the bound needs a test of its own.
use Rattle.std.specs.Prelude.{◌≡◌, ℕ, ◌+◌, ◌*◌, ◌^◌, ◌<◌, ◌≤◌, ℤ, pos, ◌+ℤ◌, ◌*ℤ◌, nat_abs, FitsSigned, All, List, [], ◌∷◌}
use Rattle.std.specs.Int.{w64}
use Rattle.pc_model.specs.declared.tree.Mult.{Mult}
use Rattle.pc_program_bound.specs.declared.program.Program.{Program}
use Rattle.pc_program_bound.specs.declared.tables.Tables.{Tables}
use Rattle.pc_program_bound.specs.Sums.{int_at}
use Rattle.pc_program_bound.specs.Allocation.{cells_of}

abbrev pub IsShortNumber : ℤ → Type 0
IsShortNumber number = nat_abs number ≤ 2 ^ 57

-- the sums of the sets of four numbers, in the order of the sets as binary numbers
abbrev pub four_sums : ℤ → ℤ → ℤ → ℤ → List ℤ
four_sums one two four eight =
    pos 0 ∷ one ∷ two ∷ (one +ℤ two) ∷ four ∷ (one +ℤ four) ∷ (two +ℤ four) ∷ (one +ℤ two +ℤ four)
    ∷ eight ∷ (one +ℤ eight) ∷ (two +ℤ eight) ∷ (one +ℤ two +ℤ eight) ∷ (four +ℤ eight) ∷ (one +ℤ (four +ℤ eight))
    ∷ (two +ℤ (four +ℤ eight)) ∷ (one +ℤ two +ℤ (four +ℤ eight)) ∷ []

-- no sum of a table is far from 0
pub record IsSmallTable (table : List ℤ) : Type 0 where
  pub each : (set : ℕ) → nat_abs (int_at table set) ≤ 4 * 2 ^ 57

pub record AreSmallTables (tables : Tables) : Type 0 where
  pub first : IsSmallTable tables.first
  pub second : IsSmallTable tables.second
  pub third : IsSmallTable tables.third
  pub fourth : IsSmallTable tables.fourth
  pub fifth : IsSmallTable tables.fifth

-- the sums of the sets of the four multipliers from a place on
abbrev pub sums_from : List ℤ → ℕ → List ℤ
sums_from by place = four_sums (int_at by place) (int_at by (place + 1)) (int_at by (place + 2)) (int_at by (place + 3))

pub record AreTables (by : List ℤ) (tables : Tables) : Type 0 where
  pub first : tables.first ≡ sums_from by 0
  pub second : tables.second ≡ sums_from by 4
  pub third : tables.third ≡ sums_from by 8
  pub fourth : tables.fourth ≡ sums_from by 12
  pub fifth : tables.fifth ≡ sums_from by 16

-- a gain that fits 64 bits, and is small when it is scaled
pub record IsShortGain (den gain : ℤ) : Type 0 where
  pub own : FitsSigned w64 gain
  pub scaled : nat_abs (den *ℤ gain) ≤ 2 ^ 62

-- the multipliers and what they scale are small
pub record IsShort (p : Program) (mult : Mult) : Type 0 where
  pub few : cells_of p ≤ 2 ^ 30
  pub den : nat_abs mult.den ≤ 2 ^ 62
  pub by : All IsShortNumber mult.by
  pub gains : (i : ℕ) → i < cells_of p → IsShortGain mult.den (int_at p.gain i)
