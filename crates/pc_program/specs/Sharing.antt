-- How a constraint's rows are shared out between its two cells, and the multiplier that proves it.
use Rattle.std.specs.Prelude.{◌≡◌, ℕ, ◌+◌, ◌≤◌, ℤ, pos, ◌-ℤ◌, ◌*ℤ◌, int_lt, cond, ◌⊎◌}
use Rattle.std.specs.Int.{int_max}
use Rattle.pc_program.specs.declared.sharing.Supply.{Supply}
use Rattle.pc_program.specs.declared.sharing.Shared.{Shared}

-- what a cell adds is as much as it can under the multiplier
abbrev pub IsReached : ℤ → ℕ → ℕ → ℤ → Type 0
IsReached gain cap count by = (gain -ℤ by) *ℤ pos count ≡ int_max ((gain -ℤ by) *ℤ pos 0) ((gain -ℤ by) *ℤ pos cap)

-- the counts are within all ends, and each part of what the multiplier proves is reached
pub record IsSharedOut (least most : ℕ) (a b : Supply) (s : Shared) : Type 0 where
  pub first_inside : s.first ≤ a.cap
  pub second_inside : s.second ≤ b.cap
  pub enough : least ≤ s.first + s.second
  pub not_more : s.first + s.second ≤ most
  pub first_reached : IsReached a.gain a.cap s.first s.by
  pub second_reached : IsReached b.gain b.cap s.second s.by
  pub total_reached : s.by *ℤ pos (s.first + s.second) ≡ s.by *ℤ pos (cond (int_lt (pos 0) s.by) most least)
  pub by_is : (s.by ≡ pos 0) ⊎ ((s.by ≡ a.gain) ⊎ (s.by ≡ b.gain))
