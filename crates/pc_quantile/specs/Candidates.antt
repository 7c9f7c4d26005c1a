-- The numbers at which an end of the quantiles can stand. An end is given as the number that each cell has there: `low_in s` or `high_in s`.
use Rattle.std.specs.Prelude.{◌≡◌, ℤ, ◌≤ℤ◌, true, ◌⊎◌, List, All, Contains}
use Rattle.pc_model.specs.declared.row.Row.{Row}
use Rattle.pc_model.specs.Aggregate.{asked as asked_of}
use Rattle.pc_model.specs.Cells.{Class, class_of}
use Rattle.pc_proof.specs.Setting.{Setting, seen_numbers, area_of, cells}

-- the number of a chosen cell
pub record IsOfCell (s : Setting) (end : Class → ℤ) (number : ℤ) : Type 0 where
  pub class : Class
  pub listed : Contains (cells s) class
  pub chosen : class.chosen ≡ true
  pub is : end class ≡ number

-- or of an observed row
abbrev pub IsCandidate : Setting → (Class → ℤ) → ℤ → Type 0
IsCandidate s end number = IsOfCell s end number ⊎ Contains (seen_numbers s.question) number

-- none is below a number, and none is above it
abbrev pub AreFrom : Setting → (Class → ℤ) → ℤ → Type 0
AreFrom s end number = (other : ℤ) → IsCandidate s end other → number ≤ℤ other

abbrev pub AreUpTo : Setting → (Class → ℤ) → ℤ → Type 0
AreUpTo s end number = (other : ℤ) → IsCandidate s end other → other ≤ℤ number

-- each lost row of a chosen cell has the cell's number
abbrev pub StandAt : Setting → (Class → ℤ) → List Row → Type 0
StandAt s end lost =
    All
    (λ (row : Row).
    (class_of s.question.constraints (area_of s.question) row).chosen ≡ true → asked_of s.question.query row ≡ end (class_of s.question.constraints (area_of s.question) row))
    lost
