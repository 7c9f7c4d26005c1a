-- How far numbers pass a number at either end, and the programs of how far lost rows can.
use Rattle.std.specs.Prelude.{ℤ, pos, ◌+ℤ◌, ◌-ℤ◌, ◌≤ℤ◌, ℕ, List, ◌⊎◌, Contains}
use Rattle.pc_model.specs.Cells.{Class}
use Rattle.pc_program_bound.specs.declared.program.Program.{Program}
use Rattle.pc_program_bound.specs.Allocation.{worth, IsAllocation}
use Rattle.pc_proof.specs.Setting.{Setting, low_in, high_in, on_chosen, program_for}
use Rattle.pc_agg_search.specs.declared.extreme.Extreme.{Extreme}
use Rattle.pc_agg_search.specs.declared.extreme.Extreme.TheVariants.{Low, High}
use Rattle.pc_lang.specs.declared.quantile.Quantile.{Quantile}
use Rattle.pc_quantile.specs.Candidates.{IsOfCell}
use Rattle.pc_quantile.specs.Gains.{first_gain, second_gain}
use Rattle.pc_quantile.specs.Sums.{first_of, second_of}

-- the number of a cell at an end
abbrev pub end_in : Setting → Extreme → Class → ℤ
end_in s Low class = low_in s class
end_in s High class = high_in s class

-- that of a chosen cell, or of an observed row
abbrev pub IsCandidateBeside : Setting → List ℤ → Extreme → ℤ → Type 0
IsCandidateBeside s seen extreme number = IsOfCell s (end_in s extreme) number ⊎ Contains seen number

-- the sum of numbers that is above 0 just where their quantile is farther out than a number
abbrev pub sum_past : Extreme → Quantile → ℤ → List ℤ → ℤ
sum_past High asked v numbers = first_of asked.p asked.q v numbers
sum_past Low asked v numbers = second_of asked.p asked.q v numbers

-- what a row of a cell adds to it at most
abbrev pub gain_past : Setting → Extreme → Quantile → ℤ → Class → ℤ
gain_past s High asked v class = first_gain s asked v class
gain_past s Low asked v class = second_gain s asked v class

abbrev pub program_past : Setting → Extreme → Quantile → ℤ → Program
program_past s extreme asked v = program_for s (on_chosen (gain_past s extreme asked v))

-- the least worth of counts that pass a number with the observed ones
abbrev pub least_past : Extreme → Quantile → ℤ → List ℤ → ℤ
least_past extreme asked v seen = pos 1 -ℤ sum_past extreme asked v seen

-- whatever counts the cells allow, they do not pass the number
abbrev pub IsBounded : Setting → List ℤ → Extreme → Quantile → ℤ → Type 0
IsBounded s seen extreme asked v =
    (counts : List ℕ) → IsAllocation (program_past s extreme asked v) (program_past s extreme asked v).floor (program_past s extreme asked v).cap counts →
    (sum_past extreme asked v seen +ℤ worth (program_past s extreme asked v) counts) ≤ℤ pos 0
