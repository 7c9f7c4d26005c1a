-- What the numbers of rows add to the two sums, and the programs of the most that the rows of cells can add.
use Rattle.std.specs.Prelude.{ℕ, ℤ, pos, ◌+ℤ◌, ◌-ℤ◌, ◌*ℤ◌, ◌≤ℤ◌, int_le, int_lt, cond, List}
use Rattle.pc_model.specs.declared.row.Row.{Row}
use Rattle.pc_model.specs.Cells.{Class}
use Rattle.pc_program_bound.specs.declared.program.Program.{Program}
use Rattle.pc_program_bound.specs.Allocation.{worth, IsAllocation}
use Rattle.pc_program_bound.specs.CellPrograms.{counts_of}
use Rattle.pc_proof.specs.Setting.{Setting, seen_numbers, area_of, cells, low_in, high_in, on_chosen, program_for}
use Rattle.pc_lang.specs.declared.quantile.Quantile.{Quantile}
use Rattle.pc_quantile.specs.Measured.{numbers_of}
use Rattle.pc_quantile.specs.Sums.{weight, first_of, second_of}

-- what a number adds to the sum of a list
abbrev pub first_added : ℕ → ℕ → ℤ → ℤ → ℤ
first_added p q v number = cond (int_le number v) (pos p -ℤ pos q) (pos p)

abbrev pub second_added : ℕ → ℕ → ℤ → ℤ → ℤ
second_added p q v number = cond (int_lt number v) ((weight *ℤ (pos q -ℤ pos p)) +ℤ pos 1) (pos 1 -ℤ (weight *ℤ pos p))

-- what a row of a cell adds at most: of the first sum what the cell's greatest number adds, of the second what its least does
abbrev pub first_gain : Setting → Quantile → ℤ → Class → ℤ
first_gain s asked v class = first_added asked.p asked.q v (high_in s class)

abbrev pub second_gain : Setting → Quantile → ℤ → Class → ℤ
second_gain s asked v class = second_added asked.p asked.q v (low_in s class)

abbrev pub first_program : Setting → Quantile → ℤ → Program
first_program s asked v = program_for s (on_chosen (first_gain s asked v))

abbrev pub second_program : Setting → Quantile → ℤ → Program
second_program s asked v = program_for s (on_chosen (second_gain s asked v))

-- the sums of the observed numbers
abbrev pub first_seen : Setting → Quantile → ℤ → ℤ
first_seen s asked v = first_of asked.p asked.q v (seen_numbers s.question)

abbrev pub second_seen : Setting → Quantile → ℤ → ℤ
second_seen s asked v = second_of asked.p asked.q v (seen_numbers s.question)

-- how many of the lost rows are in each cell
abbrev pub lost_counts : Setting → List Row → List ℕ
lost_counts s lost = counts_of s.question.constraints (area_of s.question) (cells s) lost

-- the sums of all numbers, and those of the observed ones with what the counts of the lost rows are worth
abbrev pub first_sum : Setting → Quantile → ℤ → List Row → ℤ
first_sum s asked v lost = first_of asked.p asked.q v (numbers_of s.question lost)

abbrev pub second_sum : Setting → Quantile → ℤ → List Row → ℤ
second_sum s asked v lost = second_of asked.p asked.q v (numbers_of s.question lost)

abbrev pub first_most : Setting → Quantile → ℤ → List Row → ℤ
first_most s asked v lost = first_seen s asked v +ℤ worth (first_program s asked v) (lost_counts s lost)

abbrev pub second_most : Setting → Quantile → ℤ → List Row → ℤ
second_most s asked v lost = second_seen s asked v +ℤ worth (second_program s asked v) (lost_counts s lost)

-- whatever counts the cells allow, their sum with the observed numbers is not above 0
abbrev pub BoundsAbove : Setting → Quantile → ℤ → Type 0
BoundsAbove s asked v =
    (counts : List ℕ) → IsAllocation (first_program s asked v) (first_program s asked v).floor (first_program s asked v).cap counts →
    (first_seen s asked v +ℤ worth (first_program s asked v) counts) ≤ℤ pos 0

abbrev pub BoundsBelow : Setting → Quantile → ℤ → Type 0
BoundsBelow s asked v =
    (counts : List ℕ) → IsAllocation (second_program s asked v) (second_program s asked v).floor (second_program s asked v).cap counts →
    (second_seen s asked v +ℤ worth (second_program s asked v) counts) ≤ℤ pos 0
