-- Extents and numbers, widened by so many per cent.
use Rattle.std.specs.Prelude.{ℕ, ◌+◌, ◌-◌, ◌*◌, ℤ, pos, ◌+ℤ◌, ◌-ℤ◌, unsigned_abs, min}
use Rattle.std.specs.Int.{div_ceil, int_min, int_max}
use Rattle.pc_model.specs.Accepted.{frequency_limit}
use Rattle.pc_desk_history.specs.declared.numbers.Numbers.{Numbers}
use Rattle.pc_desk_history.specs.declared.extent.Extent.{Extent}

-- so many per cent at most
abbrev pub percent_limit : ℕ
percent_limit = 1000

-- so many per cent of a size, rounded up
abbrev pub part_of : ℕ → ℕ → ℕ
part_of percent size = div_ceil (size * percent) 100

-- a number lowered by so many per cent of its size, and a domain's least at least
abbrev pub lowered : ℕ → ℤ → ℤ → ℤ
lowered percent least number = int_max least (number -ℤ pos (part_of percent (unsigned_abs number)))

-- .. raised, and a domain's greatest at most
abbrev pub raised : ℕ → ℤ → ℤ → ℤ
raised percent greatest number = int_min greatest (number +ℤ pos (part_of percent (unsigned_abs number)))

abbrev pub widened_extent : ℕ → ℤ → ℤ → Extent → Extent
widened_extent percent least greatest extent = record { low = lowered percent least extent.low; high = raised percent greatest extent.high }

-- numbers of rows, within those that a constraint may allow
abbrev pub widened_numbers : ℕ → Numbers → Numbers
widened_numbers percent numbers = record {
  least = numbers.least - part_of percent numbers.least;
  most = min frequency_limit (numbers.most + part_of percent numbers.most);
}
