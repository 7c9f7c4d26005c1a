-- The numbers of a block, and what the blocks of a picture span.
use Rattle.std.specs.Prelude.{ℕ, ◌^◌, ℤ, int_lt, nat_lt, unsigned_abs, List, [], ◌∷◌, Option, Some, None, if◌then◌else◌}
use Rattle.std.specs.Int.{int_max, int_min}
use Rattle.pc_desk_table.specs.declared.entry.Entry.{Entry}
use Rattle.pc_desk_table.specs.declared.entry.Range.{Range}
use Rattle.pc_desk_table.specs.declared.entry.Value.{Value}
use Rattle.pc_desk_draw.specs.declared.span.Span.{Span}

-- the greatest size, in millionths, of a number that is drawn
abbrev pub greatest : ℕ
greatest = 10 ^ 38

abbrev pub drawn : Option ℤ → Option ℤ
drawn None = None
drawn (Some number) = if nat_lt greatest (unsigned_abs number) then None else Some number

-- two numbers in their order
abbrev pub ordered : Option ℤ → Option ℤ → Option Span
ordered None high = None
ordered (Some low) None = None
ordered (Some low) (Some high) = if int_lt high low then None else Some (record { low = low; high = high })

-- the numbers of the ends of a range, if they are numbers in their order
unfoldable pub span_of : Range → Option Span
span_of range = ordered (drawn range.low.value.millionths) (drawn range.high.value.millionths)

abbrev pub range_span : Option Range → Option Span
range_span None = None
range_span (Some range) = span_of range

-- the number that the rows that are left come to
abbrev pub observed_number : Option Value → Option ℤ
observed_number None = None
observed_number (Some value) = drawn value.millionths

abbrev pub point : Option ℤ → Option Span
point None = None
point (Some number) = Some (record { low = number; high = number })

-- the least that holds both
abbrev pub hull : Option Span → Option Span → Option Span
hull None other = other
hull (Some one) None = Some one
hull (Some one) (Some other) = Some (record { low = int_min one.low other.low; high = int_max one.high other.high })

-- what the range and the observed value of a block span
abbrev pub block_span : Entry → Option Span
block_span entry = hull (range_span entry.range) (point (observed_number entry.observed))

-- from the least number of a picture to the greatest
unfoldable pub bounds_of : List Entry → Option Span
bounds_of [] = None
bounds_of (entry ∷ rest) = hull (block_span entry) (bounds_of rest)
