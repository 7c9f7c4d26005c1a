-- The places of numbers on an axis, from 0 to a last one.
use Rattle.std.specs.Prelude.{ℕ, ◌*◌, ◌/◌, ◌^◌, ◌≤◌, ℤ, ◌-ℤ◌, ◌≤ℤ◌, nat_lt, unsigned_abs, Option, Some, None, ⊤, if◌then◌else◌}
use Rattle.pc_desk_table.specs.declared.entry.Entry.{Entry}
use Rattle.pc_desk_table.specs.declared.entry.Range.{Range}
use Rattle.pc_desk_draw.specs.declared.axis.Axis.{Axis}
use Rattle.pc_desk_draw.specs.declared.place.Bar.{Bar}
use Rattle.pc_desk_draw.specs.declared.place.Drawing.{Drawing}
use Rattle.pc_desk_draw.specs.declared.span.Span.{Span}
use Rattle.pc_desk_draw.specs.Axes.{IsOn, tick_number}
use Rattle.pc_desk_draw.specs.Numbers.{observed_number, range_span, span_of}

abbrev pub axis_length : Axis → ℕ
axis_length axis = axis.step * axis.steps

-- the share of the last place that a part of a whole has
abbrev pub proportion : ℕ → ℕ → ℕ → ℕ
proportion last part whole = part * last / whole

-- on a very long axis thousands are counted, so that a product fits
abbrev pub share : ℕ → ℕ → ℕ → ℕ
share last part whole =
    if nat_lt whole (10 ^ 35) then proportion last part whole else proportion last (part / 1000) (whole / 1000)

-- the place of a number
unfoldable pub place_of : Axis → ℕ → ℤ → ℕ
place_of axis last number = share last (unsigned_abs (number -ℤ axis.start)) (axis_length axis)

abbrev pub bar_between : Axis → ℕ → Range → Option Span → Option Bar
bar_between axis last range None = None
bar_between axis last range (Some span) =
    Some (record {
      low = place_of axis last span.low;
      high = place_of axis last span.high;
      low_mark = range.low.mark;
      high_mark = range.high.mark;
    })

-- the bar of a range, if its ends are numbers in their order
abbrev pub bar_of : Axis → ℕ → Option Range → Option Bar
bar_of axis last None = None
bar_of axis last (Some range) = bar_between axis last range (span_of range)

abbrev pub place_in : Axis → ℕ → Option ℤ → Option ℕ
place_in axis last None = None
place_in axis last (Some number) = Some (place_of axis last number)

-- what is drawn of a block
abbrev pub drawing_of : Axis → ℕ → Entry → Drawing
drawing_of axis last entry =
    record { bar = bar_of axis last entry.range; observed = place_in axis last (observed_number entry.observed) }

-- the place of a tick
abbrev pub tick_place : Axis → ℕ → ℕ → ℕ
tick_place axis last tick = place_of axis last (tick_number axis tick)

-- numbers of an axis, in their order
pub record IsSpanOn (axis : Axis) (span : Span) : Type 0 where
  pub low : axis.start ≤ℤ span.low
  pub order : span.low ≤ℤ span.high
  pub high : span.high ≤ℤ tick_number axis axis.steps

abbrev pub HoldsSpan : Axis → Option Span → Type 0
HoldsSpan axis None = ⊤
HoldsSpan axis (Some span) = IsSpanOn axis span

abbrev pub HoldsNumber : Axis → Option ℤ → Type 0
HoldsNumber axis None = ⊤
HoldsNumber axis (Some number) = IsOn axis number

-- all numbers of a block lie on the axis
pub record IsBlockOn (axis : Axis) (entry : Entry) : Type 0 where
  pub range : HoldsSpan axis (range_span entry.range)
  pub observed : HoldsNumber axis (observed_number entry.observed)

-- .. of a picture that has an axis
abbrev pub Holds : Option Axis → Entry → Type 0
Holds None entry = ⊤
Holds (Some axis) entry = IsBlockOn axis entry

-- a bar whose ends are in their order
abbrev pub IsBar : ℕ → Bar → Type 0
IsBar last bar = (bar.low ≤ bar.high) × (bar.high ≤ last)
