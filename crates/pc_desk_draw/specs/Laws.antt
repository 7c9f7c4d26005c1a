-- What a reader may conclude from a chart or a picture.
use Rattle.std.specs.Prelude.{◌≡◌, ℕ, ◌+◌, ◌<◌, ◌≤◌, ℤ, pos, ◌+ℤ◌, ◌*ℤ◌, ◌≤ℤ◌, unsigned_abs, List, Option, Some, None}
use Rattle.std.specs.List.{All}
use Rattle.pc_desk_table.specs.declared.entry.Entry.{Entry}
use Rattle.pc_desk_draw.specs.declared.axis.Axis.{Axis}
use Rattle.pc_desk_draw.specs.declared.segment.BarPicture.{BarPicture}
use Rattle.pc_desk_draw.specs.declared.segment.Segment.{Segment}
use Rattle.pc_desk_draw.specs.declared.span.Span.{Span}
use Rattle.pc_desk_draw.specs.Axes.{IsDrawn, IsOn, IsRound, axis_of, tick_number}
use Rattle.pc_desk_draw.specs.Layouts.{layout_of}
use Rattle.pc_desk_draw.specs.Numbers.{greatest}
use Rattle.pc_desk_draw.specs.Places.{Holds, place_of}
use Rattle.pc_desk_draw.specs.Segments.{bars_layout}
use Rattle.pc_desk_draw.specs.Shapes.{last_pixel}

-- a greater number has no lesser place
abbrev pub PlacesRise : Type 0
PlacesRise =
    (axis : Axis) (last : ℕ) (number greater : ℤ) → axis.start ≤ℤ number → number ≤ℤ greater
    → place_of axis last number ≤ place_of axis last greater

-- each end and each observed value of a picture lies within its axis, and its place within the last one
pub record AllOnAxis : Type 0 where
  pub numbers : (entries : List Entry) → All (Holds (layout_of entries).axis) entries
  pub places : (axis : Axis) (last : ℕ) (number : ℤ) → IsOn axis number → place_of axis last number ≤ last

-- the ticks of an axis are multiples of a round step, each the next one after the one before
pub record IsRuled (axis : Axis) : Type 0 where
  pub round : IsRound axis.step
  pub some : 0 < axis.steps
  pub few : axis.steps ≤ 5
  pub start : (times : ℤ) × (axis.start ≡ times *ℤ pos axis.step)
  pub even : (tick : ℕ) → tick_number axis (tick + 1) ≡ tick_number axis tick +ℤ pos axis.step

abbrev pub TicksAreRound : Type 0
TicksAreRound = (span : Span) → IsDrawn span → IsRuled (axis_of span)

-- both ends of a segment are small enough to be drawn
abbrev pub IsDrawable : Segment → Type 0
IsDrawable segment = (unsigned_abs segment.from ≤ greatest) × (unsigned_abs segment.to ≤ greatest)

-- .. and lie on the axis, with their places within the last one
pub record IsSegmentOn (axis : Axis) (segment : Segment) : Type 0 where
  pub from : IsOn axis segment.from
  pub to : IsOn axis segment.to
  pub from_place : place_of axis last_pixel segment.from ≤ last_pixel
  pub to_place : place_of axis last_pixel segment.to ≤ last_pixel

-- a picture with such a segment has an axis
abbrev pub HasEndsOn : Option Axis → Segment → Type 0
HasEndsOn None segment = ⊥
HasEndsOn (Some axis) segment = IsSegmentOn axis segment

abbrev pub IsPlaced : Option Axis → Segment → Type 0
IsPlaced axis segment = IsDrawable segment → HasEndsOn axis segment

-- each segment of a picture that can be drawn stands on the axis of the picture
abbrev pub SegmentsAreOnAxis : Type 0
SegmentsAreOnAxis =
    (picture : BarPicture)
    → All (λ row. All (IsPlaced (bars_layout picture.rows).axis) row.segments) picture.rows
