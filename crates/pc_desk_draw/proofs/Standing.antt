-- The axis of a picture of bars holds all of its segments.
use Rattle.std.proofs.Common.{◌≡◌, ◌≤◌, ℤ, unsigned_abs, false, refl, subst, List, [], ◌∷◌, arith, Option, Some, None}
use Rattle.std.specs.List.{All}
use Rattle.std.specs.Prelude.{IfSome, get_or, nat_lt}
use Rattle.std.specs.Int.{int_max, int_min}
use Rattle.std.proofs.lemmas.Bool.Decides.{leb_tells}
use Rattle.std.proofs.lemmas.Int.{clamps, ints}
use Rattle.std.proofs.lemmas.List.Elements.{All-cons, All-nil}
use Rattle.pc_desk_draw.specs.declared.axis.Axis.{Axis}
use Rattle.pc_desk_draw.specs.declared.segment.BarPicture.{BarPicture}
use Rattle.pc_desk_draw.specs.declared.segment.BarRow.{BarRow}
use Rattle.pc_desk_draw.specs.declared.segment.Segment.{Segment}
use Rattle.pc_desk_draw.specs.declared.span.Span.{Span}
use Rattle.pc_desk_draw.specs.Axes.{IsDrawn, IsOn, IsSmall, axis_between, axis_of}
use Rattle.pc_desk_draw.specs.Laws.{HasEndsOn, IsDrawable, IsPlaced, IsSegmentOn}
use Rattle.pc_desk_draw.specs.Numbers.{drawn, greatest, hull}
use Rattle.pc_desk_draw.specs.Places.{HoldsSpan, IsSpanOn}
use Rattle.pc_desk_draw.specs.Segments.{HoldsRow, HoldsSegment, bars_layout, between, rows_span, segment_span, segments_span}
use Rattle.pc_desk_draw.specs.Shapes.{last_pixel}
use Rattle.pc_desk_draw.proofs.Holding.{IsShown, IsShownNumber, Within, axis_holds, drawn_if, drawn_is, hull_is, own, range_on, small_by, through, wider}
use Rattle.pc_desk_draw.proofs.Placing.{within_last}

-- ---- what is drawn is small and in its order

between_is : (from to : Option ℤ) → IsShownNumber from → IsShownNumber to → IsShown (between from to)
between_is None to a b = tt
between_is (Some from) None a b = tt
between_is (Some from) (Some to) a b =
    record { low = omega (arith, ints, clamps, a, b); order = omega (arith, ints, clamps); high = omega (arith, ints, clamps, a, b) }

segment_is : (segment : Segment) → IsShown (segment_span segment)
segment_is segment = between_is (drawn (Some segment.from)) (drawn (Some segment.to)) (drawn_is (Some segment.from)) (drawn_is (Some segment.to))

segments_are : (segments : List Segment) → IsShown (segments_span segments)
unfolding segments_span
segments_are [] = tt
segments_are (segment ∷ rest) = hull_is (segment_span segment) (segments_span rest) (segment_is segment) (segments_are rest)

pub rows_are : (rows : List BarRow) → IsShown (rows_span rows)
unfolding rows_span
rows_are [] = tt
rows_are (row ∷ rest) = hull_is (segments_span row.segments) (rows_span rest) (segments_are row.segments) (rows_are rest)

-- ---- the bounds hold all segments

abbrev AreWithin : Option Span → List Segment → Type 0
AreWithin bounds segments = All (λ segment. Within bounds (segment_span segment)) segments

within_segments : (segments : List Segment) → AreWithin (segments_span segments) segments
unfolding segments_span
within_segments [] = All-nil (λ segment. Within None (segment_span segment))
within_segments (segment ∷ rest) =
    All-cons (λ one. Within (hull (segment_span segment) (segments_span rest)) (segment_span one)) segment rest
    (own (segment_span segment) (segments_span rest))
    (λ k d inside. wider (segment_span segment) (segments_span rest) (segment_span (get_or rest k d)) (within_segments rest k d inside))

of_first : (row : BarRow) (bounds : Option Span) → AreWithin (hull (segments_span row.segments) bounds) row.segments
of_first row bounds k d inside =
    through (hull (segments_span row.segments) bounds) (segments_span row.segments) (segment_span (get_or row.segments k d))
    (own (segments_span row.segments) bounds) (within_segments row.segments k d inside)

of_later : (one bounds : Option Span) (segments : List Segment) → AreWithin bounds segments → AreWithin (hull one bounds) segments
of_later one bounds segments within k d inside = wider one bounds (segment_span (get_or segments k d)) (within k d inside)

pub within_rows : (rows : List BarRow) → All (λ row. AreWithin (rows_span rows) row.segments) rows
unfolding rows_span
within_rows [] = All-nil (λ row. AreWithin None row.segments)
within_rows (row ∷ rest) =
    All-cons (λ one. AreWithin (hull (segments_span row.segments) (rows_span rest)) one.segments) row rest
    (of_first row (rows_span rest))
    (λ k d inside. of_later (segments_span row.segments) (rows_span rest) (get_or rest k d).segments (within_rows rest k d inside))

-- ---- from the bounds to the axis

segment_on : (bounds : Span) (segment : Segment) → IsDrawn bounds → Within (Some bounds) (segment_span segment) → HoldsSegment (axis_of bounds) segment
segment_on bounds segment shown within = range_on (axis_of bounds) bounds (segment_span segment) (axis_holds bounds shown) (segment_is segment) within

row_on : (bounds : Option Span) (row : BarRow) → IsShown bounds → AreWithin bounds row.segments → HoldsRow (axis_between bounds) row
row_on None row shown within = tt
row_on (Some bounds) row shown within = λ k d inside. segment_on bounds (get_or row.segments k d) shown (within k d inside)

pub rows_held : (rows : List BarRow) → All (HoldsRow (axis_between (rows_span rows))) rows
rows_held rows k d inside = row_on (rows_span rows) (get_or rows k d) (rows_are rows) (within_rows rows k d inside)

pub rows_small : (rows : List BarRow) → IfSome (axis_between (rows_span rows)) IsSmall
rows_small rows = small_by (rows_span rows) (rows_are rows)

pub rows_drawn : (rows : List BarRow) → IfSome (rows_span rows) IsDrawn
rows_drawn rows = drawn_if (rows_span rows) (rows_are rows)

pub ruleset held = (rows_held, rows_small, rows_drawn)

-- ---- the ends of a segment that can be drawn

drawn_small : (number : ℤ) → unsigned_abs number ≤ greatest → drawn (Some number) ≡ Some number
drawn_small number small = let not_past : nat_lt greatest (unsigned_abs number) ≡ false = grind (arith, leb_tells, small) in rw not_past refl

shown_span : (segment : Segment) → IsDrawable segment → segment_span segment ≡ Some (record { low = int_min segment.from segment.to; high = int_max segment.from segment.to })
shown_span segment shown = rw (drawn_small segment.from shown.0, drawn_small segment.to shown.1) refl

ends_on : (axis : Axis) (segment : Segment) → IsSpanOn axis (record { low = int_min segment.from segment.to; high = int_max segment.from segment.to }) → IsSegmentOn axis segment
ends_on axis segment on =
    let low = on.low in
    let high = on.high in
    let from : IsOn axis segment.from = record { low = omega (arith, ints, clamps, low); high = omega (arith, ints, clamps, high) } in
    let to : IsOn axis segment.to = record { low = omega (arith, ints, clamps, low); high = omega (arith, ints, clamps, high) } in
    record { from = from; to = to; from_place = within_last axis last_pixel segment.from from; to_place = within_last axis last_pixel segment.to to }

has_ends_on : (bounds : Option Span) (segment : Segment) → IsShown bounds → Within bounds (segment_span segment) → IsDrawable segment → HasEndsOn (axis_between bounds) segment
has_ends_on None segment is within shown =
    let no : Within None (Some (record { low = int_min segment.from segment.to; high = int_max segment.from segment.to })) = subst (Within None) (shown_span segment shown) within in no
has_ends_on (Some bounds) segment is within shown =
    ends_on (axis_of bounds) segment (subst (HoldsSpan (axis_of bounds)) (shown_span segment shown) (segment_on bounds segment is within))

pub all_segments_on : (picture : BarPicture) → All (λ row. All (IsPlaced (bars_layout picture.rows).axis) row.segments) picture.rows
all_segments_on picture k d inside j e within shown =
    has_ends_on (rows_span picture.rows) (get_or (get_or picture.rows k d).segments j e) (rows_are picture.rows) (within_rows picture.rows k d inside j e within) shown
