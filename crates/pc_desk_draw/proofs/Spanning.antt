-- What the rows of a picture of bars span, and how wide their texts are, as far as a loop has come.
use Rattle.std.proofs.Common.{◌≡◌, ℕ, suc, ◌+◌, ◌<◌, ◌≤◌, max, List, length, get_or, drop, add-one, drop-cons, arith, Option}
use Rattle.std.proofs.lemmas.List.{drop_all}
use Rattle.pc_desk_draw.specs.declared.segment.BarRow.{BarRow}
use Rattle.pc_desk_draw.specs.declared.segment.Segment.{Segment}
use Rattle.pc_desk_draw.specs.declared.span.Span.{Span}
use Rattle.pc_desk_draw.specs.Numbers.{hull}
use Rattle.pc_desk_draw.specs.Segments.{rows_span, segment_span, segments_span, text_width, widest_name}
use Rattle.pc_desk_draw.proofs.Hulls.{hull_again, hull_none}
use Rattle.pc_desk_draw.proofs.Widths.{max_again}

module _ (segments : List Segment) (i : ℕ) (bounds : Option Span) where
  pub segment_step : (other : Segment) → i < length segments → hull (hull bounds (segment_span (get_or segments i other))) (segments_span (drop (i + 1) segments)) ≡ hull bounds (segments_span (drop i segments))
  unfolding segments_span
  segment_step other inside = rw (add-one, drop-cons segments i other inside) (hull_again bounds (segment_span (get_or segments i other)) (segments_span (drop (suc i) segments)))

  pub segment_end : length segments ≤ i → hull bounds (segments_span (drop i segments)) ≡ bounds
  unfolding segments_span
  segment_end end = rw (drop_all i segments end) (hull_none bounds)

pub ruleset segment_steps = (segment_step, segment_end)

module _ (rows : List BarRow) (i : ℕ) (bounds : Option Span) where
  pub row_step : (row : BarRow) → row ≡ get_or rows i row → i < length rows → hull (hull bounds (segments_span row.segments)) (rows_span (drop (i + 1) rows)) ≡ hull bounds (rows_span (drop i rows))
  unfolding rows_span
  row_step row is inside = rw (add-one, drop-cons rows i row inside, ← is) (hull_again bounds (segments_span row.segments) (rows_span (drop (suc i) rows)))

  pub row_end : length rows ≤ i → hull bounds (rows_span (drop i rows)) ≡ bounds
  unfolding rows_span
  row_end end = rw (drop_all i rows end) (hull_none bounds)

pub ruleset row_steps = (row_step, row_end)

module _ (rows : List BarRow) (i width : ℕ) where
  pub name_step : (row : BarRow) → row ≡ get_or rows i row → i < length rows → max (max (text_width row.name) width) (widest_name (drop (i + 1) rows)) ≡ max width (widest_name (drop i rows))
  unfolding widest_name
  name_step row is inside = rw (add-one, drop-cons rows i row inside, ← is) (max_again width (text_width row.name) (widest_name (drop (suc i) rows)))

  pub name_end : length rows ≤ i → max width (widest_name (drop i rows)) ≡ width
  unfolding widest_name
  name_end end = rw (drop_all i rows end) (omega arith)

pub ruleset name_steps = (name_step, name_end)
