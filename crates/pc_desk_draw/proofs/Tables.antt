-- Lists that grow by a part for each number.
use Rattle.std.proofs.Common.{◌≡◌, ℕ, ◌+◌, List, [], ◌∷◌, ◌++◌, refl, sym, add-one, append_assoc, append-nil}
use Rattle.pc_desk_draw.specs.declared.place.Drawing.{Drawing}
use Rattle.std.specs.Prelude.{codes, length}
use Rattle.pc_desk_draw.specs.declared.axis.Axis.{Axis}
use Rattle.pc_desk_draw.specs.Bars.{cell, cells, end_put, label_end, label_put, labelled, last_place, ruled, tick_text, with_text}
use Rattle.pc_desk_draw.specs.Elements.{grid_line}
use Rattle.pc_desk_draw.specs.Places.{tick_place}
use Rattle.pc_desk_draw.specs.Shapes.{label_shown, last_pixel, ticks_elements}

pub no_cells : (before : List ℕ) (drawing : Drawing) → before ≡ before ++ cells drawing 0
unfolding cells
no_cells before drawing = sym (append-nil before)

pub cells_more : (before made : List ℕ) (drawing : Drawing) (columns : ℕ) → made ≡ before ++ cells drawing columns → made ++ cell drawing columns ∷ [] ≡ before ++ cells drawing (columns + 1)
unfolding cells
cells_more before made drawing columns is = rw (is, add-one) (append_assoc before (cells drawing columns) (cell drawing columns ∷ []))

pub ruleset cell_steps = (no_cells, cells_more)

module _ (axis : Axis) where
  pub no_ticks : ruled axis 0 ≡ []
  unfolding ruled
  no_ticks = refl

  pub tick_more : (ticks : ℕ) → ruled axis (ticks + 1) ≡ with_text 45 (ruled axis ticks) (tick_place axis last_place ticks) (codes "+")
  unfolding ruled
  tick_more ticks = rw add-one refl

  pub no_labels : labelled axis 0 ≡ []
  unfolding labelled
  no_labels = refl

  pub no_label_end : label_end axis 0 ≡ 0
  unfolding label_end
  no_label_end = refl

  pub label_more : (ticks : ℕ) → labelled axis (ticks + 1) ≡ label_put (labelled axis ticks) (label_end axis ticks) (tick_place axis last_place ticks) (tick_text axis ticks)
  unfolding labelled
  label_more ticks = rw add-one refl

  pub label_end_more : (ticks : ℕ) → label_end axis (ticks + 1) ≡ end_put (label_end axis ticks) (tick_place axis last_place ticks) (length (tick_text axis ticks))
  unfolding label_end
  label_end_more ticks = rw add-one refl

pub ruleset ruled_steps = (no_ticks, tick_more)

pub ruleset label_steps = (no_labels, no_label_end, label_more, label_end_more)

module _ (axis : Axis) (top left height : ℕ) where
  pub no_elements : ticks_elements axis top left height 0 ≡ []
  unfolding ticks_elements
  no_elements = refl

  pub elements_more : (ticks : ℕ) → ticks_elements axis top left height (ticks + 1) ≡ ticks_elements axis top left height ticks ++ grid_line (left + tick_place axis last_pixel ticks) (top + 20) height ++ label_shown (label_end axis ticks) (tick_place axis last_place ticks) top left (tick_text axis ticks)
  unfolding ticks_elements
  elements_more ticks = rw add-one (sym (append_assoc (ticks_elements axis top left height ticks) (grid_line (left + tick_place axis last_pixel ticks) (top + 20) height) (label_shown (label_end axis ticks) (tick_place axis last_place ticks) top left (tick_text axis ticks))))

pub ruleset grid_steps = (no_elements, elements_more, no_label_end, label_end_more)
