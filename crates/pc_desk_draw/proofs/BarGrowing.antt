-- The size of the pictures of bars so far, and of those that are left.
use Rattle.std.proofs.Common.{◌≡◌, ℕ, suc, ◌+◌, ◌<◌, ◌≤◌, max, List, length, get_or, drop, add-one, drop-cons, refl, arith}
use Rattle.std.proofs.lemmas.List.{drop_all}
use Rattle.pc_desk_draw.specs.declared.segment.BarPicture.{BarPicture}
use Rattle.pc_desk_draw.specs.declared.segment.BarRow.{BarRow}
use Rattle.pc_desk_draw.specs.declared.size.Size.{Size}
use Rattle.pc_desk_draw.specs.BarSizes.{bars_height, bars_width, stacked, widest_text}
use Rattle.pc_desk_draw.specs.Segments.{text_width}
use Rattle.pc_desk_draw.specs.Sizes.{widened}
use Rattle.pc_desk_draw.proofs.Widths.{max_again}

module _ (pictures : List BarPicture) (i : ℕ) (size : Size) where
  pub size_step : (picture : BarPicture) → picture ≡ get_or pictures i picture → i < length pictures → stacked (widened size (bars_width picture) (bars_height picture)) (drop (i + 1) pictures) ≡ stacked size (drop i pictures)
  unfolding stacked
  size_step picture is inside = rw (add-one, drop-cons pictures i picture inside, ← is) refl

  pub size_end : length pictures ≤ i → stacked size (drop i pictures) ≡ size
  unfolding stacked
  size_end end = rw (drop_all i pictures end) refl

pub ruleset sizes = (size_step, size_end)

module _ (rows : List BarRow) (i columns : ℕ) where
  pub text_step : (row : BarRow) → row ≡ get_or rows i row → i < length rows → max (max (text_width row.text) columns) (widest_text (drop (i + 1) rows)) ≡ max columns (widest_text (drop i rows))
  unfolding widest_text
  text_step row is inside = rw (add-one, drop-cons rows i row inside, ← is) (max_again columns (text_width row.text) (widest_text (drop (suc i) rows)))

  pub text_end : length rows ≤ i → max columns (widest_text (drop i rows)) ≡ columns
  unfolding widest_text
  text_end end = rw (drop_all i rows end) (omega arith)

pub ruleset texts = (text_step, text_end)
