-- The pictures of bars and the rows that are written so far, and those that are left.
use Rattle.std.proofs.Common.{◌≡◌, ℕ, suc, ◌+◌, ◌<◌, ◌≤◌, List, ◌++◌, length, get_or, drop, add-one, drop-cons, append_assoc}
use Rattle.std.proofs.lemmas.List.{append-nil, drop_all}
use Rattle.pc_desk_draw.specs.declared.layout.Layout.{Layout}
use Rattle.pc_desk_draw.specs.declared.segment.BarPicture.{BarPicture}
use Rattle.pc_desk_draw.specs.declared.segment.BarRow.{BarRow}
use Rattle.pc_desk_draw.specs.BarSizes.{bars_height}
use Rattle.pc_desk_draw.specs.Stacked.{bar_row, bar_rows, bars_from, bars_part}

module _ (rows : List BarRow) (i : ℕ) (text : List ℕ) (layout : Layout) (at : ℕ) where
  pub row_step : (row : BarRow) → row ≡ get_or rows i row → i < length rows → (text ++ bar_row layout at row) ++ bar_rows layout (at + 22) (drop (i + 1) rows) ≡ text ++ bar_rows layout at (drop i rows)
  unfolding bar_rows
  row_step row is inside = rw (add-one, drop-cons rows i row inside, ← is) (append_assoc text (bar_row layout at row) (bar_rows layout (at + 22) (drop (suc i) rows)))

  pub row_end : length rows ≤ i → text ++ bar_rows layout at (drop i rows) ≡ text
  unfolding bar_rows
  row_end end = rw (drop_all i rows end) (append-nil text)

pub ruleset row_steps = (row_step, row_end)

module _ (pictures : List BarPicture) (i : ℕ) (text : List ℕ) (top : ℕ) where
  pub part_step : (picture : BarPicture) → picture ≡ get_or pictures i picture → i < length pictures → (text ++ bars_part top picture) ++ bars_from (top + bars_height picture) (drop (i + 1) pictures) ≡ text ++ bars_from top (drop i pictures)
  unfolding bars_from
  part_step picture is inside = rw (add-one, drop-cons pictures i picture inside, ← is) (append_assoc text (bars_part top picture) (bars_from (top + bars_height picture) (drop (suc i) pictures)))

  pub part_end : length pictures ≤ i → text ++ bars_from top (drop i pictures) ≡ text
  unfolding bars_from
  part_end end = rw (drop_all i pictures end) (append-nil text)

pub ruleset part_steps = (part_step, part_end)
