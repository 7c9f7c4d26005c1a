-- The rows that are written so far, and those that are left.
use Rattle.std.proofs.Common.{◌≡◌, ℕ, suc, ◌+◌, ◌<◌, ◌≤◌, List, ◌++◌, length, get_or, drop, add-one, drop-cons, append_assoc}
use Rattle.std.proofs.lemmas.List.{append-nil, drop_all}
use Rattle.pc_desk_table.specs.declared.entry.Entry.{Entry}
use Rattle.pc_desk_draw.specs.declared.layout.Layout.{Layout}
use Rattle.pc_desk_draw.specs.Shapes.{row_elements, rows_from}

module _ (entries : List Entry) (i : ℕ) (text : List ℕ) (layout : Layout) (at : ℕ) where
  pub rows_step : (entry : Entry) → entry ≡ get_or entries i entry → i < length entries → (text ++ row_elements layout at entry) ++ rows_from layout (at + 22) (drop (i + 1) entries) ≡ text ++ rows_from layout at (drop i entries)
  unfolding rows_from
  rows_step entry is inside = rw (add-one, drop-cons entries i entry inside, ← is) (append_assoc text (row_elements layout at entry) (rows_from layout (at + 22) (drop (suc i) entries)))

  pub rows_end : length entries ≤ i → text ++ rows_from layout at (drop i entries) ≡ text
  unfolding rows_from
  rows_end end = rw (drop_all i entries end) (append-nil text)

pub ruleset steps = (rows_step, rows_end)
