-- The widest name, as far as a loop has come.
use Rattle.std.proofs.Common.{◌≡◌, ℕ, suc, ◌+◌, ◌<◌, ◌≤◌, max, List, length, get_or, drop, add-one, drop-cons, arith}
use Rattle.std.proofs.lemmas.List.{drop_all}
use Rattle.pc_desk_table.specs.declared.entry.Entry.{Entry}
use Rattle.pc_desk_draw.specs.Names.{name_width, widest}

pub max_again : (width one more : ℕ) → max (max one width) more ≡ max width (max one more)
max_again width one more = omega arith

module _ (entries : List Entry) (i width : ℕ) where
  pub widest_step : (entry : Entry) → entry ≡ get_or entries i entry → i < length entries → max (max (name_width entry.group) width) (widest (drop (i + 1) entries)) ≡ max width (widest (drop i entries))
  unfolding widest
  widest_step entry is inside = rw (add-one, drop-cons entries i entry inside, ← is) (max_again width (name_width entry.group) (widest (drop (suc i) entries)))

  pub widest_end : length entries ≤ i → max width (widest (drop i entries)) ≡ width
  unfolding widest
  widest_end end = rw (drop_all i entries end) (omega arith)

pub ruleset steps = (widest_step, widest_end)
