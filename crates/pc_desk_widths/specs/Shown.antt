-- What is shown of the ranges of a question as constraints stand and under each change.
use Rattle.std.specs.Prelude.{ℕ, ℤ, nat_lt, Bool, true, false, List, [], ◌∷◌, ◌++◌, codes, flat_map, length, Option, Some, None, if◌then◌else◌}
use Rattle.std.specs.List.{enumerate_from}
use Rattle.pc_model.specs.declared.constraint.Constraint.{Constraint}
use Rattle.pc_desk_table.specs.declared.entry.Entry.{Entry}
use Rattle.pc_desk_table.specs.declared.entry.Group.{Group}
use Rattle.pc_desk_table.specs.declared.entry.Range.{Range}
use Rattle.pc_desk_table.specs.declared.entry.Said.{Said}
use Rattle.pc_desk_table.specs.declared.entry.Said.TheVariants as saids
use Rattle.pc_desk_table.specs.declared.entry.SaidLack.{SaidLack}
use Rattle.pc_desk_table.specs.declared.entry.SaidLack.TheVariants as lacks
use Rattle.pc_desk_table.specs.declared.sheet.Cell.{Cell}
use Rattle.pc_desk_table.specs.declared.sheet.Cell.TheVariants.{Empty, Word}
use Rattle.pc_desk_table.specs.declared.sheet.Sheet.{Sheet}
use Rattle.pc_desk_table.specs.declared.sheet.Title.{Title}
use Rattle.pc_desk_table.specs.Lines.{has_groups}
use Rattle.pc_desk_table.specs.Names.{mark_text}
use Rattle.pc_desk_table.specs.Remarks.{ends_of}
use Rattle.pc_desk_weigh.specs.declared.change.Change.{Change}
use Rattle.pc_desk_weigh.specs.declared.weighed.Weighed.{Weighed}
use Rattle.pc_desk_widths.specs.Texts.{change_text, wider_text}
use Rattle.pc_desk_widths.specs.Widths.{change_in, entry_at, first_entries, wider_at}

-- ---- titles

abbrev pub left : List ℕ → Title
left name = record { name = name; right = false }

abbrev pub right : List ℕ → Title
right name = record { name = name; right = true }

abbrev pub range_titles : List Title
range_titles =
    right (codes "low") ∷ left (codes "low_mark") ∷ right (codes "high") ∷ left (codes "high_mark") ∷ right (codes "width")
    ∷ right (codes "wider") ∷ []

-- groups have a column only where there are some
abbrev pub weigh_titles : Bool → List Title
weigh_titles true = left (codes "change") ∷ left (codes "group") ∷ range_titles
weigh_titles false = left (codes "change") ∷ range_titles

abbrev pub are_grouped : List Weighed → Bool
are_grouped all = has_groups (first_entries all)

-- ---- cells

abbrev pub change_cell : List Constraint → Option Change → Cell
change_cell constraints None = Empty
change_cell constraints (Some change) = Word (change_text constraints change)

abbrev pub name_cell : Option Group → Cell
name_cell None = Empty
name_cell (Some group) = Word group.name

abbrev pub group_cell : Option Entry → Cell
group_cell None = Empty
group_cell (Some entry) = name_cell entry.group

abbrev pub width_cell : List ℕ → Cell
width_cell [] = Empty
width_cell (byte ∷ rest) = Word (byte ∷ rest)

-- the ends, what is known of each, and the width
abbrev pub range_cells : Range → List Cell
range_cells range =
    Word range.low.value.decimal ∷ Word (mark_text range.low.mark) ∷ Word range.high.value.decimal ∷ Word (mark_text range.high.mark)
    ∷ width_cell range.width ∷ []

-- in place of a range
abbrev pub word_cells : Cell → List Cell
word_cells word = Empty ∷ word ∷ Empty ∷ Empty ∷ Empty ∷ []

abbrev pub lack_word : Option SaidLack → List ℕ
lack_word None = codes "no value"
lack_word (Some lacks.Never) = codes "no value"
lack_word (Some lacks.Sometimes) = codes "no value"
lack_word (Some lacks.Always) = codes "no value"
lack_word (Some lacks.Undecided) = codes "undecided"

-- why there is no range
abbrev pub word_for : Said → Option SaidLack → List ℕ
word_for saids.Possible lack = lack_word lack
word_for saids.Impossible lack = codes "impossible"
word_for saids.Undecided lack = codes "undecided"

abbrev pub cells_for : Entry → Option Range → List Cell
cells_for entry None = word_cells (Word (word_for entry.relation entry.lack))
cells_for entry (Some range) = range_cells range

abbrev pub entry_cells : Option Entry → List Cell
entry_cells None = word_cells Empty
entry_cells (Some entry) = cells_for entry (ends_of entry)

abbrev pub wider_cell : ℕ → Option ℤ → Cell
wider_cell places None = Empty
wider_cell places (Some wider) = Word (wider_text places wider)

-- the change, and the group where groups have a column
abbrev pub front_cells : Bool → Cell → Cell → List Cell
front_cells true change group = change ∷ group ∷ []
front_cells false change group = change ∷ []

abbrev pub end_cells : ℕ → List Weighed → ℕ → ℕ → List Cell
end_cells places all block place = entry_cells (entry_at all place block) ++ wider_cell places (wider_at all place block) ∷ []

-- ---- rows

module _ (constraints : List Constraint) (places : ℕ) (all : List Weighed) where
  -- what is shown of a block at a place
  abbrev pub cells_at : ℕ → ℕ → List Cell
  cells_at block place =
      front_cells (are_grouped all) (change_cell constraints (change_in all place)) (group_cell (entry_at all place block))
      ++ end_cells places all block place

  -- .. where that place is there
  abbrev pub rows_at : ℕ → ℕ → List (List Cell)
  rows_at block place = if nat_lt place (length all) then cells_at block place ∷ [] else []

  -- as constraints stand, and then under each change in the order of the block
  abbrev pub block_rows : ℕ × List ℕ → List (List Cell)
  block_rows turn = rows_at turn.0 0 ++ flat_map (rows_at turn.0) turn.1

  -- the blocks one after the other
  abbrev pub weigh_rows : List (List ℕ) → List (List Cell)
  weigh_rows orders = flat_map block_rows (enumerate_from 0 orders)

abbrev pub weigh_sheet : List Constraint → ℕ → List Weighed → List (List ℕ) → Sheet
weigh_sheet constraints places all orders = record { titles = weigh_titles (are_grouped all); rows = weigh_rows constraints places all orders }
