-- The bars of changes: below the range as constraints stand, the range under each change, in three tones.
use Rattle.std.specs.Prelude.{ℕ, ℤ, int_le, int_lt, pos, List, [], ◌∷◌, ◌++◌, codes, map, Option, Some, None, slice_get, if◌then◌else◌}
use Rattle.std.specs.List.{concat, enumerate_from}
use Rattle.pc_model.specs.declared.constraint.Constraint.{Constraint}
use Rattle.pc_desk_draw.specs.declared.segment.BarPicture.{BarPicture}
use Rattle.pc_desk_draw.specs.declared.segment.BarRow.{BarRow}
use Rattle.pc_desk_draw.specs.declared.segment.Legend.{Legend}
use Rattle.pc_desk_table.specs.declared.entry.Entry.{Entry}
use Rattle.pc_desk_table.specs.declared.entry.Group.{Group}
use Rattle.pc_desk_table.specs.declared.entry.Mark.{Mark}
use Rattle.pc_desk_table.specs.declared.entry.Mark.TheVariants as marks
use Rattle.pc_desk_table.specs.declared.entry.Range.{Range}
use Rattle.pc_desk_table.specs.Remarks.{ends_of}
use Rattle.pc_desk_table.specs.Texts.{shown}
use Rattle.pc_desk_weigh.specs.declared.change.Change.{Change}
use Rattle.pc_desk_weigh.specs.declared.weighed.Weighed.{Weighed}
use Rattle.pc_desk_widths.specs.declared.pieces.Ends.{Ends}
use Rattle.pc_desk_widths.specs.Pieces.{ranges_pieces}
use Rattle.pc_desk_widths.specs.Shown.{word_for}
use Rattle.pc_desk_widths.specs.Texts.{change_text, wider_text}
use Rattle.pc_desk_widths.specs.Widths.{entry_at, high_of, low_of, wider_at}

-- grey is what only the constraints as they stand allow, pale what only the change allows
abbrev pub tornado_legend : Legend
tornado_legend = record {
  grey = codes "ruled out by the change";
  blue = codes "possible in both";
  pale = Some (codes "made possible by the change");
}

-- ---- ends

abbrev pub ends_with : Option ℤ → Option ℤ → Option Ends
ends_with None high = None
ends_with (Some low) None = None
ends_with (Some low) (Some high) = if int_le low high then Some (record { low = low; high = high }) else None

-- the ends of a range, where they can be drawn
abbrev pub drawn_ends : Option Entry → Option Ends
drawn_ends entry = ends_with (low_of entry) (high_of entry)

-- ---- texts

abbrev pub bar_name : List Constraint → Option Change → List ℕ
bar_name constraints None = codes "as constraints stand"
bar_name constraints (Some change) = change_text constraints change

abbrev pub mark_words : Mark → List ℕ
mark_words marks.Exact = []
mark_words marks.Outer = codes " (outer)"

-- `12.00 to 15.50`, where each end that is not exact is marked
unfoldable pub range_words : Range → List ℕ
range_words range =
    concat (range.low.value.decimal ∷ mark_words range.low.mark ∷ codes " to " ∷ range.high.value.decimal ∷ mark_words range.high.mark ∷ [])

-- .. or why there is none
abbrev pub entry_words : Entry → Option Range → List ℕ
entry_words entry None = word_for entry.relation entry.lack
entry_words entry (Some range) = range_words range

-- ` (+3.50)`: by how much the range is wider, below 0 where it is narrower
abbrev pub plus_if : ℤ → List ℕ
plus_if number = if int_lt (pos 0) number then codes "+" else []

abbrev pub wider_words : ℕ → Option ℤ → List ℕ
wider_words places None = []
wider_words places (Some wider) = concat (codes " (" ∷ plus_if wider ∷ wider_text places wider ∷ codes ")" ∷ [])

unfoldable pub bar_words : ℕ → Option ℤ → Entry → List ℕ
bar_words places wider entry = entry_words entry (ends_of entry) ++ wider_words places wider

-- ---- rows

abbrev pub name_of : List Constraint → Option Weighed → List ℕ
name_of constraints None = []
name_of constraints (Some weighed) = bar_name constraints weighed.change

abbrev pub text_of : ℕ → Option ℤ → Option Entry → List ℕ
text_of places wider None = []
text_of places wider (Some entry) = shown (bar_words places wider entry)

-- what is at a place for a block, beside what stands
unfoldable pub bar_at : List Constraint → ℕ → List Weighed → ℕ → ℕ → Option ℤ → BarRow
bar_at constraints places all block place wider = record {
  name = name_of constraints (slice_get all place);
  text = text_of places wider (entry_at all place block);
  segments = ranges_pieces (drawn_ends (entry_at all 0 block)) (drawn_ends (entry_at all place block));
}

abbrev pub change_bar : List Constraint → ℕ → List Weighed → ℕ → ℕ → BarRow
change_bar constraints places all block place = bar_at constraints places all block place (wider_at all place block)

-- ---- pictures

abbrev pub group_words : Option Group → List ℕ
group_words None = []
group_words (Some group) = codes " for " ++ group.name

abbrev pub title_words : Option Entry → List ℕ
title_words None = []
title_words (Some entry) = entry.query ++ group_words entry.group

-- what stands, and below it each change of a block, in this order
unfoldable pub picture_at : List Constraint → ℕ → List Weighed → ℕ × List ℕ → BarPicture
picture_at constraints places all entry = record {
  title = shown (title_words (entry_at all 0 entry.0));
  rows = bar_at constraints places all entry.0 0 None ∷ map (change_bar constraints places all entry.0) entry.1;
}

-- for each block one picture
abbrev pub tornado : List Constraint → ℕ → List Weighed → List (List ℕ) → List BarPicture
tornado constraints places all orders = map (picture_at constraints places all) (enumerate_from 0 orders)
