-- The line of a block.
use Rattle.std.specs.Prelude.{ℕ, ◌-◌, List, [], ◌∷◌, codes, Option, Some, None}
use Rattle.std.specs.List.{concat}
use Rattle.pc_desk_table.specs.declared.entry.Entry.{Entry}
use Rattle.pc_desk_table.specs.declared.entry.Group.{Group}
use Rattle.pc_desk_draw.specs.declared.axis.Axis.{Axis}
use Rattle.pc_desk_draw.specs.declared.layout.Layout.{Layout}
use Rattle.pc_desk_draw.specs.Bars.{cells, last_place, spaces}
use Rattle.pc_desk_draw.specs.Names.{name_of, name_width}
use Rattle.pc_desk_draw.specs.Places.{drawing_of}
use Rattle.pc_desk_draw.specs.Texts.{answer_text}

-- the name of a group with spaces after it, where the picture has names
abbrev pub name_text : Option ℕ → Option Group → List ℕ
name_text None group = []
name_text (Some width) group = concat (name_of group ∷ spaces (width - name_width group) ∷ codes "  " ∷ [])

abbrev pub bar_text : Option Axis → Entry → List ℕ
bar_text None entry = []
bar_text (Some axis) entry = concat (cells (drawing_of axis last_place entry) 63 ∷ codes "  " ∷ [])

-- a name, a bar where the picture has an axis, and the values or a word
unfoldable pub row_text : Layout → Entry → List ℕ
row_text layout entry =
    concat (codes "  " ∷ name_text layout.names entry.group ∷ bar_text layout.axis entry ∷ answer_text entry ∷ (10 ∷ []) ∷ [])
