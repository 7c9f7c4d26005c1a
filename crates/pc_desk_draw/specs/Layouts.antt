-- What all rows of a picture have in common.
use Rattle.std.specs.Prelude.{List}
use Rattle.pc_desk_table.specs.declared.entry.Entry.{Entry}
use Rattle.pc_desk_draw.specs.declared.layout.Layout.{Layout}
use Rattle.pc_desk_draw.specs.Axes.{axis_between}
use Rattle.pc_desk_draw.specs.Names.{names_width}
use Rattle.pc_desk_draw.specs.Numbers.{bounds_of}

abbrev pub layout_of : List Entry → Layout
layout_of entries = record { names = names_width entries; axis = axis_between (bounds_of entries) }
