-- The column of names of a picture.
use Rattle.std.specs.Prelude.{ℕ, max, Bool, true, false, List, [], ◌∷◌, chars, Option, Some, None, if◌then◌else◌}
use Rattle.std.specs.List.{list_any}
use Rattle.unicode_width.specs.Width.{str_width}
use Rattle.pc_desk_table.specs.declared.entry.Entry.{Entry}
use Rattle.pc_desk_table.specs.declared.entry.Group.{Group}

-- the name of a group, or nothing
abbrev pub name_of : Option Group → List ℕ
name_of None = []
name_of (Some group) = group.name

-- how many columns a name takes
abbrev pub name_width : Option Group → ℕ
name_width group = str_width false (chars (name_of group))

abbrev pub has_name : Option Group → Bool
has_name None = false
has_name (Some group) = true

abbrev pub is_named : Entry → Bool
is_named entry = has_name entry.group

unfoldable pub widest : List Entry → ℕ
widest [] = 0
widest (entry ∷ rest) = max (name_width entry.group) (widest rest)

-- how many columns the names of a picture take; nothing where it has none
unfoldable pub names_width : List Entry → Option ℕ
names_width entries = if list_any is_named entries then Some (widest entries) else None
