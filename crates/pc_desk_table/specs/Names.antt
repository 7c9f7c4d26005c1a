-- How the words of what is shown of a block stand in its texts.
use Rattle.std.specs.Prelude.{ℕ, List, codes}
use Rattle.pc_desk_table.specs.declared.entry.Said.{Said}
use Rattle.pc_desk_table.specs.declared.entry.Said.TheVariants as saids
use Rattle.pc_desk_table.specs.declared.entry.SaidLack.{SaidLack}
use Rattle.pc_desk_table.specs.declared.entry.SaidLack.TheVariants as lacks
use Rattle.pc_desk_table.specs.declared.entry.Mark.{Mark}
use Rattle.pc_desk_table.specs.declared.entry.Mark.TheVariants as marks

abbrev pub said_text : Said → List ℕ
said_text saids.Possible = codes "possible"
said_text saids.Impossible = codes "impossible"
said_text saids.Undecided = codes "undecided"

abbrev pub lack_text : SaidLack → List ℕ
lack_text lacks.Never = codes "never"
lack_text lacks.Sometimes = codes "sometimes"
lack_text lacks.Always = codes "always"
lack_text lacks.Undecided = codes "undecided"

abbrev pub mark_text : Mark → List ℕ
mark_text marks.Exact = codes "exact"
mark_text marks.Outer = codes "outer"
