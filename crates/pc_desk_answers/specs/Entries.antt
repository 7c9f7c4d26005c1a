-- What is shown of an answer.
use Rattle.std.specs.Prelude.{ℕ, Option, Some, None, option_map, slice_get}
use Rattle.pc_model.specs.declared.schema.Column.{Column}
use Rattle.pc_model.specs.declared.schema.Schema.{Schema}
use Rattle.pc_model.specs.declared.query.Query.{Query}
use Rattle.pc_model.specs.Right.{Answer, End, Lack, Relation, always, impossible, never, possible, silent, sometimes, undecided, unsettled}
use Rattle.pc_report.specs.Report.{kind_name}
use Rattle.pc_report.specs.Units.{frac_of}
use Rattle.pc_desk_table.specs.declared.entry.Entry.{Entry}
use Rattle.pc_desk_table.specs.declared.entry.Group.{Group}
use Rattle.pc_desk_table.specs.declared.entry.Said.{Said}
use Rattle.pc_desk_table.specs.declared.entry.Said.TheVariants as saids
use Rattle.pc_desk_table.specs.declared.entry.SaidLack.{SaidLack}
use Rattle.pc_desk_table.specs.declared.entry.SaidLack.TheVariants as lacks
use Rattle.pc_desk_table.specs.declared.entry.Value.{Value}
use Rattle.pc_desk_answers.specs.declared.entry.Title.{Title}
use Rattle.pc_desk_answers.specs.declared.rounding.Rounding.TheVariants as roundings
use Rattle.pc_desk_answers.specs.Values.{range_of, value_of}

abbrev pub said_of : Relation → Said
said_of (possible runs) = saids.Possible
said_of impossible = saids.Impossible
said_of undecided = saids.Undecided

abbrev pub lack_of : Lack → Option SaidLack
lack_of silent = None
lack_of never = Some lacks.Never
lack_of (sometimes without with') = Some lacks.Sometimes
lack_of always = Some lacks.Always
lack_of unsettled = Some lacks.Undecided

-- what the rows that are left come to: both ends of the answer where nothing is lost
abbrev pub observed_of : Schema → Query → Option (End × End) → Option Value
observed_of schema query ends = option_map (λ (ends : End × End). value_of schema query roundings.Nearest (frac_of ends.0.value)) ends

abbrev pub group_in : Option Column → ℕ → Option Group
group_in None place = None
group_in (Some column) place = Some (record { column = column.name; name = kind_name column.kind place })

-- the group column, and the name of it that the block is for
abbrev pub group_of : Schema → Option ℕ → Option ℕ → Option Group
group_of schema (Some group) (Some place) = group_in (slice_get schema.columns group) place
group_of schema (Some group) None = None
group_of schema None name = None

-- what is shown of an answer, and of the answer to the same where nothing is lost
unfoldable pub entry_of : Schema → Query → Title → Answer → Answer → Entry
entry_of schema query title answer left = record {
  line = title.line;
  query = title.query;
  group = title.group;
  relation = said_of answer.relation;
  lack = lack_of answer.lack;
  observed = observed_of schema query left.ends;
  range = option_map (range_of schema query) answer.ends;
}
