-- The report of a document.
use Rattle.std.specs.Prelude.{ℕ, pos, if◌then◌else◌, List, [], ◌∷◌, ◌++◌, codes, flat_map, Option, Some, None, slice_get}
use Rattle.std.specs.List.{concat}
use Rattle.pc_num.specs.Put.{scaled_text}
use Rattle.pc_num.specs.declared.fraction.Frac.{Frac}
use Rattle.pc_model.specs.declared.schema.Kind.{Kind}
use Rattle.pc_model.specs.declared.schema.Kind.TheVariants.{Int, Dec, Cat}
use Rattle.pc_model.specs.declared.schema.Column.{Column}
use Rattle.pc_model.specs.declared.schema.Schema.{Schema}
use Rattle.pc_model.specs.declared.row.Run.{Run}
use Rattle.pc_model.specs.declared.query.Agg.{Agg}
use Rattle.pc_model.specs.declared.query.Agg.TheVariants as aggs
use Rattle.pc_model.specs.declared.query.Query.{Query}
use Rattle.pc_model.specs.Right.{Answer, End, Lack, Mark, Relation, always, exact, impossible, is_always, is_impossible, never, outer, possible, silent, sometimes, undecided, unsettled}
use Rattle.pc_lang_tokens.specs.Spelling.{name_text}
use Rattle.pc_lang.specs.Canonical.{query_text}
use Rattle.pc_proof.specs.declared.document.Block.{Block}
use Rattle.pc_proof.specs.declared.document.Document.{Document}
use Rattle.pc_proof.specs.Unbroken.{plain_answer}
use Rattle.pc_report.specs.RunLines.{name_at, run_lines}
use Rattle.pc_report.specs.Units.{average_text, frac_of}

-- every line of a report ends with one
abbrev pub line_break : List ℕ
line_break = 10 ∷ []

-- ---- the query and the name

unfoldable pub query_line : Schema → Query → List ℕ
query_line schema query = concat (codes "query " ∷ query_text schema query ∷ line_break ∷ [])

-- the name at a place of a column of names
abbrev pub kind_name : Kind → ℕ → List ℕ
kind_name (Int low high) place = []
kind_name (Dec scale low high) place = []
kind_name (Cat names) place = name_at names (pos place)

abbrev pub group_text : Option Column → ℕ → List ℕ
group_text None place = []
group_text (Some column) place =
    concat (codes "group " ∷ name_text column.name ∷ codes " = " ∷ name_text (kind_name column.kind place) ∷ line_break ∷ [])

-- the group column, and the name of it that the block is for
abbrev pub group_line : Schema → Option ℕ → Option ℕ → List ℕ
group_line schema (Some group) (Some place) = group_text (slice_get schema.columns group) place
group_line schema (Some group) None = []
group_line schema None name = []

-- ---- values

abbrev pub scale_in : Kind → ℕ
scale_in (Int low high) = 0
scale_in (Dec scale low high) = scale
scale_in (Cat names) = 0

abbrev pub scale_at : Option Column → ℕ
scale_at None = 0
scale_at (Some column) = scale_in column.kind

-- the decimals of the query's column
abbrev pub scale_for : Schema → Option ℕ → ℕ
scale_for schema None = 0
scale_for schema (Some place) = scale_at (slice_get schema.columns place)

-- a value of the query
unfoldable pub value_text : Schema → Agg → Option ℕ → Frac → List ℕ
value_text schema aggs.Count column value = scaled_text value.num 0
value_text schema aggs.Sum column value = scaled_text value.num (scale_for schema column)
value_text schema aggs.Min column value = scaled_text value.num (scale_for schema column)
value_text schema aggs.Max column value = scaled_text value.num (scale_for schema column)
value_text schema aggs.Avg column value = average_text (scale_for schema column) value

-- ---- the answer

-- a line, and those of runs after it
unfoldable pub titled_text : Schema → List ℕ → List Run → List ℕ
titled_text schema title runs = concat (title ∷ line_break ∷ run_lines schema runs ∷ [])

-- what is said of an end after its value, with the runs that reach it
abbrev pub mark_text : Schema → Mark → List ℕ
mark_text schema (exact runs) = titled_text schema (codes " exact") runs
mark_text schema outer = codes " outer" ++ line_break

unfoldable pub end_text : Schema → Query → List ℕ → End → List ℕ
end_text schema query name end =
    concat (name ∷ codes " " ∷ value_text schema query.agg query.column (frac_of end.value) ∷ mark_text schema end.mark ∷ [])

abbrev pub ends_text : Schema → Query → Option (End × End) → List ℕ
ends_text schema query None = []
ends_text schema query (Some ends) = end_text schema query (codes "low") ends.0 ++ end_text schema query (codes "high") ends.1

unfoldable pub without_text : Schema → List Run → List ℕ
without_text schema runs = titled_text schema (codes "none sometimes") runs

unfoldable pub with_text : Schema → List Run → List ℕ
with_text schema runs = titled_text schema (codes "some") runs

-- whether the aggregate can lack a value, with runs for which it does and runs for which it does not
abbrev pub lack_text : Schema → Lack → List ℕ
lack_text schema silent = []
lack_text schema never = codes "none never" ++ line_break
lack_text schema (sometimes without with') = without_text schema without ++ with_text schema with'
lack_text schema always = codes "none always" ++ line_break
lack_text schema unsettled = codes "none undecided" ++ line_break

-- an aggregate that never has a value ends the block
abbrev pub values_text : Schema → Query → Lack → Option (End × End) → List ℕ
values_text schema query lack ends = lack_text schema lack ++ (if is_always lack then [] else ends_text schema query ends)

abbrev pub relation_text : Schema → Relation → List ℕ
relation_text schema (possible runs) = titled_text schema (codes "relation possible") runs
relation_text schema impossible = codes "relation impossible" ++ line_break
relation_text schema undecided = codes "relation undecided" ++ line_break

-- an impossible relation ends the block
unfoldable pub answer_text : Schema → Query → Answer → List ℕ
answer_text schema query answer =
    relation_text schema answer.relation ++ (if is_impossible answer.relation then [] else values_text schema query answer.lack answer.ends)

-- ---- blocks

unfoldable pub block_text : Schema → Block → List ℕ
block_text schema block =
    concat (query_line schema block.query ∷ group_line schema block.query.group block.name ∷ answer_text schema block.query (plain_answer block.answer) ∷ [])

-- one block after another
unfoldable pub blocks_text : Schema → List Block → List ℕ
blocks_text schema blocks = flat_map (block_text schema) blocks

abbrev pub report_text : Schema → Document → List ℕ
report_text schema doc = blocks_text schema doc.blocks
