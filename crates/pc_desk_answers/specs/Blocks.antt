-- Which entries questions want, and what each owes.
use Rattle.std.specs.Prelude.{◌≡◌, ◌≤◌, ℕ, ◌+◌, List, [], ◌∷◌, ◌++◌, get_or, map, flat_map, Option, Some, None}
use Rattle.std.specs.List.{AllPass, AllZip}
use Rattle.pc_model.specs.declared.schema.Schema.{Schema}
use Rattle.pc_model.specs.declared.row.Row.{Row}
use Rattle.pc_model.specs.declared.constraint.Constraint.{Constraint}
use Rattle.pc_model.specs.declared.query.Query.{Query}
use Rattle.pc_model.specs.Accepted.{AreConstraints}
use Rattle.pc_model.specs.Membership.{in_domain}
use Rattle.pc_model.specs.WellFormed.{IsWellFormed}
use Rattle.pc_files.specs.declared.reading.Observed.{Observed}
use Rattle.pc_files.specs.declared.reading.Script.{Script}
use Rattle.pc_session.specs.declared.line.Line.{Line}
use Rattle.pc_session.specs.declared.line.Line.TheVariants as lines
use Rattle.pc_session.specs.Edited.{Held, after_line}
use Rattle.pc_proof.specs.declared.document.Block.{Block}
use Rattle.pc_proof.specs.Unbroken.{plain_answer, plain_ends}
use Rattle.pc_report.specs.Units.{ArePrintable}
use Rattle.pc_lang.specs.declared.quantile.Quantile.{Quantile}
use Rattle.pc_lang.specs.Canonical.{query_text}
use Rattle.pc_lang.specs.Quantiles.{quantile_text}
use Rattle.pc_group.specs.Answers.{AnswersWanted}
use Rattle.pc_group.specs.Trees.{Told}
use Rattle.pc_group.specs.Wanted.{Wanted, wanted_as, wanted_by}
use Rattle.pc_quantile.specs.declared.answer.QuantileAnswer.{QuantileAnswer}
use Rattle.pc_quantile.specs.Licensed.{Owes}
use Rattle.pc_quantile.specs.Measured.{least_of}
use Rattle.pc_quantile.specs.Shown.{shown as shown_answer}
use Rattle.pc_desk_table.specs.declared.entry.Entry.{Entry}
use Rattle.pc_desk_answers.specs.declared.answers.Scope.{Scope}
use Rattle.pc_desk_answers.specs.declared.question.Question.{Question}
use Rattle.pc_desk_answers.specs.declared.question.Question.TheVariants.{Plain, Share}
use Rattle.pc_desk_answers.specs.declared.entry.Title.{Title}
use Rattle.pc_desk_answers.specs.Entries.{entry_of, group_of}
use Rattle.pc_desk_table.specs.Texts.{shown}

-- what answers are over: what was observed, how many nodes each search may have, and the line of the question, where a script
-- asked it
pub record Ground : Type 0 where
  pub schema : Schema
  pub rows : List Row
  pub constraints : List Constraint
  pub nodes : ℕ
  pub line : Option ℕ

abbrev pub ground_of : Observed → ℕ → Ground
ground_of observed nodes = record { schema = observed.schema; rows = observed.rows; constraints = observed.constraints; nodes = nodes; line = None }

-- .. of what is held at a line of a script
abbrev pub ground_held : Schema → Held → ℕ → ℕ → Ground
ground_held schema held line nodes = record { schema = schema; rows = held.rows; constraints = held.constraints; nodes = nodes; line = Some line }

abbrev pub ground_in : Scope → Ground
ground_in scope = record { schema = scope.schema.now; rows = scope.rows.now; constraints = scope.constraints.now; nodes = scope.nodes; line = scope.line }

-- what answers need of it
pub record IsGround (ground : Ground) : Type 0 where
  pub well_formed : IsWellFormed ground.schema
  pub seen : AllPass (in_domain ground.schema) ground.rows
  pub accepted : AreConstraints ground.schema ground.constraints
  pub some : 1 ≤ ground.nodes
  pub few : ground.nodes ≤ 100_000

-- a block of a query, or a quantile
pub data Asked : Type 0 where
  block : Wanted → Asked
  quantile : Quantile → Asked

abbrev pub asked_by : Schema → Question → List Asked
asked_by schema (Plain query) = map block (wanted_by schema query)
asked_by schema (Share asked) = quantile asked ∷ []

-- what questions ask, one question after the other
unfoldable pub asked : Schema → List Question → List Asked
asked schema questions = flat_map (asked_by schema) questions

-- ---- what an entry owes

abbrev pub block_title : Ground → Wanted → Title
block_title ground w = record { line = ground.line; query = shown (query_text ground.schema w.query); group = group_of ground.schema w.query.group w.name }

-- what is shown of a block of a query, and of the same where nothing is lost
abbrev pub block_entry : Ground → Query → Block → Block → Entry
block_entry ground query answered left =
    entry_of ground.schema query (block_title ground (wanted_as query answered.name)) (plain_answer answered.answer) (plain_answer left.answer)

-- .. of its blocks, one by one
unfoldable pub entries_between : Ground → Query → List Block → List Block → List Entry
entries_between ground query [] lefts = []
entries_between ground query (answered ∷ blocks) [] = []
entries_between ground query (answered ∷ blocks) (left ∷ lefts) = block_entry ground query answered left ∷ entries_between ground query blocks lefts

-- the ends of a block can be printed as values of a query
abbrev pub IsPrinted : Query → Block → Type 0
IsPrinted query answered = ArePrintable query.agg (plain_ends answered.answer.ends)

-- The entry shows an answer to the block, by searches of at most so many nodes each, and an answer to the same where nothing is
-- lost.
pub record ShowsBlock (ground : Ground) (w : Wanted) (entry : Entry) : Type 0 where
  pub answer : Told
  pub left : Told
  pub answers : AnswersWanted ground.nodes ground.schema ground.rows ground.constraints w answer
  pub nothing_lost : AnswersWanted ground.nodes ground.schema ground.rows [] w left
  pub shows : entry ≡ entry_of ground.schema w.query (block_title ground w) (plain_answer answer.block.answer) (plain_answer left.block.answer)

abbrev pub quantile_title : Ground → Quantile → Title
quantile_title ground asked = record { line = ground.line; query = shown (quantile_text ground.schema asked); group = None }

-- what is shown of a quantile, and of the same where nothing is lost
abbrev pub quantile_shown : Ground → Quantile → QuantileAnswer → QuantileAnswer → Entry
quantile_shown ground asked answer left =
    entry_of ground.schema (least_of asked) (quantile_title ground asked) (plain_answer (shown_answer answer)) (plain_answer (shown_answer left))

-- .. to a quantile
pub record ShowsQuantile (ground : Ground) (asked : Quantile) (entry : Entry) : Type 0 where
  pub answer : QuantileAnswer
  pub left : QuantileAnswer
  pub answers : Owes ground.schema ground.rows ground.constraints asked ground.nodes answer
  pub nothing_lost : Owes ground.schema ground.rows [] asked ground.nodes left
  pub shows : entry ≡ quantile_shown ground asked answer left

abbrev pub Shows : Ground → Asked → Entry → Type 0
Shows ground (block w) entry = ShowsBlock ground w entry
Shows ground (quantile asked) entry = ShowsQuantile ground asked entry

-- the entries are those that are asked for, in their order
abbrev pub AreShown : Ground → List Asked → List Entry → Type 0
AreShown ground wanted entries = AllZip (Shows ground) wanted entries

-- ---- other constraints

abbrev pub ground_under : Ground → List Constraint → Ground
ground_under ground constraints = record ground { constraints = constraints }

-- the entries of the same under each of several lists of constraints
abbrev pub AreShownUnder : Ground → List Asked → List (List Constraint) → List (List Entry) → Type 0
AreShownUnder ground wanted lists all =
    AllZip (λ (constraints : List Constraint) (entries : List Entry). AreShown (ground_under ground constraints) wanted entries) lists all

-- ---- the questions of a script

-- what is asked, and of what
pub record Posed : Type 0 where
  pub ground : Ground
  pub asked : Asked

abbrev pub posed_with : Ground → Wanted → Posed
posed_with ground w = record { ground = ground; asked = block w }

-- what a line of this number asks; an edit asks nothing
abbrev pub posed_at : Schema → ℕ → Held → ℕ → Line → List Posed
posed_at schema nodes held number (lines.Edits edit) = []
posed_at schema nodes held number (lines.Asks query) = map (posed_with (ground_held schema held number nodes)) (wanted_by schema query)

-- what lines ask, each of what those before it leave; the first has this place among the numbers
unfoldable pub posed_from : Schema → ℕ → List ℕ → Held → ℕ → List Line → List Posed
posed_from schema nodes numbers held place [] = []
posed_from schema nodes numbers held place (line ∷ rest) =
    posed_at schema nodes held (get_or numbers place 0) line ++ posed_from schema nodes numbers (after_line held line) (place + 1) rest

-- what a script asks, of what is held at its start
abbrev pub posed_by : Schema → ℕ → Held → Script → List Posed
posed_by schema nodes start script = posed_from schema nodes script.numbers start 0 script.lines

abbrev pub ArePosed : List Posed → List Entry → Type 0
ArePosed posed entries = AllZip (λ (p : Posed). Shows p.ground p.asked) posed entries
