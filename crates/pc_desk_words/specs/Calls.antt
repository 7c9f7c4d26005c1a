-- What the code of a call holds, and what words come to.
use Rattle.std.specs.Prelude.{◌≡◌, ◌≢◌, ◌≤◌, ⊤, ℕ, true, false, List, [], map, length, Option, Some, None, IfSome, option_map}
use Rattle.clap.specs.declared.error.kind.ErrorKind.{ErrorKind}
use Rattle.clap.specs.declared.error.kind.ErrorKind.TheVariants.{OutOfMemory}
use Rattle.pc_desk_words.specs.Words.{Asked, AskNames, FileNames, DraftNames, HeadNames, HistoryNames, IsBudget, IsLoss, IsScale, LimitNames, OpensNames, SessionNames, SqlNames, TrialNames, WeighNames, WhyNames, MayHelp, MayRefuse, ask, asked_of, draft, history, is_request, limit, opens, session, sql, trial, weigh, why, with_files}
use Rattle.pc_desk_words.specs.Program.{most_widen}
use Rattle.pc_desk_words.specs.declared.call.Ask.{Ask}
use Rattle.pc_desk_words.specs.declared.call.Call.{Call}
use Rattle.pc_desk_words.specs.declared.call.Call.TheVariants as calls
use Rattle.pc_desk_words.specs.declared.call.Draft.{Draft}
use Rattle.pc_desk_words.specs.declared.call.Files.{Files}
use Rattle.pc_desk_words.specs.declared.call.Head.{Head}
use Rattle.pc_desk_words.specs.declared.call.History.{History}
use Rattle.pc_desk_words.specs.declared.call.Limit.{Limit}
use Rattle.pc_desk_words.specs.declared.call.Opens.{Opens}
use Rattle.pc_desk_words.specs.declared.call.Session.{Session}
use Rattle.pc_desk_words.specs.declared.call.Sql.{Sql}
use Rattle.pc_desk_words.specs.declared.call.Trial.{Trial}
use Rattle.pc_desk_words.specs.declared.call.Weigh.{Weigh}
use Rattle.pc_desk_words.specs.declared.call.Why.{Why}

abbrev pub file_names : Files → FileNames
file_names files = record { schema = files.schema.now; rows = files.rows.now; constraints = files.constraints.now }

abbrev pub head_names : Head → HeadNames
head_names head = record { nodes = head.nodes; files = file_names head.files }

abbrev pub ask_names : Ask → AskNames
ask_names call =
    record { form = call.form; nodes = call.nodes; files = file_names call.files; queries = map (λ text. text.now) call.queries.items }

abbrev pub session_names : Session → SessionNames
session_names call =
    record { form = call.form; nodes = call.nodes; files = file_names call.files; script = call.script.now }

abbrev pub why_names : Why → WhyNames
why_names call =
    record { form = call.form; nodes = call.nodes; files = file_names call.files; queries = map (λ text. text.now) call.queries.items }

abbrev pub weigh_names : Weigh → WeighNames
weigh_names call = record {
  form = call.form;
  nodes = call.nodes;
  by = option_map (λ text. text.now) call.by;
  sorted = call.sorted;
  files = file_names call.files;
  query = call.query.now;
}

abbrev pub trial_names : Trial → TrialNames
trial_names call = record { form = call.form; scale = call.scale; files = file_names call.files }

abbrev pub opens_names : Opens → OpensNames
opens_names call = record { form = call.form; files = file_names call.files }

abbrev pub history_names : History → HistoryNames
history_names call = record {
  files = with_files call.schema.now call.rows.now [];
  by = call.by.now;
  chosen = option_map (λ text. text.now) call.chosen;
  per = option_map (λ text. text.now) call.per;
  widen = call.widen;
  lost = call.lost;
}

abbrev pub limit_names : Limit → LimitNames
limit_names call = record { files = file_names call.files; limits = call.limits.now }

abbrev pub sql_names : Sql → SqlNames
sql_names call = record { files = file_names call.files; table = call.table.now }

abbrev pub draft_names : Draft → DraftNames
draft_names call = record { rows = call.rows.now; columns = map (λ text. text.now) call.columns.items }

-- what was found is this call
abbrev pub Holds : Option Asked → Call → Type 0
Holds asked (calls.Ask call) = asked ≡ Some (ask (ask_names call))
Holds asked (calls.Session call) = asked ≡ Some (session (session_names call))
Holds asked (calls.Why call) = asked ≡ Some (why (why_names call))
Holds asked (calls.Weigh call) = asked ≡ Some (weigh (weigh_names call))
Holds asked (calls.Trial call) = asked ≡ Some (trial (trial_names call))
Holds asked (calls.Opens call) = asked ≡ Some (opens (opens_names call))
Holds asked (calls.History call) = asked ≡ Some (history (history_names call))
Holds asked (calls.Limit call) = asked ≡ Some (limit (limit_names call))
Holds asked (calls.Sql call) = asked ≡ Some (sql (sql_names call))
Holds asked (calls.Draft call) = asked ≡ Some (draft (draft_names call))
Holds asked (calls.Shows text) = ⊥
Holds asked (calls.Refused text) = ⊥

-- or no call
abbrev pub HoldsIf : Option Asked → Option Call → Type 0
HoldsIf asked None = asked ≡ None
HoldsIf asked (Some call) = Holds asked call

-- what is told of an error of this kind: want of memory is told elsewhere
abbrev pub Tells : ErrorKind → Call → Type 0
Tells kind (calls.Ask call) = ⊥
Tells kind (calls.Session call) = ⊥
Tells kind (calls.Why call) = ⊥
Tells kind (calls.Weigh call) = ⊥
Tells kind (calls.Trial call) = ⊥
Tells kind (calls.Opens call) = ⊥
Tells kind (calls.History call) = ⊥
Tells kind (calls.Limit call) = ⊥
Tells kind (calls.Sql call) = ⊥
Tells kind (calls.Draft call) = ⊥
Tells kind (calls.Shows text) = is_request kind ≡ true
Tells kind (calls.Refused text) = (is_request kind ≡ false) × (kind ≢ OutOfMemory)

abbrev pub IsRefusal : Call → Type 0
IsRefusal (calls.Ask call) = ⊥
IsRefusal (calls.Session call) = ⊥
IsRefusal (calls.Why call) = ⊥
IsRefusal (calls.Weigh call) = ⊥
IsRefusal (calls.Trial call) = ⊥
IsRefusal (calls.Opens call) = ⊥
IsRefusal (calls.History call) = ⊥
IsRefusal (calls.Limit call) = ⊥
IsRefusal (calls.Sql call) = ⊥
IsRefusal (calls.Draft call) = ⊥
IsRefusal (calls.Shows text) = ⊥
IsRefusal (calls.Refused text) = ⊤

-- the words are this call; or they are none, and help or a refusal is told as they ask for it
abbrev pub Reads : List (List ℕ) → Call → Type 0
Reads words (calls.Ask call) = asked_of words ≡ Some (ask (ask_names call))
Reads words (calls.Session call) = asked_of words ≡ Some (session (session_names call))
Reads words (calls.Why call) = asked_of words ≡ Some (why (why_names call))
Reads words (calls.Weigh call) = asked_of words ≡ Some (weigh (weigh_names call))
Reads words (calls.Trial call) = asked_of words ≡ Some (trial (trial_names call))
Reads words (calls.Opens call) = asked_of words ≡ Some (opens (opens_names call))
Reads words (calls.History call) = asked_of words ≡ Some (history (history_names call))
Reads words (calls.Limit call) = asked_of words ≡ Some (limit (limit_names call))
Reads words (calls.Sql call) = asked_of words ≡ Some (sql (sql_names call))
Reads words (calls.Draft call) = asked_of words ≡ Some (draft (draft_names call))
Reads words (calls.Shows text) = (asked_of words ≡ None) × MayHelp words
Reads words (calls.Refused text) = (asked_of words ≡ None) × MayRefuse words

-- the numbers of a call are ones that words may ask for, and something is asked
abbrev pub HasBudget : Call → Type 0
HasBudget (calls.Ask call) = IsBudget call.nodes × (1 ≤ length call.queries.items)
HasBudget (calls.Session call) = IsBudget call.nodes
HasBudget (calls.Why call) = IsBudget call.nodes × (1 ≤ length call.queries.items)
HasBudget (calls.Weigh call) = IsBudget call.nodes
HasBudget (calls.Trial call) = IsScale call.scale
HasBudget (calls.Opens call) = ⊤
HasBudget (calls.History call) = (call.widen ≤ most_widen) × IfSome call.lost IsLoss
HasBudget (calls.Limit call) = ⊤
HasBudget (calls.Sql call) = ⊤
HasBudget (calls.Draft call) = ⊤
HasBudget (calls.Shows text) = ⊤
HasBudget (calls.Refused text) = ⊤
