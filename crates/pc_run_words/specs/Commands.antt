-- The names and numbers that the code of a command holds.
use Rattle.std.specs.Prelude.{⊤, map}
use Rattle.pc_run_words.specs.declared.command.Bound.{Bound}
use Rattle.pc_run_words.specs.declared.command.Check.{Check}
use Rattle.pc_run_words.specs.declared.command.Show.{Show}
use Rattle.pc_run_words.specs.declared.command.Conflict.{Conflict}
use Rattle.pc_run_words.specs.declared.command.Quantile.{Quantile}
use Rattle.pc_run_words.specs.declared.command.Session.{Session}
use Rattle.pc_run_words.specs.declared.command.Gen.{Gen}
use Rattle.pc_run_words.specs.declared.command.Command.{Command}
use Rattle.pc_run_words.specs.declared.command.Command.TheVariants as commands
use Rattle.pc_run_words.specs.Words.{BoundNames, CheckNames, ShowNames, ConflictNames, QuantileNames, SessionNames, GenNumbers, Asked, bound, prove, check, show, conflict, quantile, session, gen, IsBudget, IsSize}

abbrev pub bound_names : Bound → BoundNames
bound_names command = record { nodes = command.nodes; schema = command.schema.now; rows = command.rows.now; constraints = command.constraints.now; queries = map (λ text. text.now) command.queries.items }

abbrev pub check_names : Check → CheckNames
check_names command = record { schema = command.schema.now; rows = command.rows.now; constraints = command.constraints.now; document = command.document.now }

abbrev pub show_names : Show → ShowNames
show_names command = record { schema = command.schema.now; constraints = command.constraints.now }

abbrev pub conflict_names : Conflict → ConflictNames
conflict_names command = record { nodes = command.nodes; files = show_names command.files }

abbrev pub quantile_names : Quantile → QuantileNames
quantile_names command =
    record { nodes = command.nodes; schema = command.schema.now; rows = command.rows.now; constraints = command.constraints.now; query = command.query.now }

abbrev pub session_names : Session → SessionNames
session_names command =
    record { nodes = command.nodes; schema = command.schema.now; rows = command.rows.now; constraints = command.constraints.now; script = command.script.now }

abbrev pub gen_numbers : Gen → GenNumbers
gen_numbers command = record { seed = command.seed; size = command.size }

abbrev pub asked_in : Command → Asked
asked_in (commands.Bound command) = bound (bound_names command)
asked_in (commands.Prove command) = prove (bound_names command)
asked_in (commands.Check command) = check (check_names command)
asked_in (commands.Show command) = show (show_names command)
asked_in (commands.Conflict command) = conflict (conflict_names command)
asked_in (commands.Quantile command) = quantile (quantile_names command)
asked_in (commands.Session command) = session (session_names command)
asked_in (commands.Gen command) = gen (gen_numbers command)

-- the numbers of a command are ones that words may ask for
abbrev pub HasNumbers : Command → Type 0
HasNumbers (commands.Bound command) = IsBudget command.nodes
HasNumbers (commands.Prove command) = IsBudget command.nodes
HasNumbers (commands.Check command) = ⊤
HasNumbers (commands.Show command) = ⊤
HasNumbers (commands.Conflict command) = IsBudget command.nodes
HasNumbers (commands.Quantile command) = IsBudget command.nodes
HasNumbers (commands.Session command) = IsBudget command.nodes
HasNumbers (commands.Gen command) = IsSize command.size
