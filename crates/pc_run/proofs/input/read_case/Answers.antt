use Rattle.std.proofs.Common.{◌≡◌, [], ◌∷◌, refl, rules}
use Rattle.std.proofs.lemmas.Result.{err_from_is_err_and}
use Rattle.pc_model.specs.declared.fault.FileKind.TheVariants as kinds
use Rattle.pc_run_words.specs.Commands.{bound_names}
use Rattle.pc_files.specs.Reads.{found_of}
use Rattle.pc_files.specs.Loading.{reading_of}
use Rattle.pc_files.specs.Outcome.{observed_files, queries_of}
use Rattle.pc_run.specs.Outcome.{case_in}
use Rattle.pc_files.proofs.FaultFiles.{queries_of_words}
use Rattle.pc_files.proofs.ReadFiles.{queries_refused, still_stops, whole_read}
use Rattle.pc_run.proofs.input.read_case.Goals as goal

pub returns-in_err-observed-clause-read : goal.returns-in_err-observed-clause-read
returns-in_err-observed-clause-read g c =
    let p = err_from_is_err_and c.from_residual.result c.from_residual.ensures.1 in
    let names = bound_names c.args.command.now in
    let reading = reading_of g.F.Shelf.told g.F.Shelf.leads c.args.files.now c.read_observed.new.files in
    rw (p.1, p.2) (still_stops reading (observed_files names.schema names.rows names.constraints) (case_in names.queries) c.in_err-observed.field-0.0 (c.in_err-observed.ensures.read []))

pub returns-in_err-queries-clause-read : goal.returns-in_err-queries-clause-read
returns-in_err-queries-clause-read g c =
    let same : c.as_slice.result.now ≡ c.args.command.now.queries.items = search rules in
    let p = err_from_is_err_and c.from_residual-in_err-queries.result c.from_residual-in_err-queries.ensures.1 in
    let names = bound_names c.args.command.now in
    let reading = reading_of g.F.Shelf.told g.F.Shelf.leads c.args.files.now c.read_observed.new.files in
    let schema = c.in_ok-observed.observed.schema in
    rw (p.1, p.2) (queries_refused (case_in names.queries) (kinds.Schema, names.schema) ((kinds.Rows, names.rows) ∷ (kinds.Constraints, names.constraints) ∷ []) reading (found_of c.in_ok-observed.observed) c.in_ok-observed.ensures.read
    (queries_of schema names.queries) (queries_of_words schema 1 names.queries) (λ fault is. rw is refl) c.in_err-queries.field-0.0 (rw same at c.in_err-queries.ensures.gives))

pub returns-clause-read : goal.returns-clause-read
returns-clause-read g c =
    let same : c.as_slice.result.now ≡ c.args.command.now.queries.items = search rules in
    let names = bound_names c.args.command.now in
    let observed = c.in_ok-observed.observed in
    let gives = rw same at c.in_ok-queries.ensures.gives in
    whole_read (case_in names.queries) (kinds.Schema, names.schema) ((kinds.Rows, names.rows) ∷ (kinds.Constraints, names.constraints) ∷ []) (reading_of g.F.Shelf.told g.F.Shelf.leads c.args.files.now c.read_observed.new.files) (found_of observed) c.in_ok-observed.ensures.read
    (record { schema = observed.schema; rows = observed.rows; constraints = observed.constraints; queries = c.in_ok-queries.queries }) (rw gives refl)
