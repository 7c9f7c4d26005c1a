use Rattle.std.proofs.Common.{[], ◌∷◌, refl}
use Rattle.std.proofs.lemmas.Result.{err_from_is_err_and}
use Rattle.pc_model.specs.declared.fault.FileKind.TheVariants as kinds
use Rattle.pc_lang.specs.Quantiles.{quantile_at}
use Rattle.pc_run_words.specs.Commands.{quantile_names}
use Rattle.pc_files.specs.Reads.{found_of}
use Rattle.pc_files.specs.Loading.{reading_of}
use Rattle.pc_files.specs.Outcome.{observed_files}
use Rattle.pc_run.specs.Outcome.{measured_in}
use Rattle.pc_files.proofs.FaultFiles.{quantile_of_word}
use Rattle.pc_files.proofs.ReadFiles.{queries_refused, still_stops, whole_read}
use Rattle.pc_run.proofs.input.read_measured.Goals as goal

pub returns-in_err-observed-clause-read : goal.returns-in_err-observed-clause-read
returns-in_err-observed-clause-read g c =
    let p = err_from_is_err_and c.from_residual.result c.from_residual.ensures.1 in
    let names = quantile_names c.args.command.now in
    let reading = reading_of g.F.Shelf.told g.F.Shelf.leads c.args.files.now c.read_observed.new.files in
    rw (p.1, p.2) (still_stops reading (observed_files names.schema names.rows names.constraints) (measured_in names.query) c.in_err-observed.field-0.0 (c.in_err-observed.ensures.read []))

pub returns-in_err-asked-clause-read : goal.returns-in_err-asked-clause-read
returns-in_err-asked-clause-read g c =
    let p = err_from_is_err_and c.from_residual-in_err-asked.result c.from_residual-in_err-asked.ensures.1 in
    let names = quantile_names c.args.command.now in
    let reading = reading_of g.F.Shelf.told g.F.Shelf.leads c.args.files.now c.read_observed.new.files in
    let schema = c.in_ok-observed.observed.schema in
    rw (p.1, p.2) (queries_refused (measured_in names.query) (kinds.Schema, names.schema) ((kinds.Rows, names.rows) ∷ (kinds.Constraints, names.constraints) ∷ []) reading (found_of c.in_ok-observed.observed) c.in_ok-observed.ensures.read
    (quantile_at schema 1 names.query) (quantile_of_word schema 1 names.query) (λ fault is. rw is refl) c.in_err-asked.field-0.0 c.in_err-asked.ensures.gives)

pub returns-clause-read : goal.returns-clause-read
returns-clause-read g c =
    let names = quantile_names c.args.command.now in
    let observed = c.in_ok-observed.observed in
    whole_read (measured_in names.query) (kinds.Schema, names.schema) ((kinds.Rows, names.rows) ∷ (kinds.Constraints, names.constraints) ∷ []) (reading_of g.F.Shelf.told g.F.Shelf.leads c.args.files.now c.read_observed.new.files) (found_of observed) c.in_ok-observed.ensures.read
    (record { observed = observed; asked = c.in_ok-asked.asked }) (rw c.in_ok-asked.ensures.gives refl)
