use Rattle.std.proofs.Common.{[], ◌∷◌, refl}
use Rattle.std.proofs.lemmas.Result.{err_from_is_err_and}
use Rattle.pc_model.specs.declared.fault.FileKind.TheVariants as kinds
use Rattle.pc_run_words.specs.Commands.{check_names}
use Rattle.pc_run_words.specs.Words.{check}
use Rattle.pc_run.specs.declared.input.Input.TheVariants.{Claims}
use Rattle.pc_files.specs.Reads.{found_of}
use Rattle.pc_files.specs.Loading.{reading_of}
use Rattle.pc_files.specs.Outcome.{observed_files, whole}
use Rattle.pc_run.specs.Outcome.{claim_in, files_of, input_in}
use Rattle.pc_files.proofs.ReadFiles.{at_next, still_stops, stops_here, whole_read, with_bytes}
use Rattle.pc_run.proofs.input.read_claim.Goals as goal

pub returns-in_err-observed-clause-read : goal.returns-in_err-observed-clause-read
returns-in_err-observed-clause-read g c =
    let p = err_from_is_err_and c.from_residual.result c.from_residual.ensures.1 in
    let names = check_names c.args.command.now in
    let reading = reading_of g.F.Shelf.told g.F.Shelf.leads c.args.files.now c.read_observed.new.files in
    rw (p.1, p.2) (still_stops reading (files_of (check names)) (input_in (check names)) c.in_err-observed.field-0.0 (c.in_err-observed.ensures.read ((kinds.Document, names.document) ∷ [])))

pub returns-in_err-bytes-clause-read : goal.returns-in_err-bytes-clause-read
returns-in_err-bytes-clause-read g c =
    let p = err_from_is_err_and c.from_residual-in_err-bytes.result c.from_residual-in_err-bytes.ensures.1 in
    let told = g.F.Shelf.told in
    let leads = g.F.Shelf.leads in
    let old = c.args.files.now in
    let names = check_names c.args.command.now in
    let found = found_of c.in_ok-observed.observed in
    rw (p.1, p.2) (stops_here told leads old c.read_observed.new.files c.load_bytes.new.files (observed_files names.schema names.rows names.constraints) found c.in_ok-observed.ensures.read kinds.Document names.document whole (with_bytes found) (λ shelf. refl)
    [] (input_in (check names)) c.in_err-bytes.field-0.0 c.in_err-bytes.ensures)

pub returns-clause-read : goal.returns-clause-read
returns-clause-read g c =
    let told = g.F.Shelf.told in
    let leads = g.F.Shelf.leads in
    let old = c.args.files.now in
    let names = check_names c.args.command.now in
    let found = found_of c.in_ok-observed.observed in
    let all = with_bytes found c.in_ok-bytes.bytes in
    let at_last = at_next told leads old c.read_observed.new.files c.load_bytes.new.files (observed_files names.schema names.rows names.constraints) found c.in_ok-observed.ensures.read kinds.Document names.document whole (with_bytes found) (λ shelf. refl)
    c.in_ok-bytes.bytes c.in_ok-bytes.ensures in
    whole_read (input_in (check names)) (kinds.Schema, names.schema) ((kinds.Rows, names.rows) ∷ (kinds.Constraints, names.constraints) ∷ (kinds.Document, names.document) ∷ []) (reading_of told leads old c.load_bytes.new.files) all at_last (Claims (claim_in all)) refl
