use Rattle.std.proofs.Common.{[], ◌∷◌, Ok, refl}
use Rattle.std.proofs.lemmas.Result.{err_from_is_err_and}
use Rattle.pc_model.specs.declared.fault.FileKind.TheVariants as kinds
use Rattle.pc_files.specs.Reads.{found_of}
use Rattle.pc_files.specs.Keeping.{names_of}
use Rattle.pc_files.specs.Loading.{reading_of}
use Rattle.pc_files.specs.Outcome.{Found, held_in, numbered_script, observed_files, script_files, scripted_in}
use Rattle.pc_files.proofs.Keeping.{later_stops}
use Rattle.pc_files.proofs.ReadFiles.{at_next, still_stops, stops_here, whole_read, with_script}
use Rattle.pc_files.proofs.reading.read_scripted_keeping.Goals as goal

pub returns-in_err-observed-clause-read : goal.returns-in_err-observed-clause-read
returns-in_err-observed-clause-read g c =
    let p = err_from_is_err_and c.from_residual.result c.from_residual.ensures.1 in
    let reading = reading_of g.F.Shelf.told g.F.Shelf.leads c.args.files.now c.read_observed_keeping.new.files in
    let files = script_files c.args.schema.now c.args.rows.now c.args.constraints.now c.args.script.now in
    rw (p.1, p.2) (still_stops reading files (λ (found : Found). Ok (scripted_in found)) c.in_err-observed.field-0.0 (c.in_err-observed.ensures.read ((kinds.Script, c.args.script.now) ∷ [])))

pub returns-in_err-script-clause-read : goal.returns-in_err-script-clause-read
returns-in_err-script-clause-read g c =
    let p = err_from_is_err_and c.from_residual-in_err-script.result c.from_residual-in_err-script.ensures.1 in
    let told = g.F.Shelf.told in
    let leads = g.F.Shelf.leads in
    let old = c.args.files.now in
    let found = found_of c.in_ok-observed.observed in
    let front = observed_files c.args.schema.now c.args.rows.now c.args.constraints.now in
    rw (p.1, p.2) (stops_here told leads old c.read_observed_keeping.new.files c.load_script.new.files front found c.in_ok-observed.ensures.read kinds.Script c.args.script.now (numbered_script found.schema (held_in found)) (with_script found) (λ shelf. refl)
    [] (λ (found : Found). Ok (scripted_in found)) c.in_err-script.field-0.0 c.in_err-script.ensures.loaded)

pub returns-clause-read : goal.returns-clause-read
returns-clause-read g c =
    let told = g.F.Shelf.told in
    let leads = g.F.Shelf.leads in
    let old = c.args.files.now in
    let found = found_of c.in_ok-observed.observed in
    let all = with_script found c.in_ok-script.script in
    let front = observed_files c.args.schema.now c.args.rows.now c.args.constraints.now in
    let at_last = at_next told leads old c.read_observed_keeping.new.files c.load_script.new.files front found c.in_ok-observed.ensures.read kinds.Script c.args.script.now (numbered_script found.schema (held_in found)) (with_script found) (λ shelf. refl)
    c.in_ok-script.script c.in_ok-script.ensures.loaded in
    whole_read (λ (found : Found). Ok (scripted_in found)) (kinds.Schema, c.args.schema.now) ((kinds.Rows, c.args.rows.now) ∷ (kinds.Constraints, c.args.constraints.now) ∷ (kinds.Script, c.args.script.now) ∷ []) (reading_of told leads old c.load_script.new.files) all at_last (scripted_in all) refl

pub returns-in_err-observed-clause-kept : goal.returns-in_err-observed-clause-kept
returns-in_err-observed-clause-kept g c =
    let p = err_from_is_err_and c.from_residual.result c.from_residual.ensures.1 in
    rw (p.1, p.2) (λ limits. c.in_err-observed.ensures.kept c.args.script.now limits)

pub returns-in_err-script-clause-kept : goal.returns-in_err-script-clause-kept
returns-in_err-script-clause-kept g c =
    let p = err_from_is_err_and c.from_residual-in_err-script.result c.from_residual-in_err-script.ensures.1 in
    let told = g.F.Shelf.told in
    let reading = reading_of told g.F.Shelf.leads c.read_observed_keeping.new.files c.load_script.new.files in
    rw (p.1, p.2) (λ limits. later_stops (told c.args.files.now).files (names_of c.args.schema.now c.args.rows.now c.args.constraints.now c.args.script.now limits) (record c.read_observed_keeping.new.kept { last = c.load_script.new.last }) kinds.Script reading (told c.read_observed_keeping.new.files).files c.in_err-script.field-0.0
    c.in_ok-observed.ensures.read.few.files_stay c.in_err-script.ensures.loaded.loads c.in_err-script.ensures.kept (c.in_ok-observed.ensures.kept c.args.script.now limits))

pub returns-clause-kept : goal.returns-clause-kept
returns-clause-kept g c = λ limits. c.in_ok-observed.ensures.kept c.args.script.now limits
