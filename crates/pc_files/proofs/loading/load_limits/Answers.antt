use Rattle.std.proofs.Common.{Ok, Err}
use Rattle.std.proofs.lemmas.Result.{err_from_is_err_and}
use Rattle.pc_model.specs.declared.fault.FileKind.TheVariants as kinds
use Rattle.pc_lang.specs.Files.{limits_of}
use Rattle.pc_files.specs.Loading.{reading_of}
use Rattle.pc_files.proofs.FaultFiles.{limits_of_file}
use Rattle.pc_files.proofs.Files.{not_read, read_now}
use Rattle.pc_files.proofs.Keeping.{keeps_read}
use Rattle.pc_files.proofs.loading.load_limits.Goals as goal

pub returns-in_err-load_last-clause-loaded : goal.returns-in_err-load_last-clause-loaded
returns-in_err-load_last-clause-loaded g c =
    let p = err_from_is_err_and c.from_residual.result c.from_residual.ensures.1 in
    let reading = reading_of g.F.Shelf.told g.F.Shelf.leads c.args.files.now c.load_last.new.files in
    rw (p.1, p.2) (not_read (limits_of c.args.schema.now c.args.constraints) kinds.Limits c.args.name.now reading c.in_err-load_last.field-0.0 c.in_err-load_last.ensures.loaded)

pub returns-in_err-read_limits-clause-loaded : goal.returns-in_err-read_limits-clause-loaded
returns-in_err-read_limits-clause-loaded g c =
    let p = err_from_is_err_and c.from_residual-in_err-read_limits.result c.from_residual-in_err-read_limits.ensures.1 in
    let reading = reading_of g.F.Shelf.told g.F.Shelf.leads c.args.files.now c.load_last.new.files in
    let gives = rw c.as_slice.ensures at c.in_err-read_limits.ensures.gives in
    rw (p.1, p.2) (read_now (limits_of c.args.schema.now c.args.constraints) kinds.Limits c.args.name.now reading c.load_last.new.last (Err c.in_err-read_limits.field-0.0) (limits_of_file c.args.schema.now c.args.constraints c.load_last.new.last) c.in_ok-load_last.ensures.loaded gives)

pub returns-clause-loaded : goal.returns-clause-loaded
returns-clause-loaded g c =
    let reading = reading_of g.F.Shelf.told g.F.Shelf.leads c.args.files.now c.load_last.new.files in
    let gives = rw c.as_slice.ensures at c.in_ok-read_limits.ensures.gives in
    read_now (limits_of c.args.schema.now c.args.constraints) kinds.Limits c.args.name.now reading c.load_last.new.last (Ok c.in_ok-read_limits.field-0) (limits_of_file c.args.schema.now c.args.constraints c.load_last.new.last) c.in_ok-load_last.ensures.loaded gives

pub returns-in_err-load_last-clause-kept : goal.returns-in_err-load_last-clause-kept
returns-in_err-load_last-clause-kept g c =
    let p = err_from_is_err_and c.from_residual.result c.from_residual.ensures.1 in
    rw (p.1, p.2) c.in_err-load_last.ensures.kept

pub returns-in_err-read_limits-clause-kept : goal.returns-in_err-read_limits-clause-kept
returns-in_err-read_limits-clause-kept g c =
    let p = err_from_is_err_and c.from_residual-in_err-read_limits.result c.from_residual-in_err-read_limits.ensures.1 in
    rw (p.1, p.2) (keeps_read kinds.Limits c.args.name.now (g.F.Shelf.told c.args.files.now).files c.load_last.new.last c.in_err-read_limits.field-0.0 c.in_ok-load_last.ensures.kept)
