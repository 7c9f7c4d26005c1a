use Rattle.std.proofs.lemmas.Result.{err_from_is_err_and}
use Rattle.pc_files.proofs.Keeping.{keeps_none, keeps_whole}
use Rattle.pc_files.proofs.loading.load_last.Goals as goal

pub returns-in_err-last-clause-loaded : goal.returns-in_err-last-clause-loaded
returns-in_err-last-clause-loaded g c =
    let p = err_from_is_err_and c.from_residual.result c.from_residual.ensures.1 in
    rw (p.1, p.2) c.in_err-last.ensures

pub returns-in_err-last-clause-kept : goal.returns-in_err-last-clause-kept
returns-in_err-last-clause-kept g c =
    let p = err_from_is_err_and c.from_residual.result c.from_residual.ensures.1 in
    rw (p.1, p.2) (rw c.new.ensures (keeps_none c.args.file c.args.name.now (g.F.Shelf.told c.args.files.now).files c.in_err-last.field-0.0 c.in_err-last.ensures.agrees))

pub returns-clause-kept : goal.returns-clause-kept
returns-clause-kept g c = keeps_whole c.args.file c.args.name.now (g.F.Shelf.told c.args.files.now).files c.in_ok-last.field-0 c.in_ok-last.ensures.agrees
