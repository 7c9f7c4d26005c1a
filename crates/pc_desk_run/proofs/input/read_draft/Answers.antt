use Rattle.std.proofs.Common.{◌≡◌, Ok, Err, ap, rules}
use Rattle.std.proofs.lemmas.Result.{err_from_is_err_and}
use Rattle.pc_model.specs.declared.fault.FileKind.TheVariants as kinds
use Rattle.pc_files.specs.Loading.{reading_of}
use Rattle.pc_files.specs.Stops.{stop_of}
use Rattle.pc_files.specs.declared.kept.Kept.{Kept}
use Rattle.pc_files.proofs.Files.{not_read, read_now}
use Rattle.pc_files.proofs.Keeping.{keeps_none, keeps_read, keeps_whole}
use Rattle.pc_desk_words.specs.Calls.{draft_names}
use Rattle.pc_desk_run.specs.Outcome.{drafted_for}
use Rattle.pc_desk_run.proofs.Drafts.{draft_of_file, keeps_draft}
use Rattle.pc_desk_run.proofs.input.read_draft.Goals as goal

pub returns-in_err-kept-clause-read : goal.returns-in_err-kept-clause-read
returns-in_err-kept-clause-read g c =
    let p = err_from_is_err_and c.from_residual.result c.from_residual.ensures.1 in
    let names = draft_names c.args.wish.now in
    let reading = reading_of g.F.Shelf.told g.F.Shelf.leads c.args.files.now c.load_bytes.new.files in
    rw (p.1, p.2) (not_read (drafted_for names) kinds.Rows names.rows reading c.in_err-kept.field-0.0 c.in_err-kept.ensures)

pub returns-in_err-kept-clause-kept : goal.returns-in_err-kept-clause-kept
returns-in_err-kept-clause-kept g c =
    let p = err_from_is_err_and c.from_residual.result c.from_residual.ensures.1 in
    let names = draft_names c.args.wish.now in
    let told = (g.F.Shelf.told c.args.files.now).files in
    rw (p.1, p.2)
    (keeps_draft told names c.args.kept.now c.in_err-kept.field-0.0 (ap (λ (kept : Kept). kept.schema) c.requires)
    (rw c.requires (keeps_none kinds.Rows names.rows told c.in_err-kept.field-0.0 c.in_err-kept.ensures.agrees)))

pub returns-in_err-draft_schema-clause-read : goal.returns-in_err-draft_schema-clause-read
returns-in_err-draft_schema-clause-read g c =
    let p = err_from_is_err_and c.from_residual-in_err-draft_schema.result c.from_residual-in_err-draft_schema.ensures.1 in
    let names = draft_names c.args.wish.now in
    let reading = reading_of g.F.Shelf.told g.F.Shelf.leads c.args.files.now c.load_bytes.new.files in
    let same : c.as_slice-columns.result.now ≡ c.args.wish.now.columns.items = search rules in
    let gives = rw (c.as_slice.ensures, same) at c.in_err-draft_schema.ensures.gives in
    rw (p.1, p.2) (read_now (drafted_for names) kinds.Rows names.rows reading c.in_ok-kept.field-0 (Err c.in_err-draft_schema.field-0.0) (draft_of_file c.in_ok-kept.field-0 names.columns) c.in_ok-kept.ensures gives)

pub returns-in_err-draft_schema-clause-kept : goal.returns-in_err-draft_schema-clause-kept
returns-in_err-draft_schema-clause-kept g c =
    let p = err_from_is_err_and c.from_residual-in_err-draft_schema.result c.from_residual-in_err-draft_schema.ensures.1 in
    let names = draft_names c.args.wish.now in
    let told = (g.F.Shelf.told c.args.files.now).files in
    let kept : Kept = record c.args.kept.now { last = c.in_ok-kept.field-0 } in
    let whole = keeps_whole kinds.Rows names.rows told c.in_ok-kept.field-0 c.in_ok-kept.ensures.agrees in
    rw (p.1, p.2)
    (keeps_draft told names kept (stop_of c.in_err-draft_schema.field-0.0) (ap (λ (kept : Kept). kept.schema) c.requires)
    (keeps_read kinds.Rows names.rows told c.in_ok-kept.field-0 c.in_err-draft_schema.field-0.0 whole))

pub returns-clause-read : goal.returns-clause-read
returns-clause-read g c =
    let names = draft_names c.args.wish.now in
    let reading = reading_of g.F.Shelf.told g.F.Shelf.leads c.args.files.now c.load_bytes.new.files in
    let same : c.as_slice-columns.result.now ≡ c.args.wish.now.columns.items = search rules in
    let gives = rw (c.as_slice.ensures, same) at c.in_ok-draft_schema.ensures.gives in
    read_now (drafted_for names) kinds.Rows names.rows reading c.in_ok-kept.field-0 (Ok c.in_ok-draft_schema.field-0) (draft_of_file c.in_ok-kept.field-0 names.columns) c.in_ok-kept.ensures gives
