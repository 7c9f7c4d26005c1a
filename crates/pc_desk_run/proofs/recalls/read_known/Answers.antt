use Rattle.std.proofs.Common.{[], ◌∷◌, get_or, refl}
use Rattle.std.proofs.lemmas.Result.{err_from_is_err_and}
use Rattle.pc_model.specs.declared.fault.FileKind.TheVariants as kinds
use Rattle.pc_lang.specs.Files.{query_at, query_from}
use Rattle.pc_files.specs.Loading.{reading_of}
use Rattle.pc_files.proofs.FaultFiles.{placed_of}
use Rattle.pc_files.proofs.Keeping.{query_stops}
use Rattle.pc_files.proofs.ReadFiles.{queries_refused, still_stops, whole_read}
use Rattle.pc_desk_run.specs.Inputs.{found_table, names_in}
use Rattle.pc_desk_run.specs.Outcome.{known_in, table_files}
use Rattle.pc_desk_run.specs.Texts.{named_of}
use Rattle.pc_desk_run.proofs.recalls.read_known.Goals as goal

pub returns-in_err-table-clause-read : goal.returns-in_err-table-clause-read
returns-in_err-table-clause-read g c =
    let p = err_from_is_err_and c.from_residual.result c.from_residual.ensures.1 in
    let names = named_of c.args.sources.now in
    let reading = reading_of g.F.Shelf.told g.F.Shelf.leads c.args.files.now c.read_table.new.files in
    rw (p.1, p.2) (still_stops reading (table_files names.files) (known_in (get_or names.queries 0 [])) c.in_err-table.field-0.0 c.in_err-table.ensures.read)

pub returns-in_err-query-clause-read : goal.returns-in_err-query-clause-read
returns-in_err-query-clause-read g c =
    let p = err_from_is_err_and c.from_residual-in_err-query.result c.from_residual-in_err-query.ensures.1 in
    let names = named_of c.args.sources.now in
    let text = get_or names.queries 0 [] in
    let table = c.in_ok-table.table in
    let reading = reading_of g.F.Shelf.told g.F.Shelf.leads c.args.files.now c.read_table.new.files in
    rw (p.1, p.2) (queries_refused (known_in text) (kinds.Schema, names.files.schema) ((kinds.Rows, names.files.rows) ∷ []) reading (found_table table) c.in_ok-table.ensures.read
    (query_at table.schema 1 text) (placed_of kinds.Query 1 (query_from table.schema text)) (λ fault is. rw is refl) c.in_err-query.field-0.0 (rw c.query_at.ensures at c.in_err-query.ensures.gives))

pub returns-clause-read : goal.returns-clause-read
returns-clause-read g c =
    let names = named_of c.args.sources.now in
    let text = get_or names.queries 0 [] in
    let table = c.in_ok-table.table in
    let gives = rw c.query_at.ensures at c.in_ok-query.ensures.gives in
    whole_read (known_in text) (kinds.Schema, names.files.schema) ((kinds.Rows, names.files.rows) ∷ []) (reading_of g.F.Shelf.told g.F.Shelf.leads c.args.files.now c.read_table.new.files) (found_table table) c.in_ok-table.ensures.read
    (record { schema = table.schema; rows = table.rows; query = c.in_ok-query.query }) (rw gives refl)

pub returns-in_err-table-clause-kept : goal.returns-in_err-table-clause-kept
returns-in_err-table-clause-kept g c =
    let p = err_from_is_err_and c.from_residual.result c.from_residual.ensures.1 in
    let sources = c.args.sources.now in
    rw (p.1, p.2) (c.in_err-table.ensures.kept sources.files.constraints.now sources.script.now sources.limits.now)

pub returns-in_err-query-clause-kept : goal.returns-in_err-query-clause-kept
returns-in_err-query-clause-kept g c =
    let p = err_from_is_err_and c.from_residual-in_err-query.result c.from_residual-in_err-query.ensures.1 in
    let sources = c.args.sources.now in
    let names = named_of sources in
    let text = get_or names.queries 0 [] in
    let schema = c.in_ok-table.table.schema in
    rw (p.1, p.2) (query_stops (g.F.Shelf.told c.args.files.now).files (names_in names) c.read_table.new.kept
    (query_at schema 1 text) (placed_of kinds.Query 1 (query_from schema text)) c.in_err-query.field-0.0 (rw c.query_at.ensures at c.in_err-query.ensures.gives)
    (c.in_ok-table.ensures.kept sources.files.constraints.now sources.script.now sources.limits.now))

pub returns-clause-kept : goal.returns-clause-kept
returns-clause-kept g c =
    let sources = c.args.sources.now in
    c.in_ok-table.ensures.kept sources.files.constraints.now sources.script.now sources.limits.now
