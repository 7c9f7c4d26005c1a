use Rattle.std.proofs.Common.{[], ◌∷◌, Ok, refl}
use Rattle.std.proofs.lemmas.Result.{err_from_is_err_and}
use Rattle.pc_model.specs.declared.fault.FileKind.TheVariants as kinds
use Rattle.pc_schema.specs.SchemaFile.{schema_of}
use Rattle.pc_rows.specs.RowFile.{rows_of}
use Rattle.pc_files.specs.Outcome.{nothing}
use Rattle.pc_files.specs.Keeping.{names_of}
use Rattle.pc_files.specs.Loading.{reading_of}
use Rattle.pc_files.proofs.Keeping.{later_stops, schema_stops}
use Rattle.pc_files.proofs.ReadFiles.{at_next, at_start, stops_here, with_rows, with_schema}
use Rattle.pc_desk_words.specs.Calls.{file_names}
use Rattle.pc_desk_run.proofs.recalls.read_table.Goals as goal

pub returns-in_err-schema-clause-read : goal.returns-in_err-schema-clause-read
returns-in_err-schema-clause-read g c =
    let p = err_from_is_err_and c.from_residual.result c.from_residual.ensures.1 in
    let told = g.F.Shelf.told in
    let leads = g.F.Shelf.leads in
    let old = c.args.files.now in
    let names = file_names c.args.names in
    rw (p.1, p.2) (stops_here told leads old old c.load_schema.new.files [] nothing (at_start told leads old) kinds.Schema names.schema schema_of (with_schema nothing) (λ shelf. refl)
    ((kinds.Rows, names.rows) ∷ []) (λ found. Ok found) c.in_err-schema.field-0.0 c.in_err-schema.ensures.loaded)

pub returns-in_err-rows-clause-read : goal.returns-in_err-rows-clause-read
returns-in_err-rows-clause-read g c =
    let p = err_from_is_err_and c.from_residual-in_err-rows.result c.from_residual-in_err-rows.ensures.1 in
    let told = g.F.Shelf.told in
    let leads = g.F.Shelf.leads in
    let old = c.args.files.now in
    let names = file_names c.args.names in
    let found = with_schema nothing c.in_ok-schema.schema in
    let here = at_next told leads old old c.load_schema.new.files [] nothing (at_start told leads old) kinds.Schema names.schema schema_of (with_schema nothing) (λ shelf. refl) c.in_ok-schema.schema c.in_ok-schema.ensures.loaded in
    rw (p.1, p.2) (stops_here told leads old c.load_schema.new.files c.load_rows.new.files ((kinds.Schema, names.schema) ∷ []) found here kinds.Rows names.rows (rows_of c.in_ok-schema.schema) (with_rows found) (λ shelf. refl)
    [] (λ found. Ok found) c.in_err-rows.field-0.0 c.in_err-rows.ensures.loaded)

pub returns-clause-read : goal.returns-clause-read
returns-clause-read g c =
    let told = g.F.Shelf.told in
    let leads = g.F.Shelf.leads in
    let old = c.args.files.now in
    let names = file_names c.args.names in
    let found = with_schema nothing c.in_ok-schema.schema in
    let here = at_next told leads old old c.load_schema.new.files [] nothing (at_start told leads old) kinds.Schema names.schema schema_of (with_schema nothing) (λ shelf. refl) c.in_ok-schema.schema c.in_ok-schema.ensures.loaded in
    at_next told leads old c.load_schema.new.files c.load_rows.new.files ((kinds.Schema, names.schema) ∷ []) found here kinds.Rows names.rows (rows_of c.in_ok-schema.schema) (with_rows found) (λ shelf. refl)
    c.in_ok-rows.rows c.in_ok-rows.ensures.loaded

pub returns-in_err-schema-clause-kept : goal.returns-in_err-schema-clause-kept
returns-in_err-schema-clause-kept g c =
    let p = err_from_is_err_and c.from_residual.result c.from_residual.ensures.1 in
    let told = g.F.Shelf.told in
    let old = c.args.files.now in
    let names = file_names c.args.names in
    let reading = reading_of told g.F.Shelf.leads old c.load_schema.new.files in
    rw (p.1, p.2) (λ constraints script limits. schema_stops (told old).files (names_of names.schema names.rows constraints script limits) (record c.args.kept.now { last = c.load_schema.new.last }) reading c.in_err-schema.field-0.0
    c.in_err-schema.ensures.loaded.loads c.in_err-schema.ensures.kept)

pub returns-in_err-rows-clause-kept : goal.returns-in_err-rows-clause-kept
returns-in_err-rows-clause-kept g c =
    let p = err_from_is_err_and c.from_residual-in_err-rows.result c.from_residual-in_err-rows.ensures.1 in
    let told = g.F.Shelf.told in
    let old = c.args.files.now in
    let names = file_names c.args.names in
    let still = c.in_ok-schema.ensures.loaded.one_load.files_stay in
    let reading = reading_of told g.F.Shelf.leads c.load_schema.new.files c.load_rows.new.files in
    rw (p.1, p.2) (rw c.set_schema_apart.ensures (λ constraints script limits. later_stops (told old).files (names_of names.schema names.rows constraints script limits) (record { schema = c.load_schema.new.last; last = c.load_rows.new.last }) kinds.Rows reading (told c.load_schema.new.files).files c.in_err-rows.field-0.0
    still c.in_err-rows.ensures.loaded.loads c.in_err-rows.ensures.kept c.in_ok-schema.ensures.kept))

pub returns-clause-kept : goal.returns-clause-kept
returns-clause-kept g c = rw c.set_schema_apart.ensures (λ constraints script limits. c.in_ok-schema.ensures.kept)
