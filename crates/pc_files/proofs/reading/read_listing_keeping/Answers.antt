use Rattle.std.proofs.Common.{[], ◌∷◌, Ok, refl}
use Rattle.std.proofs.lemmas.Result.{err_from_is_err_and}
use Rattle.pc_model.specs.declared.fault.FileKind.TheVariants as kinds
use Rattle.pc_schema.specs.SchemaFile.{schema_of}
use Rattle.pc_lang.specs.Files.{constraints_of}
use Rattle.pc_files.specs.Outcome.{nothing}
use Rattle.pc_files.specs.Keeping.{names_of}
use Rattle.pc_files.specs.Loading.{reading_of}
use Rattle.pc_files.proofs.Keeping.{later_stops, schema_stops}
use Rattle.pc_files.proofs.ReadFiles.{at_next, at_start, stops_here, with_constraints, with_schema}
use Rattle.pc_files.proofs.reading.read_listing_keeping.Goals as goal

pub returns-in_err-schema-clause-read : goal.returns-in_err-schema-clause-read
returns-in_err-schema-clause-read g c =
    let p = err_from_is_err_and c.from_residual.result c.from_residual.ensures.1 in
    let told = g.F.Shelf.told in
    let leads = g.F.Shelf.leads in
    let old = c.args.files.now in
    rw (p.1, p.2) (λ rest. stops_here told leads old old c.load_schema.new.files [] nothing (at_start told leads old) kinds.Schema c.args.schema.now schema_of (with_schema nothing) (λ shelf. refl)
    ((kinds.Constraints, c.args.constraints.now) ∷ rest) (λ found. Ok found) c.in_err-schema.field-0.0 c.in_err-schema.ensures.loaded)

pub returns-in_err-constraints-clause-read : goal.returns-in_err-constraints-clause-read
returns-in_err-constraints-clause-read g c =
    let p = err_from_is_err_and c.from_residual-in_err-constraints.result c.from_residual-in_err-constraints.ensures.1 in
    let told = g.F.Shelf.told in
    let leads = g.F.Shelf.leads in
    let old = c.args.files.now in
    let found = with_schema nothing c.in_ok-schema.schema in
    let here = at_next told leads old old c.load_schema.new.files [] nothing (at_start told leads old) kinds.Schema c.args.schema.now schema_of (with_schema nothing) (λ shelf. refl) c.in_ok-schema.schema c.in_ok-schema.ensures.loaded in
    rw (p.1, p.2) (λ rest. stops_here told leads old c.load_schema.new.files c.load_constraints.new.files ((kinds.Schema, c.args.schema.now) ∷ []) found here kinds.Constraints c.args.constraints.now (constraints_of c.in_ok-schema.schema) (with_constraints found) (λ shelf. refl)
    rest (λ found. Ok found) c.in_err-constraints.field-0.0 c.in_err-constraints.ensures.loaded)

pub returns-clause-read : goal.returns-clause-read
returns-clause-read g c =
    let told = g.F.Shelf.told in
    let leads = g.F.Shelf.leads in
    let old = c.args.files.now in
    let found = with_schema nothing c.in_ok-schema.schema in
    let here = at_next told leads old old c.load_schema.new.files [] nothing (at_start told leads old) kinds.Schema c.args.schema.now schema_of (with_schema nothing) (λ shelf. refl) c.in_ok-schema.schema c.in_ok-schema.ensures.loaded in
    at_next told leads old c.load_schema.new.files c.load_constraints.new.files ((kinds.Schema, c.args.schema.now) ∷ []) found here kinds.Constraints c.args.constraints.now (constraints_of c.in_ok-schema.schema) (with_constraints found) (λ shelf. refl)
    c.in_ok-constraints.constraints c.in_ok-constraints.ensures.loaded

pub returns-in_err-schema-clause-kept : goal.returns-in_err-schema-clause-kept
returns-in_err-schema-clause-kept g c =
    let p = err_from_is_err_and c.from_residual.result c.from_residual.ensures.1 in
    let told = g.F.Shelf.told in
    let old = c.args.files.now in
    let reading = reading_of told g.F.Shelf.leads old c.load_schema.new.files in
    rw (p.1, p.2) (λ rows script limits. schema_stops (told old).files (names_of c.args.schema.now rows c.args.constraints.now script limits) (record c.args.kept.now { last = c.load_schema.new.last }) reading c.in_err-schema.field-0.0
    c.in_err-schema.ensures.loaded.loads c.in_err-schema.ensures.kept)

pub returns-in_err-constraints-clause-kept : goal.returns-in_err-constraints-clause-kept
returns-in_err-constraints-clause-kept g c =
    let p = err_from_is_err_and c.from_residual-in_err-constraints.result c.from_residual-in_err-constraints.ensures.1 in
    let told = g.F.Shelf.told in
    let old = c.args.files.now in
    let still = c.in_ok-schema.ensures.loaded.one_load.files_stay in
    let reading = reading_of told g.F.Shelf.leads c.load_schema.new.files c.load_constraints.new.files in
    rw (p.1, p.2) (rw c.set_schema_apart.ensures (λ rows script limits. later_stops (told old).files (names_of c.args.schema.now rows c.args.constraints.now script limits) (record { schema = c.load_schema.new.last; last = c.load_constraints.new.last }) kinds.Constraints reading (told c.load_schema.new.files).files c.in_err-constraints.field-0.0
    still c.in_err-constraints.ensures.loaded.loads c.in_err-constraints.ensures.kept c.in_ok-schema.ensures.kept))

pub returns-clause-kept : goal.returns-clause-kept
returns-clause-kept g c = rw c.set_schema_apart.ensures (λ rows script limits. c.in_ok-schema.ensures.kept)
