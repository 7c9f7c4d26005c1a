use Rattle.std.proofs.Common.{[], ◌∷◌, Ok, refl}
use Rattle.std.proofs.lemmas.Result.{err_from_is_err_and}
use Rattle.pc_model.specs.declared.fault.FileKind.TheVariants as kinds
use Rattle.pc_files.specs.Reads.{found_listed}
use Rattle.pc_files.specs.Keeping.{names_of}
use Rattle.pc_files.specs.Loading.{reading_of}
use Rattle.pc_lang.specs.Files.{limits_of}
use Rattle.pc_files.specs.Outcome.{Found, limit_files, limited_in, listed_files}
use Rattle.pc_files.proofs.Keeping.{later_stops}
use Rattle.pc_files.proofs.ReadFiles.{at_next, still_stops, stops_here, whole_read, with_limited}
use Rattle.pc_files.proofs.reading.read_limited_keeping.Goals as goal

pub returns-in_err-listing-clause-read : goal.returns-in_err-listing-clause-read
returns-in_err-listing-clause-read g c =
    let p = err_from_is_err_and c.from_residual.result c.from_residual.ensures.1 in
    let reading = reading_of g.F.Shelf.told g.F.Shelf.leads c.args.files.now c.read_listing_keeping.new.files in
    let files = limit_files c.args.schema.now c.args.constraints.now c.args.limits.now in
    rw (p.1, p.2) (still_stops reading files (λ (found : Found). Ok (limited_in found)) c.in_err-listing.field-0.0 (c.in_err-listing.ensures.read ((kinds.Limits, c.args.limits.now) ∷ [])))

pub returns-in_err-all-clause-read : goal.returns-in_err-all-clause-read
returns-in_err-all-clause-read g c =
    let p = err_from_is_err_and c.from_residual-in_err-all.result c.from_residual-in_err-all.ensures.1 in
    let told = g.F.Shelf.told in
    let leads = g.F.Shelf.leads in
    let old = c.args.files.now in
    let found = found_listed c.in_ok-listing.listing in
    let front = listed_files c.args.schema.now c.args.constraints.now in
    rw (p.1, p.2) (stops_here told leads old c.read_listing_keeping.new.files c.load_limits.new.files front found c.in_ok-listing.ensures.read kinds.Limits c.args.limits.now (limits_of found.schema found.constraints) (with_limited found) (λ shelf. refl)
    [] (λ (found : Found). Ok (limited_in found)) c.in_err-all.field-0.0 c.in_err-all.ensures.loaded)

pub returns-clause-read : goal.returns-clause-read
returns-clause-read g c =
    let told = g.F.Shelf.told in
    let leads = g.F.Shelf.leads in
    let old = c.args.files.now in
    let found = found_listed c.in_ok-listing.listing in
    let all = with_limited found c.in_ok-all.all in
    let front = listed_files c.args.schema.now c.args.constraints.now in
    let at_last = at_next told leads old c.read_listing_keeping.new.files c.load_limits.new.files front found c.in_ok-listing.ensures.read kinds.Limits c.args.limits.now (limits_of found.schema found.constraints) (with_limited found) (λ shelf. refl)
    c.in_ok-all.all c.in_ok-all.ensures.loaded in
    rw c.len-opening.ensures (whole_read (λ (found : Found). Ok (limited_in found)) (kinds.Schema, c.args.schema.now) ((kinds.Constraints, c.args.constraints.now) ∷ (kinds.Limits, c.args.limits.now) ∷ []) (reading_of told leads old c.load_limits.new.files) all at_last (limited_in all) refl)

pub returns-in_err-listing-clause-kept : goal.returns-in_err-listing-clause-kept
returns-in_err-listing-clause-kept g c =
    let p = err_from_is_err_and c.from_residual.result c.from_residual.ensures.1 in
    rw (p.1, p.2) (λ rows script. c.in_err-listing.ensures.kept rows script c.args.limits.now)

pub returns-in_err-all-clause-kept : goal.returns-in_err-all-clause-kept
returns-in_err-all-clause-kept g c =
    let p = err_from_is_err_and c.from_residual-in_err-all.result c.from_residual-in_err-all.ensures.1 in
    let told = g.F.Shelf.told in
    let reading = reading_of told g.F.Shelf.leads c.read_listing_keeping.new.files c.load_limits.new.files in
    rw (p.1, p.2) (λ rows script. later_stops (told c.args.files.now).files (names_of c.args.schema.now rows c.args.constraints.now script c.args.limits.now) (record c.read_listing_keeping.new.kept { last = c.load_limits.new.last }) kinds.Limits reading (told c.read_listing_keeping.new.files).files c.in_err-all.field-0.0
    c.in_ok-listing.ensures.read.few.files_stay c.in_err-all.ensures.loaded.loads c.in_err-all.ensures.kept (c.in_ok-listing.ensures.kept rows script c.args.limits.now))

pub returns-clause-kept : goal.returns-clause-kept
returns-clause-kept g c = λ rows script. c.in_ok-listing.ensures.kept rows script c.args.limits.now
