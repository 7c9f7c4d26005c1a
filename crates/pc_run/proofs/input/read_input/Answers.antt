use Rattle.std.proofs.Common.{[], ◌∷◌, Err, refl}
use Rattle.pc_model.specs.declared.fault.FileKind.TheVariants as kinds
use Rattle.pc_run_words.specs.Commands.{bound_names, show_names, conflict_names, quantile_names}
use Rattle.pc_run_words.specs.Words.{bound, conflict, quantile, show}
use Rattle.pc_files.specs.Loading.{reading_of}
use Rattle.pc_files.specs.Outcome.{listing_in}
use Rattle.pc_files.specs.Reads.{found_listed}
use Rattle.pc_files.proofs.ReadFiles.{none_to_read, read_as, still_stops, whole_read}
use Rattle.pc_run.specs.declared.input.Input.TheVariants.{Asks, Proves, Shows, Contradicts, Measures, Makes}
use Rattle.pc_run.specs.Outcome.{case_in, files_of, input_in, measured_in}
use Rattle.pc_run.proofs.input.read_input.Goals as goal

pub returns-in-Err-clause-read : goal.returns-in-Err-clause-read
returns-in-Err-clause-read g c =
    let names = bound_names c.in-Bound.command in
    let reading = reading_of g.F.Shelf.told g.F.Shelf.leads c.args.files.now c.read_case.new.files in
    rw c.in-Bound.is (read_as (Asks names.nodes) (files_of (bound names)) (case_in names.queries) reading (Err c.in-Err.stop) c.in-Err.ensures.read)

pub returns-in-Err-read_case-clause-read : goal.returns-in-Err-read_case-clause-read
returns-in-Err-read_case-clause-read g c =
    let names = bound_names c.in-Prove.command in
    let reading = reading_of g.F.Shelf.told g.F.Shelf.leads c.args.files.now c.read_case-in-Prove.new.files in
    rw c.in-Prove.is (read_as (Proves names.nodes) (files_of (bound names)) (case_in names.queries) reading (Err c.in-Err-read_case.stop) c.in-Err-read_case.ensures.read)

pub returns-in-Check-clause-read : goal.returns-in-Check-clause-read
returns-in-Check-clause-read g c = rw c.in-Check.is c.read_claim.ensures.read

pub returns-in-Ok-read_listing-clause-read : goal.returns-in-Ok-read_listing-clause-read
returns-in-Ok-read_listing-clause-read g c =
    let names = show_names c.in-Show.names in
    let reading = reading_of g.F.Shelf.told g.F.Shelf.leads c.args.files.now c.read_listing.new.files in
    let found = found_listed c.in-Ok-read_listing.listing in
    rw c.in-Show.is (whole_read (input_in (show names)) (kinds.Schema, names.schema) ((kinds.Constraints, names.constraints) ∷ []) reading found c.in-Ok-read_listing.ensures.read (Shows (listing_in found)) refl)

pub returns-in-Err-read_listing-clause-read : goal.returns-in-Err-read_listing-clause-read
returns-in-Err-read_listing-clause-read g c =
    let names = show_names c.in-Show.names in
    let reading = reading_of g.F.Shelf.told g.F.Shelf.leads c.args.files.now c.read_listing.new.files in
    rw c.in-Show.is (still_stops reading (files_of (show names)) (input_in (show names)) c.in-Err-read_listing.stop (c.in-Err-read_listing.ensures.read []))

pub returns-in-Ok-read_listing-2-clause-read : goal.returns-in-Ok-read_listing-2-clause-read
returns-in-Ok-read_listing-2-clause-read g c =
    let names = conflict_names c.in-Conflict.command in
    let reading = reading_of g.F.Shelf.told g.F.Shelf.leads c.args.files.now c.read_listing-in-Conflict.new.files in
    let found = found_listed c.in-Ok-read_listing-2.listing in
    rw c.in-Conflict.is (whole_read (input_in (conflict names)) (kinds.Schema, names.files.schema) ((kinds.Constraints, names.files.constraints) ∷ []) reading found c.in-Ok-read_listing-2.ensures.read (Contradicts names.nodes (listing_in found)) refl)

pub returns-in-Err-read_listing-2-clause-read : goal.returns-in-Err-read_listing-2-clause-read
returns-in-Err-read_listing-2-clause-read g c =
    let names = conflict_names c.in-Conflict.command in
    let reading = reading_of g.F.Shelf.told g.F.Shelf.leads c.args.files.now c.read_listing-in-Conflict.new.files in
    rw c.in-Conflict.is (still_stops reading (files_of (conflict names)) (input_in (conflict names)) c.in-Err-read_listing-2.stop (c.in-Err-read_listing-2.ensures.read []))

pub returns-in-Err-read_measured-clause-read : goal.returns-in-Err-read_measured-clause-read
returns-in-Err-read_measured-clause-read g c =
    let names = quantile_names c.in-Quantile.command in
    let reading = reading_of g.F.Shelf.told g.F.Shelf.leads c.args.files.now c.read_measured.new.files in
    rw c.in-Quantile.is (read_as (Measures names.nodes) (files_of (quantile names)) (measured_in names.query) reading (Err c.in-Err-read_measured.stop) c.in-Err-read_measured.ensures.read)

pub returns-in-Session-clause-read : goal.returns-in-Session-clause-read
returns-in-Session-clause-read g c = rw c.in-Session.is c.read_session.ensures.read

pub returns-in-Gen-clause-read : goal.returns-in-Gen-clause-read
returns-in-Gen-clause-read g c = rw c.in-Gen.is (none_to_read g.F.Shelf.told g.F.Shelf.leads c.args.files.now (Makes c.in-Gen.command))
