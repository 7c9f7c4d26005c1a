-- What was read of files is what `try`, `opens` and `sql` read.
use Rattle.std.proofs.Common.{[], ◌∷◌, Result, Ok, Err, refl}
use Rattle.pc_model.specs.declared.fault.FileKind.TheVariants as kinds
use Rattle.pc_files.specs.declared.reading.Listing.{Listing}
use Rattle.pc_files.specs.declared.reading.Observed.{Observed}
use Rattle.pc_files.specs.declared.stop.Stop.{Stop}
use Rattle.pc_files.specs.Loading.{Reading}
use Rattle.pc_files.specs.Outcome.{Found, listed_files, listing_in, observed_in}
use Rattle.pc_files.specs.Reads.{ReadsListing, ReadsObserved, found_listed, found_of}
use Rattle.pc_files.proofs.ReadFiles.{still_stops, whole_read}
use Rattle.pc_desk_words.specs.Words.{FileNames, TrialNames}
use Rattle.pc_desk_run.specs.Inputs.{ReadsFiles, ReadsTrial}
use Rattle.pc_desk_run.specs.Outcome.{data_files}

pub reads_trial : (reading : Reading) (names : TrialNames) (result : Result Observed Stop) → ReadsObserved reading names.files.schema names.files.rows names.files.constraints result → ReadsTrial reading names result
reads_trial reading names (Ok observed) read =
    whole_read (λ (found : Found). Ok (observed_in found)) (kinds.Schema, names.files.schema) ((kinds.Rows, names.files.rows) ∷ (kinds.Constraints, names.files.constraints) ∷ []) reading (found_of observed) read observed refl
reads_trial reading names (Err stop) read = still_stops reading (data_files names.files) (λ (found : Found). Ok (observed_in found)) stop (read [])

pub reads_files : (reading : Reading) (files : FileNames) (result : Result Listing Stop) → ReadsListing reading files.schema files.constraints result → ReadsFiles reading files result
reads_files reading files (Ok listing) read =
    whole_read (λ (found : Found). Ok (listing_in found)) (kinds.Schema, files.schema) ((kinds.Constraints, files.constraints) ∷ []) reading (found_listed listing) read listing refl
reads_files reading files (Err stop) read = still_stops reading (listed_files files.schema files.constraints) (λ (found : Found). Ok (listing_in found)) stop (read [])
