use Rattle.std.proofs.Common.{[]}
use Rattle.pc_files.specs.Loading.{reading_of}
use Rattle.pc_desk_words.specs.Calls.{file_names}
use Rattle.pc_desk_run.proofs.ReadInputs.{reads_files}
use Rattle.pc_desk_run.proofs.input.read_files.Goals as goal

pub returns-clause-read : goal.returns-clause-read
returns-clause-read g c =
    let reading = reading_of g.F.Shelf.told g.F.Shelf.leads c.args.files.now c.read_listing_keeping.new.files in
    reads_files reading (file_names c.args.names) c.read_listing_keeping.result c.read_listing_keeping.ensures.read

pub returns-clause-kept : goal.returns-clause-kept
returns-clause-kept g c = c.read_listing_keeping.ensures.kept c.args.names.rows.now [] []
