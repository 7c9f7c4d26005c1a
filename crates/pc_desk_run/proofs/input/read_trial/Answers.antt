use Rattle.std.proofs.Common.{[]}
use Rattle.pc_files.specs.Loading.{reading_of}
use Rattle.pc_desk_words.specs.Calls.{trial_names}
use Rattle.pc_desk_run.proofs.ReadInputs.{reads_trial}
use Rattle.pc_desk_run.proofs.input.read_trial.Goals as goal

pub returns-clause-read : goal.returns-clause-read
returns-clause-read g c =
    let reading = reading_of g.F.Shelf.told g.F.Shelf.leads c.args.files.now c.read_observed_keeping.new.files in
    reads_trial reading (trial_names c.args.trial.now) c.read_observed_keeping.result c.read_observed_keeping.ensures.read

pub returns-clause-kept : goal.returns-clause-kept
returns-clause-kept g c = c.read_observed_keeping.ensures.kept [] []
