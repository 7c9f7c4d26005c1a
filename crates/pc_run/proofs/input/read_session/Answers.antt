use Rattle.std.proofs.Common.{Ok, Err}
use Rattle.pc_run_words.specs.Commands.{session_names}
use Rattle.pc_run_words.specs.Words.{session}
use Rattle.pc_files.specs.Loading.{reading_of}
use Rattle.pc_files.specs.Outcome.{Found, scripted_in}
use Rattle.pc_files.proofs.ReadFiles.{read_as}
use Rattle.pc_run.specs.declared.input.Input.TheVariants.{Follows}
use Rattle.pc_run.specs.Outcome.{files_of}
use Rattle.pc_run.proofs.input.read_session.Goals as goal

pub returns-in-Ok-clause-read : goal.returns-in-Ok-clause-read
returns-in-Ok-clause-read g c =
    let names = session_names c.args.command.now in
    let reading = reading_of g.F.Shelf.told g.F.Shelf.leads c.args.files.now c.read_scripted.new.files in
    read_as (Follows names.nodes) (files_of (session names)) (λ (found : Found). Ok (scripted_in found)) reading (Ok c.in-Ok.scripted) c.in-Ok.ensures.read

pub returns-in-Err-clause-read : goal.returns-in-Err-clause-read
returns-in-Err-clause-read g c =
    let names = session_names c.args.command.now in
    let reading = reading_of g.F.Shelf.told g.F.Shelf.leads c.args.files.now c.read_scripted.new.files in
    read_as (Follows names.nodes) (files_of (session names)) (λ (found : Found). Ok (scripted_in found)) reading (Err c.in-Err.stop) c.in-Err.ensures.read
