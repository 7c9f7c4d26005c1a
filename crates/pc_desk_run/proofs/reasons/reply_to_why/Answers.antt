use Rattle.std.proofs.Common.{Err, Ok, refl, subst}
use Rattle.std.proofs.lemmas.Result.{IfOk-weaker}
use Rattle.pc_files.specs.Keeping.{KeptUntil}
use Rattle.pc_files.specs.Loading.{reading_of}
use Rattle.pc_files.proofs.ReadFiles.{read_as}
use Rattle.pc_desk_words.specs.Calls.{why_names}
use Rattle.pc_desk_words.specs.Words.{why}
use Rattle.pc_desk_run.specs.Inputs.{ReadsAsking, names_in}
use Rattle.pc_desk_run.specs.Outcome.{Input, asking_in, explains, files_of}
use Rattle.pc_desk_run.specs.Replies.{IsPosed}
use Rattle.pc_desk_run.specs.Texts.{Named, named_in}
use Rattle.pc_desk_run.proofs.Replies.{explained, says_answers, says_input, says_stop}
use Rattle.pc_desk_run.proofs.reasons.reply_to_why.Goals as goal

pub returns-in-Ok : goal.returns-in-Ok
returns-in-Ok g c =
    let names = why_names c.args.why.now in
    let reading = reading_of g.F.Shelf.told g.F.Shelf.leads c.args.files.now c.read_asking.new.files in
    let input : Input = explains names.form names.nodes c.in-Ok.asking in
    let read = read_as (explains names.form names.nodes) (files_of (why names)) (asking_in names.queries) reading (Ok c.in-Ok.asking) (subst (λ (named : Named). ReadsAsking reading named (Ok c.in-Ok.asking)) c.sources_of_why-sources.ensures c.in-Ok.ensures.read) in
    let posed : IsPosed reading (why names) input = record { agrees = read.agrees; posed = (refl, refl); sound = (c.in-Ok.ensures.sound, c.requires); loads = read.loads } in
    IfOk-weaker c.explained.result _ _ (λ reply says. says_input reading (why names) input posed reply (says_answers (named_in (why names)) input reply says)) c.explained.ensures.says

pub returns : goal.returns
returns g c =
    let names = why_names c.args.why.now in
    let told = g.F.Shelf.told in
    let reading = reading_of told g.F.Shelf.leads c.args.files.now c.read_asking.new.files in
    let stop = c.in-Err.stop in
    let read = read_as (explains names.form names.nodes) (files_of (why names)) (asking_in names.queries) reading (Err stop) (subst (λ (named : Named). ReadsAsking reading named (Err stop)) c.sources_of_why-sources.ensures c.in-Err.ensures.read) in
    let told_of = explained (told c.args.files.now).files (names_in (named_in (why names))) c.read_asking.new.kept stop (subst (λ (named : Named). KeptUntil (told c.args.files.now).files (names_in named) c.read_asking.new.kept stop) c.sources_of_why-sources.ensures c.in-Err.ensures.kept) in
    IfOk-weaker c.stopped.result _ _ (says_stop reading (why names) c.read_asking.new.kept stop read.agrees read.loads told_of) (rw c.sources_of_why-sources.ensures at c.stopped.ensures)
