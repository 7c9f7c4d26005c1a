use Rattle.std.proofs.Common.{◌≡◌, [], ◌∷◌, length, Err, Ok, refl, subst}
use Rattle.std.proofs.lemmas.Result.{IfOk-weaker}
use Rattle.pc_files.specs.Keeping.{KeptUntil}
use Rattle.pc_files.specs.Loading.{reading_of}
use Rattle.pc_files.proofs.ReadFiles.{read_as}
use Rattle.pc_desk_words.specs.Calls.{weigh_names}
use Rattle.pc_desk_words.specs.Words.{weigh}
use Rattle.pc_desk_run.specs.Inputs.{ReadsAsking, names_in}
use Rattle.pc_desk_run.specs.Outcome.{Input, asking_in, files_of, weighs}
use Rattle.pc_desk_run.specs.Replies.{IsPosed}
use Rattle.pc_desk_run.specs.Texts.{Named, named_in}
use Rattle.pc_desk_run.proofs.Replies.{explained, says_input, says_stop}
use Rattle.pc_desk_run.proofs.weighs.reply_to_weigh.Goals as goal

pub returns-in-Ok : goal.returns-in-Ok
returns-in-Ok g c =
    let names = weigh_names c.args.wish.now in
    let reading = reading_of g.F.Shelf.told g.F.Shelf.leads c.args.files.now c.read_asking.new.files in
    let input : Input = weighs names c.in-Ok.asking in
    let read = read_as (weighs names) (files_of (weigh names)) (asking_in (names.query ∷ [])) reading (Ok c.in-Ok.asking) (subst (λ (named : Named). ReadsAsking reading named (Ok c.in-Ok.asking)) c.sources_of_queries-sources.ensures c.in-Ok.ensures.read) in
    let many = subst (λ (named : Named). length c.in-Ok.asking.questions ≡ length named.queries) c.sources_of_queries-sources.ensures c.in-Ok.ensures.many in
    let posed : IsPosed reading (weigh names) input = record { agrees = read.agrees; posed = refl; sound = (c.in-Ok.ensures.sound, many, c.requires); loads = read.loads } in
    IfOk-weaker c.weighed.result _ _ (says_input reading (weigh names) input posed) (rw c.sources_of_queries-sources.ensures at c.weighed.ensures)

pub returns : goal.returns
returns g c =
    let names = weigh_names c.args.wish.now in
    let told = g.F.Shelf.told in
    let reading = reading_of told g.F.Shelf.leads c.args.files.now c.read_asking.new.files in
    let stop = c.in-Err.stop in
    let read = read_as (weighs names) (files_of (weigh names)) (asking_in (names.query ∷ [])) reading (Err stop) (subst (λ (named : Named). ReadsAsking reading named (Err stop)) c.sources_of_queries-sources.ensures c.in-Err.ensures.read) in
    let told_of = explained (told c.args.files.now).files (names_in (named_in (weigh names))) c.read_asking.new.kept stop (subst (λ (named : Named). KeptUntil (told c.args.files.now).files (names_in named) c.read_asking.new.kept stop) c.sources_of_queries-sources.ensures c.in-Err.ensures.kept) in
    IfOk-weaker c.stopped.result _ _ (says_stop reading (weigh names) c.read_asking.new.kept stop read.agrees read.loads told_of) (rw c.sources_of_queries-sources.ensures at c.stopped.ensures)
