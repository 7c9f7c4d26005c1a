use Rattle.std.proofs.Common.{◌≡◌, ◌∙◌, ℕ, List, [], ◌∷◌, Err, Ok, refl, ap₂, subst}
use Rattle.std.proofs.lemmas.Result.{IfOk-weaker}
use Rattle.pc_files.specs.Keeping.{KeptUntil}
use Rattle.pc_files.specs.Loading.{reading_of}
use Rattle.pc_files.proofs.ReadFiles.{read_as}
use Rattle.pc_desk_words.specs.Calls.{history_names}
use Rattle.pc_desk_words.specs.Words.{FileNames, history}
use Rattle.pc_desk_run.specs.Inputs.{ReadsKnown, names_in}
use Rattle.pc_desk_run.specs.Outcome.{Input, files_of, known_in, recalls}
use Rattle.pc_desk_run.specs.Replies.{IsPosed}
use Rattle.pc_desk_run.specs.Texts.{Named, named_files, named_in, where_text}
use Rattle.pc_desk_run.proofs.Replies.{explained, says_input, says_stop}
use Rattle.pc_desk_run.proofs.recalls.reply_to_history.Goals as goal

pub returns-in-Ok : goal.returns-in-Ok
returns-in-Ok g c =
    let names = history_names c.args.wish.now in
    let same = c.sources_of_queries-sources.ensures ∙ ap₂ (λ (files : FileNames) (text : List ℕ). record (named_files files) { queries = text ∷ [] }) c.table_of.ensures (c.as_str.ensures.value ∙ c.in_ok-text.ensures) in
    let reading = reading_of g.F.Shelf.told g.F.Shelf.leads c.args.files.now c.read_known.new.files in
    let input : Input = recalls names c.in-Ok.known in
    let read = read_as (recalls names) (files_of (history names)) (known_in (where_text names.chosen)) reading (Ok c.in-Ok.known) (subst (λ (named : Named). ReadsKnown reading named (Ok c.in-Ok.known)) same c.in-Ok.ensures.read) in
    let posed : IsPosed reading (history names) input = record { agrees = read.agrees; posed = refl; sound = (c.in-Ok.ensures.sound, c.requires); loads = read.loads } in
    IfOk-weaker c.recalled.result _ _ (says_input reading (history names) input posed) c.recalled.ensures

pub returns : goal.returns
returns g c =
    let names = history_names c.args.wish.now in
    let same = c.sources_of_queries-sources.ensures ∙ ap₂ (λ (files : FileNames) (text : List ℕ). record (named_files files) { queries = text ∷ [] }) c.table_of.ensures (c.as_str.ensures.value ∙ c.in_ok-text.ensures) in
    let told = g.F.Shelf.told in
    let reading = reading_of told g.F.Shelf.leads c.args.files.now c.read_known.new.files in
    let stop = c.in-Err.stop in
    let read = read_as (recalls names) (files_of (history names)) (known_in (where_text names.chosen)) reading (Err stop) (subst (λ (named : Named). ReadsKnown reading named (Err stop)) same c.in-Err.ensures.read) in
    let told_of = explained (told c.args.files.now).files (names_in (named_in (history names))) c.read_known.new.kept stop (subst (λ (named : Named). KeptUntil (told c.args.files.now).files (names_in named) c.read_known.new.kept stop) same c.in-Err.ensures.kept) in
    IfOk-weaker c.stopped.result _ _ (says_stop reading (history names) c.read_known.new.kept stop read.agrees read.loads told_of) (rw same at c.stopped.ensures)
