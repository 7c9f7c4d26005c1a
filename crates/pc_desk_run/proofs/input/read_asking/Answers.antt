use Rattle.std.proofs.Common.{◌≡◌, List, [], ◌∷◌, length, refl}
use Rattle.std.proofs.lemmas.Result.{IfOk-at_ok, err_from_is_err_and}
use Rattle.pc_model.specs.declared.fault.FileKind.TheVariants as kinds
use Rattle.pc_files.specs.Reads.{found_of}
use Rattle.pc_files.specs.Loading.{reading_of}
use Rattle.pc_files.specs.Outcome.{observed_files}
use Rattle.pc_desk_answers.specs.declared.question.Question.{Question}
use Rattle.pc_desk_answers.specs.Questions.{questions_of}
use Rattle.pc_desk_run.specs.Inputs.{names_in}
use Rattle.pc_desk_run.specs.Outcome.{asking_in}
use Rattle.pc_desk_run.specs.Texts.{named_of}
use Rattle.pc_desk_run.proofs.FaultFiles.{questions_of_words}
use Rattle.pc_desk_run.proofs.ManyQuestions.{as_many}
use Rattle.pc_files.proofs.Keeping.{query_stops}
use Rattle.pc_files.proofs.ReadFiles.{queries_refused, still_stops, whole_read}
use Rattle.pc_desk_run.proofs.input.read_asking.Goals as goal

pub returns-in_err-observed-clause-read : goal.returns-in_err-observed-clause-read
returns-in_err-observed-clause-read g c =
    let p = err_from_is_err_and c.from_residual.result c.from_residual.ensures.1 in
    let names = named_of c.args.sources.now in
    let reading = reading_of g.F.Shelf.told g.F.Shelf.leads c.args.files.now c.read_observed_keeping.new.files in
    rw (p.1, p.2) (still_stops reading (observed_files names.files.schema names.files.rows names.files.constraints) (asking_in names.queries) c.in_err-observed.field-0.0 (c.in_err-observed.ensures.read []))

pub returns-in_err-questions-clause-read : goal.returns-in_err-questions-clause-read
returns-in_err-questions-clause-read g c =
    let p = err_from_is_err_and c.from_residual-in_err-questions.result c.from_residual-in_err-questions.ensures.1 in
    let names = named_of c.args.sources.now in
    let reading = reading_of g.F.Shelf.told g.F.Shelf.leads c.args.files.now c.read_observed_keeping.new.files in
    let schema = c.in_ok-observed.observed.schema in
    rw (p.1, p.2) (queries_refused (asking_in names.queries) (kinds.Schema, names.files.schema) ((kinds.Rows, names.files.rows) ∷ (kinds.Constraints, names.files.constraints) ∷ []) reading (found_of c.in_ok-observed.observed) c.in_ok-observed.ensures.read
    (questions_of schema names.queries) (questions_of_words schema 1 names.queries) (λ fault is. rw is refl) c.in_err-questions.field-0.0 c.in_err-questions.ensures.gives)

pub returns-clause-read : goal.returns-clause-read
returns-clause-read g c =
    let names = named_of c.args.sources.now in
    let observed = c.in_ok-observed.observed in
    let gives = c.in_ok-questions.ensures.gives in
    whole_read (asking_in names.queries) (kinds.Schema, names.files.schema) ((kinds.Rows, names.files.rows) ∷ (kinds.Constraints, names.files.constraints) ∷ []) (reading_of g.F.Shelf.told g.F.Shelf.leads c.args.files.now c.read_observed_keeping.new.files) (found_of observed) c.in_ok-observed.ensures.read
    (record { observed = observed; questions = c.in_ok-questions.questions }) (rw gives refl)

pub returns-in_err-observed-clause-kept : goal.returns-in_err-observed-clause-kept
returns-in_err-observed-clause-kept g c =
    let p = err_from_is_err_and c.from_residual.result c.from_residual.ensures.1 in
    rw (p.1, p.2) (c.in_err-observed.ensures.kept c.args.sources.now.script.now c.args.sources.now.limits.now)

pub returns-in_err-questions-clause-kept : goal.returns-in_err-questions-clause-kept
returns-in_err-questions-clause-kept g c =
    let p = err_from_is_err_and c.from_residual-in_err-questions.result c.from_residual-in_err-questions.ensures.1 in
    let names = named_of c.args.sources.now in
    let schema = c.in_ok-observed.observed.schema in
    rw (p.1, p.2) (query_stops (g.F.Shelf.told c.args.files.now).files (names_in names) c.read_observed_keeping.new.kept
    (questions_of schema names.queries) (questions_of_words schema 1 names.queries) c.in_err-questions.field-0.0 c.in_err-questions.ensures.gives (c.in_ok-observed.ensures.kept c.args.sources.now.script.now c.args.sources.now.limits.now))

pub returns-clause-kept : goal.returns-clause-kept
returns-clause-kept g c = c.in_ok-observed.ensures.kept c.args.sources.now.script.now c.args.sources.now.limits.now

pub returns-clause-many : goal.returns-clause-many
returns-clause-many g c =
    let names = named_of c.args.sources.now in
    IfOk-at_ok (λ (questions : List Question). length questions ≡ length names.queries) c.in_ok-questions.ensures.gives (as_many c.in_ok-observed.observed.schema 1 names.queries)
