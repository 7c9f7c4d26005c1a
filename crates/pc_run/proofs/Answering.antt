-- A run over files that are held and accepted, where no load and no put failed, is done, or says no of a document, or has no
-- memory.
use Rattle.std.proofs.Common.{◌≡◌, ℕ, ⊎_elim, inl, inr, List, ◌∷◌, ◌++◌, Option, Some, None, Result, Ok, Err, IfSome, IsSomeAnd, IsOk, sym, subst, refl, ◌∙◌}
use Rattle.std.proofs.lemmas.Bool.{false≢true}
use Rattle.pc_model.specs.Refusals.{◌>>=◌}
use Rattle.pc_model.specs.declared.fault.FileKind.{FileKind}
use Rattle.pc_model.specs.declared.fault.FileKind.TheVariants as kinds
use Rattle.pc_model.specs.declared.fault.Fault.{Fault}
use Rattle.pc_base.specs.declared.status.Status.{Status}
use Rattle.pc_base.specs.declared.status.Status.TheVariants as ended
use Rattle.pc_base.specs.Files.{Files, IsAbsent, file_of}
use Rattle.pc_schema.specs.SchemaFile.{schema_of}
use Rattle.pc_rows.specs.RowFile.{rows_of}
use Rattle.pc_lang.specs.Files.{constraints_of, limits_of}
use Rattle.pc_run_words.specs.Words.{Asked, bound, prove, check, show, conflict, quantile, session, gen, command_of}
use Rattle.pc_run.specs.declared.input.Input.{Input}
use Rattle.pc_run.specs.declared.input.Input.TheVariants.{Asks, Proves, Shows, Contradicts, Measures, Follows}
use Rattle.pc_files.specs.Outcome.{Obstacle, refused, absent, NamedFile, Found, nothing, value_under, with_file, found_after, found_in, held_in, mapped, listing_in, numbered_script, outcome_of, needed, scripted_in, whole}
use Rattle.pc_run.specs.Outcome.{files_of, made, case_in, measured_in, input_in, accepted_under}
use Rattle.pc_run.specs.Replies.{SaysInput}
use Rattle.pc_run.specs.Meaning.{Call, HasEnded, IsRefused, HasReadFault, Means, IsAnswer, IsAnswerable, IsAnswerUnlessMemory}
use Rattle.pc_files.proofs.ReadFiles.{joined, needs}

-- ---- no file that is accepted is absent

absent_value : {X : Type 0} (kind : FileKind) (name : List ℕ) (value_of : List ℕ → Result X Fault) (shelf : Files) → file_of shelf name ≡ None → value_under kind name value_of shelf ≡ Err (absent kind)
unfolding value_under
absent_value kind name value_of shelf none = rw none refl

absent_file : (found : Found) (kind : FileKind) (name : List ℕ) (shelf : Files) → file_of shelf name ≡ None → with_file found kind name shelf ≡ Err (absent kind)
absent_file found kinds.Schema name shelf none = rw (absent_value kinds.Schema name schema_of shelf none) refl
absent_file found kinds.Rows name shelf none = rw (absent_value kinds.Rows name (rows_of found.schema) shelf none) refl
absent_file found kinds.Constraints name shelf none = rw (absent_value kinds.Constraints name (constraints_of found.schema) shelf none) refl
absent_file found kinds.Document name shelf none = rw (absent_value kinds.Document name whole shelf none) refl
absent_file found kinds.Script name shelf none = rw (absent_value kinds.Script name (numbered_script found.schema (held_in found)) shelf none) refl
absent_file found kinds.Limits name shelf none = rw (absent_value kinds.Limits name (limits_of found.schema found.constraints) shelf none) refl
absent_file found kinds.Query name shelf none = refl

stops_there : (read : Result Found Obstacle) (kind : FileKind) (name : List ℕ) (rest : List NamedFile) (shelf : Files) → file_of shelf name ≡ None → IsOk (read >>= λ found. found_after found ((kind, name) ∷ rest) shelf) → ⊥
unfolding found_after
stops_there (Ok found) kind name rest shelf none is = let stops = rw (absent_file found kind name shelf none) at is in false≢true stops
stops_there (Err obstacle) kind name rest shelf none is = false≢true is

first_is_ok : {X Y : Type 0} (first : Result X Obstacle) (next : X → Result Y Obstacle) → IsOk (first >>= next) → IsOk first
first_is_ok (Ok x) next is = refl
first_is_ok (Err obstacle) next is = is

held_file : (files : List NamedFile) (meaning : Found → Result Input Obstacle) (told : Option Files) (front rest : List NamedFile) (kind : FileKind) (name : List ℕ) → files ≡ front ++ (kind, name) ∷ rest →
    IsSomeAnd (needed files told) (λ shelf. IsOk (outcome_of files meaning shelf)) → IsAbsent told name → ⊥
held_file files meaning None front rest kind name is accepted none = none
held_file files meaning (Some shelf) front rest kind name is accepted none =
    let there = subst (λ (fs : List NamedFile). IsSomeAnd (needed fs (Some shelf)) (λ shelf. IsOk (outcome_of fs meaning shelf))) is accepted in
    let whole : IsOk (outcome_of (front ++ (kind, name) ∷ rest) meaning shelf) = rw (needs front rest (kind, name) (Some shelf)) at there in
    let read = first_is_ok (found_in (front ++ (kind, name) ∷ rest) shelf) meaning whole in
    stops_there (found_in front shelf) kind name rest shelf none (subst (λ (r : Result Found Obstacle). IsOk r) (joined nothing front ((kind, name) ∷ rest) shelf) read)

pub same_names : (words : List (List ℕ)) (a b : Asked) → command_of words ≡ Some a → command_of words ≡ Some b → a ≡ b
same_names words a b is_a is_b = let both : Some a ≡ Some b = sym is_a ∙ is_b in cc

-- ---- files that are accepted are not refused

not_refused : (read : Result Input Obstacle) (fault : Fault) → IsOk read → read ≡ Err (refused fault) → ⊥
not_refused (Ok input) fault is refuses = let no : ⊥ = cc in absurd no
not_refused (Err obstacle) fault is refuses = absurd (false≢true is)

refused_no : (some : Option Files) (outcome : Files → Result Input Obstacle) (fault : Fault) → IsSomeAnd some (λ shelf. IsOk (outcome shelf)) → IfSome some (λ shelf. outcome shelf ≡ Err (refused fault)) → ⊥
refused_no None outcome fault accepted comes = accepted
refused_no (Some shelf) outcome fault accepted comes = not_refused (outcome shelf) fault accepted comes

no_refusal : (call : Call) → IsAnswerable call → IsRefused call → ⊥
no_refusal call can refused' =
    let names = same_names call.words refused'.asked can.asked refused'.command can.command in
    refused_no (needed (files_of can.asked) call.reading.before.files) (accepted_under can.asked) refused'.fault can.accepted (rw names at refused'.agrees)

no_read_fault : (call : Call) → IsAnswerable call → HasReadFault call → ⊥
no_read_fault call can fault =
    let names = same_names call.words fault.asked can.asked fault.command can.command in
    let stopped = fault.unread.stopped in
    let in_order = subst (λ (asked : Asked). files_of asked ≡ stopped.front ++ (fault.file, stopped.name) ∷ stopped.rest) names stopped.in_order in
    ⊎_elim (λ rose. can.loads rose)
    (λ is_absent. held_file (files_of can.asked) (input_in can.asked) call.reading.before.files stopped.front stopped.rest fault.file stopped.name in_order can.accepted is_absent)
    fault.unread.cause

-- ---- how such a run ends

is_done : (asked : Asked) → IsAnswer asked ended.Done
is_done (bound names) = refl
is_done (prove names) = refl
is_done (check names) = inl refl
is_done (show names) = refl
is_done (conflict names) = refl
is_done (quantile names) = refl
is_done (session names) = refl
is_done (gen numbers) = refl

no_done : ended.SaidNo ≡ ended.Done → ⊥
no_done is = let no : ⊥ = cc in no

-- of such an input no is not said
not_said : {X : Type 0} (input : X → Input) (read : Result X Obstacle) (said : Input) (text : List ℕ) → ((x : X) → SaysInput (input x) ended.SaidNo text → ⊥) → mapped input read ≡ Ok said → SaysInput said ended.SaidNo text → ⊥
not_said input (Ok x) said text never is says =
    let same : input x ≡ said = cc in
    never x (subst (λ (i : Input). SaysInput i ended.SaidNo text) (sym same) says)
not_said input (Err obstacle) said text never is says = let no : ⊥ = cc in absurd no

said_of : (asked : Asked) (found : Found) (said : Input) (text : List ℕ) → input_in asked found ≡ Ok said → SaysInput said ended.SaidNo text → IsAnswer asked ended.SaidNo
said_of (bound names) found said text is says = absurd (not_said (Asks names.nodes) (case_in names.queries found) said text (λ case says. no_done says.0) is says)
said_of (prove names) found said text is says = absurd (not_said (Proves names.nodes) (case_in names.queries found) said text (λ case says. no_done says.0) is says)
said_of (check names) found said text is says = inr refl
said_of (show names) found said text is says = absurd (not_said Shows (Ok (listing_in found)) said text (λ listing says. no_done says.0) is says)
said_of (conflict names) found said text is says = absurd (not_said (Contradicts names.nodes) (Ok (listing_in found)) said text (λ listing says. no_done says.0) is says)
said_of (quantile names) found said text is says = absurd (not_said (Measures names.nodes) (measured_in names.query found) said text (λ measured says. no_done says.0) is says)
said_of (session names) found said text is says = absurd (not_said (Follows names.nodes) (Ok (scripted_in found)) said text (λ scripted says. no_done says.0) is says)
said_of (gen numbers) found said text is says = absurd (not_said made (Ok numbers) said text (λ made says. no_done says.0) is says)

said_after : (asked : Asked) (read : Result Found Obstacle) (said : Input) (text : List ℕ) → (read >>= input_in asked) ≡ Ok said → SaysInput said ended.SaidNo text → IsAnswer asked ended.SaidNo
said_after asked (Ok found) said text is says = said_of asked found said text is says
said_after asked (Err obstacle) said text is says = let no : ⊥ = cc in absurd no

said_no : (asked : Asked) (some : Option Files) (said : Input) (text : List ℕ) → IsSomeAnd some (λ shelf. IsOk (accepted_under asked shelf)) → IfSome some (λ shelf. accepted_under asked shelf ≡ Ok said) →
    SaysInput said ended.SaidNo text → IsAnswer asked ended.SaidNo
said_no asked None said text accepted comes says = absurd accepted
said_no asked (Some shelf) said text accepted comes says = said_after asked (found_in (files_of asked) shelf) said text comes says

no_is_answer : (call : Call) (can : IsAnswerable call) → HasEnded call ended.SaidNo → IsAnswer can.asked ended.SaidNo
no_is_answer call can has =
    let names = same_names call.words has.answered.asked can.asked has.answered.command can.command in
    said_no can.asked (needed (files_of can.asked) call.reading.before.files) has.answered.input has.text can.accepted (rw names at has.answered.agrees) has.answered.says

pub answers : (call : Call) (status : Status) → Means call status → (can : IsAnswerable call) → IsAnswerUnlessMemory can.asked status
answers call ended.Done means can = inl (is_done can.asked)
answers call ended.SaidNo means can = inl (no_is_answer call can means)
answers call ended.Usage means can = let both = sym can.command ∙ means.no_command in let no : ⊥ = cc in absurd no
answers call ended.Malformed means can = absurd (no_refusal call can means)
answers call ended.ReadFault means can = absurd (no_read_fault call can means)
answers call ended.WriteFault means can = absurd (can.puts means.cut_off.rose)
answers call ended.Memory means can = inr refl
