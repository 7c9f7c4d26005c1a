-- Of bytes that are checked, yes is said of the text of a document that breaks no rule, as of one that `prove` wrote, and no where a
-- rule is broken.
use Rattle.std.proofs.Common.{◌≡◌, ℕ, ◌⊎◌, ⊎_elim, inl, inr, List, Option, Some, None, Result, Ok, Err, IfOk, IsSomeAnd, refl, sym, subst, ◌∙◌}
use Rattle.pc_model.specs.declared.schema.Schema.{Schema}
use Rattle.pc_base.specs.declared.status.Status.{Status}
use Rattle.pc_base.specs.declared.status.Status.TheVariants as ended
use Rattle.pc_base.specs.Files.{Files}
use Rattle.pc_rows.specs.declared.case.Case.{Case}
use Rattle.pc_proof.specs.declared.document.Document.{Document}
use Rattle.pc_proof.specs.Documents.{Premises, AreUnbroken, IsFirstBrokenIn, premises_of}
use Rattle.pc_proof.proofs.DocumentLines.{document-whole}
use Rattle.pc_document_lines.proofs.AllLines.{all_lines}
use Rattle.pc_document.specs.DocumentLines.{document_text}
use Rattle.pc_document.specs.Told.{IsDocumentText}
use Rattle.pc_document.proofs.DocumentFormat.{only_document}
use Rattle.pc_check.specs.declared.verdict.Verdict.{Verdict}
use Rattle.pc_check.specs.declared.verdict.Verdict.TheVariants as verdicts
use Rattle.pc_run_words.specs.Words.{Asked, CheckNames, check}
use Rattle.pc_run.specs.declared.input.Claim.{Claim}
use Rattle.pc_run.specs.declared.input.Input.{Input}
use Rattle.pc_run.specs.declared.input.Input.TheVariants.{Claims}
use Rattle.pc_run.specs.Inputs.{IsCheckable, IsSoundInput}
use Rattle.pc_files.specs.Outcome.{Obstacle, refused, absent}
use Rattle.pc_run.specs.Outcome.{accepted_under, ComesTo, AreAccepted}
use Rattle.pc_run.specs.Replies.{BreaksFirst, BreaksRule, HasVerdict, IsNoDocument, RepliesTo, RepliesToCommand, RepliesToNone, Responds, Says, SaysFault, SaysInput, SaysOutcome, SaysProof, SaysVerdict, SpellsUnbroken, status_of}
use Rattle.pc_run.specs.Meaning.{Call, ChecksClaim, IsAnswerable, IsDoneUnlessMemory, IsProved, Means, SaysNoUnlessMemory}
use Rattle.pc_run.proofs.Answering.{answers, same_names}

-- ---- a document that breaks no rule has no rule that is the first broken

module _ (claim : Claim) (sound : IsCheckable claim) (spells : SpellsUnbroken claim) where
  not_broken : (line rule : ℕ) → BreaksRule claim line rule → ⊥
  not_broken line rule broken =
      let same = only_document claim.observed.schema claim.bytes broken.document spells.document (all_lines claim.observed.schema sound.well_formed) broken.spelled spells.spelled in
      let premises = premises_of claim.observed.schema claim.observed.rows claim.observed.constraints in
      document-whole premises None 2 line rule spells.document.blocks
      (subst (λ (document : Document). IsFirstBrokenIn premises None 2 line rule document.blocks) same broken.first) spells.unbroken

  breaks_none : (line rule : ℕ) → BreaksFirst claim line rule → ⊥
  breaks_none line rule breaks =
      ⊎_elim (λ (none : IsNoDocument claim line rule). none.fault.none spells.document spells.spelled)
      (λ (broken : BreaksRule claim line rule). not_broken line rule broken) breaks

-- ---- what a document that `prove` wrote is

text_is : (nodes : ℕ) (case : Case) (bytes : List ℕ) (proof : SaysProof nodes case bytes) → IsDocumentText case.schema bytes proof.document
unfolding document_text
text_is nodes case bytes proof = (proof.answers.formed, sym proof.proved)

spells_proof : (claim : Claim) → IsProved claim → SpellsUnbroken claim
spells_proof claim is =
    let same : premises_of claim.observed.schema claim.observed.rows claim.observed.constraints ≡ premises_of is.case.schema is.case.rows is.case.constraints
    = rw (is.same_schema, is.same_rows, is.same_constraints) refl in
    record {
      document = is.proof.document;
      spelled = subst (λ (schema : Schema). IsDocumentText schema claim.bytes is.proof.document) (sym is.same_schema) (text_is is.nodes is.case claim.bytes is.proof);
      unbroken = subst (λ (premises : Premises). AreUnbroken premises None is.proof.document.blocks) (sym same) is.proof.answers.unbroken;
    }

-- ---- what is said of a claim, with this status

record SaysOf (claim : Claim) (status : Status) : Type 0 where
  verdict : Verdict
  holds : HasVerdict claim verdict
  ended : status ≡ status_of verdict
  sound : IsCheckable claim

not_malformed : (status : Status) → (status ≡ ended.Done) ⊎ (status ≡ ended.SaidNo) → status ≡ ended.Malformed → ⊥
not_malformed status said is = ⊎_elim (λ done. let both = sym done ∙ is in let no : ⊥ = cc in no) (λ no'. let both = sym no' ∙ is in let no : ⊥ = cc in no) said

not_unread : (status : Status) → (status ≡ ended.Done) ⊎ (status ≡ ended.SaidNo) → status ≡ ended.ReadFault → ⊥
not_unread status said is = ⊎_elim (λ done. let both = sym done ∙ is in let no : ⊥ = cc in no) (λ no'. let both = sym no' ∙ is in let no : ⊥ = cc in no) said

module _ (call : Call) (checks : ChecksClaim call) where
  claim_is : (told : Option Files) (said : Input) → IsSomeAnd told (λ shelf. accepted_under (check checks.names) shelf ≡ Ok (Claims checks.claim)) → ComesTo told (check checks.names) (Ok said) → Claims checks.claim ≡ said
  claim_is None said held comes = absurd held
  claim_is (Some shelf) said held comes = let same = sym held ∙ comes in cc

  module _ (status : Status) (answered : (status ≡ ended.Done) ⊎ (status ≡ ended.SaidNo)) (text : List ℕ) where
    by_outcome : (outcome : Result Input Obstacle) → IfOk outcome IsSoundInput → Says outcome status text → ComesTo call.reading.before.files (check checks.names) outcome → SaysOf checks.claim status
    by_outcome (Ok said) sound says comes =
        let same = claim_is call.reading.before.files said checks.held comes in
        let verdict : SaysVerdict checks.claim status text = subst (λ (input : Input). SaysInput input status text) (sym same) says in
        record { verdict = verdict.verdict; holds = verdict.holds; ended = verdict.ended; sound = subst IsSoundInput (sym same) sound }
    by_outcome (Err (refused fault)) sound says comes = absurd (not_malformed status answered says.0)
    by_outcome (Err (absent file)) sound says comes = absurd says

    by_reply : (asked : Asked) → check checks.names ≡ asked → RepliesTo call.reading asked status text → SaysOf checks.claim status
    by_reply asked same replies =
        ⊎_elim
        (λ (fault : SaysFault call.reading asked status text). absurd (not_unread status answered fault.ended))
        (λ (says : SaysOutcome call.reading asked status text). by_outcome says.outcome says.sound says.says (subst (λ (a : Asked). ComesTo call.reading.before.files a says.outcome) (sym same) says.agrees))
        replies

    said_of : Responds call.reading call.words status text → SaysOf checks.claim status
    said_of responds =
        ⊎_elim
        (λ (none : RepliesToNone call.reading call.words status text). let both = sym checks.command ∙ none.none in let no : ⊥ = cc in absurd no)
        (λ (replies : RepliesToCommand call.reading call.words status text).
        by_reply replies.asked (same_names call.words (check checks.names) replies.asked checks.command replies.command) replies.replies)
        responds

-- ---- no is not said of what breaks no rule, and yes not of what breaks one

yes_not_no : (claim : Claim) (status : Status) → status ≡ ended.SaidNo → SpellsUnbroken claim → (verdict : Verdict) → HasVerdict claim verdict → status ≡ status_of verdict → IsCheckable claim → ⊥
yes_not_no claim status is spells verdicts.Yes holds ended' sound = let both = sym is ∙ ended' in let no : ⊥ = cc in no
yes_not_no claim status is spells (verdicts.No line rule) holds ended' sound = breaks_none claim sound spells line rule holds

no_not_yes : (claim : Claim) (status : Status) (line rule : ℕ) → status ≡ ended.Done → BreaksFirst claim line rule → (verdict : Verdict) → HasVerdict claim verdict → status ≡ status_of verdict → IsCheckable claim → ⊥
no_not_yes claim status line rule is breaks verdicts.Yes holds ended' sound = breaks_none claim sound (record { document = holds.document; spelled = holds.spelled; unbroken = holds.unbroken }) line rule breaks
no_not_yes claim status line rule is breaks (verdicts.No other kind) holds ended' sound = let both = sym is ∙ ended' in let no : ⊥ = cc in no

-- ---- and the run can be answered

accepted : (told : Option Files) (names : CheckNames) (claim : Claim) → IsSomeAnd told (λ shelf. accepted_under (check names) shelf ≡ Ok (Claims claim)) → AreAccepted told (check names)
accepted None names claim held = absurd held
accepted (Some shelf) names claim held = rw held refl

abbrev can_answer : (call : Call) → ChecksClaim call → IsAnswerable call
can_answer call checks = record {
  asked = check checks.names;
  command = checks.command;
  accepted = accepted call.reading.before.files checks.names checks.claim checks.held;
  loads = checks.loads;
  puts = checks.puts;
}

module _ (call : Call) (status : Status) (text : List ℕ) (responds : Responds call.reading call.words status text) (means : Means call status) (checks : ChecksClaim call) where
  not_no : SpellsUnbroken checks.claim → status ≡ ended.SaidNo → ⊥
  not_no spells is =
      let says = said_of call checks status (inr is) text responds in
      yes_not_no checks.claim status is spells says.verdict says.holds says.ended says.sound

  not_yes : (line rule : ℕ) → BreaksFirst checks.claim line rule → status ≡ ended.Done → ⊥
  not_yes line rule breaks is =
      let says = said_of call checks status (inl is) text responds in
      no_not_yes checks.claim status line rule is breaks says.verdict says.holds says.ended says.sound

  pub says_yes : SpellsUnbroken checks.claim → IsDoneUnlessMemory status
  says_yes spells =
      ⊎_elim (λ answer. ⊎_elim (λ done. inl done) (λ no. absurd (not_no spells no)) answer) (λ memory. inr memory) (answers call status means (can_answer call checks))

  pub says_no : (line rule : ℕ) → BreaksFirst checks.claim line rule → SaysNoUnlessMemory status
  says_no line rule breaks =
      ⊎_elim (λ answer. ⊎_elim (λ done. absurd (not_yes line rule breaks done)) (λ no. inl no) answer) (λ memory. inr memory) (answers call status means (can_answer call checks))

  pub agrees : IsProved checks.claim → IsDoneUnlessMemory status
  agrees proved = says_yes (spells_proof checks.claim proved)
