use Rattle.std.proofs.Common.{◌≡◌, ◌∙◌, [], ap, map, string_bytes, subst}
use Rattle.std.proofs.lemmas.Result.{IfOk-weaker}
use Rattle.clap.specs.Values.{kind_of}
use Rattle.clap.specs.Kinds.{HasKind}
use Rattle.clap.specs.Words.{HasMatchesOf, fault_of, is_simple_and_free, subcommand_rows_of}
use Rattle.pc_desk_words.specs.Calls.{HoldsIf}
use Rattle.pc_desk_words.specs.Words.{asked_by}
use Rattle.pc_desk_words.proofs.Tellings.{asked_found, held_reads, is_free_desk, refused_reads, told_reads}
use Rattle.pc_desk_words.proofs.call.read_by.Goals as goal

pub returns-in-Some-clause-reads : goal.returns-in-Some-clause-reads
returns-in-Some-clause-reads c =
    let words = map string_bytes c.args.words.now in
    let none = subst (λ app. fault_of app words ≡ []) c.requires (c.in-Ok.ensures.kinds (ap is_simple_and_free c.requires ∙ is_free_desk)) in
    let matches = subst (λ app. HasMatchesOf app words c.in-Ok.found) c.requires c.in-Ok.ensures.matches in
    held_reads words (asked_by (subcommand_rows_of c.in-Ok.found)) c.in-Some.call (asked_found words c.in-Ok.found matches none)
    (subst (HoldsIf (asked_by (subcommand_rows_of c.in-Ok.found))) c.in-Some.is c.in_ok-call-in-Ok.ensures.holds)

pub returns-in-Ok-clause-reads : goal.returns-in-Ok-clause-reads
returns-in-Ok-clause-reads c =
    let words = map string_bytes c.args.words.now in
    let none = subst (λ app. fault_of app words ≡ []) c.requires (c.in-Ok.ensures.kinds (ap is_simple_and_free c.requires ∙ is_free_desk)) in
    let matches = subst (λ app. HasMatchesOf app words c.in-Ok.found) c.requires c.in-Ok.ensures.matches in
    let no = subst (HoldsIf (asked_by (subcommand_rows_of c.in-Ok.found))) c.in-None.is c.in_ok-call-in-Ok.ensures.holds in
    IfOk-weaker c.value_refused.result _ _ (λ call refused. refused_reads words (asked_found words c.in-Ok.found matches none ∙ no) none call refused) c.value_refused.ensures.refuses

pub returns-clause-reads : goal.returns-clause-reads
returns-clause-reads c =
    let words = map string_bytes c.args.words.now in
    let fails = subst (λ app. HasKind (fault_of app words) c.in-Err.error) c.requires (c.in-Err.ensures.kinds (ap is_simple_and_free c.requires ∙ is_free_desk)) in
    IfOk-weaker c.told.result _ _ (λ call tells. told_reads words (kind_of c.in-Err.error) fails call tells) c.told.ensures.tells
