-- What a run promises, by its reply and by how that was delivered.
use Rattle.std.proofs.Common.{◌≡◌, ◌⊎◌, ⊎_elim, inl, inr, ℕ, Bool, true, false, List, [], Some, if◌then◌else◌, refl, sym, subst, ◌∙◌}
use Rattle.std.specs.List.{list_any}
use Rattle.pc_files.specs.Writing.{IsCutOff, IsUntouched}
use Rattle.pc_desk_schema.specs.Draft.{is_whole}
use Rattle.pc_desk_try.specs.Trials.{is_kept, trial_of}
use Rattle.pc_desk_words.specs.Words.{Asked, asked_of}
use Rattle.pc_desk_run.specs.declared.ended.Ended.{Ended}
use Rattle.pc_desk_run.specs.declared.ended.Ended.TheVariants as ends
use Rattle.pc_desk_run.specs.declared.reply.Reply.{Reply}
use Rattle.pc_desk_run.specs.declared.reply.Reply.TheVariants as replies
use Rattle.pc_desk_weigh.specs.declared.weighed.Weighed.{Weighed}
use Rattle.pc_desk_why.specs.declared.explained.Explained.{Explained}
use Rattle.pc_desk_run.specs.Endings.{has_impossible, is_impossible, is_open, stands_impossible}
use Rattle.pc_desk_run.specs.Meaning.{AsksFor, Call, Delivers, HasAnswered, HasRefused, IsNoted, KeepsPromise}
use Rattle.pc_desk_run.specs.Outcome.{Input, asks, drafts, explains, follows, limits, lists, recalls, tests, tries, weighs}
use Rattle.pc_desk_run.specs.Replies.{IsNoCall, IsSaid, RefusesAsked, RepliesTo, RepliesToNone, Responds}

module _ (call : Call) where
  -- ---- answers

  keeps_by : (impossible unsettled : Bool) (ended : Ended) → ended ≡ (if impossible then ends.Impossible else (if unsettled then ends.Open else ends.Settled)) → HasAnswered call ended → KeepsPromise call ended
  keeps_by true unsettled ended is has = subst (λ (e : Ended). KeepsPromise call e) (sym is) (subst (λ (e : Ended). HasAnswered call e) is has)
  keeps_by false true ended is has = subst (λ (e : Ended). KeepsPromise call e) (sym is) (subst (λ (e : Ended). HasAnswered call e) is has)
  keeps_by false false ended is has = subst (λ (e : Ended). KeepsPromise call e) (sym is) (inl (subst (λ (e : Ended). HasAnswered call e) is has))

  trial_keeps : (kept : Bool) (ended : Ended) → ended ≡ (if kept then ends.Settled else ends.Open) → HasAnswered call ended → KeepsPromise call ended
  trial_keeps true ended is has = keeps_by false false ended is has
  trial_keeps false ended is has = keeps_by false true ended is has

  said_keeps : (input : Input) (ended : Ended) (text note : List ℕ) → IsSaid input ended text note → HasAnswered call ended → KeepsPromise call ended
  said_keeps (asks form nodes asking) ended text note said has = keeps_by (list_any is_impossible said.0) (list_any is_open said.0) ended said.4.0 has
  said_keeps (follows form nodes scripted) ended text note said has = keeps_by (list_any is_impossible said.0) (list_any is_open said.0) ended said.2.0 has
  said_keeps (explains form nodes asking) ended text note said has =
      keeps_by (has_impossible said.0) (list_any (λ (told : Explained). told.open) said.0) ended said.6.0 has
  said_keeps (weighs names asking) ended text note said has =
      keeps_by (stands_impossible said.all) (list_any (λ (weighed : Weighed). list_any is_open weighed.entries) said.all) ended said.settled has
  said_keeps (tries form scale observed) ended text note said has = trial_keeps (is_kept (trial_of scale observed.constraints observed.rows)) ended said.0 has
  said_keeps (lists form listing) ended text note said has = keeps_by false false ended said.2.0 has
  said_keeps (limits limited) ended text note said has = keeps_by false false ended said.2.0 has
  said_keeps (tests table listing) ended text note said has = keeps_by false false ended said.0 has
  said_keeps (drafts draft) ended text note said has = trial_keeps (is_whole draft) ended said.0 has
  said_keeps (recalls names known) ended text note said has = keeps_by false false ended said.2.0 has

  -- ---- refusals

  refuses_keep : (asked : Asked) (ended : Ended) (text : List ℕ) → RefusesAsked call.reading asked ended text → HasRefused call ended → KeepsPromise call ended
  refuses_keep asked ends.Refused text refuses has = has
  refuses_keep asked ends.ReadFault text refuses has = has
  refuses_keep asked ends.Settled text refuses has = absurd refuses
  refuses_keep asked ends.Open text refuses has = absurd refuses
  refuses_keep asked ends.Impossible text refuses has = absurd refuses
  refuses_keep asked ends.WriteFault text refuses has = absurd refuses
  refuses_keep asked ends.Memory text refuses has = absurd refuses

  -- ---- what was asked for, but not written whole

  cut_off : (text : List ℕ) (result : Ended) → AsksFor call text → ((result ≡ ends.WriteFault) × IsCutOff call.output text) ⊎ ((result ≡ ends.Memory) × IsUntouched call.output) → KeepsPromise call result
  cut_off text result wanted short =
      ⊎_elim (λ cut. subst (λ (e : Ended). KeepsPromise call e) (sym cut.0) (record { text = text; asked = wanted; cut_off = cut.1 }))
      (λ none. subst (λ (e : Ended). KeepsPromise call e) (sym none.0) none.1) short

  -- ---- the reply to a call, and to words that are none

  replied : (asked : Asked) (reply : Reply) (result : Ended) → asked_of call.words ≡ Some asked → RepliesTo call.reading asked reply → Delivers call.output call.notes reply result → KeepsPromise call result
  replied asked (replies.Says ended text note) result verb says delivers =
      ⊎_elim (λ whole. subst (λ (e : Ended). KeepsPromise call e) (sym whole.0)
      (said_keeps says.input ended text note says.said (record { text = text; note = note; asked = asked; verb = verb; answers = says; written = whole.1; noted = whole.2 })))
      (λ short. cut_off text result (inl (asked, ended, note, verb, says)) short) delivers
  replied asked (replies.Refuses ended text) result verb refuses delivers =
      subst (λ (e : Ended). KeepsPromise call e) (sym delivers.0)
      (refuses_keep asked ended text refuses (record { text = text; refuses = inl (asked, verb, refuses); silent = delivers.1; noted = delivers.2 }))

  silent_note : (note : List ℕ) → note ≡ [] → IsNoted call.notes note → IsNoted call.notes []
  silent_note note is noted = rw is at noted

  replied_none : (reply : Reply) (result : Ended) → IsNoCall call.reading call.words → RepliesToNone call.words reply → Delivers call.output call.notes reply result → KeepsPromise call result
  replied_none (replies.Says ended text note) result none says delivers =
      ⊎_elim (λ whole. subst (λ (e : Ended). KeepsPromise call e) (sym (whole.0 ∙ says.1))
      (inr (record { no_call = none; asked = says.0; text = text; written = whole.1; noted = silent_note note says.2 whole.2 })))
      (λ short. cut_off text result (inr (none, says.0)) short) delivers
  replied_none (replies.Refuses ended text) result none is delivers =
      subst (λ (e : Ended). KeepsPromise call e) (sym (delivers.0 ∙ is.1))
      (record { text = text; refuses = inr (none, is.0, refl); silent = delivers.1; noted = delivers.2 })

  pub keeps : (reply : Reply) (result : Ended) → Responds call.reading call.words reply → Delivers call.output call.notes reply result → KeepsPromise call result
  keeps reply result responds delivers =
      ⊎_elim (λ to. replied to.0 reply result to.1 to.2 delivers) (λ none. replied_none reply result none.0 none.1 delivers) responds
