-- What was read, and what is said of it, is the reply to a call.
use Rattle.std.proofs.Common.{◌≡◌, inl, inr, ℕ, List, [], Option, Err, refl, subst}
use Rattle.pc_model.specs.declared.constraint.Constraint.{Constraint}
use Rattle.pc_model.specs.declared.fault.Fault.{Fault}
use Rattle.pc_model.specs.declared.fault.FileKind.{FileKind}
use Rattle.pc_base.specs.Files.{Files}
use Rattle.pc_lang.specs.Canonical.{constraints_text}
use Rattle.pc_files.specs.declared.kept.Kept.{Kept}
use Rattle.pc_files.specs.declared.reading.Limited.{Limited}
use Rattle.pc_files.specs.declared.stop.Stop.{Stop}
use Rattle.pc_files.specs.declared.stop.Stop.TheVariants as stops
use Rattle.pc_files.specs.Keeping.{ExplainsFault, KeptUntil}
use Rattle.pc_files.specs.Loading.{Agrees, LoadsUntil, Reading}
use Rattle.pc_desk_limit.specs.Limiting.{IsClosed}
use Rattle.pc_desk_words.specs.Words.{Asked}
use Rattle.pc_desk_run.specs.declared.ended.Ended.{Ended}
use Rattle.pc_desk_run.specs.declared.ended.Ended.TheVariants as ends
use Rattle.pc_desk_run.specs.declared.reply.Reply.{Reply}
use Rattle.pc_desk_run.specs.declared.reply.Reply.TheVariants as replies
use Rattle.pc_desk_run.specs.Inputs.{Explains}
use Rattle.pc_desk_run.specs.Outcome.{ComesTo, Input, files_of, limits}
use Rattle.pc_desk_run.specs.Replies.{Answers, IsPosed, IsSaid, IsStopReply, IsWritten, RepliesTo, Says, Saying, limits_of, opening_of}
use Rattle.pc_desk_run.specs.Texts.{Named, named_in}

pub says_more : (First Then : Saying) → ((ended : Ended) (text note : List ℕ) → First ended text note → Then ended text note) → (reply : Reply) → Says First reply → Says Then reply
says_more First Then more (replies.Says ended text note) says = more ended text note says
says_more First Then more (replies.Refuses ended text) says = absurd says

-- what is said of an input answers it
pub says_answers : (named : Named) (input : Input) (reply : Reply) → Says (IsSaid input) reply → Answers named input reply
says_answers named input (replies.Says ended text note) says = says
says_answers named input (replies.Refuses ended text) says = absurd says

-- a list that closes what limits would open, and why there is none
pub says_limits : (named : Named) (limited : Limited) (written : List Constraint) → IsClosed limited.schema (opening_of limited) (limits_of limited) written → (reply : Reply) →
    Says (IsWritten ends.Settled (constraints_text limited.schema written) []) reply → Answers named (limits limited) reply
says_limits named limited written closed (replies.Says ended text note) is = (written, closed, is)
says_limits named limited written closed (replies.Refuses ended text) is = absurd is

-- what is kept where reading stops explains the fault
pub explained : (told : Option Files) (name_of : FileKind → List ℕ) (kept : Kept) (stop : Stop) → KeptUntil told name_of kept stop → (fault : Fault) → stop ≡ stops.Refused fault → ExplainsFault told name_of kept fault.file
explained told name_of kept stop until fault is = subst (λ (s : Stop). KeptUntil told name_of kept s) is until

module _ (reading : Reading) (asked : Asked) where
  pub says_input : (input : Input) → IsPosed reading asked input → (reply : Reply) → Answers (named_in asked) input reply → RepliesTo reading asked reply
  says_input input posed (replies.Says ended text note) says = record { input = input; posed = posed; said = says }
  says_input input posed (replies.Refuses ended text) refuses = rw refuses.0 (inr (record { input = input; posed = posed; unwritten = refuses.1 }))

  pub says_stop : (kept : Kept) (stop : Stop) → Agrees (ComesTo reading.before.files asked) (Err stop) → LoadsUntil reading (files_of asked) stop →
      ((fault : Fault) → stop ≡ stops.Refused fault → Explains reading.before.files asked kept fault.file) → (reply : Reply) → IsStopReply (named_in asked) kept stop reply → RepliesTo reading asked reply
  says_stop kept (stops.Refused fault) agrees loads explains reply is =
      rw is.2 (inl (record { fault = fault; agrees = agrees; loads = loads; kept = kept; explains = explains fault refl; told = is.1 }))
  says_stop kept (stops.Unread kind) agrees loads explains reply is = rw is (record { kind = kind; unread = loads; told = refl })
  says_stop kept stops.Memory agrees loads explains reply is = absurd is
