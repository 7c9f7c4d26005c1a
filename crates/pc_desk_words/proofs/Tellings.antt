-- What words come to, by the clauses of `clap`'s parse.
use Rattle.std.proofs.Common.{◌≡◌, ◌∙◌, ◌⊎◌, ◌||◌, ◌&&◌, Bool, not, true, false, List, [], ◌∷◌, Option, None, refl, sym, ap, ap₂, inl, inr, true≢false}
use Rattle.std.specs.List.{list_all}
use Rattle.clap.specs.Kinds.{IsAmong, Kinds}
use Rattle.clap.specs.Words.{HasMatchesOf, fault_of, is_simple, is_simple_and_free, subcommand_of, subcommand_rows_of}
use Rattle.clap.specs.Walk.{Row, Text, is_empty}
use Rattle.clap.specs.declared.error.kind.ErrorKind.{ErrorKind}
use Rattle.clap.specs.declared.error.kind.ErrorKind.TheVariants.{OutOfMemory}
use Rattle.clap.specs.declared.parser.matches.ArgMatches.{ArgMatches}
use Rattle.pc_desk_words.specs.Calls.{Holds, IsRefusal, Reads, Tells}
use Rattle.pc_desk_words.specs.Program.{desk_app}
use Rattle.pc_desk_words.specs.Words.{Asked, asked_by, asked_of, asked_without, is_request, may_show, only_shows}
use Rattle.pc_desk_words.specs.declared.call.Call.{Call}
use Rattle.pc_desk_words.specs.declared.call.Call.TheVariants as calls

pub is_simple_desk : is_simple desk_app ≡ true
is_simple_desk = refl

pub is_free_desk : is_simple_and_free desk_app ≡ true
is_free_desk = refl

module _ (words : List Text) where
  pub asked_found : (found : ArgMatches) → HasMatchesOf desk_app words found → fault_of desk_app words ≡ [] → asked_of words ≡ asked_by (subcommand_rows_of found)
  asked_found found matches none = ap₂ asked_without none (sym (matches is_simple_desk).1)

  pub held_reads : (asked : Option Asked) (call : Call) → asked_of words ≡ asked → Holds asked call → Reads words call
  held_reads asked (calls.Ask call) e holds = e ∙ holds
  held_reads asked (calls.Session call) e holds = e ∙ holds
  held_reads asked (calls.Why call) e holds = e ∙ holds
  held_reads asked (calls.Weigh call) e holds = e ∙ holds
  held_reads asked (calls.Trial call) e holds = e ∙ holds
  held_reads asked (calls.Opens call) e holds = e ∙ holds
  held_reads asked (calls.History call) e holds = e ∙ holds
  held_reads asked (calls.Limit call) e holds = e ∙ holds
  held_reads asked (calls.Sql call) e holds = e ∙ holds
  held_reads asked (calls.Draft call) e holds = e ∙ holds
  held_reads asked (calls.Shows text) e holds = absurd holds
  held_reads asked (calls.Refused text) e holds = absurd holds

  pub refused_reads : asked_of words ≡ None → fault_of desk_app words ≡ [] → (call : Call) → IsRefusal call → Reads words call
  refused_reads missing none (calls.Ask call) refused = absurd refused
  refused_reads missing none (calls.Session call) refused = absurd refused
  refused_reads missing none (calls.Why call) refused = absurd refused
  refused_reads missing none (calls.Weigh call) refused = absurd refused
  refused_reads missing none (calls.Trial call) refused = absurd refused
  refused_reads missing none (calls.Opens call) refused = absurd refused
  refused_reads missing none (calls.History call) refused = absurd refused
  refused_reads missing none (calls.Limit call) refused = absurd refused
  refused_reads missing none (calls.Sql call) refused = absurd refused
  refused_reads missing none (calls.Draft call) refused = absurd refused
  refused_reads missing none (calls.Shows text) refused = absurd refused
  refused_reads missing none (calls.Refused text) refused = (missing, ap only_shows none)

-- ---- kinds of errors

or_true : (first second : Bool) → second ≡ true → (first || second) ≡ true
or_true true second e = refl
or_true false second e = e

and_false : (first second : Bool) → second ≡ false → (first && second) ≡ false
and_false true second e = e
and_false false second e = refl

no_call : (kind : ErrorKind) (kinds : Kinds) (found : Option (Text × List Row)) → IsAmong kind kinds → asked_without kinds found ≡ None
no_call kind [] found among = absurd among
no_call kind (first ∷ kinds) found among = refl

shown : (kind : ErrorKind) (kinds : Kinds) → IsAmong kind kinds → is_request kind ≡ true → may_show kinds ≡ true
shown kind [] among e = absurd among
shown kind (first ∷ kinds) (inl same) e = ap (λ test. test || may_show kinds) (ap is_request (sym same) ∙ e)
shown kind (first ∷ kinds) (inr among) e = or_true (is_request first) (may_show kinds) (shown kind kinds among e)

not_all : (kind : ErrorKind) (kinds : Kinds) → IsAmong kind kinds → is_request kind ≡ false → list_all is_request kinds ≡ false
not_all kind [] among e = absurd among
not_all kind (first ∷ kinds) (inl same) e = ap (λ test. test && list_all is_request kinds) (ap is_request (sym same) ∙ e)
not_all kind (first ∷ kinds) (inr among) e = and_false (is_request first) (list_all is_request kinds) (not_all kind kinds among e)

not_only : (kind : ErrorKind) (kinds : Kinds) → IsAmong kind kinds → is_request kind ≡ false → only_shows kinds ≡ false
not_only kind [] among e = absurd among
not_only kind (first ∷ kinds) among e = and_false (not (is_empty (first ∷ kinds))) (list_all is_request (first ∷ kinds)) (not_all kind (first ∷ kinds) among e)

module _ (words : List Text) (kind : ErrorKind) where
  pub told_reads : (kind ≡ OutOfMemory) ⊎ IsAmong kind (fault_of desk_app words) → (call : Call) → Tells kind call → Reads words call
  told_reads fails (calls.Ask call) tells = absurd tells
  told_reads fails (calls.Session call) tells = absurd tells
  told_reads fails (calls.Why call) tells = absurd tells
  told_reads fails (calls.Weigh call) tells = absurd tells
  told_reads fails (calls.Trial call) tells = absurd tells
  told_reads fails (calls.Opens call) tells = absurd tells
  told_reads fails (calls.History call) tells = absurd tells
  told_reads fails (calls.Limit call) tells = absurd tells
  told_reads fails (calls.Sql call) tells = absurd tells
  told_reads fails (calls.Draft call) tells = absurd tells
  told_reads (inl memory) (calls.Shows text) tells = absurd (true≢false (sym tells ∙ ap is_request memory))
  told_reads (inr among) (calls.Shows text) tells = (no_call kind (fault_of desk_app words) (subcommand_of desk_app words) among, shown kind (fault_of desk_app words) among tells)
  told_reads (inl memory) (calls.Refused text) tells = absurd (tells.1 memory)
  told_reads (inr among) (calls.Refused text) tells =
      (no_call kind (fault_of desk_app words) (subcommand_of desk_app words) among, not_only kind (fault_of desk_app words) among tells.0)
