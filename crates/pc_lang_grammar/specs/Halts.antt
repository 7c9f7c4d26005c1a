-- Where the reading of tokens stops, and what that says of the texts of the language.
use Rattle.std.specs.Prelude.{◌≡◌, ◌≢◌, ◌<◌, ◌≤◌, ⊤, ℕ, ◌+◌, Bool, true, false, List, [], ◌∷◌, ◌++◌, length, take, Option, Some, None, is_some, Result, Ok, Err}
use Rattle.pc_model.specs.declared.fault.Reason.{Reason}
use Rattle.pc_model.specs.declared.fault.Reason.TheVariants as reasons
use Rattle.pc_model.specs.declared.fault.ReadStop.{ReadStop}
use Rattle.pc_model.specs.declared.fault.ReadStop.TheVariants as stops
use Rattle.pc_lang_tokens.specs.declared.token.Word.TheVariants as words
use Rattle.pc_lang_tokens.specs.declared.token.Token.{Token}
use Rattle.pc_lang_tokens.specs.declared.token.Token.TheVariants as tokens
use Rattle.pc_lang_grammar.specs.declared.syntax.Question.{Question}
use Rattle.pc_lang_grammar.specs.declared.syntax.QuantileQuestion.{QuantileQuestion}
use Rattle.pc_lang_grammar.specs.Grammar.{quantile_tokens, question_tokens}
use Rattle.pc_lang_grammar.specs.declared.want.Want.{Want}
use Rattle.pc_lang_grammar.specs.declared.halt.Halt.{Halt}
use Rattle.pc_lang_grammar.specs.declared.halt.Unread.{Unread}
use Rattle.pc_lang_grammar.specs.declared.halt.Unread.TheVariants as unreads
use Rattle.pc_lang_grammar.specs.Wants.{kind_of, may_end, next}

abbrev halt_at : ℕ → Want → Option Want → (Want → Halt) → Halt
halt_at place want None later = record { place = place; want = want }
halt_at place want (Some further) later = later further

-- where tokens stop that begin at a place, at which this is wanted
unfoldable pub halt_from : ℕ → Want → List Token → Halt
halt_from place want [] = record { place = place; want = want }
halt_from place want (token ∷ rest) = halt_at place want (next want (kind_of token)) (λ further. halt_from (place + 1) further rest)

-- the first token that may not stand where it does, and what may stand there; or the end
unfoldable pub halt_of : Want → List Token → Halt
halt_of start tokens = halt_from 0 start tokens

-- the same for a reader of which only the reason is told
abbrev pub stop_of : Unread → ReadStop
stop_of (unreads.Halted halt) = stops.Reason reasons.Unexpected
stop_of unreads.Memory = stops.Memory

abbrev pub unread_for : ReadStop → Halt → Unread
unread_for (stops.Reason reason) halt = unreads.Halted halt
unread_for stops.Memory halt = unreads.Memory

-- what is answered is what the tokens spell, or they are refused and reading stops there, unless memory ran out
abbrev pub Reads : {A : Type 0} → Result A Unread → Result A Reason → Halt → Type 0
Reads (Ok x) wanted halt = wanted ≡ Ok x
Reads (Err (unreads.Halted at)) wanted halt = (wanted ≡ Err reasons.Unexpected) × (at ≡ halt)
Reads (Err unreads.Memory) wanted halt = ⊤

-- ---- what a place says

-- what may be asked: a query, or that of a quantile
pub data AskedQuery : Type 0 where
  plain : Question → AskedQuery
  share : QuantileQuestion → AskedQuery

abbrev pub asked_tokens : AskedQuery → List Token
asked_tokens (plain question) = question_tokens question
asked_tokens (share question) = quantile_tokens question

-- what a constraint is called by: a name, or `outside`
pub data Rule : Type 0 where
  named : List ℕ → Rule
  outside : Rule

abbrev pub rule_tokens : Rule → List Token
rule_tokens (named name) = tokens.Name name ∷ []
rule_tokens outside = tokens.Reserved words.Outside ∷ []

-- some text of those that are spelled so begins with these tokens
abbrev pub Begins : {A : Type 0} → (A → List Token) → List Token → Type 0
Begins {A} spelled front = (x : A) × (rest : List Token) × (spelled x ≡ front ++ rest)

abbrev pub may_stand : Want → Token → Bool
may_stand want token = is_some (next want (kind_of token))

-- The place is the first at which the tokens leave the language: some text begins with those before it, and none with those up to
-- and with the one at it; and what is told to be wanted there is what may stand there, and nothing else.
pub record IsPlaceIn {A : Type 0} (spelled : A → List Token) (list : List Token) (halt : Halt) : Type 0 where
  pub within : halt.place ≤ length list
  pub begun : Begins spelled (take halt.place list)
  pub no_further : halt.place < length list → ¬ Begins spelled (take (halt.place + 1) list)
  pub goes_on : (token : Token) → may_stand halt.want token ≡ true → Begins spelled (take halt.place list ++ token ∷ [])
  pub no_other : (token : Token) → may_stand halt.want token ≡ false → ¬ Begins spelled (take halt.place list ++ token ∷ [])
  pub ends : may_end halt.want ≡ true → (x : A) × (spelled x ≡ take halt.place list)
  pub no_end : may_end halt.want ≡ false → (x : A) → spelled x ≢ take halt.place list
