-- Where the tokens of a line begin, and where none does.
use Rattle.std.specs.Prelude.{◌≡◌, ◌<◌, ⊤, ℕ, List, length, drop, Result, Ok, Err}
use Rattle.std.specs.List.{AllZip}
use Rattle.pc_model.specs.declared.fault.Reason.TheVariants as reasons
use Rattle.pc_model.specs.declared.fault.ReadStop.{ReadStop}
use Rattle.pc_model.specs.declared.fault.ReadStop.TheVariants as stops
use Rattle.pc_lang_tokens.specs.declared.token.Token.{Token}
use Rattle.pc_lang_tokens.specs.declared.tokens.Tokens.{Tokens}
use Rattle.pc_lang_tokens.specs.declared.tokens.NoTokens.{NoTokens}
use Rattle.pc_lang_tokens.specs.declared.tokens.NoTokens.TheVariants as nones
use Rattle.pc_lang_tokens.specs.Lexing.{token_at, tokens_from, tokens_of}

-- the token stands in the text from this place on
abbrev pub BeginsAt : List ℕ → Token → ℕ → Type 0
BeginsAt text token place = (len : ℕ) × (token_at (drop place text) ≡ Ok (token, len))

-- the tokens of a text, each with its place
pub record AreTokens (text : List ℕ) (tokens : Tokens) : Type 0 where
  pub all : tokens_of text ≡ Ok tokens.list
  pub placed : AllZip (BeginsAt text) tokens.list tokens.places

-- at this place no token begins, and what stands before it are tokens
pub record BeginsNone (text : List ℕ) (place : ℕ) : Type 0 where
  pub inside : place < length text
  pub none : token_at (drop place text) ≡ Err reasons.BadToken
  pub before : (tokens : List Token) × (tokens_of text ≡ tokens_from tokens 0 (drop place text))
  pub refused : tokens_of text ≡ Err reasons.BadToken

-- what reading a text answers: its tokens, or a place at which none begins, unless memory ran out
abbrev pub ReadsTokens : List ℕ → Result Tokens NoTokens → Type 0
ReadsTokens text (Ok tokens) = AreTokens text tokens
ReadsTokens text (Err (nones.At place)) = BeginsNone text place
ReadsTokens text (Err nones.Memory) = ⊤

-- the same for a reader of which only the reason is told
abbrev pub stop_of : NoTokens → ReadStop
stop_of (nones.At place) = stops.Reason reasons.BadToken
stop_of nones.Memory = stops.Memory

-- how far a loop has come: these tokens stand before a place, and so many bytes from there on belong to the last of them
pub record HasRead (text : List ℕ) (place : ℕ) (tokens : Tokens) (taken : ℕ) : Type 0 where
  pub left : tokens_of text ≡ tokens_from tokens.list taken (drop place text)
  pub placed : AllZip (BeginsAt text) tokens.list tokens.places
