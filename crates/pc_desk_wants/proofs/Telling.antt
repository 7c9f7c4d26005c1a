-- What is told of a text, from what is read of it.
use Rattle.std.proofs.Common.{◌≡◌, ℕ, List, inl, inr}
use Rattle.pc_lang_tokens.specs.declared.tokens.Tokens.{Tokens}
use Rattle.pc_lang_tokens.specs.Places.{AreTokens, BeginsNone}
use Rattle.pc_lang_grammar.specs.declared.want.Want.{Want}
use Rattle.pc_lang_grammar.specs.Halts.{halt_of}
use Rattle.pc_desk_wants.specs.Told.{IsTold, halt_text, none_text}

module _ (front text told : List ℕ) (start : Want) where
  pub tells_halt : (tokens : Tokens) → AreTokens text tokens → told ≡ halt_text front text tokens (halt_of start tokens.list) → IsTold front text start told
  tells_halt tokens are is = inl (tokens, are, is)

  pub tells_none : (place : ℕ) → BeginsNone text place → told ≡ none_text front text place → IsTold front text start told
  tells_none place none is = inr (place, none, is)

pub ruleset steps = (tells_halt, tells_none)
