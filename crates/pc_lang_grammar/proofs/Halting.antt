-- Where tokens stop, as far as a loop has come.
use Rattle.std.proofs.Common.{◌≡◌, ℕ, ◌+◌, ◌≤◌, List, ◌∷◌, length, drop, refl}
use Rattle.std.specs.Prelude.{Some, None}
use Rattle.std.proofs.lemmas.List.{drop_all}
use Rattle.pc_lang_tokens.specs.declared.token.Token.{Token}
use Rattle.pc_lang_grammar.specs.declared.want.Want.{Want}
use Rattle.pc_lang_grammar.specs.Halts.{halt_from}
use Rattle.pc_lang_grammar.specs.Wants.{kind_of, next}

pub halts_here : (place : ℕ) (want : Want) (token : Token) (rest : List Token) → next want (kind_of token) ≡ None → halt_from place want (token ∷ rest) ≡ record { place = place; want = want }
unfolding halt_from
halts_here place want token rest none = rw none refl

pub goes_on : (place : ℕ) (want further : Want) (token : Token) (rest : List Token) → next want (kind_of token) ≡ Some further → halt_from place want (token ∷ rest) ≡ halt_from (place + 1) further rest
unfolding halt_from
goes_on place want further token rest some = rw some refl

pub all_stand : (place at : ℕ) (want : Want) (list : List Token) → length list ≤ at → halt_from place want (drop at list) ≡ record { place = place; want = want }
unfolding halt_from
all_stand place at want list past = rw (drop_all at list past) refl

pub ruleset steps = (halts_here, goes_on, all_stand)
