-- What is wanted behind tokens, each of which may stand where it does.
use Rattle.std.proofs.Common.{◌≡◌, List, [], ◌∷◌, ◌++◌, refl, ap, ◌∙◌}
use Rattle.std.specs.Prelude.{Bool, false, Option, Some, None}
use Rattle.pc_lang_tokens.specs.declared.token.Token.{Token}
use Rattle.pc_lang_grammar.specs.declared.want.Want.{Want}
use Rattle.pc_lang_grammar.specs.Wants.{kind_of, may_end, next}

unfoldable pub want_from : Option Want → List Token → Option Want
want_from None list = None
want_from (Some want) [] = Some want
want_from (Some want) (token ∷ rest) = want_from (next want (kind_of token)) rest

-- a text may end there
abbrev pub may_end_at : Option Want → Bool
may_end_at (Some want) = may_end want
may_end_at None = false

-- two lists, one after the other
pub joined : (want : Option Want) (xs ys : List Token) → want_from want (xs ++ ys) ≡ want_from (want_from want xs) ys
unfolding want_from
joined None xs ys = refl
joined (Some want) [] ys = refl
joined (Some want) (token ∷ rest) ys = joined (next want (kind_of token)) rest ys

pub nothing : (want : Option Want) → want_from want [] ≡ want
unfolding want_from
nothing None = refl
nothing (Some want) = refl

pub nowhere : (list : List Token) → want_from None list ≡ None
unfolding want_from
nowhere list = refl

-- .. of which the first leads somewhere
pub through : (want middle : Option Want) (xs ys : List Token) → want_from want xs ≡ middle → want_from want (xs ++ ys) ≡ want_from middle ys
through want middle xs ys leads = joined want xs ys ∙ ap (λ at. want_from at ys) leads
