-- The names of a set, as far as a loop has come.
use Rattle.std.proofs.Common.{◌≡◌, ℕ, ◌-◌, ◌≤◌, List, [], ◌∷◌, ◌++◌, length, get_or, take, drop, refl, arith}
use Rattle.std.proofs.lemmas.List.{take_all}
use Rattle.pc_lang_tokens.specs.declared.token.Symbol.TheVariants as symbols
use Rattle.pc_lang_tokens.specs.declared.token.Token.{Token}
use Rattle.pc_lang_tokens.specs.declared.token.Token.TheVariants as tokens
use Rattle.pc_lang_grammar.specs.Parsing.{names_after}

pub names_step : (before : List (List ℕ)) (rest : List Token) (name : List ℕ) (c d : Token) → 2 ≤ length rest → get_or rest 0 c ≡ tokens.Symbol symbols.Comma → get_or rest 1 d ≡ tokens.Name name → names_after (before ++ name ∷ []) (take (length rest - 2) (drop 2 rest)) ≡ names_after before rest
unfolding names_after
names_step before [] name c d long comma named = absurd (omega (arith, long))
names_step before (first ∷ []) name c d long comma named = absurd (omega (arith, long))
names_step before (first ∷ second ∷ rest) name c d long comma named =
    let size : length (first ∷ second ∷ rest) - 2 ≡ length rest = omega arith in
    rw (size, take_all (length rest) rest (omega arith), comma, named) refl

pub ruleset steps = (names_step)
