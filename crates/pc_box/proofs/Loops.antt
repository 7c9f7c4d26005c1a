-- Lists that a loop goes through.
use Rattle.std.proofs.Common.{◌≡◌, ℕ, ◌+◌, ◌<◌, ◌≤◌, false, List, length, get_or, take, All, sym, subst}
use Rattle.std.specs.Prelude.{Any, IsTrue}
use Rattle.std.proofs.lemmas.List.{take_all}
use Rattle.std.proofs.lemmas.List.Elements.{All-more}

-- a fact that holds of no item so far
module _ {X : Type 0} (P : X → Type 0) (xs : List X) (place : ℕ) where
  abbrev Lacks : X → Type 0
  Lacks x = P x → ⊥

  -- one item more of which it does not hold
  pub none-further : (x : X) → place < length xs → x ≡ get_or xs place x → All Lacks (take place xs) → Lacks x → All Lacks (take (place + 1) xs)
  none-further x there is before lacks = All-more Lacks xs place x there before (subst Lacks is lacks)

  -- it holds of none
  pub none-at_all : length xs ≤ place → All Lacks (take place xs) → Any P xs → IsTrue false
  none-at_all past before found = absurd (subst (All Lacks) (take_all place xs past) before found.0 found.1 found.2 (subst P (sym found.3) found.4))
