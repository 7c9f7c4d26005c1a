-- The place of a first field that is so.
use Rattle.std.proofs.Common.{◌≡◌, ℕ, Bool, true, false, cond, not, List, length, nat_lt, position, Option, Some, None, refl, arith}
use Rattle.std.specs.List.{position_or_len}
use Rattle.std.specs.Option.{unwrap_or}
use Rattle.std.proofs.lemmas.Bool.Decides.{nat_tests}
use Rattle.std.proofs.lemmas.List.Sums.{prefix_len-le-length}

pub place_is : (test : List ℕ → Bool) (texts : List (List ℕ)) (place : Option ℕ) → place ≡ position test texts → unwrap_or place (length texts) ≡ position_or_len test texts
place_is test texts place is = rw is (by_cases (nat_lt (position_or_len test texts) (length texts)) refl)
  where
    by_cases : (inside : Bool) → nat_lt (position_or_len test texts) (length texts) ≡ inside → unwrap_or (cond inside (Some (position_or_len test texts)) None) (length texts) ≡ position_or_len test texts
    by_cases true e = refl
    by_cases false e = grind (arith, nat_tests, e, prefix_len-le-length (λ text. not (test text)) texts)
