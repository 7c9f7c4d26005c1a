-- The first count that is not whole, and the counts of a whole point.
use Rattle.std.proofs.Common.{◌≡◌, ◌≤◌, ℕ, List, length, refl, sym, subst, arith, inl, inr}
use Rattle.std.specs.Prelude.{pos}
use Rattle.std.proofs.lemmas.Bool.{cases_lt}
use Rattle.std.proofs.lemmas.List.{get_or_past}
use Rattle.pc_num.specs.declared.Frac.{Frac}
use Rattle.pc_simplex_tableau.specs.Point.{no_count}
use Rattle.pc_branch.specs.Licence.{IsWhole}
use Rattle.pc_branch.specs.Visits.{AreWholeBelow}

pub all_whole : (point : List Frac) (n : ℕ) → length point ≤ n → AreWholeBelow point n → IsWhole point
all_whole point n past whole i = elim (cases_lt i n) [
  | inl lt ↦ whole i lt
  | inr over ↦ subst (λ (count : Frac). count.den ≡ pos 1) (sym (get_or_past point i no_count (omega (arith, past, over)))) refl
]
