-- What the tests' calls require.
use Rattle.std.proofs.Common.{◌≡◌, ◌<◌, zero, suc, true, false, List, [], ◌∷◌, Some, arith, sym, subst}
use Rattle.pc_frontier.specs.declared.node.Born.{Born}
use Rattle.pc_frontier.specs.declared.node.Node.{Node}
use Rattle.pc_frontier.specs.Boxes.{Box, IsFitting, AreOrdered, AreFitting, box_within}
use Rattle.pc_solver_trials.specs.FrontierSamples.{two_splits}

born_by : (P : Born → Type 0) (made born : Born) → Some made ≡ Some born → P made → P born
born_by P made born e h = let same : made ≡ born = cc in subst P same h

two_ordered : AreOrdered two_splits
two_ordered zero born e = absurd cc
two_ordered (suc zero) born e = born_by (λ b. b.parent < 1) (record { parent = 0; cell = 0; at = 0; more = false }) born e (omega arith)
two_ordered (suc (suc zero)) born e = born_by (λ b. b.parent < 2) (record { parent = 0; cell = 0; at = 0; more = true }) born e (omega arith)
two_ordered (suc (suc (suc zero))) born e = born_by (λ b. b.parent < 3) (record { parent = 2; cell = 1; at = 0; more = false }) born e (omega arith)
two_ordered (suc (suc (suc (suc zero)))) born e = born_by (λ b. b.parent < 4) (record { parent = 2; cell = 1; at = 0; more = true }) born e (omega arith)
two_ordered (suc (suc (suc (suc (suc n))))) born e = absurd cc

abbrev unit_box : Box
unit_box = record { floors = 0 ∷ 0 ∷ []; caps = 1 ∷ 1 ∷ [] }

abbrev Fit : Born → Type 0
Fit b = IsFitting two_splits unit_box b

two_fit : AreFitting two_splits unit_box
unfolding box_within
two_fit zero born e = absurd cc
two_fit (suc zero) born e =
    born_by Fit (record { parent = 0; cell = 0; at = 0; more = false }) born e (record { floor = omega arith; cap = omega arith; low = omega arith; high = omega arith })
two_fit (suc (suc zero)) born e =
    born_by Fit (record { parent = 0; cell = 0; at = 0; more = true }) born e (record { floor = omega arith; cap = omega arith; low = omega arith; high = omega arith })
two_fit (suc (suc (suc zero))) born e =
    born_by Fit (record { parent = 2; cell = 1; at = 0; more = false }) born e (record { floor = omega arith; cap = omega arith; low = omega arith; high = omega arith })
two_fit (suc (suc (suc (suc zero)))) born e =
    born_by Fit (record { parent = 2; cell = 1; at = 0; more = true }) born e (record { floor = omega arith; cap = omega arith; low = omega arith; high = omega arith })
two_fit (suc (suc (suc (suc (suc n))))) born e = absurd cc

pub ordered_sample : (nodes : List Node) → nodes ≡ two_splits → AreOrdered nodes
ordered_sample nodes e = subst AreOrdered (sym e) two_ordered

pub fitting_sample : (nodes : List Node) → nodes ≡ two_splits → AreFitting nodes (record { floors = 0 ∷ 0 ∷ []; caps = 1 ∷ 1 ∷ [] })
fitting_sample nodes e = let P : List Node → Type 0 = λ xs. AreFitting xs unit_box in subst P (sym e) two_fit
