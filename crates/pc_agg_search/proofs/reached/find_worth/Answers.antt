use Rattle.std.proofs.Common.{◌≡◌, ◌≤◌, ℕ, List, length, All, subst, to_z, of_z, arith}
use Rattle.std.specs.Int.{w128}
use Rattle.std.proofs.lemmas.Int.{ints}
use Rattle.std.proofs.lemmas.List.{take_all}
use Rattle.pc_program_bound.specs.Allocation.{worth}
use Rattle.pc_agg_search.proofs.reached.find_worth.Goals as goal

pub returns : goal.returns
returns c =
    let same : to_z w128 (of_z w128 c.args.wanted) ≡ c.args.wanted = omega (arith, ints) in
    let past : length c.args.found.now ≤ c.loop-place.place = omega (arith, c.loop-place-test.false) in
    rw (← same) (subst (All (λ (counts : List ℕ). worth c.args.p.now counts ≡ to_z w128 (of_z w128 c.args.wanted) → ⊥)) (take_all c.loop-place.place c.args.found.now past) c.loop-place.invariant)
