use Rattle.std.proofs.Common.{arith, ◌≡◌, ap, ◌∙◌, to_z, of_z}
use Rattle.std.specs.Int.{w128}
use Rattle.std.proofs.lemmas.Int.{ints}
use Rattle.pc_program_bound.specs.declared.running.Running.{Running}
use Rattle.pc_program_bound.proofs.Widths.{width_is, raw_is, divided_is}
use Rattle.pc_program_bound.proofs.bound.dual_bound.Goals as goal

pub returns : goal.returns
returns c =
    let p = c.args.p.now in
    let floors = c.args.floor.now in
    let caps = c.args.cap.now in
    let mult = c.args.mult.now in
    let first = c.in_ok-first.ensures.value in
    let all = c.in_ok-share.ensures in
    let same_result : to_z w128 (of_z w128 c.floor_div.result) ≡ c.floor_div.result = omega (arith, ints) in
    let same_share : to_z w128 (of_z w128 c.in_ok-share.share) ≡ c.in_ok-share.share = omega (arith, ints) in
    let same_den : to_z w128 (of_z w128 mult.den) ≡ mult.den = omega (arith, ints) in
    let share = raw_is p floors caps mult c.in_ok-first.first c.in_ok-share.share first.1 all.1 in (
      width_is p mult _ (ap (λ (r : Running). r.size) first.1) first.0 all.0,
      same_result ∙ c.floor_div.ensures ∙ divided_is p floors caps mult _ _ (same_share ∙ share) same_den,
    )
