use Rattle.std.proofs.Common.{rules, ◌≡◌, ◌∷◌, ◌++◌, [], List, ℕ, ap, ◌∙◌, arith}
use Rattle.pc_conflict.proofs.Tested.{range_step}
use Rattle.pc_conflict.proofs.places.with_places_from.Goals as goal

pub loop-later-preserved : goal.loop-later-preserved
loop-later-preserved c =
    let later = c.loop-later.later in
    let invariant = c.loop-later.invariant in
    let pushed : c.push.new.self ≡ c.loop-later.more ++ later ∷ [] = search rules in (
      omega (arith, invariant.0),
      omega (arith, c.loop-later-test.true),
      pushed ∙ ap (λ (places : List ℕ). places ++ later ∷ []) invariant.2 ∙ range_step c.args.places c.args.place later invariant.0,
    )
