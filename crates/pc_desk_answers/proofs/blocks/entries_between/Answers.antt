use Rattle.std.proofs.Common.{◌≡◌, ◌++◌, ◌∷◌, [], rules, ◌∙◌}
use Rattle.pc_desk_answers.specs.Blocks.{ground_in}
use Rattle.pc_desk_answers.proofs.Between.{entries_step}
use Rattle.pc_desk_answers.proofs.blocks.entries_between.Goals as goal

pub loop-place-preserved : goal.loop-place-preserved
loop-place-preserved c =
    let at = c.loop-place in
    let pushed : c.push.new.self ≡ at.entries ++ c.in_ok-entry.entry ∷ [] = search rules in
    rw (pushed, c.in_ok-entry.ensures, c.index-blocks-place.is, c.index-lefts-place.is)
    (entries_step (ground_in c.args.scope.now) c.args.query.now at.entries c.args.blocks.now c.args.lefts.now at.place c.index-blocks-place.result c.index-lefts-place.result c.loop-place-test.true c.if-lefts-place.false ∙ at.invariant)
