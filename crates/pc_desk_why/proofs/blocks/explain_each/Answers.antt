use Rattle.std.proofs.Common.{◌≡◌, ◌++◌, ◌∷◌, [], pos, None, rules}
use Rattle.pc_desk_why.specs.Scopes.{ground_in}
use Rattle.pc_desk_why.proofs.OfBlocks.{explained_more, seen_at}
use Rattle.pc_desk_why.proofs.blocks.explain_each.Goals as goal

pub explain_block-requires-clause-seen : goal.explain_block-requires-clause-seen
explain_block-requires-clause-seen c =
    seen_at c.args.query.now c.args.scope.now.rows.now c.args.blocks.now c.args.folds.now c.loop-place.place c.index-blocks-place.result (record { count = 0; sum = pos 0; least = None; greatest = None })
    c.requires.seen c.loop-place-test.true c.index-blocks-place.is

pub loop-place-preserved : goal.loop-place-preserved
loop-place-preserved c =
    let at = c.loop-place in
    let pushed : c.push.new.self.items ≡ at.all.items ++ c.in_ok-told.told ∷ [] = search rules in
    rw pushed
    (explained_more (ground_in c.args.scope.now) c.args.query.now c.args.blocks.now at.place c.index-blocks-place.result at.all.items c.in_ok-told.told c.loop-place-test.true c.index-blocks-place.is at.invariant c.in_ok-told.ensures)
