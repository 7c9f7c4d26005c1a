use Rattle.std.proofs.Common.{◌≡◌, ◌∷◌, [], ◌++◌, arith, rules}
use Rattle.pc_desk_answers.specs.Blocks.{ground_in, quantile}
use Rattle.pc_desk_answers.proofs.Under.{all_under, next_under, none_under}
use Rattle.pc_desk_answers.proofs.changes.share_under_each.Goals as goal

pub loop-list-init : goal.loop-list-init
loop-list-init g c = rw c.new-all.ensures.items (none_under (ground_in c.args.scope.now) (quantile c.args.asked.now ∷ []))

pub loop-list-preserved : goal.loop-list-preserved
loop-list-preserved g c =
    let at = c.loop-list in
    let ground = ground_in c.args.scope.now in
    let wanted = quantile c.args.asked.now ∷ [] in
    let pushed : c.push.new.self.items ≡ at.all.items ++ c.in_ok-entries.entries ∷ [] = search rules in
    rw pushed (next_under ground wanted c.args.lists.now at.list-index c.list-item.result at.all.items c.in_ok-entries.entries c.loop-list-test.true c.list-item.is at.invariant (search rules))

pub returns : goal.returns
returns g c =
    let ground = ground_in c.args.scope.now in
    let wanted = quantile c.args.asked.now ∷ [] in
    record { shown = rw c.from_vec.ensures (all_under ground wanted c.args.lists.now c.loop-list.list-index c.loop-list.all.items (omega (arith, c.loop-list-test.false)) c.loop-list.invariant) }
