use Rattle.std.proofs.Common.{◌≡◌, ◌∷◌, [], ◌++◌, arith, map, rules, subst}
use Rattle.pc_cells_tree.specs.Linked.{IsTree}
use Rattle.pc_group.specs.Wanted.{wanted_by}
use Rattle.pc_desk_answers.specs.Blocks.{AreShown, Ground, block, ground_in, ground_under}
use Rattle.pc_desk_answers.proofs.Under.{all_under, next_under, none_under}
use Rattle.pc_desk_answers.proofs.changes.query_under_each.Goals as goal

pub loop-list-init : goal.loop-list-init
loop-list-init g c =
    let ground = ground_in c.args.scope.now in
    let wanted = map block (wanted_by ground.schema c.args.query.now) in
    record { tree = c.in_ok-shared.ensures.tree; shown = rw c.new-all.ensures.items (none_under ground wanted) }

pub loop-list-preserved : goal.loop-list-preserved
loop-list-preserved g c =
    let at = c.loop-list in
    let ground = ground_in c.args.scope.now in
    let wanted = map block (wanted_by ground.schema c.args.query.now) in
    let done = c.in_ok-entries.ensures in
    let under : ground_in c.scope_under-under.result ≡ ground_under ground c.list-item.result = search rules in
    let shown = subst (λ (g : Ground). AreShown g (map block (wanted_by g.schema c.args.query.now)) c.in_ok-entries.entries) under done.shown in
    let pushed : c.push.new.self.items ≡ at.all.items ++ c.in_ok-entries.entries ∷ [] = search rules in
    record {
      tree = subst (λ (g : Ground). IsTree g.schema c.query_under.new.shared.nodes) under done.tree;
      shown = rw pushed (next_under ground wanted c.args.lists.now at.list-index c.list-item.result at.all.items c.in_ok-entries.entries c.loop-list-test.true c.list-item.is at.invariant.shown shown);
    }

pub returns : goal.returns
returns g c =
    let ground = ground_in c.args.scope.now in
    let wanted = map block (wanted_by ground.schema c.args.query.now) in
    record { shown = rw c.from_vec.ensures (all_under ground wanted c.args.lists.now c.loop-list.list-index c.loop-list.all.items (omega (arith, c.loop-list-test.false)) c.loop-list.invariant.shown) }
