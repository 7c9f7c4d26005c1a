use Rattle.std.proofs.Common.{List, All, subst, arith}
use Rattle.std.proofs.lemmas.List.{take_all}
use Rattle.std.proofs.lemmas.List.Elements.{All-nil}
use Rattle.pc_model.specs.declared.area.Area.{Area}
use Rattle.pc_cells_tree.specs.Linked.{IsDividedFor}
use Rattle.pc_cells_tree.proofs.Inner.{keeps_itself, keeps_on}
use Rattle.pc_group.proofs.Inner.{divided_more}
use Rattle.pc_group.proofs.NeededCuts.{needed_more, none_needed}
use Rattle.pc_group.proofs.refining.refine_for_all.Goals as goal

pub loop-area-init : goal.loop-area-init
loop-area-init c =
    let nodes = c.args.shared.now.nodes in
    record {
      tree = c.requires.tree;
      kept = keeps_itself nodes;
      own = λ first. first;
      needed = none_needed c.args.schema.now c.args.constraints.now c.args.areas.now nodes;
      divided = All-nil (λ (area : Area). IsDividedFor c.args.schema.now c.args.constraints.now area nodes);
    }

pub loop-area-preserved : goal.loop-area-preserved
loop-area-preserved c =
    let schema = c.args.schema.now in
    let constraints = c.args.constraints.now in
    let before = c.loop-area.shared.nodes in
    let area = c.area-item.result in
    let so_far = c.loop-area.invariant in
    let done = c.in_ok-refine.ensures in
    record {
      tree = done.cut_on.tree;
      kept = keeps_on c.args.shared.now.nodes before c.refine.new.self.nodes so_far.kept done.inner;
      own = λ first. done.own (so_far.own first);
      needed = needed_more schema before c.refine.new.self.nodes done.inner constraints c.args.areas.now c.args.shared.now.nodes so_far.tree c.loop-area.area-index area c.loop-area-test.true c.area-item.is done.cut_on.needed so_far.needed;
      divided = divided_more schema constraints c.args.areas.now c.loop-area.area-index area before c.refine.new.self.nodes c.loop-area-test.true c.area-item.is so_far.tree done.inner done.cut_on.divided so_far.divided;
    }

pub returns-clause-divided : goal.returns-clause-divided
returns-clause-divided c =
    let schema = c.args.schema.now in
    let past = c.loop-area-test.false in
    subst (λ (areas : List Area). All (λ (area : Area). IsDividedFor schema c.args.constraints.now area c.loop-area.shared.nodes) areas) (take_all c.loop-area.area-index c.args.areas.now (omega (arith, past))) c.loop-area.invariant.divided
