use Rattle.std.proofs.Common.{◌≡◌, ◌∷◌, [], length, append_assoc, ap, arith, rules, ◌∙◌}
use Rattle.std.specs.Vec.Iter.{into_iter_items}
use Rattle.pc_desk_weigh.proofs.AsAsked.{weighed_more, weighed_none}
use Rattle.pc_desk_weigh.proofs.weighing.weighed_of.Goals as goal

pub loop-entries-init : goal.loop-entries-init
loop-entries-init c = record {
  lines = search rules;
  left = search rules;
  made = c.new-all.ensures ∙ weighed_none c.args.changes.now;
}

pub loop-entries-preserved : goal.loop-entries-preserved
loop-entries-preserved c =
    let at = c.loop-entries in
    let steps : into_iter_items at.entries-iterator ≡ c.in-Some.entries ∷ into_iter_items c.next.new.self = c.in-Some.ensures.steps.0 in
    let was = at.invariant.left in
    let gone = c.in-Some.ensures.steps.1 in
    let short = ap length steps in
    record {
      lines = append_assoc at.yielded (c.in-Some.entries ∷ []) _ ∙ rw (← steps) at.invariant.lines;
      left = omega arith;
      made = weighed_more c.args.changes.now at.yielded c.in-Some.entries at.all c.in_ok-all.all at.invariant.made c.in_ok-all.ensures;
    }
