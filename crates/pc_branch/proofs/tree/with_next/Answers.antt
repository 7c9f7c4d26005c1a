use Rattle.std.proofs.Common.{◌≡◌, ◌∙◌, sym, length, arith}
use Rattle.pc_branch.proofs.Preorder.{top_is_node, empty_is_all, next_spelled}
use Rattle.pc_branch.specs.Grown.{no_visited}
use Rattle.pc_branch.proofs.tree.with_next.Goals as goal

pub returns-in_default-clause-longer : goal.returns-in_default-clause-longer
returns-in_default-clause-longer c =
    λ whole spelling fewer. let none : length c.args.spelling.stack.items ≡ 0 = sym c.args.spelling.stack.ok.0 ∙ c.in_default.ensures.cases.0 in
    let all = empty_is_all c.args.frontier.now.nodes c.args.visited.now whole c.args.spelling.written c.args.spelling.stack.items none spelling in absurd (omega arith)

pub returns-in_default-get-clause-spelled : goal.returns-in_default-get-clause-spelled
returns-in_default-get-clause-spelled c =
    λ whole spelling. let inside = top_is_node c.args.frontier.now.nodes c.args.visited.now whole c.args.spelling.written c.pop.new.self.items c.args.spelling.stack.items c.in-Some.next c.in-Some.ensures.items spelling in
    let long = c.requires.long in let past = c.in_default-get.ensures.lookup.3 in absurd (omega (arith, inside, long, past))

pub returns-in_default-get-clause-longer : goal.returns-in_default-get-clause-longer
returns-in_default-get-clause-longer c =
    λ whole spelling fewer. let inside = top_is_node c.args.frontier.now.nodes c.args.visited.now whole c.args.spelling.written c.pop.new.self.items c.args.spelling.stack.items c.in-Some.next c.in-Some.ensures.items spelling in
    let long = c.requires.long in let past = c.in_default-get.ensures.lookup.3 in absurd (omega (arith, inside, long, past))

pub returns-clause-spelled : goal.returns-clause-spelled
returns-clause-spelled c =
    λ whole spelling. next_spelled c.args.frontier.now.nodes c.args.visited.now whole c.args.spelling.written c.pop.new.self.items c.args.spelling.stack.items c.in_ok-stack.stack.items c.args.sizes.now
    c.in-Some.next c.in-Some-get.visit.now c.in_ok-node.node c.first_child-first.result c.push.new.self c.in-Some.ensures.items c.requires.sized (c.in-Some-get.ensures.lookup.3.1 no_visited) c.first_child-first.ensures
    (rw c.len.ensures at c.in_ok-node.ensures) c.in_ok-stack.ensures c.in_ok-push.ensures.ok spelling
