use Rattle.pc_branch.proofs.Picked.{picked_kept, picked_none, picked_best, picked_budget}
use Rattle.pc_branch.proofs.search.Search.pick.Goals as goal

pub returns-in-Some-clause-next : goal.returns-in-Some-clause-next
returns-in-Some-clause-next c p level is =
    picked_kept p c.args.self.now c.prune.new.self c.args.node c.kept.result c.unless_over.result c.in-Some.hand level
    c.prune.ensures c.kept.ensures.hand c.in-Some.is c.kept.ensures.kept c.unless_over.ensures c.requires.hand is

pub returns-in_default-take-clause-next : goal.returns-in_default-take-clause-next
returns-in_default-take-clause-next c p level is =
    picked_none p c.args.self.now c.prune.new.self c.settle.new.self c.take.new.self c.args.node c.take.result level
    c.prune.ensures c.settle.ensures c.take.ensures.taken c.take.ensures.hand c.in_default-take.is c.take.ensures.kept c.requires.hand is

pub returns-clause-next : goal.returns-clause-next
returns-clause-next c p level is =
    picked_best p c.args.self.now c.prune.new.self c.settle.new.self c.take.new.self c.args.node c.take.result c.unless_over-2.result c.in-Some-take.hand level
    c.prune.ensures c.settle.ensures c.take.ensures.taken c.take.ensures.hand c.in-Some-take.is c.take.ensures.kept c.unless_over-2.ensures c.requires.hand is

pub returns-clause-budget : goal.returns-clause-budget
returns-clause-budget c = picked_budget c.args.self.now c.prune.new.self c.settle.new.self c.take.new.self c.args.node c.prune.ensures c.settle.ensures c.take.ensures.taken
