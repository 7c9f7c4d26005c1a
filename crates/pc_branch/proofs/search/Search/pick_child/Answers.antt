use Rattle.pc_branch.proofs.Picked.{first_kept, second_kept}
use Rattle.pc_branch.proofs.search.Search.pick_child.Goals as goal

pub returns-then-is_better-clause-next : goal.returns-then-is_better-clause-next
returns-then-is_better-clause-next c p level is = c.pick.ensures.next p level (first_kept p c.args.self.now c.settle.new.self c.args.first level c.settle.ensures is)

pub returns-clause-next : goal.returns-clause-next
returns-clause-next c p level is = c.pick-2.ensures.next p level (second_kept p c.args.self.now c.settle-2.new.self c.args.first level c.settle-2.ensures is)
