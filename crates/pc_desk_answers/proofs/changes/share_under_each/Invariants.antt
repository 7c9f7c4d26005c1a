use Rattle.std.proofs.Common.{[], ◌∷◌, take}
use Rattle.pc_desk_answers.specs.Blocks.{AreShownUnder, ground_in, quantile}
use Rattle.pc_desk_answers.proofs.changes.share_under_each.Given as goal

abbrev pub invariant-loop-list : goal.invariant-loop-list
invariant-loop-list g l = AreShownUnder (ground_in l.fn.scope) (quantile l.fn.asked ∷ []) (take l.list-index l.fn.lists) l.all.items
