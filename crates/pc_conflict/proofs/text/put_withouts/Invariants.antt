use Rattle.std.proofs.Common.{◌≡◌, ◌++◌, drop}
use Rattle.pc_conflict.specs.Texts.{withouts_text}
use Rattle.pc_conflict.proofs.text.put_withouts.Given as goal

abbrev pub invariant-loop-index : goal.invariant-loop-index
invariant-loop-index l =
    l.out.items ++ withouts_text l.schema l.constraints (drop l.index l.members) (drop l.index l.without) ≡ l.fn.out.items ++ withouts_text l.schema l.constraints l.members l.without
