use Rattle.std.proofs.Common.{◌≡◌, map, take}
use Rattle.pc_desk_wants.specs.Wanted.{kind_text}
use Rattle.pc_desk_wants.proofs.wanted.kind_texts.Given as goal

abbrev pub invariant-loop-kind : goal.invariant-loop-kind
invariant-loop-kind l = l.texts ≡ map (kind_text l.want) (take l.kind-index l.kinds)
