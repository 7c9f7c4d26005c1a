use Rattle.std.proofs.Common.{All, take}
use Rattle.pc_model.specs.declared.region.Region.{Region}
use Rattle.pc_model.specs.CutTrees.{IsInside}
use Rattle.pc_box.proofs.areas.inside_some.Given as goal

abbrev pub invariant-loop-region : goal.invariant-loop-region
invariant-loop-region l = All (λ (box : Region). IsInside l.part box → ⊥) (take l.region-index l.boxes)
