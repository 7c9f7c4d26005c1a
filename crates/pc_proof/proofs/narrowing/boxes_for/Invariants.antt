use Rattle.std.proofs.Common.{◌≡◌, take}
use Rattle.pc_proof.specs.Setting.{boxes_for}
use Rattle.pc_proof.proofs.narrowing.boxes_for.Given as goal

abbrev pub invariant-loop-region : goal.invariant-loop-region
invariant-loop-region l = l.parts ≡ boxes_for l.column l.place (take l.region-index l.boxes)
