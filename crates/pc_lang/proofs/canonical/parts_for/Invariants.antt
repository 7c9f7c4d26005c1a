use Rattle.std.proofs.Common.{◌≡◌, ◌++◌, drop, map}
use Rattle.pc_lang.specs.Canonical.{part_for}
use Rattle.pc_lang.proofs.canonical.parts_for.Given as goal

-- what is listed and what is left are the whole
abbrev pub invariant-loop-region : goal.invariant-loop-region
invariant-loop-region l = l.parts ++ map (part_for l.schema) (drop l.region-index l.boxes) ≡ map (part_for l.schema) l.boxes
