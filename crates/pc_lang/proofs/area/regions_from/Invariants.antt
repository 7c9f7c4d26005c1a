use Rattle.std.proofs.Common.{◌≡◌, drop}
use Rattle.pc_lang.specs.Areas.{regions_from}
use Rattle.pc_lang.proofs.area.regions_from.Given as goal

-- what is read and what is left are the whole
abbrev pub invariant-loop-part : goal.invariant-loop-part
invariant-loop-part l = regions_from l.schema l.fn.before l.parts ≡ regions_from l.schema l.boxes (drop l.part-index l.parts)
