use Rattle.std.proofs.Common.{◌≡◌, ◌++◌, drop}
use Rattle.pc_proof.specs.Table.{ratio_of}
use Rattle.pc_check_rules.specs.Programs.{open_caps}
use Rattle.pc_check_rules.proofs.programs.open_caps.Given as goal

abbrev pub invariant-loop-place : goal.invariant-loop-place
invariant-loop-place l =
    l.left ++ open_caps l.fn.extreme (ratio_of l.fn.value) (drop l.place l.fn.cells) (drop l.place l.fn.caps)
    ≡ open_caps l.fn.extreme (ratio_of l.fn.value) l.fn.cells l.fn.caps
