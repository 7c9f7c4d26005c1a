use Rattle.pc_check_rules.proofs.CutWalking.{IsAt}
use Rattle.pc_check_rules.proofs.cuts.judge_cuts.Given as goal

abbrev pub invariant-loop-place : goal.invariant-loop-place
invariant-loop-place l = IsAt l.schema l.constraints l.area l.nodes l.line l.place l.walk.parts.items l.walk.leaves
