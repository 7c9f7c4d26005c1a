use Rattle.pc_check_rules.proofs.Walking.{IsAt}
use Rattle.pc_check_rules.proofs.walk.judge_tree.Given as goal

abbrev pub invariant-loop-place : goal.invariant-loop-place
invariant-loop-place l = IsAt l.program l.nodes l.line l.place l.walk
