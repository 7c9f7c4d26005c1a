use Rattle.std.proofs.Common.{◌≡◌, length}
use Rattle.pc_branch.specs.Spelled.{AreSized}
use Rattle.pc_branch.proofs.tree.sizes_of.Given as goal

abbrev pub invariant-loop-place : goal.invariant-loop-place
invariant-loop-place l = (length l.sizes.items ≡ l.count) × AreSized l.frontier.nodes l.sizes.items l.place
