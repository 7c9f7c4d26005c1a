use Rattle.std.proofs.Common.{◌≡◌, arith, to_z, of_z, ◌∙◌}
use Rattle.std.specs.Int.{w128}
use Rattle.std.proofs.lemmas.Int.{ints}
use Rattle.pc_branch.proofs.OneLeaf.{best_one, nothing_one}
use Rattle.pc_branch.proofs.one_leaf.in_one_leaf.Goals as goal

pub returns-in_ok-tree-in-Best-clause-outcome : goal.returns-in_ok-tree-in-Best-clause-outcome
returns-in_ok-tree-in-Best-clause-outcome c p is_solved =
    let same : to_z w128 (of_z w128 c.in-Best.value) ≡ c.in-Best.value = omega (arith, ints) in
    let solved = rw c.in-Best.is at is_solved in
    let fits = rw c.in-Best.is at c.requires.fits in
    best_one p c.args.nodes c.in-Best.counts (to_z w128 (of_z w128 c.in-Best.value)) c.in-Best.mult c.in_ok-tree-in-Best.tree.nodes c.requires.nodes
    c.in_ok-tree-in-Best.ensures solved.0 (same ∙ solved.1) solved.2 (same ∙ solved.3) fits

pub returns-in_ok-tree-in-Nothing-clause-outcome : goal.returns-in_ok-tree-in-Nothing-clause-outcome
returns-in_ok-tree-in-Nothing-clause-outcome c p is_solved =
    let solved = rw c.in-Nothing.is at is_solved in
    let fits = rw c.in-Nothing.is at c.requires.fits in
    nothing_one p c.args.nodes c.in-Nothing.mult c.in_ok-tree-in-Nothing.tree.nodes c.requires.nodes
    c.in_ok-tree-in-Nothing.ensures solved fits
