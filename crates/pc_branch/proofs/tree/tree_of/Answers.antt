use Rattle.std.proofs.Common.{◌≡◌, ◌<◌, length, refl, arith}
use Rattle.pc_program_bound.specs.SplitTrees.{nodes_from}
use Rattle.pc_branch.specs.Grown.{proof_of}
use Rattle.pc_branch.proofs.Preorder.{whole_size, none_spelled, all_spelled}
use Rattle.pc_branch.proofs.tree.tree_of.Goals as goal

pub loop-init : goal.loop-init
loop-init c = rw (c.new.ensures, c.in_ok-vec.ensures.items) (record {
  few = omega arith;
  spelled = λ g tree known. (none_spelled c.args.frontier.now.nodes c.args.visited.now g tree known, refl);
})

pub loop-preserved : goal.loop-preserved
loop-preserved c =
    let test = c.loop-test.true in
    let grown = c.in_ok-spelling.ensures.grown in
    record {
      few = omega (arith, grown);
      spelled = λ g tree known.
          let before = c.loop.invariant.spelled g tree known in
          let whole = nodes_from 0 (proof_of c.args.visited.now g) in
          let size = whole_size c.args.frontier.now.nodes c.args.visited.now g tree in
          let fewer : length c.loop.spelling.written < length whole = omega (arith, size, test, before.1, c.requires.long) in
          let longer = c.in_ok-spelling.ensures.longer whole before.0 fewer in
          (c.in_ok-spelling.ensures.spelled whole before.0, omega (arith, longer, before.1));
    }

pub returns : goal.returns
returns c = λ g tree known.
    let before = c.loop.invariant.spelled g tree known in
    let whole = nodes_from 0 (proof_of c.args.visited.now g) in
    let size = whole_size c.args.frontier.now.nodes c.args.visited.now g tree in
    let test = c.loop-test.false in
    let end = c.loop.auto.counter-end in
    let same : length c.loop.spelling.written ≡ length whole = omega (arith, size, test, end, before.1, c.requires.long) in
    all_spelled c.args.frontier.now.nodes c.args.visited.now whole c.loop.spelling.written c.loop.spelling.stack.items before.0 same
