use Rattle.std.proofs.Common.{◌≡◌, length, subst, arith}
use Rattle.pc_cells_tree.specs.Refining.{IsRefining}
use Rattle.pc_cells_tree.proofs.Passes.{started, filled, stepped, less_left}
use Rattle.pc_cells_tree.proofs.refine.settled.Goals as goal

pub loop-place-init : goal.loop-place-init
loop-place-init c = (started c.args.constraints.now c.args.chosen.now c.args.start c.requires.tree c.requires.comparable, c.requires.known)

pub settled_at-requires-clause-filled : goal.settled_at-requires-clause-filled
settled_at-requires-clause-filled c = filled c.args.constraints.now c.args.chosen.now c.loop-place.pass.boxed.boxes c.loop-place.invariant.0.comparable

pub settled_at-requires-clause-comparable : goal.settled_at-requires-clause-comparable
settled_at-requires-clause-comparable c = c.loop-place.invariant.0.comparable

pub settled_at-requires-clause-long : goal.settled_at-requires-clause-long
settled_at-requires-clause-long c = c.loop-place.invariant.0.tree.long

pub settled_at-requires-clause-known : goal.settled_at-requires-clause-known
settled_at-requires-clause-known c = c.loop-place.invariant.1

pub loop-place-smaller : goal.loop-place-smaller
loop-place-smaller c =
    less_left c.args.constraints.now c.args.chosen.now c.args.start c.loop-place.pass.boxed c.loop-place.place c.loop-place.invariant.0 (omega (arith, c.loop-place-test.true, c.len.ensures)) c.in_ok-pass.pass.boxed
    c.in_ok-pass.ensures.step

pub loop-place-preserved : goal.loop-place-preserved
loop-place-preserved c = (
  stepped c.args.constraints.now c.args.chosen.now c.args.start c.loop-place.pass.boxed c.loop-place.place c.loop-place.invariant.0 (omega (arith, c.loop-place-test.true, c.len.ensures)) c.in_ok-pass.pass.boxed
      c.in_ok-pass.ensures.step,
  c.in_ok-pass.ensures.known,
)

pub returns : goal.returns
returns c =
    let end : c.loop-place.place ≡ length c.loop-place.pass.boxed.nodes = omega (arith, c.loop-place-test.false, c.len.ensures, c.loop-place.invariant.0.within) in
    subst (IsRefining c.args.constraints.now c.args.chosen.now c.args.start c.loop-place.pass.boxed) end c.loop-place.invariant.0
