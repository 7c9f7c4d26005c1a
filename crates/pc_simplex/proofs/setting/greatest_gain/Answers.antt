use Rattle.std.proofs.Common.{◌≡◌, to_z, of_z, get_or, pos, sym, arith}
use Rattle.std.specs.Int.{w128}
use Rattle.std.proofs.lemmas.Int.{ints}
use Rattle.pc_simplex.proofs.Settings.{none_exceeds_more, none_exceeds_all, some_reaches}
use Rattle.pc_simplex.proofs.setting.greatest_gain.Goals as goal

pub loop-gain-preserved : goal.loop-gain-preserved
loop-gain-preserved c =
    let items = c.as_slice-gain-items.result.now in
    let l = c.loop-gain in
    let same : to_z w128 (of_z w128 (get_or items l.gain-index (pos 0))) ≡ get_or items l.gain-index (pos 0) = omega (arith, ints) in
    let size = c.unsigned_abs.ensures.value in
    let least = c.greater-top.ensures.first in
    let own = c.greater-top.ensures.second in
    record {
      some = omega (arith, least, l.invariant.some);
      reached = some_reaches l.top c.greater-top.result c.args.p.now.gain items l.gain-index c.as_slice-gain-items.ensures
          (omega (arith, c.loop-gain-test.true)) l.invariant.reached (rw (sym same, sym size) c.greater-top.ensures.one);
      most = none_exceeds_more l.top c.greater-top.result c.args.p.now.gain items l.gain-index c.as_slice-gain-items.ensures
          (omega (arith, c.loop-gain-test.true)) l.invariant.most least (rw same at (rw size at own));
    }

pub returns : goal.returns
returns c =
    let l = c.loop-gain in
    record {
      some = l.invariant.some;
      most = none_exceeds_all l.top c.args.p.now.gain c.as_slice-gain-items.result.now l.gain-index c.as_slice-gain-items.ensures
          (omega (arith, c.loop-gain-test.false)) l.invariant.most;
      reached = l.invariant.reached;
    }
