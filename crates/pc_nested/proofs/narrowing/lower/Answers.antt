use Rattle.pc_program_bound.specs.Sums.{nat_at}
use Rattle.pc_nested.proofs.Ends.{emptied_few}
use Rattle.pc_nested.proofs.narrowing.lower.Goals as goal

pub fill-filled-requires-clause-too_few : goal.fill-filled-requires-clause-too_few
fill-filled-requires-clause-too_few c =
    rw c.as_slice.ensures
    (emptied_few c.args.p.now c.args.place c.args.lows.now c.as_slice-3.result.now c.in_ok-emptied.emptied (nat_at c.args.p.now.most c.args.place)
    c.in_ok-emptied.ensures c.requires.not_more)
