use Rattle.std.proofs.Common.{◌≡◌, ◌*ℤ◌, to_z-of_z}
use Rattle.pc_num.proofs.Signed.{as_passed, passed}
use Rattle.pc_simplex_tableau.proofs.Coded.{mixed_is}
use Rattle.pc_simplex_tableau.proofs.numbers.mixed.Goals as goal

pub returns : goal.returns
returns c =
    let p = to_z-of_z c.ranges.p in
    let a = to_z-of_z c.ranges.a in
    let t = to_z-of_z c.ranges.t in
    let b = to_z-of_z c.ranges.b in
    let own = rw (p, a) at c.in_ok-own.ensures in
    let others = rw (t, b) at c.in_ok-others.ensures in
    let own_is : as_passed c.in_ok-own.own ≡ c.args.p *ℤ c.args.a = rw own.1 (passed _ own.0) in
    let others_is : as_passed c.in_ok-others.others ≡ c.args.t *ℤ c.args.b = rw others.1 (passed _ others.0) in
    mixed_is _ _ _ _ _ own.0 own_is others.0 others_is c.fit_sub.ensures
