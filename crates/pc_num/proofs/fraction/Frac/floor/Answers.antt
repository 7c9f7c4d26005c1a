use Rattle.pc_num.proofs.Rounding.{IsWholePart, floored}
use Rattle.pc_num.proofs.Signed.{passed}
use Rattle.std.proofs.Common.{to_z, of_z}
use Rattle.std.specs.Int.{w128}
use Rattle.pc_num.proofs.fraction.Frac.floor.Goals as goal

whole_part : (c : goal.After-div_euclid) → IsWholePart c.args.self.now.num c.args.self.now.den (to_z w128 (of_z w128 c.div_euclid.result))
whole_part c =
    let f = c.args.self.now in
    let h = floored f.num f.den c.div_euclid.result c.requires.above c.requires.num_fits c.requires.den_fits c.div_euclid.ensures in
    rw (passed c.div_euclid.result h.1) h.0

pub returns-clause-not_above : goal.returns-clause-not_above
returns-clause-not_above c = (whole_part c).not_above

pub returns-clause-next_above : goal.returns-clause-next_above
returns-clause-next_above c = (whole_part c).next_above
