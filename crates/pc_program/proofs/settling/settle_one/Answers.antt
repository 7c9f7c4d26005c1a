use Rattle.std.proofs.Common.{arith, refl, ◌≡◌, to_z, of_z}
use Rattle.std.proofs.lemmas.Int.{ints}
use mir.Syntax.{w128}
use Rattle.pc_program.proofs.FewCells.{IsShort-one, IsSettled-one}
use Rattle.pc_program.proofs.settling.settle_one.Goals as goal

pub returns-in_default : goal.returns-in_default
returns-in_default c = IsShort-one c.args.p.now c.args.constraint c.args.first _ _ c.requires.first c.requires.only c.supply_of-supply.ensures.cap refl c.in_default.ensures

pub returns : goal.returns
returns c =
    let gain : to_z w128 (of_z w128 c.supply_of-supply.result.gain) ≡ c.supply_of-supply.result.gain = omega (arith, ints) in
    let by : to_z w128 (of_z w128 c.in-Some.shared.by) ≡ c.in-Some.shared.by = omega (arith, ints) in
    rw by (IsSettled-one c.args.p.now c.args.constraint c.args.first _ c.in-Some.shared _ _ c.requires.one_bits c.requires.sized c.requires.first c.requires.only
    c.supply_of-supply.ensures.cap c.supply_of-supply.ensures.gain refl gain c.in-Some.ensures)
