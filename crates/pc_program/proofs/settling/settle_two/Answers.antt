use Rattle.std.proofs.Common.{arith, ◌≡◌, to_z, of_z}
use Rattle.std.proofs.lemmas.Int.{ints}
use mir.Syntax.{w128}
use Rattle.pc_program.proofs.FewCells.{IsShort-two, IsSettled-two}
use Rattle.pc_program.proofs.settling.settle_two.Goals as goal

pub returns-in_default : goal.returns-in_default
returns-in_default c = IsShort-two c.args.p.now c.args.constraint c.args.first c.args.second _ _ c.requires.one_bits c.requires.first c.requires.second
    c.supply_of.ensures.cap c.supply_of-2.ensures.cap c.in_default.ensures

pub returns : goal.returns
returns c =
    let by : to_z w128 (of_z w128 c.in-Some.shared.by) ≡ c.in-Some.shared.by = omega (arith, ints) in
    rw by (IsSettled-two c.args.p.now c.args.constraint c.args.first c.args.second _ c.in-Some.shared _ _ c.requires.one_bits c.requires.sized c.requires.first c.requires.second
    c.supply_of.ensures.cap c.supply_of.ensures.gain c.supply_of-2.ensures.cap c.supply_of-2.ensures.gain c.in-Some.ensures)
