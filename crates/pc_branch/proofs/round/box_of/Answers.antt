-- The lists that the frontier narrows are those of the program.
use Rattle.std.proofs.Common.{◌≡◌, arith}
use Rattle.std.proofs.lemmas.Grind.{common_steps}
use Rattle.pc_branch.proofs.Parting.{same_fit}
use Rattle.pc_branch.proofs.round.box_of.Goals as goal

pub box_of-requires-clause-fits : goal.box_of-requires-clause-fits
box_of-requires-clause-fits c =
    let floors : c.as_mut_slice.result.now ≡ c.args.p.now.floor = grind (arith, common_steps) in
    let caps : c.as_mut_slice-2.result.now ≡ c.args.p.now.cap = grind (arith, common_steps) in
    same_fit c.args.frontier.now.nodes c.args.p.now c.as_mut_slice.result.now c.as_mut_slice-2.result.now floors caps c.requires.fits
