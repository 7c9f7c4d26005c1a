use Rattle.std.proofs.Common.{arith, pos, ◌≡◌, ap, ◌∙◌, get_or, to_z, of_z}
use Rattle.std.specs.Int.{w128}
use Rattle.std.proofs.lemmas.Int.{ints}
use Rattle.pc_program_bound.proofs.Widths.{rest_is}
use Rattle.pc_program_bound.proofs.left.rest.Goals as goal

pub returns : goal.returns
returns c =
    let cell = c.args.cell in
    let gains = c.as_slice-gains.result.now in
    let den : to_z w128 (of_z w128 c.args.mult.now.den) ≡ c.args.mult.now.den = omega (arith, ints) in
    let gain : to_z w128 (of_z w128 (get_or gains cell (pos 0))) ≡ get_or gains cell (pos 0) = omega (arith, ints) in
    rest_is c.args.p.now c.args.mult.now cell c.rest_from.result _ _ _ _ den
    (gain ∙ ap (λ xs. get_or xs cell (pos 0)) c.as_slice-gains.ensures)
    (ap (λ xs. get_or xs cell 0) c.as_slice-masks.ensures) c.as_slice.ensures c.requires.sized c.rest_from.ensures
