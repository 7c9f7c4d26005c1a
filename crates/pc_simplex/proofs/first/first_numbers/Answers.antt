use Rattle.std.proofs.Common.{◌≡◌, ◌∙◌, to_z, of_z, arith}
use Rattle.std.specs.Int.{w128}
use Rattle.std.proofs.lemmas.Int.{ints}
use Rattle.pc_simplex.specs.Floors.{number_at}
use Rattle.pc_simplex_tableau.proofs.Tables.{table_made}
use Rattle.pc_simplex.proofs.first.first_numbers.Goals as goal

pub loop-column-preserved : goal.loop-column-preserved
loop-column-preserved c =
    let l = c.loop-column in
    let made : to_z w128 (of_z w128 c.number_at.result) ≡ c.number_at.result = omega (arith, ints) in
    rw c.in_ok-push.ensures.items
    (table_made l.numbers.items l.column (number_at c.args.p.now c.args.constraint (to_z w128 (of_z w128 c.args.left))) _ l.invariant (made ∙ c.number_at.ensures))
