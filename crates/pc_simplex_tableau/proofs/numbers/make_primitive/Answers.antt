use Rattle.pc_simplex_tableau.proofs.Divisors.{primitive_is, primitive_fits}
use Rattle.pc_simplex_tableau.proofs.numbers.make_primitive.Goals as goal

pub returns-clause-primitive : goal.returns-clause-primitive
returns-clause-primitive c = primitive_is c.args.row.now c.primitive.new.row c.primitive.ensures.divided c.primitive.ensures.zeros

pub returns-clause-fits : goal.returns-clause-fits
returns-clause-fits c =
    let e = primitive_is c.args.row.now c.primitive.new.row c.primitive.ensures.divided c.primitive.ensures.zeros in
    primitive_fits c.args.row.now c.primitive.new.row c.requires e
