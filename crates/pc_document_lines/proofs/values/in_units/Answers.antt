use Rattle.pc_num.proofs.Signed.{passed}
use Rattle.pc_document_lines.proofs.ValuesRead.{den_fits, num_fits, num_fits_itself, quotient_in_units}
use Rattle.pc_document_lines.proofs.values.in_units.Goals as goal

pub returns : goal.returns
returns c =
    let fraction = c.args.fraction.now in
    let num = passed c.args.fraction.now.num (num_fits_itself fraction c.requires.sizes) in
    let den = passed c.args.fraction.now.den (den_fits fraction c.requires.sizes) in
    let product = rw num at c.num_in_units.ensures in
    let units = passed c.num_in_units.result (num_fits fraction c.args.scale c.num_in_units.result c.requires.sizes c.requires.few product) in
    quotient_in_units fraction c.in-Some.value c.args.scale c.num_in_units.result c.requires.sizes product (rw (units, den) at c.in-Some.ensures.some)
