use Rattle.pc_document_lines.proofs.NodesBack.{fits_test}
use Rattle.pc_document_lines.proofs.nodes.all_fit.Goals as goal

pub returns : goal.returns
returns c = fits_test c.are_fit.result c.args.numbers.now c.are_fit.ensures
