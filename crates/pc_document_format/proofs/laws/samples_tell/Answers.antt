use Rattle.pc_document_format.proofs.SampleLaws.{sample_tells}
use Rattle.pc_document_format.proofs.laws.samples_tell.Goals as goal

pub returns : goal.returns
returns c = sample_tells
