use Rattle.pc_document_format.proofs.SampleLaws.{sample_reads_back}
use Rattle.pc_document_format.proofs.laws.samples_read_back.Goals as goal

pub returns : goal.returns
returns c = sample_reads_back
