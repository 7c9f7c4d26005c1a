use Rattle.pc_document_format.specs.Samples.{read_sample}
use Rattle.pc_document_format.proofs.ByPlace.{more_at}
use Rattle.pc_document_format.proofs.laws.samples_end_at_places.Goals as goal

pub returns : goal.returns
returns c = more_at read_sample
