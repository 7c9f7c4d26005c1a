use Rattle.pc_proof.proofs.Formed.{form_of_document}
use Rattle.pc_proof.proofs.forms.formed_documents_have_form.Goals as goal

pub returns : goal.returns
returns c = form_of_document
