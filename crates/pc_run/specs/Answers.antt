-- What a document owes to a case.
use Rattle.std.specs.Prelude.{ℕ, None}
use Rattle.std.specs.List.{AllZip}
use Rattle.pc_rows.specs.declared.case.Case.{Case}
use Rattle.pc_proof.specs.declared.document.Document.{Document}
use Rattle.pc_proof.specs.Documents.{AreUnbroken, premises_of}
use Rattle.pc_proof.specs.Form.{IsInForm}
use Rattle.pc_group.specs.Answers.{AnswersWanted}
use Rattle.pc_group.specs.Trees.{AreWritten, told}
use Rattle.pc_group.specs.Wanted.{wanted}

-- The blocks are those that the queries want, in their order, and each answers its query and name, by searches of at most so
-- many nodes each. A tree is written where it is not that of the block before. The document is in form and breaks no rule.
pub record AnswersCase (budget : ℕ) (case : Case) (document : Document) : Type 0 where
  pub answers : AllZip (AnswersWanted budget case.schema case.rows case.constraints) (wanted case.schema case.queries) (told document.blocks)
  pub written : AreWritten document.blocks
  pub formed : IsInForm case.schema document
  pub unbroken : AreUnbroken (premises_of case.schema case.rows case.constraints) None document.blocks
