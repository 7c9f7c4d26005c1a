-- What is told of bytes: the document in form whose text they are, or the line of the first fault.
use Rattle.std.specs.Prelude.{ℕ, List, Result, Ok, Err, ◌≡◌, ⊤}
use Rattle.pc_model.specs.declared.schema.Schema.{Schema}
use Rattle.pc_proof.specs.declared.document.Document.{Document}
use Rattle.pc_proof.specs.Form.{IsInForm}
use Rattle.pc_document_format.specs.Formats.{IsTextOf, IsFirstFault, Tells}
use Rattle.pc_document.specs.declared.document.NoDocument.{NoDocument}
use Rattle.pc_document.specs.declared.document.NoDocument.TheVariants as refusals
use Rattle.pc_document.specs.DocumentLines.{document_lines}

-- the bytes are the text of this document
abbrev pub IsDocumentText : Schema → List ℕ → Document → Type 0
IsDocumentText schema bytes doc = IsTextOf (IsInForm schema) (document_lines schema) bytes doc

-- The line is one more than the line feeds in the longest beginning of the bytes that the text of some document begins with
-- too, and the bytes are the text of none.
abbrev pub IsFaultLine : Schema → List ℕ → ℕ → Type 0
IsFaultLine schema bytes line = IsFirstFault (IsInForm schema) (document_lines schema) bytes line

abbrev pub Told : Schema → List ℕ → Result Document ℕ → Type 0
Told schema bytes result = Tells (IsInForm schema) (document_lines schema) bytes result

-- what the reader answers, by a result over lines, and in these words
abbrev pub Gives : Result Document NoDocument → Result Document ℕ → Type 0
Gives (Ok doc) wanted = wanted ≡ Ok doc
Gives (Err (refusals.Fault line)) wanted = wanted ≡ Err line
Gives (Err refusals.Memory) wanted = ⊤

abbrev pub ToldAs : Schema → List ℕ → Result Document NoDocument → Type 0
ToldAs schema bytes (Ok doc) = IsDocumentText schema bytes doc
ToldAs schema bytes (Err (refusals.Fault line)) = IsFaultLine schema bytes line
ToldAs schema bytes (Err refusals.Memory) = ⊤
