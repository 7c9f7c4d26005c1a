-- What is told below the line of a refusal.
use Rattle.std.specs.Prelude.{◌≡◌, ℕ, ◌-◌, ◌==◌, Bool, true, false, List, length, if◌then◌else◌}
use Rattle.pc_model.specs.declared.fault.FileKind.{FileKind}
use Rattle.pc_model.specs.declared.fault.FileKind.TheVariants as files
use Rattle.pc_model.specs.declared.fault.Fault.{Fault}
use Rattle.pc_model.specs.declared.fault.Reason.{Reason}
use Rattle.pc_model.specs.Texts.{text_of}
use Rattle.pc_lang.specs.Files.{lines_of}
use Rattle.pc_desk_records.specs.RowTexts.{rows_text}
use Rattle.pc_desk_records.specs.SchemaTexts.{schema_text}
use Rattle.pc_desk_fault.specs.Lines.{IsPlaceTold, nth}
use Rattle.pc_desk_fault.specs.Queries.{IsQueryTold, query_told}
use Rattle.pc_desk_fault.specs.Scripts.{IsScriptPlaceTold}
use Rattle.pc_desk_fault.specs.Sentences.{sentence_line}
use Rattle.pc_desk_fault.specs.WholeFiles.{plain_text, whole_text}

-- of a file of constraints, as a whole or at a line
abbrev pub IsFileTold : Bool → List ℕ → Fault → List ℕ → List ℕ → Type 0
IsFileTold true schema fault file out = out ≡ whole_text fault.reason file
IsFileTold false schema fault file out = IsPlaceTold schema fault.reason (nth (fault.place - 1) (lines_of (plain_text (text_of file) file))) out

-- .. of a script
abbrev pub IsScriptTold : Bool → List ℕ → Fault → List ℕ → List ℕ → Type 0
IsScriptTold true schema fault file out = out ≡ whole_text fault.reason file
IsScriptTold false schema fault file out = IsScriptPlaceTold schema fault.reason (nth (fault.place - 1) (lines_of (plain_text (text_of file) file))) out

abbrev or_reason : Reason → List ℕ → List ℕ
or_reason reason told = if length told == 0 then query_told (sentence_line reason) else told

-- of a file of records, as a whole or by its records, of which this is told
abbrev pub AreRecordsTold : Bool → Fault → List ℕ → List ℕ → List ℕ → Type 0
AreRecordsTold true fault file told out = out ≡ whole_text fault.reason file
AreRecordsTold false fault file told out = out ≡ or_reason fault.reason told

-- of each kind of file
abbrev pub IsExplainedFor : FileKind → List ℕ → Fault → List ℕ → List ℕ → List ℕ → Type 0
IsExplainedFor files.Schema schema fault file query out = AreRecordsTold (fault.place == 0) fault file (schema_text file) out
IsExplainedFor files.Rows schema fault file query out = AreRecordsTold (fault.place == 0) fault file (rows_text schema file) out
IsExplainedFor files.Constraints schema fault file query out = IsFileTold (fault.place == 0) schema fault file out
IsExplainedFor files.Limits schema fault file query out = IsFileTold (fault.place == 0) schema fault file out
IsExplainedFor files.Query schema fault file query out = IsQueryTold schema fault.reason query out
IsExplainedFor files.Script schema fault file query out = IsScriptTold (fault.place == 0) schema fault file out
IsExplainedFor files.Document schema fault file query out = out ≡ query_told (sentence_line fault.reason)

abbrev pub IsExplained : List ℕ → Fault → List ℕ → List ℕ → List ℕ → Type 0
IsExplained schema fault file query out = IsExplainedFor fault.file schema fault file query out
