-- The lines that tell why files give nothing.
use Rattle.std.specs.Prelude.{ℕ, List, [], ◌∷◌, codes, decimal}
use Rattle.std.specs.List.{concat}
use Rattle.pc_model.specs.declared.fault.FileKind.{FileKind}
use Rattle.pc_model.specs.declared.fault.Fault.{Fault}
use Rattle.pc_model.specs.FaultTexts.{number_of, name_of, file_name_of}

-- a text that ends with a line break
abbrev pub line_break : List ℕ
line_break = 10 ∷ []

-- of a file that could not be read
abbrev pub fault_line : FileKind → List ℕ
fault_line file = concat (codes "read fault: " ∷ file_name_of file ∷ line_break ∷ [])

-- of a file or a query that is refused
abbrev pub malformed_line : Fault → List ℕ
malformed_line fault =
    concat (codes "malformed " ∷ file_name_of fault.file ∷ codes " at " ∷ decimal fault.place ∷ codes ": reason " ∷ decimal (number_of fault.reason) ∷ codes " " ∷ name_of fault.reason ∷ line_break ∷ [])
