-- What a reader of lines tells by its place in the bytes, against a definition over lines.
use Rattle.std.specs.Prelude.{◌≡◌, ℕ, ◌≤◌, ⊤, List, [], drop, length, Result, Ok, Err}
use Rattle.pc_document_format.specs.Lines.{whole_lines, rest_after}
use Rattle.pc_document_format.specs.Formats.{Lines, Found}
use Rattle.pc_document.specs.Reading.{Word, word}
use Rattle.pc_document.specs.declared.halt.Halt.{Halt}
use Rattle.pc_document.specs.declared.halt.Halt.TheVariants as halts

-- a line begins there, or the bytes end
pub record IsLineStart (bytes : List ℕ) (at : ℕ) : Type 0 where
  pub within : at ≤ length bytes
  pub rest : rest_after [] (drop at bytes) ≡ rest_after [] bytes

-- the lines from a place on
abbrev pub lines_at : List ℕ → ℕ → Lines
lines_at bytes at = whole_lines (drop at bytes)

abbrev pub HaltsAs : {A : Type 0} → List ℕ → Halt → Found A → Type 0
HaltsAs bytes (halts.Fault at) wanted = (at ≤ length bytes) × (wanted ≡ Err (lines_at bytes at))
HaltsAs bytes halts.Memory wanted = ⊤

-- what was read up to a place is what is wanted, or the place is that of the first line that may not stand
abbrev pub Reads : {A : Type 0} → List ℕ → Result (A × ℕ) Halt → Found A → Type 0
Reads bytes (Ok p) wanted = IsLineStart bytes p.1 × (wanted ≡ Ok (p.0, lines_at bytes p.1))
Reads bytes (Err halt) wanted = HaltsAs bytes halt wanted

-- the same of a line that is one text
abbrev pub ReadsWord : List ℕ → Result ℕ Halt → Found Word → Type 0
ReadsWord bytes (Ok at) wanted = IsLineStart bytes at × (wanted ≡ Ok (word, lines_at bytes at))
ReadsWord bytes (Err halt) wanted = HaltsAs bytes halt wanted
