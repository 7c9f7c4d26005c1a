-- Bytes as text.
use Rattle.std.specs.Prelude.{ℕ, List}
use Rattle.std.specs.Str.Lossy.{utf8_lossy}

-- the text of bytes, which are text already where the language wrote them
abbrev pub shown : List ℕ → List ℕ
shown bytes = utf8_lossy bytes
