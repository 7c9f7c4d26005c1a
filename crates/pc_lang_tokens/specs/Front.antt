-- The longest front of bytes that is a name as it is written.
use Rattle.std.specs.Prelude.{◌≡◌, ℕ, ◌+◌, ◌-◌, ◌≤◌, ◌==◌, ◌&&◌, not, Bool, false, List, [], ◌∷◌, length, take, get_or, Option, Some, None, if◌then◌else◌}
use Rattle.pc_model.specs.Texts.{is_name, IsName}
use Rattle.pc_lang_tokens.specs.Lexing.{quoted_from}
use Rattle.pc_lang_tokens.specs.Spelling.{is_bare, name_text}

-- so many bytes of the front are what is written for the name
pub record IsFront (bytes name : List ℕ) (len : ℕ) : Type 0 where
  pub named : IsName name
  pub within : len ≤ length bytes
  pub written : name_text name ≡ take len bytes

abbrev pub IsLongestFront : List ℕ → Option (List ℕ × ℕ) → Type 0
IsLongestFront bytes None = (name : List ℕ) (len : ℕ) → IsFront bytes name len → ⊥
IsLongestFront bytes (Some found) = IsFront bytes found.0 found.1 × ((name : List ℕ) (len : ℕ) → IsFront bytes name len → len ≤ found.1)

abbrev pub ends_with_quote : List ℕ → Bool
ends_with_quote text = get_or text (length text - 1) 0 == 34

-- a name that is not bare
abbrev pub needs_quotes : List ℕ → Bool
needs_quotes name = is_name name && not (is_bare name)

-- the name that was read between quotes, if that took all of so many bytes
abbrev pub name_in_all : ℕ → Option (List ℕ × ℕ) → Option (List ℕ)
name_in_all len None = None
name_in_all len (Some found) = if (found.1 == len) && needs_quotes found.0 then Some found.0 else None

-- the name whose text in quotes is a quote and this
unfoldable pub quoted_name : List ℕ → Option (List ℕ)
quoted_name rest = if ends_with_quote rest then name_in_all (length rest + 1) (quoted_from false 1 [] rest) else None

abbrev pub name_from_quote : List ℕ → Option (List ℕ)
name_from_quote [] = None
name_from_quote (byte ∷ rest) = if byte == 34 then quoted_name rest else None

-- the name that is written so
unfoldable pub name_written : List ℕ → Option (List ℕ)
name_written text = if is_bare text then Some text else name_from_quote text
