-- What a file's bytes must be before their records or lines are read, and what a name is.
use Rattle.std.specs.Prelude.{◌≢◌, ℕ, ◌<◌, ◌≤◌, ◌==◌, ◌&&◌, not, Bool, List, [], ◌∷◌, length, All, Result, Ok, Err, nat_le, nat_lt, if◌then◌else◌}
use Rattle.std.specs.List.{list_all}
use Rattle.std.specs.Str.{IsUtf8, is_utf8}
use Rattle.pc_model.specs.declared.fault.Reason.{Reason}
use Rattle.pc_model.specs.declared.fault.Reason.TheVariants.{NotUtf8, TooLong}

-- the greatest length of a schema, row or constraint file
abbrev pub file_limit : ℕ
file_limit = 67108864

-- the bytes without one byte order mark at their start
unfoldable pub without_mark : List ℕ → List ℕ
without_mark [] = []
without_mark (a ∷ []) = a ∷ []
without_mark (a ∷ b ∷ []) = a ∷ b ∷ []
without_mark (a ∷ b ∷ c ∷ rest) = if (a == 239) && (b == 187) && (c == 191) then rest else a ∷ b ∷ c ∷ rest

-- the text of a file, without the mark
unfoldable pub text_of : List ℕ → Result (List ℕ) Reason
text_of bytes =
    if nat_lt file_limit (length bytes) then Err TooLong
    else if is_utf8 bytes then Ok (without_mark bytes)
    else Err NotUtf8

abbrev pub is_name_byte : ℕ → Bool
is_name_byte byte = nat_le 32 byte && not (byte == 127)

-- 1 to 64 bytes of text, none of them a control character
unfoldable pub is_name : List ℕ → Bool
is_name bytes = is_utf8 bytes && nat_lt 0 (length bytes) && nat_le (length bytes) 64 && list_all is_name_byte bytes

-- the same in words
pub record IsName (name : List ℕ) : Type 0 where
  pub text : IsUtf8 name
  pub some : 0 < length name
  pub short : length name ≤ 64
  pub printed : All (λ byte. (32 ≤ byte) × (byte ≢ 127)) name
