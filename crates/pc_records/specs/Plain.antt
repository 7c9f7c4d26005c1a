-- Texts of which each line is a record.
use Rattle.std.specs.Prelude.{◌≡◌, ℕ, ◌+◌, ◌==◌, ◌||◌, Bool, true, false, List, [], ◌∷◌, filter, get_or, All}
use Rattle.std.specs.List.{slice_split}
use Rattle.std.specs.Str.Lines.{lines}

-- no byte is a quote
abbrev pub HasNoQuote : List ℕ → Type 0
HasNoQuote text = All (λ byte. (byte == 34) ≡ false) text

-- no byte is a quote, and behind each CR stands an LF
pub record HasPlainLines (text : List ℕ) : Type 0 where
  pub no_quote : HasNoQuote text
  pub no_lone_return : (place : ℕ) → get_or text place 0 ≡ 13 → get_or text (place + 1) 0 ≡ 10

abbrev pub is_filled : List ℕ → Bool
is_filled [] = false
is_filled (byte ∷ line) = true

abbrev pub ends_line : ℕ → Bool
ends_line byte = (byte == 13) || (byte == 10)

-- what stands between CRs and LFs, where it is not empty
abbrev pub filled_parts : List ℕ → List (List ℕ)
filled_parts text = filter is_filled (slice_split ends_line text)

-- the lines that are not empty: each ends by LF, by CR LF or with the text
abbrev pub plain_lines : List ℕ → List (List ℕ)
plain_lines text = filter is_filled (lines text)

abbrev pub split_at_commas : List ℕ → List (List ℕ)
split_at_commas line = slice_split (λ byte. byte == 44) line
