-- Fields that are dates.
use Rattle.std.specs.Prelude.{ℕ, ◌==◌, ◌||◌, Bool, true, false, List, [], ◌∷◌, codes, Option, Some, None, if◌then◌else◌}
use Rattle.std.specs.Char.{is_ascii_digit}

-- a byte fits a mark that is 0 where it is a digit, and any other mark where it is the same
abbrev pub fits_mark : ℕ → ℕ → Bool
fits_mark mark byte = if mark == 48 then is_ascii_digit byte else byte == mark

-- what stands behind the bytes that fit the marks one after the other
unfoldable pub after_marks : List ℕ → List ℕ → Option (List ℕ)
after_marks [] text = Some text
after_marks (mark ∷ marks) [] = None
after_marks (mark ∷ marks) (byte ∷ text) = if fits_mark mark byte then after_marks marks text else None

-- nothing, or what parts a date from a time: a space or a T
abbrev pub parts_time : List ℕ → Bool
parts_time [] = true
parts_time (byte ∷ rest) = (byte == 32) || (byte == 84)

abbrev pub ends_date : Option (List ℕ) → Bool
ends_date None = false
ends_date (Some rest) = parts_time rest

-- YYYY-MM-DD, alone or in front of a time
unfoldable pub is_date : List ℕ → Bool
is_date text = ends_date (after_marks (codes "0000-00-00") text)
