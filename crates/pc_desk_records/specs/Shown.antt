-- Texts of files as they are shown.
use Rattle.std.specs.Prelude.{ℕ, ◌+◌, ◌==◌, ◌&&◌, ◌||◌, Bool, List, [], ◌∷◌, ◌++◌, length, map, take, codes, decimal, get_or, nat_eq, nat_le, nat_lt, slice_get, Option, Some, None, if◌then◌else◌}
use Rattle.std.specs.List.{concat}
use Rattle.strsim.specs.Edits.{levenshtein_row}

-- control characters are not shown
abbrev pub shown_byte : ℕ → ℕ
shown_byte byte = if nat_lt byte 32 || (byte == 127) then 63 else byte

abbrev pub cut_mark : List ℕ → List ℕ
cut_mark text = if nat_lt 64 (length text) then codes ".." else []

-- a byte of a character that is not its first
abbrev pub is_inside : ℕ → Bool
is_inside byte = nat_le 128 byte && nat_lt byte 192

abbrev pub place_unless : Bool → ℕ → ℕ → ℕ
place_unless inside place before = if inside then before else place

-- the last place up to 64 at which a character begins
abbrev pub cut_place : List ℕ → ℕ
cut_place text =
    place_unless (is_inside (get_or text 64 0)) 64 (place_unless (is_inside (get_or text 63 0)) 63 (place_unless (is_inside (get_or text 62 0)) 62 61))

-- a text, of which at most 64 bytes are shown, in whole characters
unfoldable pub shown : List ℕ → List ℕ
shown text = map shown_byte (take (cut_place text) text) ++ cut_mark text

-- the same behind `is` or `=`
abbrev pub shown_after : List ℕ → List ℕ → List ℕ
shown_after word text = if length text == 0 then codes " is empty" else word ++ shown text

abbrev pub comma_at : ℕ → List ℕ
comma_at place = if place == 0 then [] else codes ", "

-- texts one after the other, from a place on
unfoldable pub listed_from : ℕ → List (List ℕ) → List ℕ
listed_from place [] = []
listed_from place (text ∷ rest) = (comma_at place ++ shown text) ++ listed_from (place + 1) rest

-- how many edits of bytes lead from one text to another, of the first 64 of each
abbrev pub distance : List ℕ → List ℕ → ℕ
distance text other = levenshtein_row nat_eq (take 64 text) (take 64 other) (length (take 64 other))

-- the place of the first text of those that are nearest, from a place on, where one before has been nearest so far
unfoldable pub nearest_from : List ℕ → ℕ → ℕ → ℕ → List (List ℕ) → ℕ
nearest_from text place best least [] = best
nearest_from text place best least (other ∷ rest) =
    if nat_lt (distance text other) least then nearest_from text (place + 1) place (distance text other) rest else nearest_from text (place + 1) best least rest

-- no two texts are as far apart as 65 edits
unfoldable pub nearest : List ℕ → List (List ℕ) → ℕ
nearest text others = nearest_from text 0 0 65 others

abbrev pub near_at : List ℕ → Option (List ℕ) → List ℕ
near_at before None = []
near_at before (Some other) = concat (before ∷ shown other ∷ codes " is nearest" ∷ [])

-- which of the texts is nearest to one
abbrev pub near_text : List ℕ → List ℕ → List (List ℕ) → List ℕ
near_text before text others = if length text == 0 then [] else near_at before (slice_get others (nearest text others))

abbrev pub all_text : List ℕ → List (List ℕ) → List ℕ
all_text text others = listed_from 0 others ++ near_text (codes "; ") text others

abbrev pub many_text : List ℕ → List ℕ → List (List ℕ) → List ℕ
many_text word text others = concat (decimal (length others) ∷ word ∷ near_text (codes ", of which ") text others ∷ [])

-- texts, and which of them is nearest to one that is not empty; of more than twelve their number stands for them
unfoldable pub choice_text : List ℕ → List ℕ → List (List ℕ) → List ℕ
choice_text word text others = if nat_le (length others) 12 then all_text text others else many_text word text others

-- so many, of which one or several are spoken of
abbrev pub counted : ℕ → List ℕ → List ℕ → List ℕ
counted count one several = decimal count ++ (if count == 1 then one else several)
