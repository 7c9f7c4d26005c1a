-- Texts of which a statement is made.
use Rattle.std.specs.Prelude.{ℕ, ◌==◌, List, [], ◌∷◌, ◌++◌, codes, flat_map, if◌then◌else◌}

-- a byte between marks, which stands twice where it is the mark
unfoldable pub marked_byte : ℕ → ℕ → List ℕ
marked_byte mark byte = if byte == mark then mark ∷ mark ∷ [] else byte ∷ []

-- a text between two marks
unfoldable pub quoted : ℕ → List ℕ → List ℕ
quoted mark text = (mark ∷ []) ++ flat_map (marked_byte mark) text ++ (mark ∷ [])

-- a string stands between ', and the name of a column or a table between "
abbrev pub string_text : List ℕ → List ℕ
string_text text = quoted 39 text

abbrev pub name_text : List ℕ → List ℕ
name_text name = quoted 34 name

unfoldable pub surrounded : List ℕ → List ℕ → List ℕ → List ℕ
surrounded before text after = before ++ text ++ after

unfoldable pub with_before : List ℕ → List ℕ → List ℕ
with_before before text = before ++ text

-- texts with another between each two, or one text for none
unfoldable pub listed : List ℕ → List ℕ → List (List ℕ) → List ℕ
listed none between [] = none
listed none between (first ∷ others) = first ++ flat_map (with_before between) others

-- a byte of the name of a table, whose parts between points are quoted each
unfoldable pub part_byte : ℕ → List ℕ
part_byte byte = if byte == 46 then codes "\".\"" else marked_byte 34 byte

unfoldable pub table_text : List ℕ → List ℕ
table_text table = surrounded (codes "\"") (flat_map part_byte table) (codes "\"")
