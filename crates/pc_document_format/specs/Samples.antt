-- A small format that takes each way to make one: nothing, notes or a tree, and a last line.
use Rattle.std.specs.Prelude.{◌≡◌, ℕ, ◌==◌, Bool, true, false, ⊤, All, List, [], ◌∷◌, ◌++◌, codes, get_or, drop, Option, Some}
use Rattle.pc_document_format.specs.Lines.{feeds_in}
use Rattle.pc_document_format.specs.Formats.{Lines, Found, AreTrees, Ends, read_line, read_none, read_then, read_as, read_many, read_nodes, read_joined, read_spelled, found_in, items_text, nodes_text}

pub data Body : Type 0 where
  nothing : Body
  notes : List (List ℕ) → Body
  tree : List Bool → Body

-- ---- a line that says what follows

pub data Tag : Type 0 where
  no_more : Tag
  some_notes : Tag
  one_tree : Tag

abbrev pub tag_text : Tag → List ℕ
tag_text no_more = codes "nothing"
tag_text some_notes = codes "notes"
tag_text one_tree = codes "tree"

abbrev pub tags : List Tag
tags = no_more ∷ some_notes ∷ one_tree ∷ []

abbrev pub tag_of : Body → Tag
tag_of nothing = no_more
tag_of (notes ns) = some_notes
tag_of (tree nodes) = one_tree

-- ---- notes, which begin with a dash

abbrev pub note_text : List ℕ → List ℕ
note_text note = 45 ∷ note

abbrev pub is_note : List ℕ → Bool
is_note note = feeds_in note == 0

abbrev pub IsNote : List ℕ → Type 0
IsNote note = is_note note ≡ true

abbrev pub likely_note : List ℕ → Option (List ℕ)
likely_note line = Some (drop 1 line)

abbrev pub begins_note : List ℕ → Bool
begins_note line = get_or line 0 0 == 45

abbrev pub notes_text : List (List ℕ) → Lines
notes_text ns = items_text (λ note. note_text note ∷ []) ns

-- ---- nodes, of which those that are true have two parts

abbrev pub node_text : Bool → List ℕ
node_text true = codes "split"
node_text false = codes "leaf"

abbrev pub is_split : Bool → Bool
is_split node = node

abbrev pub IsNode : Bool → Type 0
IsNode node = ⊤

-- ---- what stands after the tag

abbrev pub rest_text : Body → Lines
rest_text nothing = []
rest_text (notes ns) = notes_text ns
rest_text (tree nodes) = nodes_text node_text nodes

abbrev pub AreNotes : Body → Type 0
AreNotes nothing = ⊥
AreNotes (notes ns) = All IsNote ns
AreNotes (tree nodes) = ⊥

abbrev pub IsOneTree : Body → Type 0
IsOneTree nothing = ⊥
IsOneTree (notes ns) = ⊥
IsOneTree (tree nodes) = AreTrees IsNode is_split 1 nodes

abbrev pub IsTagged : Tag → Body → Type 0
IsTagged no_more body = body ≡ nothing
IsTagged some_notes body = AreNotes body
IsTagged one_tree body = IsOneTree body

-- after notes comes a line that is none
abbrev pub BodyFollows : Body → Option (List ℕ) → Type 0
BodyFollows nothing line = ⊤
BodyFollows (notes ns) line = Ends begins_note ns line
BodyFollows (tree nodes) line = ⊤

abbrev pub read_tagged : Tag → Lines → Found Body
read_tagged no_more = read_none nothing
read_tagged some_notes = read_as notes (read_many begins_note (read_line (read_spelled note_text is_note likely_note)))
read_tagged one_tree = read_as tree (read_nodes is_split (found_in node_text (true ∷ false ∷ [])) 1)

-- ---- the whole

abbrev pub IsBody : Body → Type 0
IsBody body = IsTagged (tag_of body) body

abbrev pub body_text : Body → Lines
body_text body = tag_text (tag_of body) ∷ rest_text body

abbrev pub the_last : {A B : Type 0} → A → B → B
the_last x y = y

abbrev pub read_body : Lines → Found Body
read_body = read_joined (read_line (found_in tag_text tags)) read_tagged the_last

abbrev pub end_text : ⊤ → List ℕ
end_text mark = codes "end"

abbrev pub sample_text : Body → Lines
sample_text body = body_text body ++ codes "end" ∷ []

abbrev pub body_of : Body × ⊤ → Body
body_of p = p.0

unfoldable pub read_sample : Lines → Found Body
read_sample = read_as body_of (read_then read_body (λ body. read_line (found_in end_text (tt ∷ []))))
