-- Formats by lines: values that are good, their lines, and a reader.
use Rattle.std.specs.Prelude.{◌≡◌, ℕ, zero, suc, ◌+◌, ◌-◌, ◌≤◌, ◌&&◌, All, AllPairs, bytes_eq, Bool, true, false, ⊤, List, [], ◌∷◌, ◌++◌, length, Option, Some, None, MatchOption, Result, Ok, Err, if◌then◌else◌}
use Rattle.pc_document_format.specs.Lines.{lines_text, whole_lines, rest_after, feeds_in}

abbrev pub Lines : Type 0
Lines = List (List ℕ)

-- a value and the lines after it, or the lines from the first one that may not stand there
abbrev pub Found : Type 0 → Type 0
Found A = Result (A × Lines) Lines

infixl 10 ◌>>=◌
abbrev pub ◌>>=◌ : {E A B : Type 0} → Result A E → (A → Result B E) → Result B E
(Ok x) >>= f = f x
(Err e) >>= f = Err e

-- no line feed is in the line
abbrev pub IsPlain : List ℕ → Type 0
IsPlain line = feeds_in line ≡ 0

abbrev pub ArePlain : Lines → Type 0
ArePlain lines = All IsPlain lines

abbrev pub first_line : Lines → Option (List ℕ)
first_line [] = None
first_line (line ∷ rest) = Some line

-- Where reading ends: the lines before are those of the beginning of a good value, and the line at which it ends is
-- refused whatever follows it.
pub record IsFault {A : Type 0} (Good : A → Type 0) (text : A → Lines) (read : Lines → Found A) (lines left : Lines) : Type 0 where
  pub before : Lines
  pub parts : lines ≡ before ++ left
  pub value : A
  pub good : Good value
  pub after : Lines
  pub goes_on : text value ≡ before ++ after
  pub stays : (line : List ℕ) (more other : Lines) → left ≡ line ∷ more → read (before ++ line ∷ other) ≡ Err (line ∷ other)

-- The reader reads the lines of a good value as that value, reads nothing else, and ends where no good value's lines go
-- on. What may follow a value is said of the line after it.
pub record IsFormat {A : Type 0} (Good : A → Type 0) (text : A → Lines) (Follows : A → Option (List ℕ) → Type 0) (read : Lines → Found A) : Type 0 where
  pub some : A
  pub some_good : Good some
  pub complete : (x : A) (rest : Lines) → Good x → Follows x (first_line rest) → read (text x ++ rest) ≡ Ok (x, rest)
  pub sound : (lines rest : Lines) (x : A) → read lines ≡ Ok (x, rest) → Good x × (lines ≡ text x ++ rest) × Follows x (first_line rest)
  pub fault : (lines left : Lines) → read lines ≡ Err left → IsFault Good text read lines left
  pub plain : (x : A) → Good x → ArePlain (text x)

-- anything may follow
abbrev pub any : {A : Type 0} → A → Option (List ℕ) → Type 0
any x line = ⊤

-- ---- one line

abbrev pub line_found : {A : Type 0} → List ℕ → Lines → Option A → Found A
line_found line rest None = Err (line ∷ rest)
line_found line rest (Some x) = Ok (x, rest)

abbrev pub read_line : {A : Type 0} → (List ℕ → Option A) → Lines → Found A
read_line read [] = Err []
read_line read (line ∷ rest) = line_found line rest (read line)

-- how one line is read
pub record IsLine {A : Type 0} (Good : A → Type 0) (text : A → List ℕ) (read : List ℕ → Option A) : Type 0 where
  pub some : A
  pub some_good : Good some
  pub complete : (x : A) → Good x → read (text x) ≡ Some x
  pub sound : (line : List ℕ) (x : A) → read line ≡ Some x → Good x × (line ≡ text x)
  pub plain : (x : A) → Good x → feeds_in (text x) ≡ 0

-- the only value whose text this can be, if it may stand and this is its text
abbrev pub if_spelled : {A : Type 0} → (A → List ℕ) → (A → Bool) → List ℕ → Option A → Option A
if_spelled text is_good line None = None
if_spelled text is_good line (Some x) = if is_good x && bytes_eq (text x) line then Some x else None

-- a likely value is written again and compared with the line
abbrev pub read_spelled : {A : Type 0} → (A → List ℕ) → (A → Bool) → (List ℕ → Option A) → List ℕ → Option A
read_spelled text is_good likely line = if_spelled text is_good line (likely line)

-- A kind of line: the likely value of a good value's text is that value, and of the likely ones those that pass the test
-- are good.
pub record IsSpelled {A : Type 0} (Good : A → Type 0) (text : A → List ℕ) (is_good : A → Bool) (likely : List ℕ → Option A) : Type 0 where
  pub some : A
  pub some_good : Good some
  pub tested : (x : A) → Good x → is_good x ≡ true
  pub holds : (line : List ℕ) (x : A) → likely line ≡ Some x → is_good x ≡ true → Good x
  pub plain : (x : A) → Good x → feeds_in (text x) ≡ 0
  pub back : (x : A) → Good x → likely (text x) ≡ Some x

-- of the values, the first whose text the line is
unfoldable pub found_in : {A : Type 0} → (A → List ℕ) → List A → List ℕ → Option A
found_in text [] line = None
found_in text (x ∷ xs) line = if bytes_eq (text x) line then Some x else found_in text xs line

-- no two of the values have the same text
abbrev pub AreApart : {A : Type 0} → (A → List ℕ) → List A → Type 0
AreApart text xs = AllPairs (λ x y. text x ≡ text y → ⊥) xs

-- ---- no line

abbrev pub read_none : {A : Type 0} → A → Lines → Found A
read_none x lines = Ok (x, lines)

-- ---- one after another

abbrev pub read_then : {A B : Type 0} → (Lines → Found A) → (A → Lines → Found B) → Lines → Found (A × B)
read_then read next lines = read lines >>= λ found. (next found.0 found.1 >>= λ last. Ok ((found.0, last.0), last.1))

-- the parts joined
abbrev pub read_joined : {A B C : Type 0} → (Lines → Found A) → (A → Lines → Found B) → (A → B → C) → Lines → Found C
read_joined read next join lines = read lines >>= λ found. (next found.0 found.1 >>= λ last. Ok (join found.0 last.0, last.1))

-- Two parts, the second of which may depend on the first, make a value. Good parts make a good value with their lines, and
-- each good one is made so; what may follow the value is what may follow its second part, and the second part may follow
-- the first.
pub record IsJoin {A B C : Type 0} (GoodA : A → Type 0) (textA : A → Lines) (FollowsA : A → Option (List ℕ) → Type 0) (GoodB : A → B → Type 0) (textB : A → B → Lines) (FollowsB : A → B → Option (List ℕ) → Type 0) (join : A → B → C) (Good : C → Type 0) (text : C → Lines) (Follows : C → Option (List ℕ) → Type 0) : Type 0 where
  pub made : (x : A) (y : B) → GoodA x → GoodB x y → Good (join x y) × (text (join x y) ≡ textA x ++ textB x y)
  pub follows : (x : A) (y : B) (line : Option (List ℕ)) → GoodA x → GoodB x y → FollowsB x y line → Follows (join x y) line
  pub parts : (z : C) → Good z → (x : A) × (y : B) × GoodA x × GoodB x y × (join x y ≡ z)
  pub back_follows : (x : A) (y : B) (line : Option (List ℕ)) → GoodA x → GoodB x y → Follows (join x y) line → FollowsB x y line
  pub fits : (x : A) (y : B) (rest : Lines) → GoodA x → GoodB x y → FollowsB x y (first_line rest) → FollowsA x (first_line (textB x y ++ rest))

-- ---- as another value

abbrev pub read_as : {A B : Type 0} → (A → B) → (Lines → Found A) → Lines → Found B
read_as to read lines = read lines >>= λ found. Ok (to found.0, found.1)

-- A value is read as another. Good ones make good ones with the same lines, each good one is made so, and what may follow
-- is the same.
pub record IsAs {A C : Type 0} (GoodA : A → Type 0) (textA : A → Lines) (FollowsA : A → Option (List ℕ) → Type 0) (to : A → C) (Good : C → Type 0) (text : C → Lines) (Follows : C → Option (List ℕ) → Type 0) : Type 0 where
  pub made : (x : A) → GoodA x → Good (to x) × (text (to x) ≡ textA x)
  pub follows : (x : A) (line : Option (List ℕ)) → GoodA x → FollowsA x line → Follows (to x) line
  pub parts : (z : C) → Good z → (x : A) × GoodA x × (to x ≡ z)
  pub back_follows : (x : A) (line : Option (List ℕ)) → GoodA x → Follows (to x) line → FollowsA x line

-- ---- as many as begin so

unfoldable pub read_many_in : {A : Type 0} → (List ℕ → Bool) → (Lines → Found A) → ℕ → Lines → Found (List A)
read_many_in begins read zero lines = Ok ([], lines)
read_many_in begins read (suc n) [] = Ok ([], [])
read_many_in begins read (suc n) (line ∷ lines) =
    if begins line then (read (line ∷ lines) >>= λ found. (read_many_in begins read n found.1 >>= λ others. Ok (found.0 ∷ others.0, others.1)))
    else Ok ([], line ∷ lines)

abbrev pub read_many : {A : Type 0} → (List ℕ → Bool) → (Lines → Found A) → Lines → Found (List A)
read_many begins read lines = read_many_in begins read (length lines) lines

-- a value before others, and those that were read before others
abbrev pub after_one : {A : Type 0} → A → Found (List A) → Found (List A)
after_one x found = found >>= λ others. Ok (x ∷ others.0, others.1)

abbrev pub after_items : {A : Type 0} → List A → Found (List A) → Found (List A)
after_items before found = found >>= λ last. Ok (before ++ last.0, last.1)

-- there is a line, and it begins one
abbrev pub Begins : (List ℕ → Bool) → Option (List ℕ) → Type 0
Begins begins line = MatchOption line ⊥ (λ next. begins next ≡ true)

-- the line does not begin another one
abbrev pub Ends : {A : Type 0} → (List ℕ → Bool) → List A → Option (List ℕ) → Type 0
Ends begins xs line = MatchOption line ⊤ (λ next. begins next ≡ false)

-- ---- trees in preorder

-- how many trees are still owed after a node, of so many and the node's own
abbrev pub owed_after : {A : Type 0} → (A → Bool) → A → ℕ → ℕ
owed_after is_inner x n = if is_inner x then suc (suc n) else n

unfoldable pub read_nodes : {A : Type 0} → (A → Bool) → (List ℕ → Option A) → ℕ → Lines → Found (List A)
read_nodes is_inner read zero lines = Ok ([], lines)
read_nodes is_inner read (suc n) [] = Err []
read_nodes is_inner read (suc n) (line ∷ lines) =
    line_found line lines (read line) >>= λ found. (read_nodes is_inner read (owed_after is_inner found.0 n) lines >>= λ others. Ok (found.0 ∷ others.0, others.1))

-- good nodes, which are those of so many trees in preorder
unfoldable pub AreTrees : {A : Type 0} → (A → Type 0) → (A → Bool) → ℕ → List A → Type 0
AreTrees Good is_inner zero [] = ⊤
AreTrees Good is_inner zero (x ∷ xs) = ⊥
AreTrees Good is_inner (suc n) [] = ⊥
AreTrees Good is_inner (suc n) (x ∷ xs) = Good x × AreTrees Good is_inner (owed_after is_inner x n) xs

abbrev pub nodes_text : {A : Type 0} → (A → List ℕ) → List A → Lines
nodes_text text [] = []
nodes_text text (x ∷ xs) = text x ∷ nodes_text text xs

abbrev pub items_text : {A : Type 0} → (A → Lines) → List A → Lines
items_text text [] = []
items_text text (x ∷ xs) = text x ++ items_text text xs

-- ---- the bytes

-- the bytes are those of a good value's lines
abbrev pub IsTextOf : {A : Type 0} → (A → Type 0) → (A → Lines) → List ℕ → A → Type 0
IsTextOf Good text bytes x = Good x × (lines_text (text x) ≡ bytes)

-- the bytes are the beginning of some good value's
abbrev pub IsBeginning : {A : Type 0} → (A → Type 0) → (A → Lines) → List ℕ → Type 0
IsBeginning {A} Good text bytes = (x : A) × (more : List ℕ) × IsTextOf Good text (bytes ++ more) x

-- The line is one more than the line feeds of the longest beginning of the bytes that is also one of some good value's,
-- and the bytes are those of no good value.
pub record IsFirstFault {A : Type 0} (Good : A → Type 0) (text : A → Lines) (bytes : List ℕ) (line : ℕ) : Type 0 where
  pub beginning : List ℕ
  pub others : List ℕ
  pub parts : bytes ≡ beginning ++ others
  pub begins : IsBeginning Good text beginning
  pub line_is : line ≡ feeds_in beginning + 1
  pub longest : (front back : List ℕ) → bytes ≡ front ++ back → IsBeginning Good text front → feeds_in front + 1 ≤ line
  pub none : (x : A) → IsTextOf Good text bytes x → ⊥

-- a good value whose bytes these are, or the line of the first fault
abbrev pub Tells : {A : Type 0} → (A → Type 0) → (A → Lines) → List ℕ → Result A ℕ → Type 0
Tells Good text bytes (Ok x) = IsTextOf Good text bytes x
Tells Good text bytes (Err line) = IsFirstFault Good text bytes line

-- the number of the line after so many that are left of all
abbrev pub line_at : Lines → Lines → ℕ
line_at lines left = length lines - length left + 1

-- all of the lines, and the bytes after the last, are a value's, or the number of the first line that may not stand there
abbrev pub whole_of : {A : Type 0} → Lines → List ℕ → Found A → Result A ℕ
whole_of lines rest (Err left) = Err (line_at lines left)
whole_of lines [] (Ok (x, [])) = Ok x
whole_of lines (byte ∷ rest) (Ok (x, [])) = Err (line_at lines [])
whole_of lines rest (Ok (x, line ∷ left)) = Err (line_at lines (line ∷ left))

-- the value whose bytes these are
unfoldable pub read_bytes : {A : Type 0} → (Lines → Found A) → List ℕ → Result A ℕ
read_bytes read bytes = whole_of (whole_lines bytes) (rest_after [] bytes) (read (whole_lines bytes))
