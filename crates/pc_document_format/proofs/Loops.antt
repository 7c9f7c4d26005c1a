-- What a loop that reads values one after another has come to.
use Rattle.std.proofs.Common.{◌≡◌, ℕ, zero, suc, ◌+◌, ◌-◌, ◌<◌, ◌≤◌, Bool, true, false, List, [], ◌∷◌, ◌++◌, length, Option, Some, None, Ok, Err, refl, sym, ap, ◌∙◌, arith, if◌then◌else◌}
use Rattle.std.proofs.lemmas.List.{append_assoc, append-nil}
use Rattle.pc_document_format.specs.Formats.{Lines, Found, ◌>>=◌, IsFormat, Begins, any, read_many, read_many_in, read_line, line_found, read_nodes, owed_after, after_one, after_items, first_line}
use Rattle.pc_document_format.proofs.Many.{many_fuel}

-- a value after others, before others
again : {A : Type 0} (before : List A) (x : A) (found : Found (List A)) → after_items before (after_one x found) ≡ after_items (before ++ x ∷ []) found
again before x (Ok others) = let moved = append_assoc before (x ∷ []) others.0 in rw moved refl
again before x (Err left) = refl

ended : {A : Type 0} (before : List A) (lines : Lines) → after_items before (Ok ([], lines)) ≡ Ok (before, lines)
ended before lines = let same = append-nil before in rw same refl

-- ---- as many as begin so

module _ {A : Type 0} (begins : List ℕ → Bool) (read : Lines → Found A) where
  abbrev next_in : ℕ → Lines → Found A → Found (List A)
  next_in n lines found = found >>= λ one. after_one one.0 (read_many_in begins read n one.1)

  abbrev opened_in : Bool → ℕ → List ℕ → Lines → Found (List A)
  opened_in test n line rest = if test then next_in n rest (read (line ∷ rest)) else Ok ([], line ∷ rest)

  opened : (line : List ℕ) (rest : Lines) → read_many begins read (line ∷ rest) ≡ opened_in (begins line) (length rest) line rest
  unfolding read_many_in
  opened line rest = refl

  -- where no line is left, or the line does not begin one
  pub many_none : (before : List A) (lines : Lines) → lines ≡ [] → after_items before (read_many begins read lines) ≡ Ok (before, lines)
  unfolding read_many_in
  many_none before lines is = rw is (ended before [])

  pub many_over : (before : List A) (lines : Lines) (line : List ℕ) (rest : Lines) → lines ≡ line ∷ rest → begins line ≡ false → after_items before (read_many begins read lines) ≡ Ok (before, lines)
  many_over before lines line rest is over = rw is (rw (opened line rest) (rw over (ended before (line ∷ rest))))

  -- a line that begins one, which cannot be read
  pub many_refused : (before : List A) (lines left : Lines) (line : List ℕ) (rest : Lines) → lines ≡ line ∷ rest → begins line ≡ true → read lines ≡ Err left → after_items before (read_many begins read lines) ≡ Err left
  many_refused before lines left line rest is first found =
      let at_line : read (line ∷ rest) ≡ Err left = ap read (sym is) ∙ found in
      rw is (rw (opened line rest) (rw (first, at_line) refl))

  -- a value, where what is left of the lines does not depend on how many there may be
  pub many_more : (before : List A) (lines : Lines) (line : List ℕ) (rest left : Lines) (x : A) → lines ≡ line ∷ rest → begins line ≡ true → read lines ≡ Ok (x, left)
      → read_many_in begins read (length rest) left ≡ read_many begins read left → after_items before (read_many begins read lines) ≡ after_items (before ++ x ∷ []) (read_many begins read left)
  many_more before lines line rest left x is first found same =
      let at_line : read (line ∷ rest) ≡ Ok (x, left) = ap read (sym is) ∙ found in
      rw is (rw (opened line rest) (rw (first, at_line) (rw same (again before x (read_many begins read left)))))

-- where each value is one line
module _ {A : Type 0} (begins : List ℕ → Bool) (read : List ℕ → Option A) where
  pub line_more : (before : List A) (lines : Lines) (line : List ℕ) (rest : Lines) (x : A) → lines ≡ line ∷ rest → begins line ≡ true → Some x ≡ read line
      → after_items before (read_many begins (read_line read) lines) ≡ after_items (before ++ x ∷ []) (read_many begins (read_line read) rest)
  line_more before lines line rest x is first found =
      let at_line : read_line read lines ≡ Ok (x, rest) = rw is (rw (sym found) refl) in
      many_more begins (read_line read) before lines line rest rest x is first at_line refl

  pub line_refused : (before : List A) (lines : Lines) (line : List ℕ) (rest : Lines) → lines ≡ line ∷ rest → begins line ≡ true → None ≡ read line
      → after_items before (read_many begins (read_line read) lines) ≡ Err lines
  line_refused before lines line rest is first found =
      let at_line : read_line read lines ≡ Err lines = rw is (rw (sym found) refl) in
      many_refused begins (read_line read) before lines lines line rest is first at_line

-- where each value is read by a format
module _ {A : Type 0} (Good : A → Type 0) (text : A → Lines) (read : Lines → Found A) (begins : List ℕ → Bool) (format : IsFormat Good text any read) (starts : (x : A) → Good x → Begins begins (first_line (text x))) where
  pub value_more : (before : List A) (lines : Lines) (line : List ℕ) (rest left : Lines) (x : A) → lines ≡ line ∷ rest → begins line ≡ true → read lines ≡ Ok (x, left)
      → after_items before (read_many begins read lines) ≡ after_items (before ++ x ∷ []) (read_many begins read left)
  value_more before lines line rest left x is first found =
      many_more begins read before lines line rest left x is first found (many_fuel Good text read begins format starts x lines line rest left is first found)

-- ---- nodes

module _ {A : Type 0} (is_inner : A → Bool) (read : List ℕ → Option A) where
  pub nodes_done : (before : List A) (owed : ℕ) (lines : Lines) → owed ≤ 0 → after_items before (read_nodes is_inner read owed lines) ≡ Ok (before, lines)
  unfolding read_nodes
  nodes_done before owed lines none = let is : owed ≡ 0 = omega arith in rw is (ended before lines)

  -- the first node, and those after it
  node_step : (n : ℕ) (lines : Lines) → read_nodes is_inner read (suc n) lines ≡ (read_line read lines >>= λ one. after_one one.0 (read_nodes is_inner read (owed_after is_inner one.0 n) one.1))
  unfolding read_nodes
  node_step n [] = refl
  node_step n (line ∷ lines) = by_found (read line)
    where
      by_found : (found : Option A) → ◌≡◌ {A = Found (List A)} (line_found line lines found >>= λ p. (read_nodes is_inner read (owed_after is_inner p.0 n) lines >>= λ more. Ok (p.0 ∷ more.0, more.1))) (line_found line lines found >>= λ p. after_one p.0 (read_nodes is_inner read (owed_after is_inner p.0 n) p.1))
      by_found None = refl
      by_found (Some x) = refl

  pub nodes_refused : (before : List A) (owed : ℕ) (lines left : Lines) → 0 < owed → read_line read lines ≡ Err left → after_items before (read_nodes is_inner read owed lines) ≡ Err left
  nodes_refused before zero lines left some found = absurd (omega arith)
  nodes_refused before (suc n) lines left some found = let step = node_step n lines in rw step (rw found refl)

  pub nodes_more : (before : List A) (owed : ℕ) (lines rest : Lines) (x : A) → 0 < owed → read_line read lines ≡ Ok (x, rest)
      → after_items before (read_nodes is_inner read owed lines) ≡ after_items (before ++ x ∷ []) (read_nodes is_inner read (if is_inner x then owed + 1 else owed - 1) rest)
  nodes_more before zero lines rest x some found = absurd (omega arith)
  nodes_more before (suc n) lines rest x some found =
      let step = node_step n lines in
      let left : owed_after is_inner x n ≡ (if is_inner x then suc n + 1 else suc n - 1) = by_test (is_inner x) in
      rw step (rw found (rw left (again before x (read_nodes is_inner read (if is_inner x then suc n + 1 else suc n - 1) rest))))
    where
      by_test : (test : Bool) → (if test then suc (suc n) else n) ≡ (if test then suc n + 1 else suc n - 1)
      by_test true = omega arith
      by_test false = omega arith
