-- The format of the nodes of trees in preorder.
use Rattle.std.proofs.Common.{◌≡◌, ◌⊎◌, inl, inr, ℕ, zero, suc, Bool, false, List, [], ◌∷◌, ◌++◌, Option, Some, None, Ok, Err, refl, sym, ap, ◌∙◌, subst, if◌then◌else◌}
use Rattle.std.proofs.lemmas.List.Elements.{All-nil, All-cons}
use Rattle.pc_document_format.specs.Formats.{Lines, Found, ◌>>=◌, IsPlain, ArePlain, IsFault, IsFormat, IsLine, AreTrees, any, line_found, read_line, read_joined, read_nodes, owed_after, nodes_text}
use Rattle.pc_document_format.proofs.Results.{ok_parts, err_same, ok_err, err_ok, refused_as, cons_parts, IsBoth, IsFirst, both_found, first_or_second, both_are, first_fails, second_fails}
use Rattle.pc_document_format.proofs.OneLine.{line_format, refused_line}

module _ {A : Type 0} (Good : A → Type 0) (text : A → List ℕ) (read : List ℕ → Option A) (is_inner : A → Bool) (l : IsLine Good text read) (leaf : A) (good_leaf : Good leaf) (outer : is_inner leaf ≡ false) where
  abbrev line_of : A → Lines
  line_of x = text x ∷ []

  abbrev others : ℕ → A → Lines → Found (List A)
  others n x = read_nodes is_inner read (owed_after is_inner x n)

  abbrev with_first : A → List A → List A
  with_first x xs = x ∷ xs

  one : IsFormat Good line_of any (read_line read)
  one = line_format l

  nodes_step : (n : ℕ) (lines : Lines) → read_nodes is_inner read (suc n) lines ≡ read_joined (read_line read) (others n) with_first lines
  unfolding read_nodes
  nodes_step n [] = refl
  nodes_step n (line ∷ lines) = by_found (read line)
    where
      by_found : (found : Option A) → ◌≡◌ {A = Found (List A)} (line_found line lines found >>= λ p. (read_nodes is_inner read (owed_after is_inner p.0 n) lines >>= λ more. Ok (p.0 ∷ more.0, more.1))) (line_found line lines found >>= λ p. (read_nodes is_inner read (owed_after is_inner p.0 n) p.1 >>= λ more. Ok (p.0 ∷ more.0, more.1)))
      by_found None = refl
      by_found (Some x) = refl

  nothing_owed : (lines : Lines) → read_nodes is_inner read zero lines ≡ Ok ([], lines)
  unfolding read_nodes
  nothing_owed lines = refl

  -- as many leaves as are owed
  abbrev leaves : ℕ → List A
  leaves zero = []
  leaves (suc n) = leaf ∷ leaves n

  leaves_fit : (n : ℕ) → AreTrees Good is_inner n (leaves n)
  unfolding AreTrees
  leaves_fit zero = tt
  leaves_fit (suc n) = (good_leaf, subst (λ (test : Bool). AreTrees Good is_inner (if test then suc (suc n) else n) (leaves n)) (sym outer) (leaves_fit n))

  first_good : (n : ℕ) (x : A) (xs : List A) → AreTrees Good is_inner (suc n) (x ∷ xs) → Good x × AreTrees Good is_inner (owed_after is_inner x n) xs
  unfolding AreTrees
  first_good n x xs trees = trees

  are_more : (n : ℕ) (x : A) (xs : List A) → Good x → AreTrees Good is_inner (owed_after is_inner x n) xs → AreTrees Good is_inner (suc n) (x ∷ xs)
  unfolding AreTrees
  are_more n x xs good trees = (good, trees)

  none_more : (x : A) (xs : List A) → AreTrees Good is_inner zero (x ∷ xs) → ⊥
  unfolding AreTrees
  none_more x xs trees = trees

  none_missing : (n : ℕ) → AreTrees Good is_inner (suc n) [] → ⊥
  unfolding AreTrees
  none_missing n trees = trees

  none_good : AreTrees Good is_inner zero []
  unfolding AreTrees
  none_good = tt

  nodes_complete : (xs : List A) (n : ℕ) (rest : Lines) → AreTrees Good is_inner n xs → read_nodes is_inner read n (nodes_text text xs ++ rest) ≡ Ok (xs, rest)
  nodes_complete [] zero rest trees = nothing_owed rest
  nodes_complete [] (suc n) rest trees = absurd (none_missing n trees)
  nodes_complete (x ∷ xs) zero rest trees = absurd (none_more x xs trees)
  nodes_complete (x ∷ xs) (suc n) rest trees =
      let parts = first_good n x xs trees in
      let after : Lines = nodes_text text xs ++ rest in
      let again = nodes_complete xs (owed_after is_inner x n) rest parts.1 in
      nodes_step n (text x ∷ after) ∙ both_are (read_line read) (others n) with_first (text x ∷ after) after rest x xs (one.complete x after parts.0 tt) again

  abbrev IsRead : ℕ → List A → Lines → Lines → Type 0
  IsRead n xs lines rest = AreTrees Good is_inner n xs × (lines ≡ nodes_text text xs ++ rest)

  nodes_sound : (lines : Lines) (n : ℕ) (rest : Lines) (xs : List A) → read_nodes is_inner read n lines ≡ Ok (xs, rest) → IsRead n xs lines rest
  nodes_sound lines zero rest xs e =
      let parts = ok_parts [] xs lines rest (sym (nothing_owed lines) ∙ e) in
      subst (λ (ys : List A). IsRead zero ys lines rest) parts.0 (none_good, parts.1)
  nodes_sound [] (suc n) rest xs e = absurd (err_ok xs rest [] (sym (nodes_step n []) ∙ e))
  nodes_sound (line ∷ lines) (suc n) rest xs e = goes_on (nodes_sound lines)
    where
      goes_on : ((m : ℕ) (left : Lines) (ys : List A) → read_nodes is_inner read m lines ≡ Ok (ys, left) → IsRead m ys lines left) → IsRead (suc n) xs (line ∷ lines) rest
      goes_on again =
          let b : IsBoth (read_line read) (others n) with_first (line ∷ lines) rest xs = both_found (read_line read) (others n) with_first (line ∷ lines) rest xs (sym (nodes_step n (line ∷ lines)) ∙ e) in
          let first : Good b.x × (line ∷ lines ≡ text b.x ∷ b.middle) × Unit {0} = one.sound (line ∷ lines) b.middle b.x b.found in
          let same = cons_parts line (text b.x) lines b.middle first.1 in
          let two : IsRead (owed_after is_inner b.x n) b.y lines rest = again (owed_after is_inner b.x n) rest b.y (ap (others n b.x) same.1 ∙ b.last) in
          let whole : line ∷ lines ≡ text b.x ∷ (nodes_text text b.y ++ rest) = ap (λ (next : List ℕ). next ∷ lines) same.0 ∙ ap (λ (after : Lines). text b.x ∷ after) two.1 in
          subst (λ (ys : List A). IsRead (suc n) ys (line ∷ lines) rest) b.is (are_more n b.x b.y first.0 two.0, whole)

  abbrev IsFaultOf : ℕ → Lines → Lines → Type 0
  IsFaultOf n lines left = IsFault (AreTrees Good is_inner n) (nodes_text text) (read_nodes is_inner read n) lines left

  -- reading ends at a node, in the place of which a leaf could stand
  head_fault : (n : ℕ) (lines left : Lines) → read_line read lines ≡ Err left → IsFaultOf (suc n) lines left
  head_fault n lines left e = record {
    before = [];
    parts = (refused_line read lines left e).0;
    value = leaves (suc n);
    good = leaves_fit (suc n);
    after = nodes_text text (leaves (suc n));
    goes_on = refl;
    stays = λ line more other is. nodes_step n (line ∷ other) ∙ first_fails (read_line read) (others n) with_first (line ∷ other) (line ∷ other) ((refused_line read lines left e).1 line more other is);
  }

  -- reading ends after a node
  tail_fault : (n : ℕ) (line : List ℕ) (lines left : Lines) (x : A) → Good x → line ≡ text x → IsFaultOf (owed_after is_inner x n) lines left → IsFaultOf (suc n) (line ∷ lines) left
  tail_fault n line lines left x good same f = record {
    before = text x ∷ f.before;
    parts = ap (λ (next : List ℕ). next ∷ lines) same ∙ ap (λ (after : Lines). text x ∷ after) f.parts;
    value = x ∷ f.value;
    good = are_more n x f.value good f.good;
    after = f.after;
    goes_on = ap (λ (after : Lines). text x ∷ after) f.goes_on;
    stays = λ next more other is. nodes_step n (text x ∷ (f.before ++ next ∷ other)) ∙ second_fails (read_line read) (others n) with_first (text x ∷ (f.before ++ next ∷ other)) (f.before ++ next ∷ other) (next ∷ other) x (one.complete x (f.before ++ next ∷ other) good tt) (f.stays next more other is);
  }

  nodes_fault : (lines : Lines) (n : ℕ) (left : Lines) → read_nodes is_inner read n lines ≡ Err left → IsFaultOf n lines left
  nodes_fault lines zero left e = absurd (ok_err {A = List A} [] lines left (sym (nothing_owed lines) ∙ e))
  nodes_fault [] (suc n) left e = head_fault n [] left (ap refused_as (err_same {A = List A} [] left (sym (nodes_step n []) ∙ e)))
  nodes_fault (line ∷ lines) (suc n) left e = by_first (nodes_fault lines) (first_or_second (read_line read) (others n) with_first (line ∷ lines) left (sym (nodes_step n (line ∷ lines)) ∙ e))
    where
      by_first : ((m : ℕ) (after : Lines) → read_nodes is_inner read m lines ≡ Err after → IsFaultOf m lines after) → (read_line read (line ∷ lines) ≡ Err left) ⊎ IsFirst (read_line read) (others n) (line ∷ lines) left → IsFaultOf (suc n) (line ∷ lines) left
      by_first again (inl refused) = head_fault n (line ∷ lines) left refused
      by_first again (inr s) =
          let first : Good s.x × (line ∷ lines ≡ text s.x ∷ s.middle) × Unit {0} = one.sound (line ∷ lines) s.middle s.x s.found in
          let same = cons_parts line (text s.x) lines s.middle first.1 in
          tail_fault n line lines left s.x first.0 same.0 (again (owed_after is_inner s.x n) left (ap (others n s.x) same.1 ∙ s.last))

  nodes_plain : (xs : List A) (n : ℕ) → AreTrees Good is_inner n xs → ArePlain (nodes_text text xs)
  nodes_plain [] n trees = All-nil IsPlain
  nodes_plain (x ∷ xs) zero trees = absurd (none_more x xs trees)
  nodes_plain (x ∷ xs) (suc n) trees =
      let parts = first_good n x xs trees in
      All-cons IsPlain (text x) (nodes_text text xs) (l.plain x parts.0) (nodes_plain xs (owed_after is_inner x n) parts.1)

  in_module : (n : ℕ) → IsFormat (AreTrees Good is_inner n) (nodes_text text) any (read_nodes is_inner read n)
  in_module n = record {
    some = leaves n;
    some_good = leaves_fit n;
    complete = λ xs rest trees follows. nodes_complete xs n rest trees;
    sound = λ lines rest xs e. let known = nodes_sound lines n rest xs e in (known.0, known.1, tt);
    fault = λ lines left e. nodes_fault lines n left e;
    plain = λ xs trees. nodes_plain xs n trees;
  }

-- Of lines of nodes, of which some may be a leaf, the format of so many trees.
pub nodes_format : {A : Type 0} {Good : A → Type 0} {text : A → List ℕ} {read : List ℕ → Option A} (is_inner : A → Bool) → IsLine Good text read → (leaf : A) → Good leaf → is_inner leaf ≡ false → (n : ℕ) → IsFormat (AreTrees Good is_inner n) (nodes_text text) any (read_nodes is_inner read n)
nodes_format {A} {Good} {text} {read} is_inner l leaf good outer n = in_module Good text read is_inner l leaf good outer n
