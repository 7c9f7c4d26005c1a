-- What reading finds, taken apart.
use Rattle.std.proofs.Common.{◌≡◌, ◌⊎◌, inl, inr, ℕ, List, [], ◌∷◌, ◌++◌, Ok, Err, refl, ap, ◌∙◌}
use Rattle.pc_document_format.specs.Formats.{Lines, Found, ◌>>=◌, first_line, read_joined}

pub ok_parts : {A : Type 0} (x y : A) (a b : Lines) → ◌≡◌ {A = Found A} (Ok (x, a)) (Ok (y, b)) → (x ≡ y) × (a ≡ b)
ok_parts {A} x y a b e =
    let pair : ◌≡◌ {A = A × Lines} (x, a) (y, b) = (cc) in
    (ap (λ (p : A × Lines). p.0) pair, ap (λ (p : A × Lines). p.1) pair)

pub err_same : {A : Type 0} (a b : Lines) → ◌≡◌ {A = Found A} (Err a) (Err b) → a ≡ b
err_same a b e = cc

pub ok_err : {A : Type 0} (x : A) (a b : Lines) → ◌≡◌ {A = Found A} (Ok (x, a)) (Err b) → ⊥
ok_err x a b e = cc

pub err_ok : {A : Type 0} (x : A) (a b : Lines) → ◌≡◌ {A = Found A} (Err b) (Ok (x, a)) → ⊥
err_ok x a b e = cc

pub cons_parts : (x y : List ℕ) (xs ys : Lines) → x ∷ xs ≡ y ∷ ys → (x ≡ y) × (xs ≡ ys)
cons_parts x y xs ys e =
    let first : x ≡ y = (cc) in
    let rest : xs ≡ ys = (cc) in
    (first, rest)

pub nil_cons : (x : List ℕ) (xs : Lines) → [] ≡ x ∷ xs → ⊥
nil_cons x xs e = cc

-- the first line does not tell what stands behind a line
pub first_same : (before : Lines) (line : List ℕ) (more other : Lines) → first_line (before ++ line ∷ more) ≡ first_line (before ++ line ∷ other)
first_same [] line more other = refl
first_same (first ∷ before) line more other = refl

abbrev pub found_as : {A : Type 0} → A → Lines → Found A
found_as x rest = Ok (x, rest)

abbrev pub refused_as : {A : Type 0} → Lines → Found A
refused_as left = Err left

-- what is found is found in both parts
pub record IsBoth {A B C : Type 0} (read : Lines → Found A) (next : A → Lines → Found B) (join : A → B → C) (lines rest : Lines) (z : C) : Type 0 where
  pub x : A
  pub middle : Lines
  pub y : B
  pub found : read lines ≡ Ok (x, middle)
  pub last : next x middle ≡ Ok (y, rest)
  pub is : join x y ≡ z

-- the first part is read
pub record IsFirst {A B : Type 0} (read : Lines → Found A) (next : A → Lines → Found B) (lines left : Lines) : Type 0 where
  pub x : A
  pub middle : Lines
  pub found : read lines ≡ Ok (x, middle)
  pub last : next x middle ≡ Err left

module _ {A B C : Type 0} (read : Lines → Found A) (next : A → Lines → Found B) (join : A → B → C) where
  abbrev joined_of : A → Found B → Found C
  joined_of x last = last >>= λ p. Ok (join x p.0, p.1)

  abbrev after_of : Found A → Found C
  after_of found = found >>= λ p. joined_of p.0 (next p.0 p.1)

  pub both_found : (lines rest : Lines) (z : C) → read_joined read next join lines ≡ Ok (z, rest) → IsBoth read next join lines rest z
  both_found lines rest z e = by_first (read lines) refl e
    where
      by_last : (x : A) (middle : Lines) → read lines ≡ Ok (x, middle) → (last : Found B) → next x middle ≡ last → joined_of x last ≡ Ok (z, rest) → IsBoth read next join lines rest z
      by_last x middle found (Ok (y, after)) is f =
          let parts = ok_parts (join x y) z after rest f in
          record { x = x; middle = middle; y = y; found = found; last = is ∙ ap (λ (others : Lines). found_as y others) parts.1; is = parts.0 }
      by_last x middle found (Err left) is f = absurd (err_ok z rest left f)

      by_first : (found : Found A) → read lines ≡ found → after_of found ≡ Ok (z, rest) → IsBoth read next join lines rest z
      by_first (Ok (x, middle)) is f = by_last x middle is (next x middle) refl f
      by_first (Err left) is f = absurd (err_ok z rest left f)

  pub first_or_second : (lines left : Lines) → read_joined read next join lines ≡ Err left → (read lines ≡ Err left) ⊎ IsFirst read next lines left
  first_or_second lines left e = by_first (read lines) refl e
    where
      by_last : (x : A) (middle : Lines) → read lines ≡ Ok (x, middle) → (last : Found B) → next x middle ≡ last → joined_of x last ≡ Err left → (read lines ≡ Err left) ⊎ IsFirst read next lines left
      by_last x middle found (Ok (y, after)) is f = absurd (ok_err (join x y) after left f)
      by_last x middle found (Err other) is f = inr (record { x = x; middle = middle; found = found; last = is ∙ ap refused_as (err_same other left f) })

      by_first : (found : Found A) → read lines ≡ found → after_of found ≡ Err left → (read lines ≡ Err left) ⊎ IsFirst read next lines left
      by_first (Ok (x, middle)) is f = by_last x middle is (next x middle) refl f
      by_first (Err other) is f = inl (is ∙ ap refused_as (err_same other left f))

  -- the parts give the whole
  pub both_are : (lines middle rest : Lines) (x : A) (y : B) → read lines ≡ Ok (x, middle) → next x middle ≡ Ok (y, rest) → read_joined read next join lines ≡ Ok (join x y, rest)
  both_are lines middle rest x y found last = ap after_of found ∙ ap (joined_of x) last

  pub first_fails : (lines left : Lines) → read lines ≡ Err left → read_joined read next join lines ≡ Err left
  first_fails lines left found = ap after_of found

  pub second_fails : (lines middle left : Lines) (x : A) → read lines ≡ Ok (x, middle) → next x middle ≡ Err left → read_joined read next join lines ≡ Err left
  second_fails lines middle left x found last = ap after_of found ∙ ap (joined_of x) last
