-- Bounds that never rise from front to back, and what a list of them has where a number is put in or taken out.
use Rattle.std.proofs.Common.{◌≡◌, ◌≢◌, ℕ, ℤ, ◌≤ℤ◌, Bool, true, false, cond, List, [], ◌∷◌, ◌⊎◌, inl, inr, arith, refl, sym, subst, ◌∙◌, eq-eqb}
use Rattle.std.specs.Prelude.{int_lt, ◌==◌}
use Rattle.std.proofs.lemmas.Bool.{cond_both, cond-true, cond-false, eqb-true}
use Rattle.std.proofs.lemmas.Int.{ints}
use Rattle.pc_frontier.specs.Rings.{In, IsOnce, last_of, without}
use Rattle.pc_frontier.specs.Frontier.{place_of, placed, AreUnder, IsFalling}
use Rattle.pc_frontier.proofs.Chains.{in_without}

-- ---- under a top
module _ (bounds : ℕ → ℤ) (top : ℤ) where
  pub under_each : (k : ℕ) (xs : List ℕ) → AreUnder bounds top xs → In k xs → bounds k ≤ℤ top
  under_each k [] h i = elim i [ ]
  under_each k (x ∷ xs) h (inl e) = let P : ℕ → Type 0 = λ j. bounds j ≤ℤ top in subst P (sym e) h.0
  under_each k (x ∷ xs) h (inr i) = under_each k xs h.1 i

  pub each_under : (xs : List ℕ) → ((k : ℕ) → In k xs → bounds k ≤ℤ top) → AreUnder bounds top xs
  each_under [] h = tt
  each_under (x ∷ xs) h = (h x (inl refl), each_under xs (λ k i. h k (inr i)))

-- the same bounds at each number of a list
abbrev pub Agree : (ℕ → ℤ) → (ℕ → ℤ) → List ℕ → Type 0
Agree f g xs = (k : ℕ) → In k xs → g k ≡ f k

module _ (f g : ℕ → ℤ) where
  under_agreed : (x : ℕ) (xs : List ℕ) → Agree f g (x ∷ xs) → AreUnder f (f x) xs → AreUnder g (g x) xs
  under_agreed x xs same h = each_under g (g x) xs (λ k i. rw (same k (inr i), same x (inl refl)) (under_each f (f x) k xs h i))

  pub falling_agreed : (xs : List ℕ) → Agree f g xs → IsFalling f xs → IsFalling g xs
  falling_agreed [] same h = tt
  falling_agreed (x ∷ xs) same h = (under_agreed x xs same h.0, falling_agreed xs (λ k i. same k (inr i)) h.1)

-- ---- put in
module _ (bounds : ℕ → ℤ) (n : ℕ) (bound : ℤ) where
  placed-here : (m : ℕ) (ms : List ℕ) → int_lt (bounds m) bound ≡ true → placed bounds n bound (m ∷ ms) ≡ n ∷ (m ∷ ms)
  placed-here m ms e = cond-true (int_lt (bounds m) bound) (n ∷ (m ∷ ms)) (m ∷ placed bounds n bound ms) e

  placed-later : (m : ℕ) (ms : List ℕ) → int_lt (bounds m) bound ≡ false → placed bounds n bound (m ∷ ms) ≡ m ∷ placed bounds n bound ms
  placed-later m ms e = cond-false (int_lt (bounds m) bound) (n ∷ (m ∷ ms)) (m ∷ placed bounds n bound ms) e

  abbrev Holds : ℕ → List ℕ → List ℕ → Type 0
  Holds k ms xs = In k xs → (k ≡ n) ⊎ In k ms

  push_in : (k m : ℕ) (ms xs : List ℕ) → Holds k ms xs → Holds k (m ∷ ms) (m ∷ xs)
  push_in k m ms xs h (inl e) = inr (inl e)
  push_in k m ms xs h (inr i) = by (h i)
    where
      by : (k ≡ n) ⊎ In k ms → (k ≡ n) ⊎ In k (m ∷ ms)
      by (inl e) = inl e
      by (inr j) = inr (inr j)

  at_front : (k m : ℕ) (ms : List ℕ) → Holds k (m ∷ ms) (n ∷ (m ∷ ms))
  at_front k m ms (inl e) = inl e
  at_front k m ms (inr i) = inr i

  pub in_placed : (k : ℕ) (ms : List ℕ) → In k (placed bounds n bound ms) → (k ≡ n) ⊎ In k ms
  in_placed k [] (inl e) = inl e
  in_placed k [] (inr i) = elim i [ ]
  in_placed k (m ∷ ms) i = by (λ j. in_placed k ms j) (int_lt (bounds m) bound) i
    where
      by : Holds k ms (placed bounds n bound ms) → (b : Bool) → In k (cond b (n ∷ (m ∷ ms)) (m ∷ placed bounds n bound ms)) → (k ≡ n) ⊎ In k (m ∷ ms)
      by more true j = at_front k m ms j
      by more false j = push_in k m ms (placed bounds n bound ms) more j

  pub placed_has : (ms : List ℕ) → In n (placed bounds n bound ms)
  placed_has [] = inl refl
  placed_has (m ∷ ms) = by (placed_has ms) (int_lt (bounds m) bound)
    where
      by : In n (placed bounds n bound ms) → (b : Bool) → In n (cond b (n ∷ (m ∷ ms)) (m ∷ placed bounds n bound ms))
      by rec true = inl refl
      by rec false = inr rec

  pub placed_keeps : (k : ℕ) (ms : List ℕ) → In k ms → In k (placed bounds n bound ms)
  placed_keeps k [] i = elim i [ ]
  placed_keeps k (m ∷ ms) i = by (λ j. placed_keeps k ms j) i (int_lt (bounds m) bound)
    where
      by : (In k ms → In k (placed bounds n bound ms)) → In k (m ∷ ms) → (b : Bool) → In k (cond b (n ∷ (m ∷ ms)) (m ∷ placed bounds n bound ms))
      by rec j true = inr j
      by rec (inl e) false = inl e
      by rec (inr j) false = inr (rec j)

  module _ (after : ℕ → ℤ) where
    less_under : (k m : ℕ) (ms : List ℕ) → IsFalling after (m ∷ ms) → after m ≤ℤ after n → In k (m ∷ ms) → after k ≤ℤ after n
    less_under k m ms rest top (inl e) = let P : ℕ → Type 0 = λ j. after j ≤ℤ after n in subst P (sym e) top
    less_under k m ms rest top (inr i) = let low : after k ≤ℤ after m = under_each after (after m) k ms rest.0 i in omega (arith, ints, low, top)

    before_lesser : (m : ℕ) (ms : List ℕ) → after n ≡ bound → Agree bounds after (m ∷ ms) → IsFalling bounds (m ∷ ms) → int_lt (bounds m) bound ≡ true → IsFalling after (n ∷ (m ∷ ms))
    before_lesser m ms own same h less =
        let rest : IsFalling after (m ∷ ms) = falling_agreed bounds after (m ∷ ms) same h in
        let at : after m ≡ bounds m = same m (inl refl) in
        let top : after m ≤ℤ after n = rw (own, at) (grind (arith, ints, less)) in
        (each_under after (after n) (m ∷ ms) (λ k i. less_under k m ms rest top i), rest)

    later_under : (k m : ℕ) (ms : List ℕ) → after n ≡ bound → Agree bounds after (m ∷ ms) → AreUnder bounds (bounds m) ms → int_lt (bounds m) bound ≡ false → (k ≡ n) ⊎ In k ms → after k ≤ℤ after m
    later_under k m ms own same h less (inl e) =
        let at : after m ≡ bounds m = same m (inl refl) in
        let top : after n ≤ℤ after m = rw (own, at) (grind (arith, ints, less)) in
        let P : ℕ → Type 0 = λ j. after j ≤ℤ after m in subst P (sym e) top
    later_under k m ms own same h less (inr i) = rw (same k (inr i), same m (inl refl)) (under_each bounds (bounds m) k ms h i)

    after_greater : (m : ℕ) (ms : List ℕ) → after n ≡ bound → Agree bounds after (m ∷ ms) → IsFalling bounds (m ∷ ms) → int_lt (bounds m) bound ≡ false
        → IsFalling after (placed bounds n bound ms) → IsFalling after (m ∷ placed bounds n bound ms)
    after_greater m ms own same h less rest =
        (each_under after (after m) (placed bounds n bound ms) (λ k i. later_under k m ms own same h.0 less (in_placed k ms i)), rest)

    pub placed_falls : (ms : List ℕ) → after n ≡ bound → Agree bounds after ms → IsFalling bounds ms → IsFalling after (placed bounds n bound ms)
    placed_falls [] own same h = (tt, tt)
    placed_falls (m ∷ ms) own same h =
        let rest : IsFalling after (placed bounds n bound ms) = placed_falls ms own (λ k i. same k (inr i)) h.1 in
        cond_both (int_lt (bounds m) bound) (n ∷ (m ∷ ms)) (m ∷ placed bounds n bound ms) (IsFalling after)
        (λ e. before_lesser m ms own same h e) (λ e. after_greater m ms own same h e rest)

-- ---- taken out
module _ (n : ℕ) where
  pub without_keeps : (k : ℕ) (xs : List ℕ) → k ≢ n → In k xs → In k (without n xs)
  without_keeps k [] ne i = elim i [ ]
  without_keeps k (x ∷ xs) ne i =
      cond_both (x == n) xs (x ∷ without n xs) (λ ys. In k ys) (λ e. met (eqb-true x n e) i) (λ e. passed (λ j. without_keeps k xs ne j) i)
    where
      met : x ≡ n → In k (x ∷ xs) → In k xs
      met e (inl f) = absurd (ne (f ∙ e))
      met e (inr j) = j

      passed : (In k xs → In k (without n xs)) → In k (x ∷ xs) → In k (x ∷ without n xs)
      passed rec (inl f) = inl f
      passed rec (inr j) = inr (rec j)

  passed_out : (x : ℕ) (xs : List ℕ) → (x == n) ≡ false → (In n (without n xs) → ⊥) → In n (x ∷ without n xs) → ⊥
  passed_out x xs e rec (inl f) = absurd (let t : (x == n) ≡ true = eq-eqb x n (sym f) in cc)
  passed_out x xs e rec (inr j) = rec j

  pub without_drops : (xs : List ℕ) → IsOnce xs → In n (without n xs) → ⊥
  without_drops [] once i = elim i [ ]
  without_drops (x ∷ xs) once i =
      cond_both (x == n) xs (x ∷ without n xs) (λ ys. In n ys → ⊥)
      (λ e j. let P : ℕ → Type 0 = λ y. In y xs in once.0 (subst P (sym (eqb-true x n e)) j))
      (λ e j. passed_out x xs e (without_drops xs once.1) j) i

  module _ (bounds : ℕ → ℤ) where
    pub without_falls : (xs : List ℕ) → IsFalling bounds xs → IsFalling bounds (without n xs)
    without_falls [] h = tt
    without_falls (x ∷ xs) h = by (without_falls xs h.1) (x == n)
      where
        by : IsFalling bounds (without n xs) → (b : Bool) → IsFalling bounds (cond b xs (x ∷ without n xs))
        by rec true = h.1
        by rec false = (each_under bounds (bounds x) (without n xs) (λ k i. under_each bounds (bounds x) k xs h.0 (in_without n k xs i)), rec)

-- ---- the last bound is the least
pub last_in : (x : ℕ) (xs : List ℕ) → In (last_of x xs) (x ∷ xs)
last_in x [] = inl refl
last_in x (y ∷ ys) = inr (last_in y ys)

pub last_inside : (limit : ℕ) (xs : List ℕ) (k : ℕ) → k ≡ last_of limit xs → k ≢ limit → In k xs
last_inside limit [] k e ne = absurd (ne e)
last_inside limit (x ∷ xs) k e ne = let P : ℕ → Type 0 = λ j. In j (x ∷ xs) in subst P (sym e) (last_in x xs)

module _ (bounds : ℕ → ℤ) where
  pub least_last : (x : ℕ) (xs : List ℕ) (k : ℕ) → IsFalling bounds (x ∷ xs) → In k (x ∷ xs) → bounds (last_of x xs) ≤ℤ bounds k
  least_last x [] k h (inl e) = let P : ℕ → Type 0 = λ j. bounds x ≤ℤ bounds j in subst P (sym e) (omega (arith, ints))
  least_last x [] k h (inr i) = elim i [ ]
  least_last x (y ∷ ys) k h (inl e) =
      let low : bounds (last_of y ys) ≤ℤ bounds y = least_last y ys y h.1 (inl refl) in
      let top : bounds y ≤ℤ bounds x = h.0.0 in
      let P : ℕ → Type 0 = λ j. bounds (last_of y ys) ≤ℤ bounds j in subst P (sym e) (omega (arith, ints, low, top))
  least_last x (y ∷ ys) k h (inr i) = least_last y ys k h.1 i

  module _ (bound : ℤ) (limit : ℕ) where
    past_all : (xs : List ℕ) → ((k : ℕ) → In k xs → bound ≤ℤ bounds k) → place_of bounds bound limit xs ≡ limit
    past_all [] h = refl
    past_all (x ∷ xs) h =
        let le : bound ≤ℤ bounds x = h x (inl refl) in
        let e : int_lt (bounds x) bound ≡ false = grind (arith, ints, le) in
        cond-false (int_lt (bounds x) bound) x (place_of bounds bound limit xs) e ∙ past_all xs (λ k i. h k (inr i))

    -- a bound that the last one is not below has its place at the end
    pub place_past : (xs : List ℕ) → IsFalling bounds xs → bound ≤ℤ bounds (last_of limit xs) → place_of bounds bound limit xs ≡ limit
    place_past [] h le = refl
    place_past (x ∷ xs) h le = past_all (x ∷ xs) (λ k i. let low = least_last x xs k h i in omega (arith, ints, low, le))
