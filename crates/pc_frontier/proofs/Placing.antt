-- The place of a bound in a list of numbers, and the walk to it.
use Rattle.std.proofs.Common.{◌≡◌, ◌≢◌, ◌<◌, ℕ, ℤ, Bool, true, false, cond, List, [], ◌∷◌, length, ◌⊎◌, inl, inr, arith, refl, ap, sym, subst, ◌∙◌, eq-eqb}
use Rattle.std.specs.Prelude.{int_lt, ◌==◌}
use Rattle.std.proofs.lemmas.Bool.{cond_both, cond-true, cond-false, eqb-true}
use Rattle.pc_frontier.specs.Rings.{In, IsOnce, AreBelow, IsListed, Listed, IsPlace, first_of, next_of, placed_before, from_place}
use Rattle.pc_frontier.specs.Frontier.{place_of, placed}

-- ---- tests
pub other_false : (x k : ℕ) → x ≢ k → (x == k) ≡ false
other_false x k ne = by (x == k) refl
  where
    by : (b : Bool) → (x == k) ≡ b → (x == k) ≡ false
    by true e = absurd (ne (eqb-true x k e))
    by false e = e

pub from_here : (k : ℕ) (xs : List ℕ) → from_place k (k ∷ xs) ≡ k ∷ xs
from_here k xs = cond-true (k == k) (k ∷ xs) (from_place k xs) (eq-eqb k k refl)

pub from_other : (k x : ℕ) (xs : List ℕ) → x ≢ k → from_place k (x ∷ xs) ≡ from_place k xs
from_other k x xs ne = cond-false (x == k) (x ∷ xs) (from_place k xs) (other_false x k ne)

-- a number outside a list differs from all in it
pub differs : (x k : ℕ) (xs : List ℕ) → (In x xs → ⊥) → In k xs → x ≢ k
differs x k xs out h e = let P : ℕ → Type 0 = λ j. In j xs in out (subst P (sym e) h)

module _ (limit : ℕ) where
  pub first_placed : (xs : List ℕ) → In (first_of xs limit) xs ⊎ (first_of xs limit ≡ limit)
  first_placed [] = inr refl
  first_placed (x ∷ xs) = inl (inl refl)

  pub first_inside : (xs : List ℕ) (k : ℕ) → k ≡ first_of xs limit → k ≢ limit → In k xs
  first_inside [] k e ne = absurd (ne e)
  first_inside (x ∷ xs) k e ne = inl e

  pub from_first : (xs : List ℕ) → from_place (first_of xs limit) xs ≡ xs
  from_first [] = refl
  from_first (x ∷ xs) = from_here x xs

  pub from_limit : (xs : List ℕ) → AreBelow limit xs → from_place limit xs ≡ []
  from_limit [] below = refl
  from_limit (x ∷ xs) below =
      let ne : x ≢ limit = let h : x < limit = below.0 in omega (arith, h) in
      from_other limit x xs ne ∙ from_limit xs below.1

  -- what is in the list or the limit differs from a number that is neither
  place_differs : (x k : ℕ) (xs : List ℕ) → x < limit → (In x xs → ⊥) → In k xs ⊎ (k ≡ limit) → x ≢ k
  place_differs x k xs small out (inl h) = differs x k xs out h
  place_differs x k xs small out (inr e) = omega (arith, small, e)

  next-here : (k x : ℕ) (xs : List ℕ) → x ≡ k → next_of (x ∷ xs) limit k ≡ first_of xs limit
  next-here k x xs e = cond-true (x == k) (first_of xs limit) (next_of xs limit k) (eq-eqb x k e)

  next-other : (k x : ℕ) (xs : List ℕ) → x ≢ k → next_of (x ∷ xs) limit k ≡ next_of xs limit k
  next-other k x xs ne = cond-false (x == k) (first_of xs limit) (next_of xs limit k) (other_false x k ne)

  wider : (x j : ℕ) (xs : List ℕ) → In j xs ⊎ (j ≡ limit) → In j (x ∷ xs) ⊎ (j ≡ limit)
  wider x j xs (inl h) = inl (inr h)
  wider x j xs (inr e) = inr e

  abbrev IsPlaced : List ℕ → ℕ → Type 0
  IsPlaced xs j = In j xs ⊎ (j ≡ limit)

  pub next_placed : (k : ℕ) (xs : List ℕ) → IsOnce xs → In k xs → In (next_of xs limit k) xs ⊎ (next_of xs limit k ≡ limit)
  next_placed k [] once h = elim h [ ]
  next_placed k (x ∷ xs) once (inl e) =
      subst (IsPlaced (x ∷ xs)) (sym (next-here k x xs (sym e))) (wider x (first_of xs limit) xs (first_placed xs))
  next_placed k (x ∷ xs) once (inr h) =
      subst (IsPlaced (x ∷ xs)) (sym (next-other k x xs (differs x k xs once.0 h))) (wider x (next_of xs limit k) xs (next_placed k xs once.1 h))

  pub from_next : (k : ℕ) (xs : List ℕ) → IsOnce xs → AreBelow limit xs → In k xs → from_place k xs ≡ k ∷ from_place (next_of xs limit k) xs
  from_next k [] once below h = elim h [ ]
  from_next k (x ∷ xs) once below (inl e) =
      let ne : x ≢ first_of xs limit = place_differs x (first_of xs limit) xs below.0 once.0 (first_placed xs) in
      let here : from_place k (x ∷ xs) ≡ x ∷ xs = cond-true (x == k) (x ∷ xs) (from_place k xs) (eq-eqb x k (sym e)) in
      let rest : from_place (next_of (x ∷ xs) limit k) (x ∷ xs) ≡ xs =
      ap (λ j. from_place j (x ∷ xs)) (next-here k x xs (sym e)) ∙ from_other (first_of xs limit) x xs ne ∙ from_first xs in
      here ∙ ap (λ j. j ∷ xs) (sym e) ∙ ap (λ ys. k ∷ ys) (sym rest)
  from_next k (x ∷ xs) once below (inr h) =
      let other : x ≢ k = differs x k xs once.0 h in
      let ne : x ≢ next_of xs limit k = place_differs x (next_of xs limit k) xs below.0 once.0 (next_placed k xs once.1 h) in
      from_other k x xs other ∙ from_next k xs once.1 below.1 h
      ∙ ap (λ ys. k ∷ ys) (sym (ap (λ j. from_place j (x ∷ xs)) (next-other k x xs other) ∙ from_other (next_of xs limit k) x xs ne))

-- ---- put in at its place
module _ (bounds : ℕ → ℤ) (bound : ℤ) (limit : ℕ) where
  place-here : (m : ℕ) (ms : List ℕ) → int_lt (bounds m) bound ≡ true → place_of bounds bound limit (m ∷ ms) ≡ m
  place-here m ms e = cond-true (int_lt (bounds m) bound) m (place_of bounds bound limit ms) e

  place-later : (m : ℕ) (ms : List ℕ) → int_lt (bounds m) bound ≡ false → place_of bounds bound limit (m ∷ ms) ≡ place_of bounds bound limit ms
  place-later m ms e = cond-false (int_lt (bounds m) bound) m (place_of bounds bound limit ms) e

  abbrev place : List ℕ → ℕ
  place ms = place_of bounds bound limit ms

  pub place_placed : (ms : List ℕ) → In (place ms) ms ⊎ (place ms ≡ limit)
  place_placed [] = inr refl
  place_placed (m ∷ ms) = by (place_placed ms) (int_lt (bounds m) bound)
    where
      by : In (place ms) ms ⊎ (place ms ≡ limit) → (b : Bool) → In (cond b m (place ms)) (m ∷ ms) ⊎ (cond b m (place ms) ≡ limit)
      by rec true = inl (inl refl)
      by (inl i) false = inl (inr i)
      by (inr e) false = inr e

  put-here : (n m : ℕ) (ms : List ℕ) → placed_before m n (m ∷ ms) ≡ n ∷ (m ∷ ms)
  put-here n m ms = cond-true (m == m) (n ∷ (m ∷ ms)) (m ∷ placed_before m n ms) (eq-eqb m m refl)

  put-later : (next n m : ℕ) (ms : List ℕ) → m ≢ next → placed_before next n (m ∷ ms) ≡ m ∷ placed_before next n ms
  put-later next n m ms ne = cond-false (m == next) (n ∷ (m ∷ ms)) (m ∷ placed_before next n ms) (other_false m next ne)

  pub placed_at : (n : ℕ) (ms : List ℕ) → IsOnce ms → AreBelow limit ms → placed_before (place ms) n ms ≡ placed bounds n bound ms
  placed_at n [] once below = refl
  placed_at n (m ∷ ms) once below =
      cond_both (int_lt (bounds m) bound) (n ∷ (m ∷ ms)) (m ∷ placed bounds n bound ms) (λ ys. placed_before (place (m ∷ ms)) n (m ∷ ms) ≡ ys)
      (λ e. ap (λ j. placed_before j n (m ∷ ms)) (place-here m ms e) ∙ put-here n m ms)
      (λ e. ap (λ j. placed_before j n (m ∷ ms)) (place-later m ms e)
      ∙ put-later (place ms) n m ms (place_differs limit m (place ms) ms below.0 once.0 (place_placed ms))
      ∙ ap (λ ys. m ∷ ys) (placed_at n ms once.1 below.1))

module _ (bounds : ℕ → ℤ) (bound : ℤ) (r : Listed) where
  pub place_is_placed : (k : ℕ) → k ≡ place_of bounds bound r.limit r.numbers → IsPlace r k
  place_is_placed k e = subst (IsPlace r) (sym e) (place_placed bounds bound r.limit r.numbers)

  pub put_at : (n k : ℕ) → IsListed r → k ≡ place_of bounds bound r.limit r.numbers → placed_before k n r.numbers ≡ placed bounds n bound r.numbers
  put_at n k listed e = ap (λ j. placed_before j n r.numbers) e ∙ placed_at bounds bound r.limit n r.numbers listed.once listed.below

-- ---- the walk
-- the place was reached, and what is left has the bound's place
pub record IsWalked (bounds : ℕ → ℤ) (bound : ℤ) (r : Listed) (at : ℕ) : Type 0 where
  pub placed_at : IsPlace r at
  pub same : place_of bounds bound r.limit (from_place at r.numbers) ≡ place_of bounds bound r.limit r.numbers

in_list : (r : Listed) (k : ℕ) → IsPlace r k → k ≢ r.limit → In k r.numbers
in_list r k (inl h) ne = h
in_list r k (inr e) ne = absurd (ne e)

module _ (bounds : ℕ → ℤ) (bound : ℤ) (r : Listed) where
  pub walk_begins : IsWalked bounds bound r (first_of r.numbers r.limit)
  walk_begins = record { placed_at = first_placed r.limit r.numbers; same = ap (place_of bounds bound r.limit) (from_first r.limit r.numbers) }

  pub walk_is_inside : (k : ℕ) → IsWalked bounds bound r k → k ≢ r.limit → In k r.numbers
  walk_is_inside k h ne = in_list r k h.placed_at ne

  pub walk_goes_on : (k : ℕ) → IsListed r → IsWalked bounds bound r k → k ≢ r.limit → int_lt (bounds k) bound ≡ false → IsWalked bounds bound r (next_of r.numbers r.limit k)
  walk_goes_on k listed h ne e =
      let inside : In k r.numbers = in_list r k h.placed_at ne in
      let more = next_of r.numbers r.limit k in
      let cut : from_place k r.numbers ≡ k ∷ from_place more r.numbers = from_next r.limit k r.numbers listed.once listed.below inside in
      let step : place_of bounds bound r.limit (from_place k r.numbers) ≡ place_of bounds bound r.limit (from_place more r.numbers) =
      ap (place_of bounds bound r.limit) cut ∙ cond-false (int_lt (bounds k) bound) k (place_of bounds bound r.limit (from_place more r.numbers)) e in
      record { placed_at = next_placed r.limit k r.numbers listed.once inside; same = sym step ∙ h.same }

  pub walk_comes_nearer : (k : ℕ) → IsListed r → IsWalked bounds bound r k → k ≢ r.limit → length (from_place (next_of r.numbers r.limit k) r.numbers) < length (from_place k r.numbers)
  walk_comes_nearer k listed h ne =
      let cut = ap length (from_next r.limit k r.numbers listed.once listed.below (in_list r k h.placed_at ne)) in
      omega (arith, cut)

  pub walk_stops : (k : ℕ) → IsListed r → IsWalked bounds bound r k → k ≢ r.limit → int_lt (bounds k) bound ≡ true → k ≡ place_of bounds bound r.limit r.numbers
  walk_stops k listed h ne e =
      let more = next_of r.numbers r.limit k in
      let cut : from_place k r.numbers ≡ k ∷ from_place more r.numbers =
      from_next r.limit k r.numbers listed.once listed.below (in_list r k h.placed_at ne) in
      sym (cond-true (int_lt (bounds k) bound) k (place_of bounds bound r.limit (from_place more r.numbers)) e)
      ∙ ap (place_of bounds bound r.limit) (sym cut) ∙ h.same

  pub walk_ends : (k : ℕ) → IsListed r → IsWalked bounds bound r k → k ≡ r.limit → k ≡ place_of bounds bound r.limit r.numbers
  walk_ends k listed h e =
      let none : from_place k r.numbers ≡ [] = rw e (from_limit r.limit r.numbers listed.below) in
      e ∙ ap (place_of bounds bound r.limit) (sym none) ∙ h.same
