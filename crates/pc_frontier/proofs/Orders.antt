-- The numbers that links go through are determined by the links, also after one is put in or taken out.
use Rattle.std.specs.List.{IsDistinct, AllByRecursion, list_any}
use Rattle.std.proofs.Common.{◌≡◌, ◌≢◌, ℕ, zero, suc, ◌+◌, ◌<◌, ◌≤◌, ◌==◌, eqb, true, false, List, [], ◌∷◌, length, get_or, set, replicate, ◌⊎◌, inl, inr, refl, sym, ap, ◌∙◌, subst, arith, eq-eqb, eqb-true}
use Rattle.std.proofs.lemmas.Bool.{false_from_ne_true, false≢true, or_cases}
use Rattle.std.proofs.lemmas.List.{length-replicate, length-set, get_or-set_same, get_or-set_other, get_or-replicate}
use Rattle.std.proofs.lemmas.Grind.{get_or_default_zero}
use Rattle.std.proofs.lemmas.Map.Steps.{length-le_from_distinct_below}
use Rattle.pc_frontier.specs.Rings.{Listed, In, IsOnce, IsPlace, IsChain, AreBelow, IsOrder, first_of, last_of, next_of, placed_before, without, link, followed, order_of}
use Rattle.pc_frontier.proofs.Chains.{below_in, chain_first, chain_last, chain_next, chain_before, chain_after, IsPut, IsTaken, IsApart, put_chain, taken_chain, once_placed, below_placed, once_without, below_without}

-- ---- few enough

differs_from_all : (x : ℕ) (xs : List ℕ) → (In x xs → ⊥) → AllByRecursion (λ y. eqb x y ≡ false) xs
differs_from_all x [] new = tt
differs_from_all x (y ∷ ys) new =
    (false_from_ne_true (eqb x y) (λ e. new (inl (eqb-true x y e))), differs_from_all x ys (λ i. new (inr i)))

distinct_once : (xs : List ℕ) → IsOnce xs → IsDistinct eqb xs
unfolding IsDistinct
distinct_once [] once = tt
distinct_once (x ∷ xs) once = (differs_from_all x xs once.0, distinct_once xs once.1)

in_any : (q : ℕ) (xs : List ℕ) → list_any (eqb q) xs ≡ true → In q xs
in_any q [] found = absurd (false≢true found)
in_any q (x ∷ xs) found = elim (or_cases (eqb q x) (list_any (eqb q) xs) found) [ inl e ↦ inl (eqb-true q x e) | inr later ↦ inr (in_any q xs later) ]

pub once_few : (limit : ℕ) (xs : List ℕ) → IsOnce xs → AreBelow limit xs → length xs ≤ limit
once_few limit xs once below =
    length-le_from_distinct_below xs limit (distinct_once xs once) (λ q found. below_in q limit xs below (in_any q xs found))

-- ---- the list from the links

followed-zero : (after : List ℕ) (limit a : ℕ) → followed zero after limit a ≡ []
unfolding followed
followed-zero after limit a = refl

followed-end : (n : ℕ) (after : List ℕ) (limit a : ℕ) → (link after a == limit) ≡ true → followed (suc n) after limit a ≡ []
unfolding followed
followed-end n after limit a e = rw (e, followed) refl

followed-more :
    (n : ℕ) (after : List ℕ) (limit a : ℕ) → (link after a == limit) ≡ false → followed (suc n) after limit a ≡ link after a ∷ followed n after limit (link after a)
unfolding followed
followed-more n after limit a e = rw (e, followed) refl

pub followed_is :
    (fuel : ℕ) (after : List ℕ) (g : ℕ → ℕ) (limit a : ℕ) (xs : List ℕ) → IsChain (link after) g a xs limit → AreBelow limit xs → length xs ≤ fuel
    → followed fuel after limit a ≡ xs
followed_is zero after g limit a [] chain below few = followed-zero after limit a
followed_is zero after g limit a (x ∷ xs) chain below few = absurd (omega arith)
followed_is (suc n) after g limit a [] chain below few = followed-end n after limit a (eq-eqb (link after a) limit chain.0)
followed_is (suc n) after g limit a (x ∷ xs) chain below few =
    let e : link after a ≡ x = chain.0 in
    let other : (link after a == limit) ≡ false = false_from_ne_true (link after a == limit) (λ same. absurd (omega (arith, eqb-true (link after a) limit same, e, below.0))) in
    let rest : followed n after limit x ≡ xs = followed_is n after g limit x xs chain.2 below.1 (omega arith) in
    followed-more n after limit a other ∙ rw (e, rest) refl

module _ (after before : List ℕ) (limit : ℕ) (xs : List ℕ) (order : IsOrder after before limit xs) where
  pub seen : order_of after limit ≡ xs
  seen = followed_is limit after (link before) limit limit xs order.chain order.below (once_few limit xs order.once order.below)

  pub seen_as : IsOrder after before limit (order_of after limit)
  seen_as = rw seen order

  limit_apart : In limit xs → ⊥
  limit_apart there = let lt : limit < limit = below_in limit limit xs order.below there in absurd (omega arith)

  apart : IsApart limit limit xs
  apart = record { start = limit_apart; once = order.once; end = limit_apart }

  pub place_small : (k : ℕ) → In k xs ⊎ (k ≡ limit) → k ≤ limit
  place_small k (inl there) = let few : k < limit = below_in k limit xs order.below there in omega arith
  place_small k (inr end) = omega arith

  pub number_small : (k : ℕ) → In k xs → k < limit
  number_small k there = below_in k limit xs order.below there

  pub after_limit : link after limit ≡ first_of xs limit
  after_limit = chain_first (link after) (link before) limit limit xs order.chain

  pub before_limit : link before limit ≡ last_of limit xs
  before_limit = chain_last (link after) (link before) limit limit xs order.chain

  pub after_number : (k : ℕ) → In k xs → link after k ≡ next_of xs limit k
  after_number k there = chain_next (link after) (link before) limit limit k xs order.chain there

  -- what stands before a place, and after a number
  pub before_place : (k : ℕ) → In k xs ⊎ (k ≡ limit) → In (link before k) xs ⊎ (link before k ≡ limit)
  before_place k there =
      elim (chain_before (link after) (link before) limit limit k xs order.chain there) [ inl e ↦ inr e | inr i ↦ inl i ]

  pub place_after : (k : ℕ) → In k xs → In (link after k) xs ⊎ (link after k ≡ limit)
  place_after k there = chain_after (link after) (link before) limit limit k xs order.chain there

  apart_from : (n : ℕ) → n < limit → (In n xs → ⊥) → (k : ℕ) → In k xs ⊎ (k ≡ limit) → n ≢ k
  apart_from n small new k (inl there) e = new (subst (λ (j : ℕ). In j xs) (sym e) there)
  apart_from n small new k (inr end) e = absurd (omega arith)

  put_links :
      (n place : ℕ) → n < limit → (In n xs → ⊥) → In place xs ⊎ (place ≡ limit)
      → IsPut (link after) (link before) (link (set (set after (link before place) n) n place)) (link (set (set before n (link before place)) place n)) (link before place) n place
  put_links n place small new there =
      let p : ℕ = link before place in
      let other : n ≢ p = apart_from n small new p (before_place place there) in
      let far : n ≢ place = apart_from n small new place there in
      let p_in : p < length after = omega (arith, order.sized_after, place_small p (before_place place there)) in
      let n_in : n < length (set after p n) = omega (arith, length-set after p n, order.sized_after) in
      let n_in_before : n < length before = omega (arith, order.sized_before) in
      let place_in : place < length (set before n p) = omega (arith, length-set before n p, order.sized_before, place_small place there) in
      record {
        after_p = get_or-set_other (set after p n) n p place 0 (λ e. other (sym e)) ∙ get_or-set_same after p n 0 p_in;
        after_n = get_or-set_same (set after p n) n place 0 n_in;
        after_other = λ k not_p not_n. get_or-set_other (set after p n) n k place 0 not_n ∙ get_or-set_other after p k n 0 not_p;
        before_n = get_or-set_other (set before n p) place n n 0 far ∙ get_or-set_same before n p 0 n_in_before;
        before_place = get_or-set_same (set before n p) place n 0 place_in;
        before_other = λ k not_n not_place. get_or-set_other (set before n p) place k n 0 not_place ∙ get_or-set_other before n k p 0 not_n;
      }

  -- a number put before a place
  pub order_placed :
      (n place : ℕ) → n < limit → (In n xs → ⊥) → In place xs ⊎ (place ≡ limit)
      → IsOrder (set (set after (link before place) n) n place) (set (set before n (link before place)) place n) limit (placed_before place n xs)
  order_placed n place small new there =
      let p : ℕ = link before place in
      record {
        sized_after = length-set (set after p n) n place ∙ length-set after p n ∙ order.sized_after;
        sized_before = length-set (set before n p) place n ∙ length-set before n p ∙ order.sized_before;
        below = below_placed limit place n xs order.below small;
        once = once_placed place n xs order.once new;
        chain =
            put_chain (link after) (link before) (link (set (set after p n) n place)) (link (set (set before n p) place n)) limit limit n place xs order.chain apart new
            (λ e. absurd (omega arith)) (λ e. absurd (omega arith)) there (put_links n place small new there);
      }

  taken_links :
      (n : ℕ) → In n xs
      → IsTaken (link after) (link before) (link (set after (link before n) (link after n))) (link (set before (link after n) (link before n))) (link before n) (link after n)
  taken_links n there =
      let p : ℕ = link before n in
      let q : ℕ = link after n in
      let p_in : p < length after = omega (arith, order.sized_after, place_small p (before_place n (inl there))) in
      let q_in : q < length before = omega (arith, order.sized_before, place_small q (place_after n there)) in
      record {
        after_p = get_or-set_same after p q 0 p_in;
        after_other = λ k not_p. get_or-set_other after p k q 0 not_p;
        before_q = get_or-set_same before q p 0 q_in;
        before_other = λ k not_q. get_or-set_other before q k p 0 not_q;
      }

  -- a number taken out
  pub order_without :
      (n : ℕ) → In n xs → IsOrder (set after (link before n) (link after n)) (set before (link after n) (link before n)) limit (without n xs)
  order_without n there =
      let p : ℕ = link before n in
      let q : ℕ = link after n in
      record {
        sized_after = length-set after p q ∙ order.sized_after;
        sized_before = length-set before q p ∙ order.sized_before;
        below = below_without limit n xs order.below;
        once = once_without n xs order.once;
        chain =
            taken_chain (link after) (link before) (link (set after p q)) (link (set before q p)) limit limit n xs order.chain apart there (taken_links n there);
      }

-- no number
pub order_none :
    (after before : List ℕ) (limit : ℕ) → after ≡ replicate (limit + 1) limit → before ≡ replicate (limit + 1) limit → IsOrder after before limit []
order_none after before limit afters befores =
    let small : limit < limit + 1 = omega arith in
    let same : link (replicate (limit + 1) limit) limit ≡ limit = get_or-replicate (limit + 1) limit limit 0 small in
    rw (afters, befores) (record {
      sized_after = length-replicate (limit + 1) limit;
      sized_before = length-replicate (limit + 1) limit;
      below = tt;
      once = tt;
      chain = (same, same);
    })

-- ---- what is read from the links, and the list that is seen

pub read_link : (links : List ℕ) (k r : ℕ) → k < length links → r ≡ get_or links k r → r ≡ link links k
read_link links k r inside read = read ∙ get_or_default_zero links k r inside

abbrev pub listed : List ℕ → ℕ → Listed
listed after limit = record { limit = limit; numbers = order_of after limit }

module _ (after before : List ℕ) (limit : ℕ) (order : IsOrder after before limit (order_of after limit)) (r : Listed) (view : listed after limit ≡ r) where
  in_seen : (n : ℕ) → In n r.numbers → In n (order_of after limit)
  in_seen n there = subst (λ (v : Listed). In n v.numbers) (sym view) there

  place_seen : (k : ℕ) → IsPlace r k → IsPlace (listed after limit) k
  place_seen k there = subst (λ (v : Listed). IsPlace v k) (sym view) there

  pub number_inside : (n : ℕ) → In n r.numbers → n < limit
  number_inside n there = number_small after before limit (order_of after limit) order n (in_seen n there)

  pub place_inside : (k : ℕ) → IsPlace r k → k ≤ limit
  place_inside k there = place_small after before limit (order_of after limit) order k (place_seen k there)

  read_before : (k p : ℕ) → IsPlace r k → p ≡ get_or before k p → p ≡ link before k
  read_before k p there read =
      let few = place_inside k there in
      let inside : k < length before = omega (arith, few, order.sized_before) in
      read_link before k p inside read

  read_after : (n q : ℕ) → In n r.numbers → q ≡ get_or after n q → q ≡ link after n
  read_after n q there read =
      let few = number_inside n there in
      let inside : n < length after = omega (arith, few, order.sized_after) in
      read_link after n q inside read

  pub number_after : (n q : ℕ) → In n r.numbers → q ≡ get_or after n q → q ≡ next_of r.numbers r.limit n
  number_after n q there read =
      rw (← view) (read_after n q there read ∙ after_number after before limit (order_of after limit) order n (in_seen n there))

  pub before_inside : (k p : ℕ) → IsPlace r k → p ≡ get_or before k p → p ≤ limit
  before_inside k p there read =
      rw (read_before k p there read)
      (place_small after before limit (order_of after limit) order (link before k) (before_place after before limit (order_of after limit) order k (place_seen k there)))

  pub after_inside : (n q : ℕ) → In n r.numbers → q ≡ get_or after n q → q ≤ limit
  after_inside n q there read =
      rw (read_after n q there read)
      (place_small after before limit (order_of after limit) order (link after n) (place_after after before limit (order_of after limit) order n (in_seen n there)))

  pub put_order :
      (n place p : ℕ) → IsPlace r place → n < r.limit → (In n r.numbers → ⊥) → p ≡ get_or before place p
      → IsOrder (set (set after p n) n place) (set (set before n p) place n) limit (placed_before place n (order_of after limit))
  put_order n place p there small new read =
      let few : n < limit = rw (ap (λ (v : Listed). v.limit) view) small in
      rw (read_before place p there read)
      (order_placed after before limit (order_of after limit) order n place few (λ i. new (subst (λ (v : Listed). In n v.numbers) view i)) (place_seen place there))

  pub taken_order :
      (n p q : ℕ) → In n r.numbers → p ≡ get_or before n p → q ≡ get_or after n q
      → IsOrder (set after p q) (set before q p) limit (without n (order_of after limit))
  taken_order n p q there before_read after_read =
      rw (read_before n p (inl there) before_read, read_after n q there after_read)
      (order_without after before limit (order_of after limit) order n (in_seen n there))

  -- the view once the numbers are changed
  pub listed_as :
      (after2 before2 : List ℕ) (change : List ℕ → List ℕ) → IsOrder after2 before2 limit (change (order_of after limit))
      → listed after2 limit ≡ record { limit = r.limit; numbers = change r.numbers }
  listed_as after2 before2 change changed = rw (← view) (ap (λ xs. record { limit = limit; numbers = xs }) (seen after2 before2 limit (change (order_of after limit)) changed))
