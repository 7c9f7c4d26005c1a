-- Numbers that are linked both ways, and the links once a number is put in or taken out.
use Rattle.std.proofs.Common.{◌≡◌, ◌≢◌, ℕ, ◌<◌, ◌==◌, false, List, [], ◌∷◌, ◌⊎◌, inl, inr, refl, sym, ap, ◌∙◌, subst}
use Rattle.std.proofs.lemmas.Bool.{cases_Bool, eqb-true, eqb-false}
use Rattle.pc_frontier.specs.Rings.{In, IsOnce, IsChain, AreBelow, first_of, last_of, next_of, placed_before, without}

-- a number of a list that is not the first one
pub in_rest : (x k : ℕ) (xs : List ℕ) → (x == k) ≡ false → In k (x ∷ xs) → In k xs
in_rest x k xs other (inl same) = absurd (eqb-false x k other (sym same))
in_rest x k xs other (inr later) = later

pub place_in_rest : (x k s : ℕ) (xs : List ℕ) → (x == k) ≡ false → In k (x ∷ xs) ⊎ (k ≡ s) → In k xs ⊎ (k ≡ s)
place_in_rest x k s xs other (inl there) = inl (in_rest x k xs other there)
place_in_rest x k s xs other (inr end) = inr end

pub below_in : (k limit : ℕ) (xs : List ℕ) → AreBelow limit xs → In k xs → k < limit
below_in k limit [] below there = absurd there
below_in k limit (x ∷ xs) below (inl same) = rw same below.0
below_in k limit (x ∷ xs) below (inr later) = below_in k limit xs below.1 later

-- ---- what the links of a chain are

module _ (f g : ℕ → ℕ) (s : ℕ) where
  pub chain_first : (a : ℕ) (xs : List ℕ) → IsChain f g a xs s → f a ≡ first_of xs s
  chain_first a [] chain = chain.0
  chain_first a (x ∷ xs) chain = chain.0

  pub chain_last : (a : ℕ) (xs : List ℕ) → IsChain f g a xs s → g s ≡ last_of a xs
  chain_last a [] chain = chain.1
  chain_last a (x ∷ xs) chain = chain_last x xs chain.2

  pub chain_next : (a k : ℕ) (xs : List ℕ) → IsChain f g a xs s → In k xs → f k ≡ next_of xs s k
  chain_next a k [] chain there = absurd there
  chain_next a k (x ∷ xs) chain there =
      elim (cases_Bool (x == k)) [
        | inl same ↦ rw same (ap f (sym (eqb-true x k same)) ∙ chain_first x xs chain.2)
        | inr other ↦ rw other (chain_next x k xs chain.2 (in_rest x k xs other there))
      ]

  -- before a place stands the start or a number of the chain
  pub chain_before : (a k : ℕ) (xs : List ℕ) → IsChain f g a xs s → In k xs ⊎ (k ≡ s) → (g k ≡ a) ⊎ In (g k) xs
  chain_before a k [] chain (inl there) = absurd there
  chain_before a k [] chain (inr end) = inl (ap g end ∙ chain.1)
  chain_before a k (x ∷ xs) chain (inl (inl same)) = inl (ap g same ∙ chain.1)
  chain_before a k (x ∷ xs) chain (inl (inr later)) = inr (chain_before x k xs chain.2 (inl later))
  chain_before a k (x ∷ xs) chain (inr end) = inr (chain_before x k xs chain.2 (inr end))

  pub chain_from : (a : ℕ) (xs : List ℕ) → IsChain f g a xs s → In (f a) xs ⊎ (f a ≡ s)
  chain_from a [] chain = inr chain.0
  chain_from a (x ∷ xs) chain = inl (inl chain.0)

  in_longer : (x k : ℕ) (xs : List ℕ) → In k xs ⊎ (k ≡ s) → In k (x ∷ xs) ⊎ (k ≡ s)
  in_longer x k xs (inl there) = inl (inr there)
  in_longer x k xs (inr end) = inr end

  -- after a number stands another one or the end
  pub chain_after : (a k : ℕ) (xs : List ℕ) → IsChain f g a xs s → In k xs → In (f k) xs ⊎ (f k ≡ s)
  chain_after a k [] chain there = absurd there
  chain_after a k (x ∷ xs) chain (inl same) = in_longer x (f k) xs (rw same (chain_from x xs chain.2))
  chain_after a k (x ∷ xs) chain (inr later) = in_longer x (f k) xs (chain_after x k xs chain.2 later)

-- ---- other links

pub same_chain :
    (f g f2 g2 : ℕ → ℕ) (s a : ℕ) (xs : List ℕ) → IsChain f g a xs s → f2 a ≡ f a → ((k : ℕ) → In k xs → f2 k ≡ f k)
    → ((k : ℕ) → In k xs → g2 k ≡ g k) → g2 s ≡ g s → IsChain f2 g2 a xs s
same_chain f g f2 g2 s a [] chain start afters befores end = (start ∙ chain.0, end ∙ chain.1)
same_chain f g f2 g2 s a (x ∷ xs) chain start afters befores end = (
  start ∙ chain.0,
  befores x (inl refl) ∙ chain.1,
  same_chain f g f2 g2 s x xs chain.2 (afters x (inl refl)) (λ k i. afters k (inr i)) (λ k i. befores k (inr i)) end,
)

-- the number n put before the place, which stood after p
pub record IsPut (f g f2 g2 : ℕ → ℕ) (p n place : ℕ) : Type 0 where
  pub after_p : f2 p ≡ n
  pub after_n : f2 n ≡ place
  pub after_other : (k : ℕ) → k ≢ p → k ≢ n → f2 k ≡ f k
  pub before_n : g2 n ≡ p
  pub before_place : g2 place ≡ n
  pub before_other : (k : ℕ) → k ≢ n → k ≢ place → g2 k ≡ g k

-- what stood between p and q taken out
pub record IsTaken (f g f2 g2 : ℕ → ℕ) (p q : ℕ) : Type 0 where
  pub after_p : f2 p ≡ q
  pub after_other : (k : ℕ) → k ≢ p → f2 k ≡ f k
  pub before_q : g2 q ≡ p
  pub before_other : (k : ℕ) → k ≢ q → g2 k ≡ g k

-- from a to s through different numbers, none of which is a or s
pub record IsApart (a s : ℕ) (xs : List ℕ) : Type 0 where
  pub start : In a xs → ⊥
  pub once : IsOnce xs
  pub end : In s xs → ⊥

pub apart_rest : (a s x : ℕ) (xs : List ℕ) → IsApart a s (x ∷ xs) → IsApart x s xs
apart_rest a s x xs apart = record { start = apart.once.0; once = apart.once.1; end = λ i. apart.end (inr i) }

module _ (f g f2 g2 : ℕ → ℕ) (s : ℕ) where
  -- the chain from the place on stays
  put_here :
      (a n x : ℕ) (xs : List ℕ) → IsChain f g x xs s → IsApart a s (x ∷ xs) → (In n (x ∷ xs) → ⊥) → n ≢ s → IsPut f g f2 g2 a n x
      → IsChain f2 g2 x xs s
  put_here a n x xs chain apart new not_end put =
      same_chain f g f2 g2 s x xs chain (put.after_other x (λ e. apart.start (inl (sym e))) (λ e. new (inl (sym e))))
      (λ k i. put.after_other k (λ e. apart.start (inr (subst (λ (j : ℕ). In j xs) e i))) (λ e. new (inr (subst (λ (j : ℕ). In j xs) e i))))
      (λ k i. put.before_other k (λ e. new (inr (subst (λ (j : ℕ). In j xs) e i))) (λ e. apart.once.0 (subst (λ (j : ℕ). In j xs) e i)))
      (put.before_other s (λ e. not_end (sym e)) (λ e. apart.end (inl e)))

  pub put_chain :
      (a n place : ℕ) (xs : List ℕ) → IsChain f g a xs s → IsApart a s xs → (In n xs → ⊥) → n ≢ a → n ≢ s → In place xs ⊎ (place ≡ s)
      → IsPut f g f2 g2 (g place) n place → IsChain f2 g2 a (placed_before place n xs) s
  put_chain a n place [] chain apart new not_start not_end (inl there) put = absurd there
  put_chain a n place [] chain apart new not_start not_end (inr end) put =
      let p : g place ≡ a = ap g end ∙ chain.1 in
      (ap f2 (sym p) ∙ put.after_p, put.before_n ∙ p, (put.after_n ∙ end, ap g2 (sym end) ∙ put.before_place))
  put_chain a n place (x ∷ xs) chain apart new not_start not_end there put =
      elim (cases_Bool (x == place)) [
        | inl same ↦
            let e : x ≡ place = eqb-true x place same in
            let p : g place ≡ a = ap g (sym e) ∙ chain.1 in
            let here : IsPut f g f2 g2 a n x = rw (e, ← p) put in
            rw same (here.after_p, here.before_n, (here.after_n, here.before_place, put_here a n x xs chain.2 apart new not_end here))
        | inr other ↦
            let rest : In place xs ⊎ (place ≡ s) = place_in_rest x place s xs other there in
            let among : In (g place) (x ∷ xs) = chain_before f g s x place xs chain.2 rest in
            rw other (
              put.after_other a (λ e. apart.start (subst (λ (j : ℕ). In j (x ∷ xs)) (sym e) among)) (λ e. not_start (sym e)) ∙ chain.0,
              put.before_other x (λ e. new (inl (sym e))) (eqb-false x place other) ∙ chain.1,
              put_chain x n place xs chain.2 (apart_rest a s x xs apart) (λ i. new (inr i)) (λ e. new (inl e)) not_end rest put,
            )
      ]

  -- the number after the start is the one taken out
  taken_here :
      (a x : ℕ) (xs : List ℕ) → IsChain f g x xs s → IsApart a s (x ∷ xs) → IsTaken f g f2 g2 a (f x) → IsChain f2 g2 a xs s
  taken_here a x [] chain apart taken = (taken.after_p ∙ chain.0, ap g2 (sym chain.0) ∙ taken.before_q)
  taken_here a x (y ∷ ys) chain apart taken =
      let q : f x ≡ y = chain.0 in
      let known : IsTaken f g f2 g2 a y = rw (← q) taken in (
        known.after_p,
        known.before_q,
        same_chain f g f2 g2 s y ys chain.2 (known.after_other y (λ e. apart.start (inr (inl (sym e)))))
            (λ k i. known.after_other k (λ e. apart.start (inr (inr (subst (λ (j : ℕ). In j ys) e i)))))
            (λ k i. known.before_other k (λ e. apart.once.1.0 (subst (λ (j : ℕ). In j ys) e i)))
            (known.before_other s (λ e. apart.end (inr (inl e)))),
      )

  pub taken_chain :
      (a k : ℕ) (xs : List ℕ) → IsChain f g a xs s → IsApart a s xs → In k xs → IsTaken f g f2 g2 (g k) (f k)
      → IsChain f2 g2 a (without k xs) s
  taken_chain a k [] chain apart there taken = absurd there
  taken_chain a k (x ∷ xs) chain apart there taken =
      elim (cases_Bool (x == k)) [
        | inl same ↦
            let e : x ≡ k = eqb-true x k same in
            let p : g k ≡ a = ap g (sym e) ∙ chain.1 in
            let here : IsTaken f g f2 g2 a (f x) = rw (e, ← p) taken in
            rw same (taken_here a x xs chain.2 apart here)
        | inr other ↦
            let rest : In k xs = in_rest x k xs other there in
            let among : In (g k) (x ∷ xs) = chain_before f g s x k xs chain.2 (inl rest) in
            rw other (
              taken.after_other a (λ e. apart.start (subst (λ (j : ℕ). In j (x ∷ xs)) (sym e) among)) ∙ chain.0,
              taken.before_other x (not_after x k xs chain.2 apart rest) ∙ chain.1,
              taken_chain x k xs chain.2 (apart_rest a s x xs apart) rest taken,
            )
      ]
    where
      not_after : (x k : ℕ) (xs : List ℕ) → IsChain f g x xs s → IsApart a s (x ∷ xs) → In k xs → x ≢ f k
      not_after x k xs chain apart there e =
          elim (chain_after f g s x k xs chain there) [
            | inl later ↦ apart.once.0 (subst (λ (j : ℕ). In j xs) (sym e) later)
            | inr end ↦ apart.end (inl (sym end ∙ sym e))
          ]

-- ---- the numbers once one is put in or taken out

pub in_placed : (place n k : ℕ) (xs : List ℕ) → In k (placed_before place n xs) → (k ≡ n) ⊎ In k xs
in_placed place n k [] there = there
in_placed place n k (x ∷ xs) there =
    elim (cases_Bool (x == place)) [
      | inl same ↦ rw same at there
      | inr other ↦
          elim (rw other at there) [
            | inl first ↦ inr (inl first)
            | inr later ↦ elim (in_placed place n k xs later) [ inl e ↦ inl e | inr i ↦ inr (inr i) ]
          ]
    ]

pub once_placed : (place n : ℕ) (xs : List ℕ) → IsOnce xs → (In n xs → ⊥) → IsOnce (placed_before place n xs)
once_placed place n [] once new = (new, tt)
once_placed place n (x ∷ xs) once new =
    elim (cases_Bool (x == place)) [
      | inl same ↦ rw same (new, once)
      | inr other ↦
          rw other (
            (λ i. elim (in_placed place n x xs i) [ inl e ↦ new (inl (sym e)) | inr later ↦ once.0 later ]),
            once_placed place n xs once.1 (λ i. new (inr i)),
          )
    ]

pub below_placed : (limit place n : ℕ) (xs : List ℕ) → AreBelow limit xs → n < limit → AreBelow limit (placed_before place n xs)
below_placed limit place n [] below small = (small, tt)
below_placed limit place n (x ∷ xs) below small =
    elim (cases_Bool (x == place)) [
      | inl same ↦ rw same (small, below)
      | inr other ↦ rw other (below.0, below_placed limit place n xs below.1 small)
    ]

pub in_without : (n k : ℕ) (xs : List ℕ) → In k (without n xs) → In k xs
in_without n k [] there = there
in_without n k (x ∷ xs) there =
    elim (cases_Bool (x == n)) [
      | inl same ↦ inr (rw same at there)
      | inr other ↦
          elim (rw other at there) [ inl first ↦ inl first | inr later ↦ inr (in_without n k xs later) ]
    ]

pub once_without : (n : ℕ) (xs : List ℕ) → IsOnce xs → IsOnce (without n xs)
once_without n [] once = once
once_without n (x ∷ xs) once =
    elim (cases_Bool (x == n)) [
      | inl same ↦ rw same once.1
      | inr other ↦ rw other ((λ i. once.0 (in_without n x xs i)), once_without n xs once.1)
    ]

pub below_without : (limit n : ℕ) (xs : List ℕ) → AreBelow limit xs → AreBelow limit (without n xs)
below_without limit n [] below = below
below_without limit n (x ∷ xs) below =
    elim (cases_Bool (x == n)) [
      | inl same ↦ rw same below.1
      | inr other ↦ rw other (below.0, below_without limit n xs below.1)
    ]
