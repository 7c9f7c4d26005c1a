-- Whether there is a number, and one of two facts holds.
use Rattle.std.proofs.Common.{◌≡◌, Bool, true, false, Option, Some, None, ◌⊎◌, inl, inr, refl, sym, ◌∙◌, true≢false}
use Rattle.std.specs.Prelude.{◌↔◌, IsTrue, IsSomeAnd, is_some}

module _ {X : Type 0} (A : Type 0) (B : X → Type 0) where
  abbrev Either : Option X → Type 0
  Either o = IsSomeAnd o (λ x. A ⊎ B x)

  -- the second holds
  pub second-holds : (o : Option X) (test : Bool) → test ≡ true → (IsTrue test ↔ IsSomeAnd o B) → IsTrue true ↔ Either o
  second-holds None test passed means = absurd (means.0 passed)
  second-holds (Some x) test passed means = (λ _. inr (means.0 passed), λ _. refl)

  -- there is one of which the second does not hold
  pub first-decides : (o : Option X) (test other : Bool) → test ≡ false → (IsTrue test ↔ IsSomeAnd o B) → is_some o ≡ true → (IsTrue other ↔ A) → IsTrue other ↔ Either o
  first-decides None test other failed means some decides = absurd (true≢false (sym some))
  first-decides (Some x) test other failed means some decides = (λ h. inl (decides.0 h), by_case)
    where
      by_case : (A ⊎ B x) → IsTrue other
      by_case (inl a) = decides.1 a
      by_case (inr b) = absurd (true≢false (sym (means.1 b) ∙ failed))
