-- What the order of two products says.
use Rattle.std.proofs.Common.{◌≡◌, ℤ, Bool, true, false, cond, Ordering, Less, Equal, Greater, int_cmp, is_le, is_ge, ◌≤ℤ◌, refl, sym, ◌∙◌, ap, subst, true≢false, arith}
use Rattle.std.specs.Prelude.{◌↔◌, IsTrue, int_lt}
use Rattle.std.proofs.lemmas.Int.{ints}

module _ (x y : ℤ) where
  by_tests : (under over : Bool) → int_lt x y ≡ under → int_lt y x ≡ over
      → (IsTrue (is_le (cond under Less (cond over Greater Equal))) ↔ (x ≤ℤ y)) × (IsTrue (is_ge (cond under Less (cond over Greater Equal))) ↔ (y ≤ℤ x))
  by_tests true over is also = ((λ _. grind (arith, ints, is), λ _. refl), (λ h. absurd (true≢false (sym h)), λ h. absurd (grind (arith, ints, is, h))))
  by_tests false true is also = ((λ h. absurd (true≢false (sym h)), λ h. absurd (grind (arith, ints, also, h))), (λ _. grind (arith, ints, also), λ _. refl))
  by_tests false false is also = ((λ _. grind (arith, ints, also), λ _. refl), (λ _. grind (arith, ints, is), λ _. refl))

  pub at_most_decides : (result : Bool) (order : Ordering) → result ≡ is_le order → order ≡ int_cmp x y → IsTrue result ↔ (x ≤ℤ y)
  at_most_decides result order is ordered = subst (λ test. IsTrue test ↔ (x ≤ℤ y)) (sym (is ∙ ap is_le ordered)) (by_tests (int_lt x y) (int_lt y x) refl refl).0

  pub at_least_decides : (result : Bool) (order : Ordering) → result ≡ is_ge order → order ≡ int_cmp x y → IsTrue result ↔ (y ≤ℤ x)
  at_least_decides result order is ordered = subst (λ test. IsTrue test ↔ (y ≤ℤ x)) (sym (is ∙ ap is_ge ordered)) (by_tests (int_lt x y) (int_lt y x) refl refl).1
