-- What is in the list that each constraint gives to.
use Rattle.std.proofs.Common.{◌≡◌, ◌⊎◌, ℕ, zero, suc, ◌+◌, true≢false, List, [], ◌∷◌, Contains, Option, Some, refl, sym, ap, subst, arith}
use Rattle.std.proofs.Common.{inl, inr}
use Rattle.std.specs.Prelude.{is_some, slice_get, unwrap_or}
use Rattle.std.specs.List.{enumerate_from, flat_map}
use Rattle.std.proofs.lemmas.List.Elements.{Contains-append_cases, Contains-append_left, Contains-append_right}
use Rattle.pc_model.specs.declared.constraint.Constraint.{Constraint}
use Rattle.pc_desk_parts.specs.Held.{of_each}

pub in_none : {X : Type 0} (x : X) → Contains [] x → ⊥
in_none x found = omega (arith, found.1)

pub in_one : {X : Type 0} (y x : X) → Contains (y ∷ []) x → y ≡ x
in_one y x (zero, there, is) = is
in_one y x (suc k, there, is) = absurd (omega (arith, there))

pub one_in : {X : Type 0} (y x : X) → y ≡ x → Contains (y ∷ []) x
one_in y x is = (0, omega arith, is)

-- the constraint at a place gives it
pub record Gives {X : Type 0} (given : ℕ → Constraint → List X) (constraints : List Constraint) (x : X) : Type 0 where
  pub place : ℕ
  pub c : Constraint
  pub there : slice_get constraints place ≡ Some c
  pub gives : Contains (given place c) x

module _ {X : Type 0} (x : X) where
  abbrev listed : (ℕ → Constraint → List X) → ℕ → List Constraint → List X
  listed given n constraints = flat_map (λ (entry : ℕ × Constraint). given entry.0 entry.1) (enumerate_from n constraints)

  giving : (given : ℕ → Constraint → List X) (n : ℕ) (constraints : List Constraint) → Contains (listed given n constraints) x → Gives (λ (place : ℕ). given (n + place)) constraints x
  giving given n [] found = absurd (in_none x found)
  giving given n (c ∷ constraints) found = by_case (giving given (n + 1) constraints) (Contains-append_cases (given n c) (listed given (n + 1) constraints) x found)
    where
      by_case : (Contains (listed given (n + 1) constraints) x → Gives (λ (place : ℕ). given (n + 1 + place)) constraints x)
          → (Contains (given n c) x ⊎ Contains (listed given (n + 1) constraints) x) → Gives (λ (place : ℕ). given (n + place)) (c ∷ constraints) x
      by_case rests (inl first) =
          let here : n ≡ n + 0 = omega arith in
          record { place = 0; c = c; there = refl; gives = subst (λ (k : ℕ). Contains (given k c) x) here first }
      by_case rests (inr later) =
          let rest = rests later in
          let here : n + 1 + rest.place ≡ n + suc rest.place = omega arith in
          record { place = suc rest.place; c = rest.c; there = rest.there; gives = subst (λ (k : ℕ). Contains (given k rest.c) x) here rest.gives }

  listing : (given : ℕ → Constraint → List X) (n : ℕ) (constraints : List Constraint) (place : ℕ) (c : Constraint) → slice_get constraints place ≡ Some c → Contains (given (n + place) c) x
      → Contains (listed given n constraints) x
  listing given n [] place c there gives = absurd (true≢false (sym (ap is_some there)))
  listing given n (first ∷ constraints) zero c there gives =
      let here : n + 0 ≡ n = omega arith in
      Contains-append_left (given n first) (listed given (n + 1) constraints) x
      (subst (λ (k : ℕ). Contains (given k first) x) here (subst (λ (d : Constraint). Contains (given (n + 0) d) x) (sym (some_inj there)) gives))
    where
      some_inj : Some first ≡ Some c → first ≡ c
      some_inj is = ap (λ (o : Option Constraint). unwrap_or o first) is
  listing given n (first ∷ constraints) (suc place) c there gives =
      let here : n + suc place ≡ n + 1 + place = omega arith in
      Contains-append_right (given n first) (listed given (n + 1) constraints) x
      (listing given (n + 1) constraints place c there (subst (λ (k : ℕ). Contains (given k c) x) here gives))

  pub given_by_one : (given : ℕ → Constraint → List X) (constraints : List Constraint) → Contains (of_each given constraints) x → Gives given constraints x
  given_by_one given constraints found =
      let one = giving given 0 constraints found in
      let here : 0 + one.place ≡ one.place = omega arith in
      record { place = one.place; c = one.c; there = one.there; gives = subst (λ (k : ℕ). Contains (given k one.c) x) here one.gives }

  pub given_at : (given : ℕ → Constraint → List X) (constraints : List Constraint) (place : ℕ) (c : Constraint) → slice_get constraints place ≡ Some c → Contains (given place c) x → Contains (of_each given constraints) x
  given_at given constraints place c there gives =
      let here : place ≡ 0 + place = omega arith in
      listing given 0 constraints place c there (subst (λ (k : ℕ). Contains (given k c) x) here gives)
