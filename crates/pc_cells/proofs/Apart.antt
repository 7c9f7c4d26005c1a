-- Constraints whose predicates are apart, two by two, and those of which two speak of one row.
use Rattle.std.proofs.Common.{◌≡◌, ℕ, zero, suc, ◌<◌, ◌≤◌, Bool, true, false, cond, not, List, [], ◌∷◌, length, get_or, take, All, AllPairs, count_by, IsTrue, ◌↔◌, refl, sym, ◌∙◌, subst, arith}
use Rattle.std.proofs.lemmas.Bool.{cond-true, cond-false, false_from_ne_true, false≢true}
use Rattle.std.proofs.lemmas.Grind.{common_steps}
use Rattle.std.proofs.lemmas.List.{get_or_default, take_all}
use Rattle.std.proofs.lemmas.List.Elements.{All-contains, All-head, All-tail}
use Rattle.std.proofs.lemmas.List.Folds.{Any-from_list_any, list_any_at}
use Rattle.std.proofs.lemmas.List.Sums.{sum_by-cons}
use Rattle.pc_model.specs.declared.schema.Schema.{Schema}
use Rattle.pc_model.specs.declared.row.Row.{Row}
use Rattle.pc_model.specs.declared.region.Region.{Region}
use Rattle.pc_model.specs.declared.constraint.When.{When}
use Rattle.pc_model.specs.declared.constraint.When.TheVariants.{Boxes, Outside}
use Rattle.pc_model.specs.declared.constraint.Constraint.{Constraint}
use Rattle.pc_model.specs.Accepted.{IsOutside, HasLoneOutside}
use Rattle.pc_model.specs.Boxes.{IsWhenOf, IsServable}
use Rattle.pc_model.specs.CutTrees.{IsApartFromArea}
use Rattle.pc_model.specs.Membership.{has, in_domain, is_named, is_named_by_some, is_meant, is_under, AreDisjoint}
use Rattle.pc_model.proofs.Regions.{region_inside}
use Rattle.pc_box.proofs.AlikeAreas.{IsAlikeToArea-from_schema}
use Rattle.pc_cells_laws.proofs.Predicates.{out-from_apart}
use Rattle.pc_cells.specs.Found.{AreOfOneSchema, AreWhensAlike, AreWhensApart, AreApart, AreApartFrom}

-- ---- how many of a list pass

module _ {X : Type 0} (test : X → Bool) where
  count_passing : (x : X) (xs : List X) → test x ≡ true → count_by test (x ∷ xs) ≡ suc (count_by test xs)
  count_passing x xs passes = omega (arith, sum_by-cons (λ y. cond (test y) 1 0) x xs, cond-true {A = ℕ} (test x) 1 0 passes)

  count_failing : (x : X) (xs : List X) → test x ≡ false → count_by test (x ∷ xs) ≡ count_by test xs
  count_failing x xs fails = omega (arith, sum_by-cons (λ y. cond (test y) 1 0) x xs, cond-false {A = ℕ} (test x) 1 0 fails)

  -- the count of a longer list is no less
  count_more : (x : X) (xs : List X) → count_by test xs ≤ count_by test (x ∷ xs)
  count_more x xs = omega (arith, sum_by-cons (λ y. cond (test y) 1 0) x xs)

  -- one of the list passes
  one_passes : (xs : List X) (i : ℕ) (d : X) → i < length xs → test (get_or xs i d) ≡ true → 1 ≤ count_by test xs
  one_passes [] i d inside passes = absurd (omega arith)
  one_passes (x ∷ xs) zero d inside passes = omega (arith, count_passing x xs passes)
  one_passes (x ∷ xs) (suc i) d inside passes = omega (arith, one_passes xs i d (omega arith) passes, count_more x xs)

  -- two of the list pass
  pub two_pass : (xs : List X) (i j : ℕ) (d : X) → i < j → j < length xs → test (get_or xs i d) ≡ true → test (get_or xs j d) ≡ true → 2 ≤ count_by test xs
  two_pass [] i j d before inside one other = absurd (omega arith)
  two_pass (x ∷ xs) i zero d before inside one other = absurd (omega arith)
  two_pass (x ∷ xs) zero (suc j) d before inside one other = omega (arith, count_passing x xs one, one_passes xs j d (omega arith) other)
  two_pass (x ∷ xs) (suc i) (suc j) d before inside one other = omega (arith, two_pass xs i j d (omega arith) (omega arith) one other, count_more x xs)

  -- none of the list passes
  none_pass : (xs : List X) → All (λ x. test x ≡ false) xs → count_by test xs ≡ 0
  none_pass [] each = refl
  none_pass (x ∷ xs) each = omega (arith, count_failing x xs (All-head (λ y. test y ≡ false) x xs each), none_pass xs (All-tail (λ y. test y ≡ false) x xs each))

  -- no two of the list pass
  one_at_most : (xs : List X) → AllPairs (λ x y. test x ≡ true → test y ≡ true → ⊥) xs → count_by test xs ≤ 1
  one_at_most [] apart = omega arith
  one_at_most (x ∷ xs) apart = by_test (test x) refl (one_at_most xs (λ i j d before inside. apart (suc i) (suc j) d (omega arith) (omega arith)))
    where
      by_test : (first : Bool) → test x ≡ first → count_by test xs ≤ 1 → count_by test (x ∷ xs) ≤ 1
      by_test true e rest =
          let others = none_pass xs (λ k d inside. false_from_ne_true (test (get_or xs k d)) (λ also. apart 0 (suc k) d (omega arith) (omega arith) e also)) in
          omega (arith, count_passing x xs e, others)
      by_test false e rest = omega (arith, count_failing x xs e, rest)

-- ---- as far as a loop over the constraints has come

whens_alike : (schema : Schema) (one other : When) → IsWhenOf schema one → IsWhenOf schema other → AreWhensAlike one other
whens_alike schema (Boxes area) (Boxes other) is_one is_other = λ k d there. IsAlikeToArea-from_schema schema (get_or area.boxes k d) (is_one.each k d there) other is_other
whens_alike schema (Boxes area) Outside is_one is_other = tt
whens_alike schema Outside other is_one is_other = tt

module _ (constraints : List Constraint) (place : ℕ) (c : Constraint) (inside : place < length constraints) (is : c ≡ get_or constraints place c) where
  earlier_is : (k : ℕ) (d : Constraint) → k < length (take place constraints) → (get_or (take place constraints) k d ≡ get_or constraints k d) × (k < place)
  earlier_is k d lt = (grind (arith, common_steps), grind (arith, common_steps))

  same_default : (d : Constraint) → get_or constraints place d ≡ c
  same_default d = get_or_default constraints place d c inside ∙ sym is

  -- predicates of one schema are alike
  pub alike_before : AreOfOneSchema constraints → All (λ (other : Constraint). AreWhensAlike other.when c.when) (take place constraints)
  alike_before one k d lt =
      let earlier = earlier_is k d lt in
      let known : IsWhenOf one.0 c.when = rw is (one.1 place c inside).when_area in
      let other : IsWhenOf one.0 (get_or (take place constraints) k d).when = rw earlier.0 (one.1 k d (omega (arith, earlier.1))).when_area in
      whens_alike one.0 (get_or (take place constraints) k d).when c.when other known

  -- each is apart from those before it
  pub apart_from_earlier : AreApart constraints → AreApartFrom (take place constraints) c.when
  apart_from_earlier apart k d lt =
      let earlier = earlier_is k d lt in
      rw (earlier.0, ← same_default d) (apart k place d earlier.1 inside)

  -- one that is not shows that not all are apart
  pub not_apart : (result : Bool) → (IsTrue result ↔ AreApartFrom (take place constraints) c.when) → result ≡ false → IsTrue false ↔ AreApart constraints
  not_apart result means fails = ((λ e. absurd (false≢true e)), (λ apart. sym fails ∙ means.1 (apart_from_earlier apart)))

pub all_apart : (constraints : List Constraint) (place : ℕ) → length constraints ≤ place → AreApart (take place constraints) → IsTrue true ↔ AreApart constraints
all_apart constraints place end apart = ((λ _. subst AreApart (take_all place constraints end) apart), (λ _. refl))

-- ---- disjoint constraints

clash : (named : Bool) → named ≡ true → not named ≡ true → ⊥
clash true e f = false≢true f
clash false e f = false≢true e

module _ (constraints : List Constraint) (row : Row) where
  -- an area that is named by a constraint of the list
  abbrev IsListed : When → Type 0
  IsListed when = is_named when row ≡ true → is_named_by_some constraints row ≡ true

  listed : (k : ℕ) (d : Constraint) → k < length constraints → IsListed (get_or constraints k d).when
  listed k d there named = list_any_at (λ (c : Constraint). is_named c.when row) constraints k d there named

  not_both : (one other : When) → IsListed one → IsListed other → (IsOutside one → IsOutside other → ⊥) → AreWhensApart one other → is_meant constraints one row ≡ true →
      is_meant constraints other row ≡ true → ⊥
  not_both (Boxes area) (Boxes other) one_listed other_listed lone apart first second =
      let found = Any-from_list_any (λ (region : Region). has region row) area.boxes first in
      out-from_apart found.1 row found.4 other (All-contains (λ (region : Region). IsApartFromArea region other) area.boxes found.1 apart (found.0, found.2, found.3)) second
  not_both (Boxes area) Outside one_listed other_listed lone apart first second = clash (is_named_by_some constraints row) (one_listed first) second
  not_both Outside (Boxes other) one_listed other_listed lone apart first second = clash (is_named_by_some constraints row) (other_listed second) first
  not_both Outside Outside one_listed other_listed lone apart first second = lone tt tt

disjoint_from_apart : (schema : Schema) (constraints : List Constraint) → HasLoneOutside constraints → AreApart constraints → AreDisjoint schema constraints
disjoint_from_apart schema constraints lone apart row allowed =
    one_at_most (λ (c : Constraint). is_under constraints c row) constraints
    (λ i j d before inside. not_both constraints row (get_or constraints i d).when (get_or constraints j d).when (listed constraints row i d (omega (arith, before, inside))) (listed constraints row j d inside)
    (lone i j d before inside) (apart i j d before inside))

-- areas of which no row of the domain is in both are apart
module _ (schema : Schema) (constraints : List Constraint) where
  apart_whens : (one other : When) → IsWhenOf schema one → ((row : Row) → in_domain schema row ≡ true → is_meant constraints one row ≡ true → is_meant constraints other row ≡ true → ⊥) →
      AreWhensApart one other
  apart_whens (Boxes area) (Boxes other) is_one none = λ k d there l e also row held taken.
      none row (region_inside schema (get_or area.boxes k d) row (is_one.each k d there) held) (list_any_at (λ (region : Region). has region row) area.boxes k d there held)
      (list_any_at (λ (region : Region). has region row) other.boxes l e also taken)
  apart_whens (Boxes area) Outside is_one none = tt
  apart_whens Outside other is_one none = tt

  apart_from_disjoint : All (IsServable schema) constraints → AreDisjoint schema constraints → AreApart constraints
  apart_from_disjoint servable disjoint i j d before inside =
      apart_whens (get_or constraints i d).when (get_or constraints j d).when (servable i d (omega (arith, before, inside))).when_area
      (λ row allowed first second. let twice = two_pass (λ (c : Constraint). is_under constraints c row) constraints i j d before inside first second in
      let once = disjoint row allowed in
      omega (arith, twice, once))

pub means_disjoint : (schema : Schema) (constraints : List Constraint) (result : Bool) → HasLoneOutside constraints → (IsTrue result ↔ AreApart constraints) → All (IsServable schema) constraints →
    (IsTrue result ↔ AreDisjoint schema constraints)
means_disjoint schema constraints result lone means servable = (
  λ holds. disjoint_from_apart schema constraints lone (means.0 holds),
  λ disjoint. means.1 (apart_from_disjoint schema constraints servable disjoint),
)
