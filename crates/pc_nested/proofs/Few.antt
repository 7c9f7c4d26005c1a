-- Nested constraints have at most two cells each, one of a side, where the cells of a side differ.
use Rattle.std.proofs.Common.{◌≡◌, ℕ, zero, suc, ◌+◌, ◌*◌, ◌<◌, ◌≤◌, inl, inr, Bool, true, false, true≢false, cond, Option, Some, None, refl, ap, sym, ◌∙◌, subst, arith}
use Rattle.std.specs.Prelude.{ℤ, pos, ◌≤ℤ◌, int_lt, MatchOption, unwrap_or}
use Rattle.std.proofs.Math.Dec.{eqb}
use Rattle.std.proofs.lemmas.Int.{ints}
use Rattle.std.proofs.lemmas.Bool.{cases_eq, eqb-true, ne_eqb, eq-eqb}
use Rattle.pc_program_bound.specs.declared.program.Program.{Program}
use Rattle.pc_program_bound.specs.Sums.{sum_below}
use Rattle.pc_program_bound.specs.Allocation.{cells_of, constraints_of}
use Rattle.pc_program_bound.proofs.SumBelow.{sum_below-zero, sum_below-suc, sum_below-none, sum_below-one, sum_below-same, sum_below-swap, sum_below_mono}
use Rattle.pc_program.specs.Settled.{is_in}
use Rattle.pc_nested.specs.Nested.{IsInside, AreNestedPair, AreNestedPairs}
use Rattle.pc_nested.specs.Sized.{size_of}
use Rattle.pc_nested.specs.Few.{AreCovered, DifferOnSides}
use Rattle.pc_nested.proofs.Sizes.{inside_by_size}

-- ---- different numbers below a limit are no more than that

abbrev hits : (ℕ → ℕ) → ℕ → ℕ → ℤ
hits f v i = cond (eqb (f i) v) (pos 1) (pos 0)

hits_one : (f : ℕ → ℕ) (v i : ℕ) → eqb (f i) v ≡ true → hits f v i ≡ pos 1
hits_one f v i e = ap (λ t. cond t (pos 1) (pos 0)) e

hits_none : (f : ℕ → ℕ) (v i : ℕ) → eqb (f i) v ≡ false → hits f v i ≡ pos 0
hits_none f v i e = ap (λ t. cond t (pos 1) (pos 0)) e

by_test : {P : Type 0} (test : Bool) → (test ≡ true → P) → (test ≡ false → P) → P
by_test true first second = first refl
by_test false first second = second refl

at_most_one : (n : ℕ) (f : ℕ → ℕ) (v : ℕ) → ((h i : ℕ) → h < i → i < n → f h ≡ f i → ⊥) → sum_below n (hits f v) ≤ℤ pos 1
at_most_one zero f v apart = rw (sum_below-zero (hits f v)) (omega (arith, ints))
at_most_one (suc n) f v apart = by_test (eqb (f n) v)
    (λ e.
    let none = sum_below-none n (hits f v) (λ i h. by_test (eqb (f i) v)
    (λ same. absurd (apart i n h (omega arith) (eqb-true (f i) v same ∙ sym (eqb-true (f n) v e))))
    (λ other. hits_none f v i other)) in
    let last = hits_one f v n e in
    omega (arith, ints, sum_below-suc n (hits f v), none, last))
    (λ e.
    let before = at_most_one n f v (λ h i less there. apart h i less (omega arith)) in
    let last = hits_none f v n e in
    omega (arith, ints, sum_below-suc n (hits f v), before, last))

ones : (n : ℕ) → sum_below n (λ i. pos 1) ≡ pos n
ones zero = sum_below-zero (λ i. pos 1)
ones (suc n) = let before = ones n in omega (arith, ints, sum_below-suc n (λ i. pos 1), before)

hit_once : (m : ℕ) (f : ℕ → ℕ) (i : ℕ) → f i < m → sum_below m (λ v. hits f v i) ≡ pos 1
hit_once m f i below =
    sum_below-one m (f i) (λ v. hits f v i) below (λ v there other. hits_none f v i (ne_eqb (f i) v (λ e. other (sym e))))
    ∙ by_test (eqb (f i) (f i)) (λ e. hits_one f (f i) i e) (λ e. absurd (true≢false (sym (eq-eqb (f i) (f i) refl) ∙ e)))

different_few : (n m : ℕ) (f : ℕ → ℕ) → ((i : ℕ) → i < n → f i < m) → ((h i : ℕ) → h < i → i < n → f h ≡ f i → ⊥) → n ≤ m
different_few n m f below apart =
    let each = sum_below-same n (λ i. sum_below m (λ v. hits f v i)) (λ i. pos 1) (λ i h. hit_once m f i (below i h)) in
    let turned = sum_below-swap n m (λ i v. hits f v i) in
    let few = sum_below_mono m (λ v. sum_below n (λ i. hits f v i)) (λ v. pos 1) (λ v h. at_most_one n f v apart) in
    let all = ones n in
    let most = ones m in
    omega (arith, ints, each, turned, few, all, most)

-- ---- the innermost constraint of a cell

abbrev better : Program → ℕ → ℕ → Option ℕ → Bool → Option ℕ
better p i n found false = found
better p i n None true = Some n
better p i n (Some k) true = cond (int_lt (size_of p n) (size_of p k)) (Some n) (Some k)

unfoldable innermost : Program → ℕ → ℕ → Option ℕ
innermost p i zero = None
innermost p i (suc n) = better p i n (innermost p i n) (is_in p i n)

record IsInnermost (p : Program) (i n k : ℕ) : Type 0 where
  there : k < n
  member : is_in p i k ≡ true
  least : (j : ℕ) → j < n → is_in p i j ≡ true → size_of p k ≤ℤ size_of p j

abbrev IsInnermostIfAny : Program → ℕ → ℕ → Option ℕ → Type 0
IsInnermostIfAny p i n found = MatchOption found ((j : ℕ) → j < n → is_in p i j ≡ false) (IsInnermost p i n)

innermost_more : (p : Program) (i n : ℕ) → innermost p i (suc n) ≡ better p i n (innermost p i n) (is_in p i n)
unfolding innermost
innermost_more p i n = refl

innermost_none : (p : Program) (i : ℕ) → innermost p i zero ≡ None
unfolding innermost
innermost_none p i = refl

-- one constraint more
more_out : (p : Program) (i n : ℕ) (found : Option ℕ) → is_in p i n ≡ false → IsInnermostIfAny p i n found → IsInnermostIfAny p i (suc n) found
more_out p i n None out none = λ j h. elim (cases_eq j n) [
  | inl e ↦ subst (λ c. is_in p i c ≡ false) (sym e) out
  | inr other ↦ none j (omega (arith, h, other))
]
more_out p i n (Some k) out is = record {
  there = let h = is.there in omega (arith, h);
  member = is.member;
  least = λ j h member. elim (cases_eq j n) [
    | inl e ↦ absurd (true≢false (sym member ∙ subst (λ c. is_in p i c ≡ false) (sym e) out))
    | inr other ↦ is.least j (omega (arith, h, other)) member
  ];
}

more_in : (p : Program) (i n : ℕ) (found : Option ℕ) → is_in p i n ≡ true → IsInnermostIfAny p i n found → IsInnermostIfAny p i (suc n) (better p i n found true)
more_in p i n None member none = record {
  there = omega arith;
  member = member;
  least = λ j h inside. elim (cases_eq j n) [
    | inl e ↦ rw e (omega (arith, ints))
    | inr other ↦ absurd (true≢false (sym inside ∙ none j (omega (arith, h, other))))
  ];
}
more_in p i n (Some k) member is = by_less (int_lt (size_of p n) (size_of p k)) (λ e. e) (λ e. e)
  where
    by_less : (test : Bool) → (test ≡ true → int_lt (size_of p n) (size_of p k) ≡ true) → (test ≡ false → int_lt (size_of p n) (size_of p k) ≡ false)
        → IsInnermostIfAny p i (suc n) (cond test (Some n) (Some k))
    by_less true less most =
        let fewer = less refl in
        record {
          there = omega arith;
          member = member;
          least = λ j h inside. elim (cases_eq j n) [
            | inl e ↦ rw e (omega (arith, ints))
            | inr other ↦ let le = is.least j (omega (arith, h, other)) inside in omega (arith, ints, le, fewer)
          ];
        }
    by_less false less most =
        let least = most refl in
        record {
          there = let h = is.there in omega (arith, h);
          member = is.member;
          least = λ j h inside. elim (cases_eq j n) [
            | inl e ↦ rw e (omega (arith, ints, least))
            | inr other ↦ is.least j (omega (arith, h, other)) inside
          ];
        }

innermost_is : (p : Program) (i n : ℕ) → IsInnermostIfAny p i n (innermost p i n)
innermost_is p i zero = subst (IsInnermostIfAny p i zero) (sym (innermost_none p i)) (λ j h. absurd (omega arith))
innermost_is p i (suc n) = subst (IsInnermostIfAny p i (suc n)) (sym (innermost_more p i n)) (by_test (is_in p i n)
    (λ e. subst (λ t. IsInnermostIfAny p i (suc n) (better p i n (innermost p i n) t)) (sym e) (more_in p i n (innermost p i n) e (innermost_is p i n)))
    (λ e. subst (λ t. IsInnermostIfAny p i (suc n) (better p i n (innermost p i n) t)) (sym e) (more_out p i n (innermost p i n) e (innermost_is p i n))))

-- ---- the number of a cell

module _ (p : Program) (side : ℕ → Bool) (pairs : AreNestedPairs p) (covered : AreCovered p) where
  abbrev inner : ℕ → ℕ
  inner i = unwrap_or (innermost p i (constraints_of p)) 0

  abbrev bit : ℕ → ℕ
  bit i = cond (side i) 1 0

  inner_is : (i : ℕ) → i < cells_of p → IsInnermost p i (constraints_of p) (inner i)
  inner_is i h = some (innermost p i (constraints_of p)) (innermost_is p i (constraints_of p))
    where
      some : (found : Option ℕ) → IsInnermostIfAny p i (constraints_of p) found → IsInnermost p i (constraints_of p) (unwrap_or found 0)
      some None none = let c = covered i h in absurd (true≢false (sym c.2 ∙ none c.0 c.1))
      some (Some k) is = is

  bit_small : (i : ℕ) → bit i ≤ 1
  bit_small i = one (side i)
    where
      one : (test : Bool) → cond test 1 0 ≤ 1
      one true = omega arith
      one false = omega arith

  same_side : (h i : ℕ) → bit h ≡ bit i → side h ≡ side i
  same_side h i e = one (side h) (side i) e
    where
      one : (a b : Bool) → ◌≡◌ {A = ℕ} (cond a 1 0) (cond b 1 0) → a ≡ b
      one true true e = refl
      one true false e = absurd (omega (arith, e))
      one false true e = absurd (omega (arith, e))
      one false false e = refl

  -- the innermost constraint of a cell is inside all that hold the cell
  inside_all : (h j : ℕ) → h < cells_of p → j < constraints_of p → is_in p h j ≡ true → IsInside p (inner h) j
  inside_all h j there inside member = by_case (pairs j (inner h) inside is.there)
    where
      is : IsInnermost p h (constraints_of p) (inner h)
      is = inner_is h there

      by_case : AreNestedPair p j (inner h) → IsInside p (inner h) j
      by_case (inl apart) = absurd (apart h there member is.member)
      by_case (inr (inl within)) = inside_by_size p (inner h) j within (is.least j inside member)
      by_case (inr (inr holds)) = holds

  same_bits : (h i : ℕ) → h < cells_of p → i < cells_of p → inner h ≡ inner i → (k : ℕ) → k < constraints_of p → is_in p h k ≡ is_in p i k
  same_bits h i first second e k there = both (is_in p h k) (is_in p i k)
      (λ member. inside_all h k first there member i second (subst (λ c. is_in p i c ≡ true) (sym e) (inner_is i second).member))
      (λ member. inside_all i k second there member h first (subst (λ c. is_in p h c ≡ true) e (inner_is h first).member))
    where
      both : (a b : Bool) → (a ≡ true → b ≡ true) → (b ≡ true → a ≡ true) → a ≡ b
      both true true f g = refl
      both true false f g = sym (f refl)
      both false true f g = g refl
      both false false f g = refl

  cells_few : DifferOnSides p side → cells_of p ≤ 2 * constraints_of p
  cells_few differ = different_few (cells_of p) (2 * constraints_of p) (λ i. 2 * inner i + bit i)
      (λ i h. let there = (inner_is i h).there in let small = bit_small i in omega (arith, there, small))
      (λ h i less there e.
      let one = bit_small h in
      let two = bit_small i in
      let same : inner h ≡ inner i = omega (arith, e, one, two) in
      let sided : bit h ≡ bit i = omega (arith, e, one, two) in
      differ h i less there (same_side h i sided) (same_bits h i (omega (arith, less, there)) there same))

pub few_cells : (p : Program) (side : ℕ → Bool) → AreNestedPairs p → AreCovered p → DifferOnSides p side → cells_of p ≤ 2 * constraints_of p
few_cells p side pairs covered differ = cells_few p side pairs covered differ

pub ruleset few = (few_cells)
