-- A row that is combined with another and divided by a number, place by place, and the divisor that it is divided by.
use Rattle.std.proofs.Common.{◌≡◌, ◌≤◌, ◌<◌, ◌+◌, ◌/◌, ℕ, zero, suc, ℤ, pos, negsuc, ◌-ℤ◌, ◌*ℤ◌, ◌<ℤ◌, ◌≤ℤ◌, List, [], ◌∷◌, ◌++◌, map, length, get_or, set, take, drop, All, to_z, of_z, w64, arith, refl, ap, ap₂, sym, subst, ◌∙◌, add-one, append-nil, take_all}
use Rattle.std.specs.Prelude.{unsigned_abs}
use Rattle.std.specs.Int.{IsGcd, int_div_euclid}
use Rattle.std.proofs.lemmas.Int.{ints}
use Rattle.std.proofs.lemmas.List.{drop_all, length-map}
use Rattle.std.proofs.lemmas.List.Elements.{All-set, All-from_get_or}
use Rattle.std.proofs.Math.Nat.{div-mul_cancel, one-dvd}
use Rattle.pc_num.specs.Divisor.{IsRowGcd}
use Rattle.pc_num.proofs.Rows.{IsGcdWith, from_zero, row_gcd_step, size_of_positive}
use Rattle.pc_num.proofs.Signed.{as_passed}
use Rattle.pc_program_bound.specs.Sums.{int_at}
use Rattle.pc_program_bound.specs.Bound.{IsFit}
use Rattle.pc_simplex_tableau.specs.Numbers.{common, primitive, combined}
use Rattle.pc_simplex_tableau.proofs.Divisors.{common_is, same_row_gcd}
use Rattle.pc_simplex_tableau.proofs.Places.{length-combined, at-combined, at-divided}
use Rattle.pc_simplex_short.specs.Kept.{IsWithin}
use Rattle.pc_simplex_short.proofs.Sizes.{mixed_fits}
use Rattle.pc_simplex_short.proofs.Words.{passed_word}

-- ---- the row

module _ (p t d : ℤ) where
  abbrev divided_to : List ℤ → List ℤ → ℕ → List ℤ
  divided_to old other i = map (λ a. int_div_euclid a d) (combined p (take i old) t (take i other)) ++ drop i old

  set_divided : (old other : List ℤ) (i : ℕ) (x y : ℤ) → i < length old → i < length other
      → set (divided_to old other i) i (int_div_euclid (p *ℤ get_or old i x -ℤ t *ℤ get_or other i y) d) ≡ divided_to old other (suc i)
  unfolding combined
  set_divided [] other i x y h k = absurd (omega arith)
  set_divided (a ∷ old) [] i x y h k = absurd (omega arith)
  set_divided (a ∷ old) (b ∷ other) zero x y h k = refl
  set_divided (a ∷ old) (b ∷ other) (suc i) x y h k =
      ap (λ row. int_div_euclid (p *ℤ a -ℤ t *ℤ b) d ∷ row) (set_divided old other i x y (omega arith) (omega arith))

  read_old : (old other : List ℤ) (i : ℕ) (x : ℤ) → i < length old → i < length other → get_or (divided_to old other i) i x ≡ get_or old i x
  unfolding combined
  read_old [] other i x h k = absurd (omega arith)
  read_old (a ∷ old) [] i x h k = absurd (omega arith)
  read_old (a ∷ old) (b ∷ other) zero x h k = refl
  read_old (a ∷ old) (b ∷ other) (suc i) x h k = read_old old other i x (omega arith) (omega arith)

  none_divided : (row : List ℤ) → map (λ a. int_div_euclid a d) (combined p [] t []) ++ row ≡ row
  unfolding combined
  none_divided row = refl

-- the numbers before place i are divided, and all are small
pub record IsReducedTo (p t d : ℤ) (old other row : List ℤ) (i : ℕ) : Type 0 where
  pub made : row ≡ map (λ a. int_div_euclid a d) (combined p (take i old) t (take i other)) ++ drop i old
  pub small : All (IsWithin 50) row

module _ (p t d : ℤ) (old other : List ℤ) where
  pub reduced_start : All (IsWithin 50) old → IsReducedTo p t d old other old 0
  reduced_start h = record { made = sym (none_divided p t d old); small = h }

  module _ (row : List ℤ) (i : ℕ) (x y : ℤ) (within : i < length old) (sized : length old ≡ length other) (h : IsReducedTo p t d old other row i) where
    pub reduced_read : get_or row i x ≡ get_or old i x
    reduced_read = ap (λ l. get_or l i x) h.made ∙ read_old p t d old other i x within (omega (arith, within, sized))

    pub reduced_more : (z : ℤ) → z ≡ int_div_euclid (p *ℤ get_or row i x -ℤ t *ℤ get_or other i y) d → IsWithin 50 z → IsReducedTo p t d old other (set row i z) (i + 1)
    reduced_more z e small =
        let value : z ≡ int_div_euclid (p *ℤ get_or old i x -ℤ t *ℤ get_or other i y) d = rw reduced_read at e in
        record {
          made = rw (add-one, h.made, value) (set_divided p t d old other i x y within (omega (arith, within, sized)));
          small = All-set (IsWithin 50) row i z small h.small;
        }

  pub reduced_end : (row : List ℤ) (i : ℕ) → length old ≤ i → length old ≡ length other → IsReducedTo p t d old other row i
      → row ≡ map (λ a. int_div_euclid a d) (combined p old t other)
  reduced_end row i past sized h =
      h.made ∙ rw (take_all i old past, take_all i other (omega (arith, past, sized)), drop_all i old past)
      (append-nil (map (λ a. int_div_euclid a d) (combined p old t other)))

  -- a number that is to be put is small where all are
  pub reduced_small : (row : List ℤ) (i : ℕ) → i < length old → length old ≡ length other → IsReducedTo p t d old other row i
      → All (IsWithin 50) (map (λ a. int_div_euclid a d) (combined p old t other))
      → IsWithin 50 (int_div_euclid (p *ℤ int_at row i -ℤ t *ℤ int_at other i) d)
  reduced_small row i within sized h all =
      let le : length old ≤ length other = omega (arith, sized) in
      let long = length-map (combined p old t other) (λ a. int_div_euclid a d) ∙ length-combined p t old other le in
      let value = at-divided (combined p old t other) d i ∙ ap (λ x. int_div_euclid x d) (at-combined p t old other i within le) in
      rw (reduced_read row i (pos 0) (pos 0) within sized h) (subst (IsWithin 50) value (all i (pos 0) (omega (arith, within, long))))

-- ---- the divisor

divided_by_one : (n : ℕ) → n / 1 ≡ n
divided_by_one n = let back = div-mul_cancel 1 (one-dvd n) in omega (arith, back)

pub divided_once : (a : ℤ) → int_div_euclid a (pos 1) ≡ a
divided_once (pos n) = ap pos (divided_by_one n)
divided_once (negsuc n) = ap negsuc (divided_by_one n)

pub row_divided_once : (row : List ℤ) → map (λ a. int_div_euclid a (pos 1)) row ≡ row
row_divided_once [] = refl
row_divided_once (a ∷ row) = ap₂ ◌∷◌ (divided_once a) (row_divided_once row)

pub primitive_by : (row : List ℤ) (d : ℤ) → d ≡ pos (common row) → pos 0 <ℤ d → map (λ a. int_div_euclid a d) row ≡ primitive row
unfolding primitive
primitive_by row d e above = by (common row) e
  where
    by : (g : ℕ) → d ≡ pos g
        → map (λ a. int_div_euclid a d) row ≡ elim g [ zero ↦ row | suc k ↦ map (λ a. int_div_euclid a (pos (suc k))) row ]
    by zero same = absurd (omega (arith, ints, same, above))
    by (suc g) same = rw same refl

-- where there is nothing to divide by, or 1, all numbers stay
pub primitive_once : (row : List ℤ) (d : ℤ) → d ≡ pos (common row) → d ≤ℤ pos 1 → map (λ a. int_div_euclid a (pos 1)) row ≡ primitive row
unfolding primitive
primitive_once row d e low = by (common row) e
  where
    by : (g : ℕ) → d ≡ pos g
        → map (λ a. int_div_euclid a (pos 1)) row ≡ elim g [ zero ↦ row | suc k ↦ map (λ a. int_div_euclid a (pos (suc k))) row ]
    by zero same = row_divided_once row
    by (suc zero) same = refl
    by (suc (suc g)) same = absurd (omega (arith, ints, same, low))

-- ---- the numbers that are divided

module _ (p t : ℤ) (old other : List ℤ) (p_small : IsWithin 55 p) (t_small : IsWithin 55 t) (small : All (IsWithin 50) old) (others_small : All (IsWithin 50) other)
    (sized : length old ≡ length other) where
  pub made_fits : (a b : ℤ) → IsWithin 50 a → IsWithin 50 b → IsFit (p *ℤ a -ℤ t *ℤ b)
  made_fits a b own others = (mixed_fits p a t b p_small (omega (arith, own)) (omega (arith, t_small)) others).2

  pub combined_fits : All IsFit (combined p old t other)
  combined_fits =
      All-from_get_or IsFit (combined p old t other) (pos 0) (λ i lt. at_place i (omega (arith, lt, length-combined p t old other (omega (arith, sized)))))
    where
      at_place : (i : ℕ) → i < length old → IsFit (int_at (combined p old t other) i)
      at_place i lt = rw (at-combined p t old other i lt (omega (arith, sized)))
          (made_fits (int_at old i) (int_at other i) (small i (pos 0) lt) (others_small i (pos 0) (omega (arith, lt, sized))))

  -- a number that is made of two as they are passed
  pub number_is : (i : ℕ) (made : ℤ) → i < length old → made ≡ p *ℤ to_z w64 (of_z w64 (int_at old i)) -ℤ t *ℤ to_z w64 (of_z w64 (int_at other i))
      → made ≡ p *ℤ int_at old i -ℤ t *ℤ int_at other i
  number_is i made lt is =
      let own : IsWithin 50 (int_at old i) = small i (pos 0) lt in
      let others : IsWithin 50 (int_at other i) = others_small i (pos 0) (omega (arith, lt, sized)) in
      rw (passed_word (int_at old i) (omega (arith, own)), passed_word (int_at other i) (omega (arith, others))) at is

  pub divisor_more : (i d g : ℕ) (e number : ℤ) → i < length old → number ≡ p *ℤ int_at old i -ℤ t *ℤ int_at other i
      → IsGcd d (unsigned_abs (as_passed number)) (unsigned_abs e) → IsFit e → IsGcdWith (unsigned_abs (as_passed e)) (drop (i + 1) (combined p old t other)) g
      → IsGcdWith d (drop i (combined p old t other)) g
  divisor_more i d g e number lt is h e_fits rest =
      let here = is ∙ sym (at-combined p t old other i lt (omega (arith, sized))) in
      row_gcd_step (combined p old t other) i d e (omega (arith, lt, length-combined p t old other (omega (arith, sized)))) combined_fits (rw here at h) e_fits g rest

pub divisor_is : (row : List ℤ) (d : ℤ) → pos 0 ≤ℤ d → IsRowGcd row (unsigned_abs d) → d ≡ pos (common row)
divisor_is row d above h = size_of_positive d above ∙ ap pos (same_row_gcd row (unsigned_abs d) (common row) h (common_is row))

pub divisor_is_one : (row : List ℤ) → IsRowGcd row 1 → pos 1 ≡ pos (common row)
divisor_is_one row h = ap pos (same_row_gcd row 1 (common row) h (common_is row))

pub no_divisor : (row : List ℤ) (g : ℕ) → IsGcdWith 0 (drop 0 row) g → IsRowGcd row g
no_divisor row g h = from_zero row g h
