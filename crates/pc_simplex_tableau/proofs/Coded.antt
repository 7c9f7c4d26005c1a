-- A row that is combined with another, place by place.
use Rattle.std.proofs.Common.{◌≡◌, ◌≤◌, ◌<◌, ◌^◌, ◌+◌, ◌&&◌, ℕ, zero, suc, ℤ, ◌-ℤ◌, ◌*ℤ◌, Bool, true, false, List, [], ◌∷◌, ◌++◌, length, get_or, set, take, drop, All, Option, Some, None, SomeIff, nat_abs, arith, refl, ap, ◌∙◌, sym, add-one, append-nil, ltb-true, lt-ltb, take_all}
use Rattle.std.proofs.lemmas.List.{drop_all}
use Rattle.std.proofs.lemmas.List.Elements.{All-set}
use Rattle.pc_program_bound.specs.Bound.{IsFit}
use Rattle.pc_simplex_tableau.specs.Numbers.{combined, does_combined_fit, does_fit}

-- a difference of products, where both products fit
abbrev pub AreFitAt : ℤ → ℤ → Type 0
AreFitAt x y = IsFit x × IsFit y × IsFit (x -ℤ y)

pub mixed_is : (own others x y : ℤ) (found : Option ℤ) → IsFit x → own ≡ x → IsFit y → others ≡ y → SomeIff found (IsFit (own -ℤ others)) (own -ℤ others)
    → SomeIff found (AreFitAt x y) (x -ℤ y)
mixed_is own others x y None x_fits e y_fits f h = let k = rw (e, f) at h in λ p. k p.2
mixed_is own others x y (Some z) x_fits e y_fits f h = let k = rw (e, f) at h in ((x_fits, y_fits, k.0), k.1)

-- ---- whether the numbers of a place fit
pub fits-true : (x : ℤ) → IsFit x → does_fit x ≡ true
fits-true x h = lt-ltb (nat_abs x) (2 ^ 127) h

pub true-fits : (x : ℤ) → does_fit x ≡ true → IsFit x
true-fits x h = ltb-true (nat_abs x) (2 ^ 127) h

all_of : (a b c rest : Bool) → a ≡ true → b ≡ true → c ≡ true → (a && b && c && rest) ≡ rest
all_of a b c rest e f g = rw (e, f, g) refl

one_missing : (a b c rest : Bool) → (a ≡ true → b ≡ true → c ≡ true → ⊥) → (a && b && c && rest) ≡ false
one_missing false b c rest h = refl
one_missing true false c rest h = refl
one_missing true true false rest h = refl
one_missing true true true rest h = absurd (h refl refl refl)

abbrev does_place_fit : ℤ → ℤ → Bool → Bool
does_place_fit x y rest = does_fit x && does_fit y && does_fit (x -ℤ y) && rest

place_fits : (x y : ℤ) (rest : Bool) → AreFitAt x y → does_place_fit x y rest ≡ rest
place_fits x y rest h = all_of _ _ _ rest (fits-true x h.0) (fits-true y h.1) (fits-true (x -ℤ y) h.2)

place_unfit : (x y : ℤ) (rest : Bool) → (AreFitAt x y → ⊥) → does_place_fit x y rest ≡ false
place_unfit x y rest h = one_missing _ _ _ rest (λ a b c. h (true-fits x a, true-fits y b, true-fits (x -ℤ y) c))

-- ---- a place further
module _ (p t : ℤ) where
  does_fit_more : (old other : List ℤ) (i : ℕ) (x y : ℤ) → i < length old → i < length other →
      does_combined_fit p (drop i old) t (drop i other) ≡ does_place_fit (p *ℤ get_or old i x) (t *ℤ get_or other i y) (does_combined_fit p (drop (suc i) old) t (drop (suc i) other))
  unfolding does_combined_fit
  does_fit_more [] other i x y h k = absurd (omega arith)
  does_fit_more (a ∷ old) [] i x y h k = absurd (omega arith)
  does_fit_more (a ∷ old) (b ∷ other) zero x y h k = refl
  does_fit_more (a ∷ old) (b ∷ other) (suc i) x y h k = does_fit_more old other i x y (omega arith) (omega arith)

  abbrev so_far : List ℤ → List ℤ → ℕ → List ℤ
  so_far old other i = combined p (take i old) t (take i other) ++ drop i old

  set_combined : (old other : List ℤ) (i : ℕ) (x y : ℤ) → i < length old → i < length other →
      set (so_far old other i) i (p *ℤ get_or old i x -ℤ t *ℤ get_or other i y) ≡ so_far old other (suc i)
  unfolding combined
  set_combined [] other i x y h k = absurd (omega arith)
  set_combined (a ∷ old) [] i x y h k = absurd (omega arith)
  set_combined (a ∷ old) (b ∷ other) zero x y h k = refl
  set_combined (a ∷ old) (b ∷ other) (suc i) x y h k = ap (λ row. (p *ℤ a -ℤ t *ℤ b) ∷ row) (set_combined old other i x y (omega arith) (omega arith))

  read_old : (old other : List ℤ) (i : ℕ) (x : ℤ) → i < length old → i < length other → get_or (so_far old other i) i x ≡ get_or old i x
  unfolding combined
  read_old [] other i x h k = absurd (omega arith)
  read_old (a ∷ old) [] i x h k = absurd (omega arith)
  read_old (a ∷ old) (b ∷ other) zero x h k = refl
  read_old (a ∷ old) (b ∷ other) (suc i) x h k = read_old old other i x (omega arith) (omega arith)

  none_fit : (other : List ℤ) → does_combined_fit p [] t other ≡ true
  unfolding does_combined_fit
  none_fit other = refl

  none_combined : (other row : List ℤ) → combined p [] t other ++ row ≡ row
  unfolding combined
  none_combined other row = refl

-- ---- the loop

-- the numbers before place i are combined, and those from there decide whether all fit
pub record IsCombinedTo (p t : ℤ) (old other row : List ℤ) (i : ℕ) : Type 0 where
  pub decides : does_combined_fit p old t other ≡ does_combined_fit p (drop i old) t (drop i other)
  pub made : row ≡ combined p (take i old) t (take i other) ++ drop i old
  pub fits : All IsFit row

module _ (p t : ℤ) (old other : List ℤ) where
  pub combined_start : All IsFit old → IsCombinedTo p t old other old 0
  combined_start h = record { decides = refl; made = sym (none_combined p t [] old); fits = h }

  module _ (row : List ℤ) (i : ℕ) (x y : ℤ) (within : i < length old) (sized : length old ≡ length other) (h : IsCombinedTo p t old other row i) where
    pub read_row : get_or row i x ≡ get_or old i x
    read_row = ap (λ l. get_or l i x) h.made ∙ read_old p t old other i x within (omega arith)

    pub combined_more : (z : ℤ) → AreFitAt (p *ℤ get_or row i x) (t *ℤ get_or other i y) → z ≡ p *ℤ get_or row i x -ℤ t *ℤ get_or other i y →
        IsCombinedTo p t old other (set row i z) (i + 1)
    combined_more z fit e =
        let fits = rw read_row at fit in
        let value : z ≡ p *ℤ get_or old i x -ℤ t *ℤ get_or other i y = rw read_row at e in
        record {
          decides = rw add-one (h.decides ∙ does_fit_more p t old other i x y within (omega arith) ∙ place_fits (p *ℤ get_or old i x) (t *ℤ get_or other i y) _ fits);
          made = rw (add-one, h.made, value) (set_combined p t old other i x y within (omega arith));
          fits = All-set IsFit row i z (rw value fits.2) h.fits;
        }

    pub combined_stops : (AreFitAt (p *ℤ get_or row i x) (t *ℤ get_or other i y) → ⊥) → does_combined_fit p old t other ≡ false
    combined_stops unfit =
        let unfits = rw read_row at unfit in
        h.decides ∙ does_fit_more p t old other i x y within (omega arith)
        ∙ place_unfit (p *ℤ get_or old i x) (t *ℤ get_or other i y) (does_combined_fit p (drop (suc i) old) t (drop (suc i) other)) unfits

  pub combined_end : (row : List ℤ) (i : ℕ) → length old ≤ i → length old ≡ length other → IsCombinedTo p t old other row i →
      (does_combined_fit p old t other ≡ true) × (row ≡ combined p old t other)
  combined_end row i past sized h = (
    rw (drop_all i old past) at h.decides ∙ none_fit p t (drop i other),
    h.made ∙ rw (take_all i old past, take_all i other (omega arith), drop_all i old past) (append-nil (combined p old t other)),
  )
