-- Texts whose bytes pass a test end where a byte does not.
use Rattle.std.proofs.Common.{◌≡◌, ℕ, ◌==◌, Bool, true, false, List, [], ◌∷◌, ◌++◌, get_or, drop, refl, sym, ap, ap₂, ◌∙◌, if◌then◌else◌}
use Rattle.std.specs.List.{list_all}
use Rattle.std.proofs.lemmas.Bool.{and_parts, both_ways, eq-eqb}

abbrev pub starts : (ℕ → Bool) → List ℕ → Bool
starts fits [] = false
starts fits (byte ∷ rest) = fits byte

pub same_head : (x y : ℕ) (xs ys : List ℕ) → x ∷ xs ≡ y ∷ ys → x ≡ y
same_head x y xs ys e = ap (λ (bytes : List ℕ). get_or bytes 0 0) e

pub same_tail : (x y : ℕ) (xs ys : List ℕ) → x ∷ xs ≡ y ∷ ys → xs ≡ ys
same_tail x y xs ys e = ap (λ (bytes : List ℕ). drop 1 bytes) e

-- texts with different bytes at a place
pub unlike_at : (n : ℕ) (xs ys : List ℕ) → xs ≡ ys → (get_or xs n 0 == get_or ys n 0) ≡ false → ⊥
unlike_at n xs ys e not_so = both_ways _ not_so (eq-eqb (get_or xs n 0) (get_or ys n 0) (ap (λ (bytes : List ℕ). get_or bytes n 0) e))

pub unlike_starts : (fits : ℕ → Bool) (xs ys : List ℕ) → xs ≡ ys → starts fits xs ≡ false → starts fits ys ≡ true → ⊥
unlike_starts fits xs ys e not_so is = both_ways (starts fits xs) not_so (ap (starts fits) e ∙ is)

pub fronts_equal : (fits : ℕ → Bool) (a b r s : List ℕ) → list_all fits a ≡ true → list_all fits b ≡ true → starts fits r ≡ false → starts fits s ≡ false → a ++ r ≡ b ++ s → (a ≡ b) × (r ≡ s)
fronts_equal fits [] [] r s all others stop end e = (refl, e)
fronts_equal fits [] (y ∷ b) r s all others stop end e =
    absurd (unlike_starts fits r (y ∷ (b ++ s)) e stop (and_parts (fits y) (list_all fits b) others).0)
fronts_equal fits (x ∷ a) [] r s all others stop end e =
    absurd (unlike_starts fits s (x ∷ (a ++ r)) (sym e) end (and_parts (fits x) (list_all fits a) all).0)
fronts_equal fits (x ∷ a) (y ∷ b) r s all others stop end e =
    let first = same_head x y (a ++ r) (b ++ s) e in
    let rest = fronts_equal fits a b r s (and_parts (fits x) (list_all fits a) all).1 (and_parts (fits y) (list_all fits b) others).1 stop end (same_tail x y (a ++ r) (b ++ s) e) in
    (ap₂ (λ (byte : ℕ) (bytes : List ℕ). byte ∷ bytes) first rest.0, rest.1)

-- a text that may be left out
pub starts_unless : (fits : ℕ → Bool) (test : Bool) (text r : List ℕ) → starts fits r ≡ false → starts fits (text ++ r) ≡ false → starts fits ((if test then [] else text) ++ r) ≡ false
starts_unless fits true text r without with' = without
starts_unless fits false text r without with' = with'
