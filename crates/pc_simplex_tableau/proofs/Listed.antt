-- Lists of what a function gives, place by place.
use Rattle.std.proofs.Common.{◌≡◌, ℕ, zero, suc, ◌<◌, [], ◌∷◌, length, refl, ap, sym, ◌∙◌, arith}
use Rattle.std.specs.Prelude.{slice_index_or}
use Rattle.std.proofs.lemmas.List.{length_push, get_or_push, get_or_append_left}
use Rattle.pc_simplex_tableau.specs.Numbers.{table}
use Rattle.pc_simplex_tableau.proofs.Pivots.{by_same}

pub length-table : {X : Type 0} (n : ℕ) (f : ℕ → X) → length (table n f) ≡ n
unfolding table
length-table zero f = refl
length-table (suc n) f = let before = length-table n f in let one = length_push (table n f) (f n) in omega (arith, before, one)

pub at-table : {X : Type 0} (n : ℕ) (f : ℕ → X) (k : ℕ) (other : X) → k < n → slice_index_or (table n f) k other ≡ f k
unfolding table
at-table zero f k other lt = absurd (omega (arith, lt))
at-table (suc n) f k other lt = by_same k n
    (λ e. get_or_push (table n f) (f n) other k (length-table n f ∙ sym e) ∙ ap f (sym e))
    (λ ne. get_or_append_left (table n f) (f n ∷ []) other k (less ne) ∙ at-table n f k other (omega (arith, lt, ne)))
  where
    less : (k ≡ n → ⊥) → k < length (table n f)
    less ne = let long = length-table n f in omega (arith, lt, ne, long)
