-- Tables that are made by adding one number after the other at the end, and what holds of all their numbers.
use Rattle.std.proofs.Common.{◌≡◌, ℕ, zero, suc, ◌+◌, ◌<◌, List, [], ◌∷◌, ◌++◌, All, refl, sym, arith, add-one, append_assoc, append-nil}
use Rattle.std.proofs.lemmas.List.Elements.{All-nil, All-push}
use Rattle.pc_simplex_tableau.specs.Numbers.{table}

module _ {X : Type 0} where
  pub table-zero : (f : ℕ → X) → table 0 f ≡ []
  unfolding table
  table-zero f = refl

  table-suc : (n : ℕ) (f : ℕ → X) → table (suc n) f ≡ table n f ++ f n ∷ []
  unfolding table
  table-suc n f = refl

  pub table-more : (n : ℕ) (f : ℕ → X) → table (n + 1) f ≡ table n f ++ f n ∷ []
  table-more n f = rw add-one (table-suc n f)

  pub no_table_after : (before : List X) (f : ℕ → X) → before ≡ before ++ table 0 f
  no_table_after before f = rw (table-zero f) (sym (append-nil before))

  pub table_after-more : (before made : List X) (n : ℕ) (f : ℕ → X) (x : X) → made ≡ before ++ table n f → x ≡ f n → made ++ x ∷ [] ≡ before ++ table (n + 1) f
  table_after-more before made n f x e d = rw (e, d, table-more n f) (append_assoc before (table n f) (f n ∷ []))

  pub table_made : (made : List X) (n : ℕ) (f : ℕ → X) (x : X) → made ≡ table n f → x ≡ f n → made ++ x ∷ [] ≡ table (n + 1) f
  table_made made n f x e d = rw (e, d, table-more n f) refl

  pub All-table : (P : X → Type 0) (n : ℕ) (f : ℕ → X) → ((k : ℕ) → k < n → P (f k)) → All P (table n f)
  All-table P zero f each = rw (table-zero f) (All-nil P)
  All-table P (suc n) f each = rw (table-suc n f) (All-push P (table n f) (f n) (All-table P n f (λ k lt. each k (omega arith))) (each n (omega arith)))

pub ruleset table_steps = (table-zero, table-more, no_table_after, table_after-more)
