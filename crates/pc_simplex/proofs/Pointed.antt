-- The counts of a point, one cell after the other.
use Rattle.std.proofs.Common.{◌≡◌, ℕ, ◌+◌, ◌<◌, List, [], ◌∷◌, ◌++◌, length, refl, sym, subst, ◌∙◌, arith, inl, inr}
use Rattle.std.proofs.lemmas.Bool.{cases_lt}
use Rattle.std.proofs.lemmas.List.{length_push, get_or_push, get_or_append_left}
use Rattle.pc_num.specs.declared.Frac.{Frac}
use Rattle.pc_program_bound.specs.declared.program.Program.{Program}
use Rattle.pc_program_bound.specs.Allocation.{cells_of}
use Rattle.pc_simplex_tableau.specs.Tableau.{Tableau}
use Rattle.pc_simplex_tableau.specs.Point.{no_count, IsCount, IsFitCount}
use Rattle.pc_simplex.specs.Vertices.{count_at}
use Rattle.pc_simplex.specs.Counts.{IsFitPoint}

-- the counts of the first n cells
pub record AreCounts (p : Program) (floors caps : List ℕ) (t : Tableau) (n : ℕ) (point : List Frac) : Type 0 where
  pub sized : length point ≡ n
  pub each : (i : ℕ) → i < n → IsCount p floors caps t i (count_at point i) × IsFitCount (count_at point i)

module _ (p : Program) (floors caps : List ℕ) (t : Tableau) where
  pub no_counts : AreCounts p floors caps t 0 []
  no_counts = record { sized = refl; each = λ i lt. absurd (omega (arith, lt)) }

  pub more_counts : (n : ℕ) (point : List Frac) (count : Frac) → AreCounts p floors caps t n point → IsCount p floors caps t n count × IsFitCount count
      → AreCounts p floors caps t (n + 1) (point ++ count ∷ [])
  more_counts n point count before own = record {
    sized = let one = length_push point count in let long = before.sized in omega (arith, one, long);
    each = λ i lt. elim (cases_lt i n) [
      | inl less ↦ subst (Holds i) (sym (get_or_append_left point (count ∷ []) no_count i (let long = before.sized in omega (arith, less, long)))) (before.each i less)
      | inr last ↦ let same : n ≡ i = omega (arith, lt, last) in
          subst (Holds i) (sym (get_or_push point count no_count i (before.sized ∙ same))) (subst (λ k. Holds k count) same own)
    ];
  }
    where
      Holds : ℕ → Frac → Type 0
      Holds i count = IsCount p floors caps t i count × IsFitCount count

  pub all_counts : (n : ℕ) (point : List Frac) → AreCounts p floors caps t n point → n ≡ cells_of p → IsFitPoint p floors caps t point
  all_counts n point are same = record {
    point_of = record { sized = are.sized ∙ same; counts = λ i lt. (are.each i (omega (arith, lt, same))).0 };
    counts = λ i lt. (are.each i (omega (arith, lt, same))).1;
  }
