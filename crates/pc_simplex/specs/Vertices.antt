-- What is known of the point in which the steps of a box end.
use Rattle.std.specs.Prelude.{◌≡◌, ◌<◌, ℕ, pos, nat_abs, ◌*ℤ◌, ◌≤ℤ◌, List, length, slice_index_or, All}
use Rattle.std.specs.Int.{IsGcd}
use Rattle.pc_num.specs.declared.Frac.{Frac}
use Rattle.pc_model.specs.declared.tree.Mult.{Mult}
use Rattle.pc_program_bound.specs.declared.program.Program.{Program}
use Rattle.pc_program_bound.specs.Sums.{nat_at}
use Rattle.pc_program_bound.specs.Allocation.{cells_of, worth, IsRelaxed}
use Rattle.pc_program_bound.specs.Bound.{raw_bound, IsFit, IsMultiplier, IsVoid}
use Rattle.pc_simplex_tableau.specs.Point.{Relaxation, vertex, void, wide, stalled, no_count}

-- the count of a cell
abbrev pub count_at : List Frac → ℕ → Frac
count_at point i = slice_index_or point i no_count

-- a point of reduced fractions, and multipliers: over one denominator the counts are a relaxed allocation, and its worth is the
-- bound of the multipliers before that is rounded, so that no other is worth more
pub record IsVertex (p : Program) (floors caps : List ℕ) (point : List Frac) (mult : Mult) : Type 0 where
  pub by : IsMultiplier p mult
  pub den : ℕ
  pub counts : List ℕ
  pub relaxed : IsRelaxed p floors caps den counts
  pub greatest : mult.den *ℤ worth p counts ≡ pos den *ℤ raw_bound p floors caps mult
  pub sized : length point ≡ cells_of p
  pub positive : (i : ℕ) → pos 1 ≤ℤ (count_at point i).den
  pub reduced : (i : ℕ) → i < cells_of p → IsGcd (nat_abs (count_at point i).num) (nat_abs (count_at point i).den) 1
  pub counted : (i : ℕ) → i < cells_of p → (count_at point i).num *ℤ pos den ≡ pos (nat_at counts i) *ℤ (count_at point i).den

-- what an answer shows of its box
abbrev pub IsShown : Program → List ℕ → List ℕ → Relaxation → Type 0
IsShown p floors caps (vertex point mult) = IsVertex p floors caps point mult
IsShown p floors caps (void mult) = IsVoid p floors caps mult
IsShown p floors caps (wide steps) = Unit {0}
IsShown p floors caps (stalled steps) = Unit {0}

-- no relaxed allocation of the box is worth more than the point of a vertex, and a void box has none
abbrev pub IsGreatest : Program → List ℕ → List ℕ → Relaxation → Type 0
IsGreatest p floors caps (vertex point mult) = (v : IsVertex p floors caps point mult) (den : ℕ) (counts : List ℕ) → IsRelaxed p floors caps den counts
    → (worth p counts *ℤ pos v.den) ≤ℤ (worth p v.counts *ℤ pos den)
IsGreatest p floors caps (void mult) = (den : ℕ) (counts : List ℕ) → IsRelaxed p floors caps den counts → ⊥
IsGreatest p floors caps (wide steps) = Unit {0}
IsGreatest p floors caps (stalled steps) = Unit {0}

-- the multipliers and their denominator fit
abbrev pub IsFitMult : Mult → Type 0
IsFitMult mult = All IsFit mult.by × IsFit mult.den

-- the multipliers of an answer fit, where it has some
abbrev pub AreFitMultipliers : Relaxation → Type 0
AreFitMultipliers (vertex point mult) = IsFitMult mult
AreFitMultipliers (void mult) = IsFitMult mult
AreFitMultipliers (wide steps) = Unit {0}
AreFitMultipliers (stalled steps) = Unit {0}
