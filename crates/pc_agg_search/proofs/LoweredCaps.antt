-- A program with lower caps keeps its form, its small gains, and that its constraints are nested.
use Rattle.std.proofs.Common.{◌≡◌, ℕ, ◌<◌, ◌≤◌, ◌*◌, List, length, arith}
use Rattle.std.specs.Prelude.{pos, nat_abs, ◌*ℤ◌, ◌≤ℤ◌}
use Rattle.std.proofs.Math.Nat.{mul-le-mul_left}
use Rattle.std.proofs.lemmas.Int.{ints}
use Rattle.pc_program_bound.specs.declared.program.Program.{Program}
use Rattle.pc_program_bound.specs.Sums.{nat_at, int_at}
use Rattle.pc_program_bound.specs.Allocation.{cells_of, IsProgram}
use Rattle.pc_program_bound.proofs.SumBelow.{sum_below_mono}
use Rattle.pc_branch.specs.Ends.{HasSmallGains}
use Rattle.pc_branch.specs.Outcome.{IsEasyProgram}

product_less : (g a b : ℕ) → a ≤ b → (pos g *ℤ pos a) ≤ℤ (pos g *ℤ pos b)
product_less g a b less =
    let more : g * a ≤ g * b = mul-le-mul_left g less in
    omega (arith, ints, more)

module _ (p : Program) (caps : List ℕ) (lower : (i : ℕ) → i < cells_of p → nat_at caps i ≤ nat_at p.cap i) where
  abbrev lowered : Program
  lowered = record p { cap = caps }

  pub lowered_program : IsProgram p → length caps ≡ cells_of p → ((i : ℕ) → i < cells_of p → nat_at p.floor i ≤ nat_at caps i) → IsProgram lowered
  lowered_program program sized above = record {
    mosts = program.mosts;
    floors = program.floors;
    caps = sized;
    gains = program.gains;
    few = program.few;
    ordered = program.ordered;
    boxed = above;
    small_most = program.small_most;
    small_cap = λ i h. let less = lower i h in let small = program.small_cap i h in omega (arith, less, small);
  }

  pub lowered_small : HasSmallGains p → HasSmallGains lowered
  lowered_small small =
      let less = sum_below_mono (cells_of p) (λ i. pos (nat_abs (int_at p.gain i)) *ℤ pos (nat_at caps i)) (λ i. pos (nat_abs (int_at p.gain i)) *ℤ pos (nat_at p.cap i))
      (λ i h. product_less (nat_abs (int_at p.gain i)) (nat_at caps i) (nat_at p.cap i) (lower i h)) in
      let whole = small.sum in
      record { gains = small.gains; sum = omega (arith, ints, less, whole) }

  pub lowered_easy : IsEasyProgram p → IsEasyProgram lowered
  lowered_easy easy = record { pairs = easy.pairs; small = easy.small; few = easy.few }
