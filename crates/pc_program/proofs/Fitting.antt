-- The multipliers of a solved program fit.
use Rattle.std.proofs.Common.{◌<◌, ◌^◌, ℕ, List, replicate, set, arith}
use Rattle.std.specs.Prelude.{ℤ, pos, negsuc, nat_abs, All}
use Rattle.std.proofs.lemmas.Int.{ints}
use Rattle.std.proofs.lemmas.List.Elements.{All-from_get_or, All-set, All-replicate}
use Rattle.pc_program_bound.specs.declared.program.Program.{Program}
use Rattle.pc_program_bound.specs.Sums.{int_at}
use Rattle.pc_program_bound.specs.Allocation.{constraints_of}
use Rattle.pc_program_bound.specs.Bound.{IsFit}
use Rattle.pc_program.specs.Settled.{AreSettled}

fit_small : (z : ℤ) → nat_abs z < 2 ^ 87 → IsFit z
fit_small z small = omega (arith, ints, small)

pub fit_settled : (p : Program) (counts : List ℕ) (multipliers : List ℤ) → AreSettled p counts multipliers (constraints_of p) → All IsFit multipliers
fit_settled p counts multipliers settled =
    All-from_get_or IsFit multipliers (pos 0) (λ i h. fit_small (int_at multipliers i) (let long = settled.long in (settled.done i (omega (arith, h, long))).small))

pub fit_minus_one : (n place : ℕ) → All IsFit (set (replicate n (pos 0)) place (negsuc 0))
fit_minus_one n place = All-set IsFit (replicate n (pos 0)) place (negsuc 0) (omega (arith, ints)) (All-replicate IsFit n (pos 0) (omega (arith, ints)))
