-- Bits of a mask of 32, and the conditions of a program one by one.
use Rattle.std.proofs.Common.{◌≡◌, ℕ, ◌+◌, ◌<◌, ◌≤◌, ◌^◌, ◌==◌, length, false, inl, inr, ap, subst, arith}
use Rattle.std.specs.Prelude.{nat_abs}
use Rattle.std.proofs.lemmas.Bool.{cases_lt}
use Rattle.std.proofs.lemmas.Nat.Bits.{bit_at_above}
use Rattle.pc_model.specs.Places.{has_bit}
use Rattle.pc_program_bound.specs.declared.program.Program.{Program}
use Rattle.pc_program_bound.specs.Sums.{nat_at, int_at}
use Rattle.pc_program_bound.specs.Allocation.{cells_of, constraints_of, IsProgram}
use Rattle.pc_program.specs.Settled.{HasOneBits}
use Rattle.pc_program.specs.Conditions.{HasOneBit, HasAtMostTwo}

-- a mask of 32 bits has none from there on
pub no_bit_above : (mask j : ℕ) → mask < 2 ^ 32 → 32 ≤ j → has_bit mask j ≡ false
no_bit_above mask j small above = ap (λ x. x == 1) (bit_at_above mask 32 j small above)

-- what holds below a place, and at it
pub one_more : (P : ℕ → Type 0) (n : ℕ) → ((i : ℕ) → i < n → P i) → P n → (i : ℕ) → i < n + 1 → P i
one_more P n before last i h = elim (cases_lt i n) [ inl below ↦ before i below | inr above ↦ subst P (omega (arith, h, above)) last ]

-- the conditions together
pub HasOneBits-from : (p : Program) → IsProgram p → cells_of p ≤ 40 → ((i : ℕ) → i < cells_of p → HasOneBit (nat_at p.masks i) (constraints_of p))
    → ((i : ℕ) → i < length p.floor → nat_at p.floor i ≡ 0) → ((i : ℕ) → i < length p.gain → nat_abs (int_at p.gain i) < 2 ^ 87)
    → ((k : ℕ) → k < constraints_of p → HasAtMostTwo p k) → HasOneBits p
HasOneBits-from p program few bits floors small twos = record {
  bit_of = λ i h. (bits i h).bit_of;
  only = λ i j k h. (bits i h).only j k;
  two = λ h i j k first second there a b c.
      let bit = (bits j there).bit_of in
      let same : bit.0 ≡ k = (bits j there).only bit.0 k bit.2 c in
      twos k (subst (λ x. x < constraints_of p) same bit.1) h i j first second there a b c;
  floors = λ i h. floors i (omega (arith, h, program.floors));
  small = λ i h. small i (omega (arith, h, program.gains));
  few = few;
}

-- and apart
pub HasOneBit-of : (p : Program) → HasOneBits p → (i : ℕ) → i < cells_of p → HasOneBit (nat_at p.masks i) (constraints_of p)
HasOneBit-of p bits i h = record { bit_of = bits.bit_of i h; only = λ j k. bits.only i j k h }

pub HasAtMostTwo-of : (p : Program) → HasOneBits p → (k : ℕ) → HasAtMostTwo p k
HasAtMostTwo-of p bits k h i j first second there a b c = bits.two h i j k first second there a b c
