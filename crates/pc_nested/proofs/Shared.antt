-- Constraints that share no cell are nested, and the conditions one by one.
use Rattle.std.proofs.Common.{◌≡◌, ℕ, ◌<◌, ◌≤◌, ◌^◌, length, true, inl, inr, subst, arith}
use Rattle.std.specs.Prelude.{nat_abs}
use Rattle.std.proofs.lemmas.Bool.{cases_eq}
use Rattle.pc_program_bound.specs.declared.program.Program.{Program}
use Rattle.pc_program_bound.specs.Sums.{int_at}
use Rattle.pc_program_bound.specs.Allocation.{cells_of, IsProgram}
use Rattle.pc_program.specs.Settled.{is_in, HasOneBits}
use Rattle.pc_nested.specs.Nested.{AreNestedPair, AreNestedPairs, IsNested}

pub IsNested-one_bits : (p : Program) → HasOneBits p → IsNested p
IsNested-one_bits p bits = record {
  pairs = λ j k first second. pair j k;
  small = bits.small;
  few = bits.few;
}
  where
    pair : (j k : ℕ) → AreNestedPair p j k
    pair j k = elim (cases_eq j k) [
      | inl e ↦ inr (inl (λ i h member. subst (λ n. is_in p i n ≡ true) e member))
      | inr other ↦ inl (λ i h one two. other (bits.only i j k h one two))
    ]

pub IsNested-from : (p : Program) → IsProgram p → cells_of p ≤ 40 → ((i : ℕ) → i < length p.gain → nat_abs (int_at p.gain i) < 2 ^ 87) → AreNestedPairs p → IsNested p
IsNested-from p program few small pairs = record {
  pairs = pairs;
  small = λ i h. let long = program.gains in small i (omega (arith, h, long));
  few = few;
}

pub small_gains : (p : Program) → IsProgram p → IsNested p → (i : ℕ) → i < length p.gain → nat_abs (int_at p.gain i) < 2 ^ 87
small_gains p program nested i h = let long = program.gains in nested.small i (omega (arith, h, long))

pub ruleset one_bits = (IsNested-one_bits)

pub ruleset conditions = (IsNested-from, small_gains)
