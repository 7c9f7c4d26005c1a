-- All settled constraints make an allocation, and their multipliers prove it the best.
use Rattle.std.proofs.Common.{◌≡◌, ℕ, ◌<◌, true, cond, List, refl, ap, sym, ◌∙◌, arith}
use Rattle.std.specs.Prelude.{ℤ, pos, negsuc, ◌-ℤ◌, ◌*ℤ◌}
use Rattle.std.specs.Int.{int_div_euclid}
use Rattle.std.proofs.lemmas.Int.{ints}
use Rattle.pc_program_bound.specs.declared.program.Program.{Program}
use Rattle.pc_program_bound.specs.Sums.{sum_below, nat_at, int_at}
use Rattle.pc_program_bound.specs.Allocation.{cells_of, constraints_of, total, worth, IsProgram, IsAllocation}
use Rattle.pc_program_bound.specs.Bound.{part_of, rest_of, constraint_share, cell_share, raw_bound, bound_of, IsMultiplier}
use Rattle.pc_program_bound.proofs.SumBelow.{sum_below-same, sum_below-one}
use Rattle.pc_program.specs.declared.solving.Solved.TheVariants.{Best}
use Rattle.pc_program.specs.Solved.{IsSolved}
use Rattle.pc_program.specs.Settled.{is_in, HasOneBits, AreSettled}
use Rattle.pc_program.proofs.AllSettled.{out_of_other}
use Rattle.pc_program.proofs.Void.{mult_of, IsVoid-short}
use Rattle.pc_program.proofs.Widths.{fits-small}
use Rattle.pc_program_bound.proofs.Duality.{worth-shared}

div-one : (z : ℤ) → int_div_euclid z (pos 1) ≡ z
div-one (pos n) = omega (arith, ints)
div-one (negsuc n) = omega (arith, ints)

module _ (p : Program) (counts : List ℕ) (multipliers : List ℤ) (one_bits : HasOneBits p) (settled : AreSettled p counts multipliers (constraints_of p)) where
  pub IsAllocation-settled : IsAllocation p p.floor p.cap counts
  IsAllocation-settled = record {
    sized = settled.sized;
    within = λ i h.
        let bit = one_bits.bit_of i h in
        let floor = one_bits.floors i h in
        let inside = (settled.done bit.0 bit.1).inside i h bit.2 in
        (omega (arith, floor), inside);
    met = λ j h. ((settled.done j h).enough, (settled.done j h).not_more);
  }

  pub IsMultiplier-settled : IsProgram p → IsMultiplier p (mult_of multipliers)
  IsMultiplier-settled program = record {
    sized = settled.long;
    positive = omega (arith, ints);
    wide = fits-small p (mult_of multipliers) program one_bits.few refl
        (λ j h. let small = (settled.done j h).small in omega (arith, small))
        (λ i h. let small = one_bits.small i h in omega (arith, small));
  }

  -- what is left of the gain of a cell of one constraint
  rest-settled : (i k : ℕ) → i < cells_of p → k < constraints_of p → is_in p i k ≡ true
      → rest_of p (mult_of multipliers) i ≡ int_at p.gain i -ℤ int_at multipliers k
  rest-settled i k here there member =
      let given : sum_below (constraints_of p) (part_of p (mult_of multipliers) i) ≡ int_at multipliers k =
      sum_below-one (constraints_of p) k (part_of p (mult_of multipliers) i) there
      (λ j below apart. ap (λ t. cond t (int_at multipliers j) (pos 0)) (out_of_other p i j k one_bits here apart member))
      ∙ ap (λ t. cond t (int_at multipliers k) (pos 0)) member in
      let whole : pos 1 *ℤ int_at p.gain i ≡ int_at p.gain i = omega (arith, ints) in
      ap (λ x. x -ℤ sum_below (constraints_of p) (part_of p (mult_of multipliers) i)) whole ∙ ap (λ x. int_at p.gain i -ℤ x) given

  cell-settled : (i : ℕ) → i < cells_of p → cell_share p p.floor p.cap (mult_of multipliers) i ≡ rest_of p (mult_of multipliers) i *ℤ pos (nat_at counts i)
  cell-settled i h =
      let bit = one_bits.bit_of i h in
      let rest = rest-settled i bit.0 h bit.1 bit.2 in
      let reached = (settled.done bit.0 bit.1).reached i h bit.2 in
      rw (rest, one_bits.floors i h) (sym reached)

  raw-settled : raw_bound p p.floor p.cap (mult_of multipliers) ≡ worth p counts
  raw-settled =
      let left = λ (i : ℕ). rest_of p (mult_of multipliers) i *ℤ pos (nat_at counts i) in
      let taken = λ (j : ℕ). int_at multipliers j *ℤ total p counts j in
      let cells = sum_below-same (cells_of p) (cell_share p p.floor p.cap (mult_of multipliers)) left cell-settled in
      let constraints = sum_below-same (constraints_of p) (constraint_share p (mult_of multipliers)) taken (λ j h. sym (settled.done j h).total_reached) in
      let whole = worth-shared p counts (mult_of multipliers) in
      omega (arith, ints, cells, constraints, whole)

  pub bound-settled : worth p counts ≡ bound_of p p.floor p.cap (mult_of multipliers)
  bound-settled = sym (ap (λ x. int_div_euclid x (pos 1)) raw-settled ∙ div-one (worth p counts))

-- what is settled is solved
pub IsSolved-all : (p : Program) (counts : List ℕ) (multipliers : List ℤ) (value : ℤ) → IsProgram p → HasOneBits p → AreSettled p counts multipliers (constraints_of p)
    → value ≡ worth p counts → IsSolved p (Best counts value (mult_of multipliers))
IsSolved-all p counts multipliers value program one_bits settled is = (
  IsAllocation-settled p counts multipliers one_bits settled,
  is,
  IsMultiplier-settled p counts multipliers one_bits settled program,
  is ∙ bound-settled p counts multipliers one_bits settled,
)

pub ruleset solved = (IsAllocation-settled, IsVoid-short)
