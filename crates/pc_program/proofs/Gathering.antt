-- One cell more among the first two of each constraint.
use Rattle.std.proofs.Common.{◌≡◌, ℕ, zero, suc, ◌+◌, ◌<◌, ◌≤◌, ◌^◌, ◌==◌, true, false, List, length, replicate, set, Option, Some, None, inl, inr, refl, ap, sym, subst, ◌∙◌, true≢false, arith}
use Rattle.std.specs.Int.{w32}
use Rattle.std.specs.Int.Count.{count_trailing_zeros}
use Rattle.std.proofs.lemmas.Bool.{cases_eq}
use Rattle.std.proofs.lemmas.Nat.Bits.{bit_at-trailing_zeros, bit_at-zero}
use Rattle.std.proofs.lemmas.List.{length-replicate, get_or-replicate, get_or-set_same, get_or-set_other, length-set}
use Rattle.pc_program_bound.specs.declared.program.Program.{Program}
use Rattle.pc_model.specs.Places.{has_bit}
use Rattle.pc_program_bound.specs.Sums.{nat_at}
use Rattle.pc_program_bound.specs.Allocation.{cells_of, constraints_of}
use Rattle.pc_program.specs.declared.members.Members.{Members}
use Rattle.pc_program.specs.Settled.{is_in, HasOneBits, HasNoneIn, IsFirstIn}
use Rattle.pc_program.specs.Gathered.{IsNextIn, place_after, AreFirstTwo, no_members, members_at, AreGathered, placed, with_cell}
use Rattle.pc_program.proofs.AllSettled.{out_of_other}

pub lowest_is_set : (mask : ℕ) → 0 < mask → mask < 2 ^ 32 → has_bit mask (count_trailing_zeros 32 mask) ≡ true
lowest_is_set mask some fits = ap (λ bit. bit == 1) (bit_at-trailing_zeros w32 mask some fits).1

pub gathered_none : (p : Program) → AreGathered p (replicate (constraints_of p) no_members) 0
gathered_none p = record {
  sized = length-replicate (constraints_of p) no_members;
  each = λ k inside. subst (AreFirstTwo p k 0) (sym (get_or-replicate (constraints_of p) k no_members no_members inside)) (record { first = λ j past before. absurd (omega arith); second = λ j past before. absurd (omega arith) });
}

module _ (p : Program) (cell k : ℕ) where
  -- a cell that is not in the constraint changes nothing
  none_kept : (from : ℕ) → is_in p cell k ≡ false → HasNoneIn p k from cell → HasNoneIn p k from (cell + 1)
  none_kept from out none j past before = elim (cases_eq j cell) [
    | inl e ↦ rw e out
    | inr other ↦ none j past (omega arith)
  ]

  first_kept : (from i : ℕ) → IsFirstIn p k from cell i → IsFirstIn p k from (cell + 1) i
  first_kept from i found = record { past = found.past; there = omega (arith, found.there); member = found.member; before = found.before }

  next_kept : (from : ℕ) (found : Option ℕ) → is_in p cell k ≡ false → IsNextIn p k from cell found → IsNextIn p k from (cell + 1) found
  next_kept from None out next = none_kept from out next
  next_kept from (Some i) out next = first_kept from i next

  -- nothing is to be found after the last place
  second_moved : (second : Option ℕ) → IsNextIn p k cell cell second → IsNextIn p k (cell + 1) (cell + 1) second
  second_moved None next = λ j past before. absurd (omega arith)
  second_moved (Some i) next = absurd (omega (arith, next.past, next.there))

  two_kept : (first second : Option ℕ) → is_in p cell k ≡ false → IsNextIn p k 0 cell first → IsNextIn p k (place_after first cell) cell second →
      AreFirstTwo p k (cell + 1) (record { first = first; second = second })
  two_kept None second out a b = record { first = next_kept 0 None out a; second = second_moved second b }
  two_kept (Some i) second out a b = record { first = next_kept 0 (Some i) out a; second = next_kept (i + 1) second out b }

  -- a cell that is in the constraint is the next one
  own_next : (from : ℕ) → from ≤ cell → is_in p cell k ≡ true → HasNoneIn p k from cell → IsFirstIn p k from (cell + 1) cell
  own_next from past inside none = record { past = past; there = omega arith; member = inside; before = none }

  two_placed : (first second : Option ℕ) → is_in p cell k ≡ true → IsNextIn p k 0 cell first → IsNextIn p k (place_after first cell) cell second →
      AreFirstTwo p k (cell + 1) (placed first second cell)
  two_placed None second inside a b = record { first = own_next 0 (omega arith) inside a; second = second_moved second b }
  two_placed (Some i) None inside a b = record { first = first_kept 0 i a; second = own_next (i + 1) (omega (arith, a.there)) inside b }
  two_placed (Some i) (Some j) inside a b = record { first = first_kept 0 i a; second = first_kept (i + 1) j b }

-- the constraint of a cell is that of its lowest bit
pub mask_some : (p : Program) (cell : ℕ) → HasOneBits p → cell < cells_of p → 0 < nat_at p.masks cell
mask_some p cell one_bits there = by_size (nat_at p.masks cell) refl
  where
    by_size : (mask : ℕ) → nat_at p.masks cell ≡ mask → 0 < nat_at p.masks cell
    by_size zero e = let bit = one_bits.bit_of cell there in absurd (true≢false (sym bit.2 ∙ ap (λ mask. has_bit mask bit.0) e ∙ ap (λ x. x == 1) (bit_at-zero bit.0)))
    by_size (suc n) e = omega (arith, e)

pub bit_inside : (p : Program) (cell k : ℕ) → HasOneBits p → cell < cells_of p → is_in p cell k ≡ true → k < constraints_of p
bit_inside p cell k one_bits there inside =
    let bit = one_bits.bit_of cell there in
    subst (λ x. x < constraints_of p) (one_bits.only cell bit.0 k there bit.2 inside) bit.1

pub gathered_more : (p : Program) (found : List Members) (cell k : ℕ) → HasOneBits p → cell < cells_of p → is_in p cell k ≡ true → AreGathered p found cell →
    AreGathered p (set found k (with_cell (members_at found k) cell)) (cell + 1)
gathered_more p found cell k one_bits there inside before = record {
  sized = length-set found k (with_cell (members_at found k) cell) ∙ before.sized;
  each = λ other in_all. elim (cases_eq other k) [
    | inl e ↦
        let there_k : k < length found = omega (arith, before.sized, e) in
        rw e (rw (get_or-set_same found k (with_cell (members_at found k) cell) no_members there_k) (two_placed p cell k (members_at found k).first (members_at found k).second inside (before.each k (rw (sym e) in_all)).first (before.each k (rw (sym e) in_all)).second))
    | inr apart ↦
        let out = out_of_other p cell other k one_bits there apart inside in
        rw (get_or-set_other found k other (with_cell (members_at found k) cell) no_members apart) (two_kept p cell other (members_at found other).first (members_at found other).second out (before.each other in_all).first (before.each other in_all).second)
  ];
}
