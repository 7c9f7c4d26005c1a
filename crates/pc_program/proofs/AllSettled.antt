-- The constraints are settled one after another: what one leaves to the others stays.
use Rattle.std.proofs.Common.{◌≡◌, ◌≢◌, ℕ, ◌+◌, ◌<◌, Bool, true, false, cond, inl, inr, List, [], ◌∷◌, ◌++◌, length, replicate, refl, ap, sym, ◌∙◌, arith}
use Rattle.std.specs.Prelude.{ℤ, pos}
use Rattle.std.proofs.lemmas.Bool.{cases_eq}
use Rattle.std.proofs.lemmas.List.{length_push, get_or_push, get_or_append_left, length-replicate}
use Rattle.pc_program_bound.specs.declared.program.Program.{Program}
use Rattle.pc_program_bound.specs.Sums.{nat_at, int_at}
use Rattle.pc_program_bound.specs.Allocation.{cells_of, count_for, total}
use Rattle.pc_program_bound.proofs.SumBelow.{sum_below-same}
use Rattle.pc_program.specs.Settled.{is_in, HasOneBits, IsDone, IsSettled, AreSettled}

-- a cell of one constraint is in no other
pub out_of_other : (p : Program) (i j k : ℕ) → HasOneBits p → i < cells_of p → j ≢ k → is_in p i k ≡ true → is_in p i j ≡ false
out_of_other p i j k one_bits there apart member = by_test (is_in p i j) refl
  where
    by_test : (test : Bool) → is_in p i j ≡ test → is_in p i j ≡ false
    by_test true e = absurd (apart (one_bits.only i j k there e member))
    by_test false e = e

-- a constraint is done as long as its cells keep their counts
IsDone-kept : (p : Program) (before after : List ℕ) (by : ℤ) (k : ℕ) → ((i : ℕ) → i < cells_of p → is_in p i k ≡ true → nat_at after i ≡ nat_at before i)
    → IsDone p before by k → IsDone p after by k
IsDone-kept p before after by k same done =
    let one = λ (i : ℕ) (h : i < cells_of p). count-same i h (is_in p i k) refl in
    let all : total p after k ≡ total p before k = sum_below-same (cells_of p) (count_for p after k) (count_for p before k) one in
    record {
      inside = λ i h member. rw (same i h member) (done.inside i h member);
      reached = λ i h member. rw (same i h member) (done.reached i h member);
      enough = rw all done.enough;
      not_more = rw all done.not_more;
      total_reached = rw all done.total_reached;
      small = done.small;
    }
  where
    count-same : (i : ℕ) → i < cells_of p → (test : Bool) → is_in p i k ≡ test → count_for p after k i ≡ count_for p before k i
    count-same i h true e = ap (λ n. cond (is_in p i k) (pos n) (pos 0)) (same i h e)
    count-same i h false e = ap (λ t. cond t (pos (nat_at after i)) (pos 0)) e ∙ sym (ap (λ t. cond t (pos (nat_at before i)) (pos 0)) e)

pub AreSettled-none : (p : Program) → AreSettled p (replicate (cells_of p) 0) [] 0
AreSettled-none p = record {
  sized = length-replicate (cells_of p) 0;
  long = refl;
  done = λ k h. absurd (omega arith);
}

pub AreSettled-more : (p : Program) (before after : List ℕ) (multipliers : List ℤ) (m : ℤ) (n : ℕ) → HasOneBits p → AreSettled p before multipliers n
    → IsSettled p before after m n → AreSettled p after (multipliers ++ m ∷ []) (n + 1)
AreSettled-more p before after multipliers m n one_bits settled step = record {
  sized = step.kept.long ∙ settled.sized;
  long = omega (arith, length_push multipliers m, settled.long);
  done = λ k h. elim (cases_eq k n) [
    | inl e ↦ rw e (rw (get_or_push multipliers m (pos 0) n settled.long) step.done)
    | inr other ↦
        let short : k < length multipliers = omega (arith, settled.long) in
        rw (get_or_append_left multipliers (m ∷ []) (pos 0) k short)
        (IsDone-kept p before after (int_at multipliers k) k
        (λ i there member. step.kept.others i there (out_of_other p i n k one_bits there (λ same. other (sym same)) member))
        (settled.done k (omega arith)))
  ];
}

pub AreSettled-pushed : (p : Program) (before after : List ℕ) (multipliers pushed : List ℤ) (m by : ℤ) (n : ℕ) → HasOneBits p → AreSettled p before multipliers n
    → IsSettled p before after m n → by ≡ m → pushed ≡ multipliers ++ by ∷ [] → AreSettled p after pushed (n + 1)
AreSettled-pushed p before after multipliers pushed m by n one_bits settled step same is = rw (is, same) (AreSettled-more p before after multipliers m n one_bits settled step)

pub ruleset steps = (AreSettled-none, AreSettled-pushed)
