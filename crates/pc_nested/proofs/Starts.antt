-- The prices before any step is undone.
use Rattle.std.proofs.Common.{◌≡◌, ◌≢◌, ℕ, zero, suc, ◌<◌, ◌≤◌, ◌^◌, inl, inr, cond, List, [], ◌∷◌, set, replicate, refl, ap, sym, ◌∙◌, subst, arith, get_or-set_same, get_or-set_other, length-set}
use Rattle.std.specs.Prelude.{ℤ, pos, nat_abs, All}
use Rattle.std.proofs.lemmas.Int.{ints}
use Rattle.std.proofs.lemmas.Bool.{cases_eq}
use Rattle.std.proofs.lemmas.List.{length-replicate}
use Rattle.std.proofs.lemmas.List.Elements.{All-nil, All-cons, All-weaker}
use Rattle.pc_program_bound.specs.declared.program.Program.{Program}
use Rattle.pc_program_bound.specs.Sums.{sum_below, nat_at, int_at}
use Rattle.pc_program_bound.specs.Allocation.{cells_of, constraints_of}
use Rattle.pc_program_bound.specs.Bound.{part_of, without_gain}
use Rattle.pc_program_bound.proofs.SumBelow.{none_chosen, sum_below-none, sum_below-one}
use Rattle.pc_program.specs.Settled.{is_in}
use Rattle.pc_nested.specs.declared.narrowing.Step.{Step}
use Rattle.pc_nested.specs.Filled.{IsChosen}
use Rattle.pc_nested.specs.Narrowed.{AreChosen, AreInOrder, AreNarrowed, IsSmallStep, ComesBefore, IsTight}
use Rattle.pc_nested.specs.Priced.{mult_of, IsLeft, AreUndone, ArePriced, IsRepriced}
use Rattle.pc_nested.proofs.Prices.{repriced_in, repriced_out, repriced_small, repriced_even, by_member}

-- a list of zeros has 0 at each place
pub zeros_at : (n i : ℕ) → int_at (replicate n (pos 0)) i ≡ pos 0
zeros_at zero i = refl
zeros_at (suc n) zero = refl
zeros_at (suc n) (suc i) = zeros_at n i

zeros_small : (n i m : ℕ) → nat_abs (int_at (replicate n (pos 0)) i) ≤ m
zeros_small n i m = rw (zeros_at n i) (omega arith)

tight_none : (p : Program) (j : ℕ) (counts : List ℕ) (by : ℤ) → by ≡ pos 0 → IsTight p j counts by
tight_none p j counts by e = record { up = λ h. absurd (omega (arith, ints, e, h)); down = λ h. absurd (omega (arith, ints, e, h)) }

-- the steps that are in order are small
pub small_steps : (p : Program) (steps : List Step) → AreInOrder p steps → All (IsSmallStep p) steps
small_steps p [] order = All-nil (IsSmallStep p)
small_steps p (step ∷ steps) order = All-cons (IsSmallStep p) step steps order.0 (small_steps p steps order.1.1)

-- those of the program without gains are so in the program with them
flat_small : (p : Program) (step : Step) → IsSmallStep (without_gain p) step → IsSmallStep p step
flat_small p step small = record { there = small.there; raised = small.raised; lowered = small.lowered }

pub flat_steps_small : (p : Program) (steps : List Step) → AreInOrder (without_gain p) steps → All (IsSmallStep p) steps
flat_steps_small p steps order = All-weaker (IsSmallStep (without_gain p)) (IsSmallStep p) (flat_small p) steps (small_steps (without_gain p) steps order)

-- ---- no constraint apart

pub ArePriced-none : (p : Program) → ArePriced p (replicate (constraints_of p) (pos 0)) (replicate (cells_of p) (pos 0))
ArePriced-none p = record {
  long = length-replicate (constraints_of p) (pos 0);
  wide = length-replicate (cells_of p) (pos 0);
  small = λ i h. zeros_small (cells_of p) i (2 ^ 87);
}

abbrev no_by : Program → List ℤ
no_by p = replicate (constraints_of p) (pos 0)

abbrev no_price : Program → List ℤ
no_price p = replicate (cells_of p) (pos 0)

pub AreUndone-start : (p : Program) (steps : List Step) (lows highs counts : List ℕ) → AreNarrowed p steps lows highs → AreChosen p lows highs (λ i. pos 0) counts
    → AreUndone p counts (constraints_of p) (pos 0) steps (replicate (constraints_of p) (pos 0)) (replicate (cells_of p) (pos 0))
AreUndone-start p steps lows highs counts narrowed chosen = record {
  long = length-replicate (constraints_of p) (pos 0);
  wide = length-replicate (cells_of p) (pos 0);
  shows = narrowed.shown (int_at (replicate (cells_of p) (pos 0))) counts (record {
    sized = chosen.sized;
    each = λ i h. subst (λ x. IsChosen (int_at p.gain i) (nat_at lows i) (nat_at highs i) x (nat_at counts i)) (sym (zeros_at (cells_of p) i)) (chosen.each i h);
  });
  priced = λ i h. zeros_at (cells_of p) i
      ∙ sym (sum_below-none (constraints_of p) (part_of p (mult_of (no_by p)) i) (λ j below. none_chosen (is_in p i j) (int_at (no_by p) j) (zeros_at (constraints_of p) j)));
  tight = λ j h other. tight_none p j counts (int_at (no_by p) j) (zeros_at (constraints_of p) j);
  kept = zeros_at (constraints_of p) (constraints_of p);
  left = All-weaker (IsSmallStep p) (λ (step : Step). IsLeft p (constraints_of p) (no_by p) (no_price p) step.place) opened steps (small_steps p steps narrowed.in_order);
  in_order = narrowed.in_order;
  small_by = λ j h. zeros_small (constraints_of p) j (2 ^ 88);
  small_prices = λ i h. zeros_small (cells_of p) i (2 ^ 87);
}
  where
    opened : (step : Step) → IsSmallStep p step → IsLeft p (constraints_of p) (no_by p) (no_price p) step.place
    opened step small = record {
      other = λ e. let there = small.there in omega (arith, e, there);
      none = zeros_at (constraints_of p) step.place;
      even = λ h i first second one two. zeros_at (cells_of p) h ∙ sym (zeros_at (cells_of p) i);
    }

-- ---- one constraint apart

module _ (p : Program) (k : ℕ) (sign : ℤ) (prices : List ℤ) (there : k < constraints_of p) (small : nat_abs sign ≤ 1)
    (repriced : IsRepriced p k (replicate (cells_of p) (pos 0)) sign (cells_of p) prices) where
  abbrev zeros : List ℤ
  zeros = replicate (constraints_of p) (pos 0)

  abbrev by : List ℤ
  by = set zeros k sign

  here : int_at by k ≡ sign
  here = get_or-set_same zeros k sign (pos 0) (rw (length-replicate (constraints_of p) (pos 0)) there)

  elsewhere : (j : ℕ) → j ≢ k → int_at by j ≡ pos 0
  elsewhere j apart = get_or-set_other zeros k j sign (pos 0) apart ∙ zeros_at (constraints_of p) j

  pub ArePriced-apart : ArePriced p by prices
  ArePriced-apart = record {
    long = length-set zeros k sign ∙ length-replicate (constraints_of p) (pos 0);
    wide = repriced.long ∙ length-replicate (cells_of p) (pos 0);
    small = repriced_small p k (replicate (cells_of p) (pos 0)) prices sign repriced (omega (arith, small)) (λ i h. zeros_small (cells_of p) i (2 ^ 87));
  }

  priced_apart : (i : ℕ) → i < cells_of p → int_at prices i ≡ sum_below (constraints_of p) (part_of p (mult_of by) i)
  priced_apart i h =
      let one = sum_below-one (constraints_of p) k (part_of p (mult_of by) i) there
      (λ j below apart. none_chosen (is_in p i j) (int_at by j) (elsewhere j apart)) in
      by_member (is_in p i k)
      (λ member. repriced_in p k (replicate (cells_of p) (pos 0)) prices sign repriced i h member
      ∙ sym (one ∙ ap (λ t. cond t (int_at by k) (pos 0)) member ∙ here))
      (λ out. repriced_out p k (replicate (cells_of p) (pos 0)) prices sign repriced i h out ∙ zeros_at (cells_of p) i
      ∙ sym (one ∙ ap (λ t. cond t (int_at by k) (pos 0)) out))

  pub AreUndone-apart : (steps : List Step) (lows highs counts : List ℕ) → AreNarrowed p steps lows highs
      → All (λ (step : Step). ComesBefore p step.place k) steps → AreChosen p lows highs (int_at prices) counts → AreUndone p counts k sign steps by prices
  AreUndone-apart steps lows highs counts narrowed order chosen = record {
    long = length-set zeros k sign ∙ length-replicate (constraints_of p) (pos 0);
    wide = repriced.long ∙ length-replicate (cells_of p) (pos 0);
    shows = narrowed.shown (int_at prices) counts chosen;
    priced = priced_apart;
    tight = λ j h other. tight_none p j counts (int_at by j) (elsewhere j other);
    kept = here;
    left = All-weaker (λ (step : Step). ComesBefore p step.place k) (λ (step : Step). IsLeft p k by prices step.place) opened steps order;
    in_order = narrowed.in_order;
    small_by = λ j h. elim (cases_eq j k) [
      | inl e ↦ rw (e, here) (omega (arith, small))
      | inr apart ↦ rw (elsewhere j apart) (omega arith)
    ];
    small_prices = ArePriced-apart.small;
  }
    where
      opened : (step : Step) → ComesBefore p step.place k → IsLeft p k by prices step.place
      opened step before = record {
        other = before.apart;
        none = elsewhere step.place before.apart;
        even = repriced_even p step.place k (replicate (cells_of p) (pos 0)) prices sign repriced before
            (λ h i first second one two. zeros_at (cells_of p) h ∙ sym (zeros_at (cells_of p) i));
      }
