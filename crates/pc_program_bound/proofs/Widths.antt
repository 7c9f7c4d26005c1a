-- The width of the multipliers, a place further.
use Rattle.std.proofs.Common.{◌≡◌, ℕ, All, ◌+◌, ◌<◌, ◌⊎◌, inl, inr, ℤ, pos, ◌+ℤ◌, ◌-ℤ◌, ◌*ℤ◌, int_lt, cond, List, length, Option, Some, None, SomeIff, subst, sym, ap, refl, ◌∙◌, eq-or-lt_of_le, arith}
use Rattle.std.specs.Int.{int_max, int_div_euclid}
use Rattle.std.proofs.lemmas.List.{get_or_default}
use Rattle.pc_model.specs.declared.tree.Mult.{Mult}
use Rattle.pc_program_bound.specs.declared.program.Program.{Program}
use Rattle.pc_program_bound.specs.declared.running.Running.{Running}
use Rattle.pc_program_bound.specs.Sums.{sum_below, nat_at, int_at}
use Rattle.pc_program_bound.specs.Allocation.{cells_of, constraints_of}
use Rattle.pc_program_bound.specs.Bound.{IsFit, AreFit, rest_of, constraint_share, constraint_size, constraint_sizes, cell_share, cell_size, IsFitRest, IsFitCell, HasFitWidth, raw_bound, bound_of}
use Rattle.pc_program_bound.specs.Parts.{AreFitConstraints, AreFitCells, taken, size_of}
use Rattle.pc_program_bound.proofs.Steps.{no_sums_fit, more_sums_fit, next_sum_fits, after, no_sums_after_fit, more_sums_after_fit, next_sum_after_fits, after_more, running_is}
use Rattle.pc_program_bound.proofs.SumBelow.{sum_below-more}

-- a place below the next one is below this one, or this one
below_or_last : (P : ℕ → Type 0) (n k : ℕ) → ((j : ℕ) → j < n → P j) → P n → (k ≡ n) ⊎ (k < n) → P k
below_or_last P n k before last (inl e) = subst P (sym e) last
below_or_last P n k before last (inr lt) = before k lt

each_more : (P : ℕ → Type 0) (n : ℕ) → ((j : ℕ) → j < n → P j) → P n → (k : ℕ) → k < n + 1 → P k
each_more P n before last k lt = below_or_last P n k before last (eq-or-lt_of_le (omega arith))

-- numbers that fit, as far as a place and all of them
pub more_numbers : (numbers : List ℤ) (n : ℕ) → ((k : ℕ) → k < n → IsFit (int_at numbers k)) → IsFit (int_at numbers n) → (k : ℕ) → k < n + 1 → IsFit (int_at numbers k)
more_numbers numbers n = each_more (λ k. IsFit (int_at numbers k)) n

pub all_numbers : (numbers : List ℤ) → ((k : ℕ) → k < length numbers → IsFit (int_at numbers k)) → All IsFit numbers
all_numbers numbers h k d lt = rw (get_or_default numbers k d (pos 0) lt) (h k lt)

-- ---- constraints
pub no_constraints : (p : Program) (mult : Mult) → AreFitConstraints p mult 0
no_constraints p mult = record { each = λ j lt. absurd (omega arith); sums = no_sums_fit (constraint_size p mult) }

-- what one more constraint gives, and what it needs
abbrev pub FitsOneMore : ℤ → ℤ → ℕ → Type 0
FitsOneMore sum number most = IsFit (size_of number most) × IsFit (sum +ℤ size_of number most)

-- the loop's step, with the numbers as they were read
pub constraint_step : (p : Program) (mult : Mult) (n : ℕ) (before now : Running) (number : ℤ) (least most : ℕ)
    → number ≡ int_at mult.by n → least ≡ nat_at p.least n → most ≡ nat_at p.most n
    → before.share ≡ sum_below n (constraint_share p mult) → before.size ≡ constraint_sizes p mult n → AreFitConstraints p mult n
    → FitsOneMore before.size number most
    → now ≡ record { share = before.share +ℤ (number *ℤ pos (cond (int_lt (pos 0) number) most least)); size = before.size +ℤ size_of number most }
    → (now.share ≡ sum_below (n + 1) (constraint_share p mult)) × (now.size ≡ constraint_sizes p mult (n + 1)) × AreFitConstraints p mult (n + 1)
constraint_step p mult n before now number least most a b c shares sizes h fits is =
    let one = rw (a, c, sizes) at fits in
    let new = rw (a, b, c) at is in (
      ap (λ (r : Running). r.share) new ∙ rw (sum_below-more n (constraint_share p mult), shares) refl,
      ap (λ (r : Running). r.size) new ∙ rw (sum_below-more n (constraint_size p mult), sizes) refl,
      record { each = each_more (λ j. IsFit (constraint_size p mult j)) n h.each one.0; sums = more_sums_fit (constraint_size p mult) n h.sums one.1 },
    )

-- and what it needs of the width
pub constraint_stops : (p : Program) (mult : Mult) (n : ℕ) (sum number : ℤ) (most : ℕ) → number ≡ int_at mult.by n → most ≡ nat_at p.most n
    → sum ≡ constraint_sizes p mult n → n < constraints_of p → AreFitConstraints p mult (constraints_of p) → FitsOneMore sum number most
constraint_stops p mult n sum number most a b c lt h =
    rw (a, b, c) (h.each n lt, next_sum_fits (constraint_size p mult) n _ lt h.sums)

-- ---- the rest of a cell
pub rest_is : (p : Program) (mult : Mult) (i : ℕ) (found : Option ℤ) (den gain : ℤ) (mask : ℕ) (by : List ℤ)
    → den ≡ mult.den → gain ≡ int_at p.gain i → mask ≡ nat_at p.masks i → by ≡ mult.by → length mult.by ≡ constraints_of p
    → SomeIff found (IsFit (den *ℤ gain) × AreFit (λ k. sum_below k (taken mask by)) (length by) × IsFit (den *ℤ gain -ℤ sum_below (length by) (taken mask by)))
    (den *ℤ gain -ℤ sum_below (length by) (taken mask by))
    → SomeIff found (IsFitRest p mult i) (rest_of p mult i)
rest_is p mult i None den gain mask by a b c d e h =
    let k = rw (a, b, c, d, e) at h in λ f. k (f.scaled, f.given, f.rest)
rest_is p mult i (Some x) den gain mask by a b c d e h =
    let k = rw (a, b, c, d, e) at h in (record { scaled = k.0.0; given = k.0.1; rest = k.0.2 }, k.1)

-- ---- cells
pub no_cells : (p : Program) (mult : Mult) (first : ℤ) → IsFit first → AreFitCells p mult first 0
no_cells p mult first h = record { each = λ j lt. absurd (omega arith); sums = no_sums_after_fit first (cell_size p mult) h }

-- the loop's step, with the numbers as they were read
pub cell_step : (p : Program) (floors caps : List ℕ) (mult : Mult) (n : ℕ) (first before now : Running) (number : ℤ) (floor top most : ℕ)
    → number ≡ rest_of p mult n → floor ≡ nat_at floors n → top ≡ nat_at caps n → most ≡ nat_at p.cap n
    → before.share ≡ after first.share (cell_share p floors caps mult) n → before.size ≡ after first.size (cell_size p mult) n → AreFitCells p mult first.size n
    → IsFitRest p mult n → FitsOneMore before.size number most
    → now ≡ record { share = before.share +ℤ int_max (number *ℤ pos floor) (number *ℤ pos top); size = before.size +ℤ size_of number most }
    → (now.share ≡ after first.share (cell_share p floors caps mult) (n + 1)) × (now.size ≡ after first.size (cell_size p mult) (n + 1)) × AreFitCells p mult first.size (n + 1)
cell_step p floors caps mult n first before now number floor top most a b c d shares sizes h rest fits is =
    let one = rw (a, d, sizes) at fits in
    let new = rw (a, b, c, d) at is in (
      ap (λ (r : Running). r.share) new ∙ rw (after_more first.share (cell_share p floors caps mult) n, shares) refl,
      ap (λ (r : Running). r.size) new ∙ rw (after_more first.size (cell_size p mult) n, sizes) refl,
      record {
        each = each_more (λ j. IsFitCell p mult j) n h.each (record { rest = rest; size = one.0 });
        sums = more_sums_after_fit first.size (cell_size p mult) n h.sums one.1;
      },
    )

-- and what it needs of the width
pub cell_stops : (p : Program) (mult : Mult) (n m : ℕ) (first sum number : ℤ) (most : ℕ) → number ≡ rest_of p mult n → most ≡ nat_at p.cap n
    → sum ≡ after first (cell_size p mult) n → n < m → AreFitCells p mult first m → FitsOneMore sum number most
cell_stops p mult n m first sum number most a b c lt h =
    rw (a, b, c) ((h.each n lt).size, next_sum_after_fits first (cell_size p mult) n m lt h.sums)

-- after the last cell
pub cells_end : (p : Program) (floors caps : List ℕ) (mult : Mult) (n : ℕ) (first now : Running) → n ≡ cells_of p
    → now.share ≡ after first.share (cell_share p floors caps mult) n → now.size ≡ after first.size (cell_size p mult) n → AreFitCells p mult first.size n
    → AreFitCells p mult first.size (cells_of p)
    × (now ≡ record { share = after first.share (cell_share p floors caps mult) (cells_of p); size = after first.size (cell_size p mult) (cells_of p) })
cells_end p floors caps mult n first now e shares sizes h =
    (rw e at h, running_is _ _ _ _ (rw e at shares) (rw e at sizes))

-- ---- the whole
pub width_is : (p : Program) (mult : Mult) (first : ℤ) → first ≡ constraint_sizes p mult (constraints_of p) → AreFitConstraints p mult (constraints_of p)
    → AreFitCells p mult first (cells_of p) → HasFitWidth p mult
width_is p mult first e h cells =
    let k = rw e at cells in
    record { cells = k.each; constraints = h.each; constraint_sums = h.sums; cell_sums = k.sums }

-- the sum of all shares, and its division
pub raw_is : (p : Program) (floors caps : List ℕ) (mult : Mult) (first : Running) (share : ℤ)
    → first ≡ record { share = sum_below (constraints_of p) (constraint_share p mult); size = constraint_sizes p mult (constraints_of p) }
    → share ≡ after first.share (cell_share p floors caps mult) (cells_of p)
    → share ≡ raw_bound p floors caps mult
raw_is p floors caps mult first share e f = f ∙ ap (λ (r : Running). after r.share (cell_share p floors caps mult) (cells_of p)) e

pub divided_is : (p : Program) (floors caps : List ℕ) (mult : Mult) (share den : ℤ) → share ≡ raw_bound p floors caps mult → den ≡ mult.den
    → int_div_euclid share den ≡ bound_of p floors caps mult
divided_is p floors caps mult share den e f = rw (e, f) refl
