-- What counts are worth, as far as a loop over the cells has come, and how large it is.
use Rattle.std.proofs.Common.{◌≡◌, ℕ, zero, suc, ◌+◌, ◌-◌, ◌*◌, ◌^◌, ◌<◌, ◌≤◌, List, arith}
use Rattle.std.specs.Prelude.{ℤ, pos, negsuc, neg_ℤ, nat_abs, ◌+ℤ◌, ◌*ℤ◌, ◌≤ℤ◌}
use Rattle.std.proofs.Math.Nat.{mul-le-mul_left}
use Rattle.std.proofs.lemmas.Int.{ints}
use Rattle.pc_program_bound.specs.declared.program.Program.{Program}
use Rattle.pc_program_bound.specs.Sums.{sum_below, nat_at, int_at}
use Rattle.pc_program_bound.specs.Allocation.{cells_of, worth, IsAllocation}
use Rattle.pc_program_bound.proofs.SumBelow.{sum_below-zero, sum_below-suc, sum_below-more}
use Rattle.pc_simplex_tableau.proofs.Products.{neg-mul}
use Rattle.pc_branch.specs.Ends.{HasSmallGains}
use Rattle.pc_agg_search.specs.Limits.{greatest_worth}

-- between -m and m
abbrev Within : ℤ → ℤ → Type 0
Within m x = (neg_ℤ m ≤ℤ x) × (x ≤ℤ m)

product-within : (g : ℤ) (n k : ℕ) → n ≤ k → Within (pos (nat_abs g) *ℤ pos k) (g *ℤ pos n)
product-within (pos a) n k less =
    let more : a * n ≤ a * k = mul-le-mul_left a less in
    (omega (arith, ints, more), omega (arith, ints, more))
product-within (negsuc a) n k less =
    let more : suc a * n ≤ suc a * k = mul-le-mul_left (suc a) less in
    let turned = neg-mul (pos (suc a)) (pos n) in
    (omega (arith, ints, more, turned), omega (arith, ints, more, turned))

sum-within : (n : ℕ) (f sizes : ℕ → ℤ) → ((i : ℕ) → i < n → Within (sizes i) (f i)) → Within (sum_below n sizes) (sum_below n f)
sum-within zero f sizes each = rw (sum_below-zero f, sum_below-zero sizes) (omega (arith, ints), omega (arith, ints))
sum-within (suc n) f sizes each =
    let before = sum-within n f sizes (λ i h. each i (omega arith)) in
    let last = each n (omega arith) in
    rw (sum_below-suc n f, sum_below-suc n sizes) (omega (arith, ints, before, last), omega (arith, ints, before, last))

sizes-grow : (d k : ℕ) (sizes : ℕ → ℤ) → ((i : ℕ) → pos 0 ≤ℤ sizes i) → sum_below k sizes ≤ℤ sum_below (d + k) sizes
sizes-grow zero k sizes some =
    let same : zero + k ≡ k = omega arith in
    rw same (omega (arith, ints))
sizes-grow (suc d) k sizes some =
    let before = sizes-grow d k sizes some in
    let more = some (d + k) in
    let next : suc d + k ≡ suc (d + k) = omega arith in
    rw (next, sum_below-suc (d + k) sizes) (omega (arith, ints, before, more))

module _ (p : Program) (small : HasSmallGains p) (counts : List ℕ) (allowed : IsAllocation p p.floor p.cap counts) where
  abbrev term : ℕ → ℤ
  term i = int_at p.gain i *ℤ pos (nat_at counts i)

  abbrev size : ℕ → ℤ
  size i = pos (nat_abs (int_at p.gain i)) *ℤ pos (nat_at p.cap i)

  size_some : (i : ℕ) → pos 0 ≤ℤ size i
  size_some i = omega (arith, ints)

  part-within : (k : ℕ) → k ≤ cells_of p → Within (sum_below k size) (sum_below k term)
  part-within k short = sum-within k term size (λ i h. product-within (int_at p.gain i) (nat_at counts i) (nat_at p.cap i) (allowed.within i (omega (arith, h, short))).1)

  pub part_small : (k : ℕ) → k ≤ cells_of p → nat_abs (sum_below k term) ≤ 10 ^ 37
  part_small k short =
      let within = part-within k short in
      let grown = sizes-grow (cells_of p - k) k size size_some in
      let whole : cells_of p - k + k ≡ cells_of p = omega (arith, short) in
      let all : sum_below (cells_of p - k + k) size ≤ℤ pos (10 ^ 37) = rw whole small.sum in
      omega (arith, ints, within, grown, all)

  pub worth_small : nat_abs (worth p counts) ≤ 10 ^ 37
  worth_small = part_small (cells_of p) (omega arith)

  -- at most what all gains can come to
  pub worth_gained : pos (nat_abs (worth p counts)) ≤ℤ greatest_worth p
  worth_gained = let within = part-within (cells_of p) (omega arith) in omega (arith, ints, within)

  pub term_small : (i : ℕ) → i < cells_of p → nat_abs (term i) ≤ 2 * 10 ^ 37
  term_small i h =
      let before = part_small i (omega (arith, h)) in
      let after = part_small (suc i) h in
      omega (arith, ints, before, after, sum_below-suc i term)

  pub next_sum : (i : ℕ) (total next : ℤ) → total ≡ sum_below i term → next ≡ total +ℤ term i → next ≡ sum_below (i + 1) term
  next_sum i total next so_far is = omega (arith, ints, so_far, is, sum_below-more i term)
