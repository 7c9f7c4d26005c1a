-- All steps undone: the counts are an allocation of greatest worth, or there is none.
use Rattle.std.proofs.Common.{◌≡◌, ℕ, ◌<◌, ◌≤◌, ◌^◌, ◌⊎◌, inl, inr, cond, List, [], ◌∷◌, length, map, set, replicate, get_or, refl, ap, sym, ◌∙◌, subst, arith}
use Rattle.std.specs.Prelude.{ℤ, pos, negsuc, neg_ℤ, ◌-ℤ◌, ◌*ℤ◌, ◌<ℤ◌, ◌≤ℤ◌, int_lt, nat_abs, All}
use Rattle.std.proofs.lemmas.Int.{ints}
use Rattle.std.proofs.lemmas.List.{length-replicate, length-map, get_or-map}
use Rattle.std.proofs.lemmas.List.Elements.{All-from_get_or, All-map, All-weaker}
use Rattle.pc_program_bound.specs.declared.program.Program.{Program}
use Rattle.pc_program_bound.specs.Sums.{nat_at, int_at}
use Rattle.pc_program_bound.specs.Allocation.{cells_of, constraints_of, total, worth, IsProgram, IsAllocation}
use Rattle.pc_program_bound.specs.Bound.{IsFit, constraint_share, IsMultiplier, IsVoid, without_gain}
use Rattle.pc_program_bound.proofs.Duality.{worth-none}
use Rattle.pc_program.specs.Settled.{is_in}
use Rattle.pc_program.specs.declared.solving.Solved.TheVariants.{Best}
use Rattle.pc_program.specs.Solved.{IsSolved}
use Rattle.pc_nested.specs.declared.narrowing.Step.{Step}
use Rattle.pc_nested.specs.Nested.{IsNested}
use Rattle.pc_nested.specs.Filled.{IsChosen}
use Rattle.pc_nested.specs.Narrowed.{AreChosen, AreNarrowed, IsNarrowing, IsMetBetween, ComesBefore, flat, places_of}
use Rattle.pc_nested.specs.Sized.{IsAmong}
use Rattle.pc_nested.specs.Ordered.{IsStopped}
use Rattle.pc_nested.specs.Priced.{mult_of, AreUndone, IsRepriced}
use Rattle.pc_nested.proofs.Totals.{total_mono}
use Rattle.pc_nested.proofs.Prices.{repriced_in, repriced_out, by_member}
use Rattle.pc_nested.proofs.Starts.{zeros_at, AreUndone-start, AreUndone-apart}
use Rattle.pc_nested.proofs.Certified.{bound_best, raw_apart, width_fits}

-- ---- the best counts

-- a constraint with a step has a total from its least to its most
met_between : (p : Program) (steps : List Step) (lows highs : List ℕ) → AreNarrowed p steps lows highs → (j : ℕ) → IsAmong (places_of steps) j
    → IsMetBetween p lows highs j
met_between p [] lows highs narrowed j (k, short, is) = absurd (omega arith)
met_between p (step ∷ steps) lows highs narrowed j (k, short, is) =
    let long : length (places_of (step ∷ steps)) ≡ length (step ∷ steps) = length-map (step ∷ steps) (λ (s : Step). s.place) in
    let inside : k < length (step ∷ steps) = omega (arith, long, short) in
    let found = narrowed.met k step inside in
    let same : nat_at (places_of (step ∷ steps)) k ≡ (get_or (step ∷ steps) k step).place = get_or-map (λ (s : Step). s.place) (step ∷ steps) k step 0 inside in
    subst (λ n. IsMetBetween p lows highs n) (sym same ∙ is) found

pub IsAllocation-chosen : (p : Program) (steps : List Step) (lows highs counts : List ℕ) → AreNarrowed p steps lows highs → AreChosen p lows highs (λ i. pos 0) counts
    → ((j : ℕ) → j < constraints_of p → IsAmong (places_of steps) j) → IsAllocation p p.floor p.cap counts
IsAllocation-chosen p steps lows highs counts narrowed chosen whole = record {
  sized = chosen.sized;
  within = λ i h.
      let ends = narrowed.ordered i h in
      let here = chosen.each i h in
      let floor = ends.0 in let cap = ends.2 in let above = here.above in let below = here.below in
      (omega (arith, floor, above), omega (arith, below, cap));
  met = λ j h.
      let met = met_between p steps lows highs narrowed j (whole j h) in
      let low = total_mono p lows counts j (λ i there member. (chosen.each i there).above) in
      let high = total_mono p counts highs j (λ i there member. (chosen.each i there).below) in
      let least = met.0 in let most = met.1 in
      (omega (arith, ints, least, low), omega (arith, ints, most, high));
}

-- counts that are chosen are small
pub chosen_small : (p : Program) (steps : List Step) (lows highs counts : List ℕ) → IsProgram p → AreNarrowed p steps lows highs
    → AreChosen p lows highs (λ i. pos 0) counts → (i : ℕ) → i < cells_of p → nat_at counts i ≤ 1_000_000_000
chosen_small p steps lows highs counts program narrowed chosen i h =
    let below = (chosen.each i h).below in
    let cap = (narrowed.ordered i h).2 in
    let most = program.small_cap i h in
    omega (arith, below, cap, most)

IsMultiplier-undone : (p : Program) (counts : List ℕ) (k : ℕ) (m : ℤ) (by prices : List ℤ) → IsProgram p → cells_of p ≤ 40
    → ((i : ℕ) → i < cells_of p → nat_abs (int_at p.gain i) ≤ 2 ^ 87) → AreUndone p counts k m [] by prices → IsMultiplier p (mult_of by)
IsMultiplier-undone p counts k m by prices program few gains undone = record {
  sized = undone.long;
  positive = omega (arith, ints);
  wide = width_fits p counts k m by prices undone program few gains;
}

fit_small : (z : ℤ) → nat_abs z ≤ 2 ^ 88 → IsFit z
fit_small z small = omega (arith, ints, small)

fit_undone : (p : Program) (counts : List ℕ) (k : ℕ) (m : ℤ) (by prices : List ℤ) → AreUndone p counts k m [] by prices → All IsFit by
fit_undone p counts k m by prices undone =
    All-from_get_or IsFit by (pos 0) (λ j h. fit_small (int_at by j) (let long = undone.long in undone.small_by j (omega (arith, h, long))))

module _ (p : Program) (steps : List Step) (lows highs counts : List ℕ) (by prices : List ℤ) (program : IsProgram p) (nested : IsNested p)
    (narrowing : IsNarrowing p steps lows highs) (chosen : AreChosen p lows highs (λ i. pos 0) counts)
    (undoes : (gains : List ℤ) (cs : List ℕ) (k : ℕ) (m : ℤ)
    → AreUndone (record p { gain = gains }) cs k m steps (replicate (constraints_of p) (pos 0)) (replicate (cells_of p) (pos 0))
    → AreUndone (record p { gain = gains }) cs k m [] by prices) where
  undone_best : AreUndone p counts (constraints_of p) (pos 0) [] by prices
  undone_best = undoes p.gain counts (constraints_of p) (pos 0) (AreUndone-start p steps lows highs counts narrowing.with_gains chosen)

  pub IsSolved-best : ((j : ℕ) → j < constraints_of p → IsAmong (places_of steps) j) → (value : ℤ) → value ≡ worth p counts → IsSolved p (Best counts value (mult_of by))
  IsSolved-best whole value is = (
    IsAllocation-chosen p steps lows highs counts narrowing.with_gains chosen whole,
    is,
    IsMultiplier-undone p counts (constraints_of p) (pos 0) by prices program nested.few (λ i h. let small = nested.small i h in omega (arith, small)) undone_best,
    is ∙ bound_best p counts (constraints_of p) (pos 0) by prices undone_best program (omega arith),
  )

  pub fits_best : All IsFit by
  fits_best = fit_undone p counts (constraints_of p) (pos 0) by prices undone_best

-- ---- none

free : (p : Program) → IsProgram p → IsProgram (without_gain p)
free p program = record {
  mosts = program.mosts;
  floors = program.floors;
  caps = program.caps;
  gains = length-replicate (cells_of p) (pos 0);
  few = program.few;
  ordered = program.ordered;
  boxed = program.boxed;
  small_most = program.small_most;
  small_cap = program.small_cap;
}

free_gains : (p : Program) (i : ℕ) → i < cells_of p → nat_abs (int_at (without_gain p).gain i) ≤ 2 ^ 87
free_gains p i h = rw (zeros_at (cells_of p) i) (omega arith)

-- what is chosen where a constraint has too few, or too many
chosen_at : (low high : ℕ) (gain price : ℤ) → gain ≡ pos 0 → low ≤ high → ((price ≡ pos 0) ⊎ (price ≡ negsuc 0)) → IsChosen gain low high price high
chosen_at low high gain price e ordered (inl zero_price) = record {
  above = ordered;
  below = omega arith;
  full = λ h. refl;
  empty = λ h. absurd (omega (arith, ints, e, zero_price, h));
}
chosen_at low high gain price e ordered (inr less) = record {
  above = ordered;
  below = omega arith;
  full = λ h. refl;
  empty = λ h. absurd (omega (arith, ints, e, less, h));
}

chosen_low : (low high : ℕ) (gain price : ℤ) → gain ≡ pos 0 → low ≤ high → ((price ≡ pos 0) ⊎ (price ≡ pos 1)) → IsChosen gain low high price low
chosen_low low high gain price e ordered (inl zero_price) = record {
  above = omega arith;
  below = ordered;
  full = λ h. absurd (omega (arith, ints, e, zero_price, h));
  empty = λ h. refl;
}
chosen_low low high gain price e ordered (inr more) = record {
  above = omega arith;
  below = ordered;
  full = λ h. absurd (omega (arith, ints, e, more, h));
  empty = λ h. refl;
}

module _ (p : Program) (k : ℕ) (sign : ℤ) (prices : List ℤ) (repriced : IsRepriced p k (replicate (cells_of p) (pos 0)) sign (cells_of p) prices) where
  price_is : (i : ℕ) → i < cells_of p → (int_at prices i ≡ pos 0) ⊎ (int_at prices i ≡ sign)
  price_is i h = by_member (is_in p i k)
      (λ member. inr (repriced_in p k (replicate (cells_of p) (pos 0)) prices sign repriced i h member))
      (λ out. inl (repriced_out p k (replicate (cells_of p) (pos 0)) prices sign repriced i h out ∙ zeros_at (cells_of p) i))

  of_gains : IsRepriced (without_gain p) k (replicate (cells_of p) (pos 0)) sign (cells_of p) prices
  of_gains = record { long = repriced.long; changed = repriced.changed; kept = repriced.kept }

-- the share of a constraint with the multiplier -1, or 1
share_short : (by : ℤ) (least most : ℕ) → by ≡ negsuc 0 → by *ℤ pos (cond (int_lt (pos 0) by) most least) ≡ neg_ℤ (pos least)
share_short by least most e = rw e (taken least)
  where
    taken : (n : ℕ) → negsuc 0 *ℤ pos n ≡ neg_ℤ (pos n)
    taken n = omega (arith, ints)

share_over : (by : ℤ) (least most : ℕ) → by ≡ pos 1 → by *ℤ pos (cond (int_lt (pos 0) by) most least) ≡ pos most
share_over by least most e = rw e (taken most)
  where
    taken : (n : ℕ) → pos 1 *ℤ pos n ≡ pos n
    taken n = omega (arith, ints)

product_short : (by t : ℤ) → by ≡ negsuc 0 → by *ℤ t ≡ neg_ℤ t
product_short by t e = ap (λ b. b *ℤ t) e ∙ taken t
  where
    taken : (t : ℤ) → negsuc 0 *ℤ t ≡ neg_ℤ t
    taken t = omega (arith, ints)

product_over : (by t : ℤ) → by ≡ pos 1 → by *ℤ t ≡ t
product_over by t e = ap (λ b. b *ℤ t) e ∙ taken t
  where
    taken : (t : ℤ) → pos 1 *ℤ t ≡ t
    taken t = omega (arith, ints)

IsVoid-undone : (p : Program) (counts : List ℕ) (k : ℕ) (m : ℤ) (by prices : List ℤ) → IsProgram p → cells_of p ≤ 40 → k < constraints_of p
    → AreUndone (without_gain p) counts k m [] by prices
    → (constraint_share (without_gain p) (mult_of by) k -ℤ int_at by k *ℤ total p counts k) <ℤ pos 0 → IsVoid p p.floor p.cap (mult_of by)
IsVoid-undone p counts k m by prices program few there undone less = record {
  by = IsMultiplier-undone (without_gain p) counts k m by prices (free p program) few (free_gains p) undone;
  whole = refl;
  below =
      let raw = raw_apart (without_gain p) counts k m by prices undone (free p program) there in
      let none = worth-none p counts in
      omega (arith, ints, raw, none, less);
}

module _ (p : Program) (steps : List Step) (lows highs : List ℕ) (k : ℕ) (sign : ℤ) (start : List ℤ) (by prices : List ℤ) (program : IsProgram p) (nested : IsNested p)
    (there : k < constraints_of p) (narrowing : IsNarrowing p steps lows highs) (order : All (λ (step : Step). ComesBefore p step.place k) steps)
    (repriced : IsRepriced p k (replicate (cells_of p) (pos 0)) sign (cells_of p) start)
    (undoes : (gains : List ℤ) (cs : List ℕ) (j : ℕ) (m : ℤ)
    → AreUndone (record p { gain = gains }) cs j m (map flat steps) (set (replicate (constraints_of p) (pos 0)) k sign) start
    → AreUndone (record p { gain = gains }) cs j m [] by prices) where
  flat_order : All (λ (step : Step). ComesBefore (without_gain p) step.place k) (map flat steps)
  flat_order = All-map (λ (step : Step). ComesBefore (without_gain p) step.place k) flat steps
      (All-weaker (λ (step : Step). ComesBefore p step.place k) (λ (step : Step). ComesBefore (without_gain p) step.place k)
      (λ step before. record { apart = before.apart; nested = before.nested }) steps order)

  undone_from : nat_abs sign ≤ 1 → (counts : List ℕ) → AreChosen (without_gain p) lows highs (int_at start) counts
      → AreUndone (without_gain p) counts k sign [] by prices
  undone_from small counts chosen = undoes (replicate (cells_of p) (pos 0)) counts k sign
      (AreUndone-apart (without_gain p) k sign start there small (of_gains p k sign start repriced) (map flat steps) lows highs counts narrowing.without_gains flat_order chosen)

  ordered : (i : ℕ) → i < cells_of p → nat_at lows i ≤ nat_at highs i
  ordered i h = (narrowing.with_gains.ordered i h).1

  undone_short : sign ≡ negsuc 0 → AreUndone (without_gain p) highs k sign [] by prices
  undone_short e = undone_from (rw e (omega arith)) highs (record {
    sized = narrowing.with_gains.sized_highs;
    each = λ i h. chosen_at (nat_at lows i) (nat_at highs i) (int_at (without_gain p).gain i) (int_at start i) (zeros_at (cells_of p) i) (ordered i h)
        (subst (λ s. (int_at start i ≡ pos 0) ⊎ (int_at start i ≡ s)) e (price_is p k sign start repriced i h));
  })

  undone_over : sign ≡ pos 1 → AreUndone (without_gain p) lows k sign [] by prices
  undone_over e = undone_from (rw e (omega arith)) lows (record {
    sized = narrowing.with_gains.sized_lows;
    each = λ i h. chosen_low (nat_at lows i) (nat_at highs i) (int_at (without_gain p).gain i) (int_at start i) (zeros_at (cells_of p) i) (ordered i h)
        (subst (λ s. (int_at start i ≡ pos 0) ⊎ (int_at start i ≡ s)) e (price_is p k sign start repriced i h));
  })

  IsVoid-short : sign ≡ negsuc 0 → total p highs k <ℤ pos (nat_at p.least k) → IsVoid p p.floor p.cap (mult_of by)
  IsVoid-short e short =
      let undone = undone_short e in
      let one : int_at by k ≡ negsuc 0 = undone.kept ∙ e in
      let share = share_short (int_at by k) (nat_at p.least k) (nat_at p.most k) one in
      let taken = product_short (int_at by k) (total p highs k) one in
      IsVoid-undone p highs k sign by prices program nested.few there undone (omega (arith, ints, share, taken, short))

  IsVoid-over : sign ≡ pos 1 → pos (nat_at p.most k) <ℤ total p lows k → IsVoid p p.floor p.cap (mult_of by)
  IsVoid-over e over =
      let undone = undone_over e in
      let one : int_at by k ≡ pos 1 = undone.kept ∙ e in
      let share = share_over (int_at by k) (nat_at p.least k) (nat_at p.most k) one in
      let taken = product_over (int_at by k) (total p lows k) one in
      IsVoid-undone p lows k sign by prices program nested.few there undone (omega (arith, ints, share, taken, over))

  abbrev HasSign : Type 0
  HasSign = ((total p highs k <ℤ pos (nat_at p.least k)) × (sign ≡ negsuc 0)) ⊎ ((pos (nat_at p.least k) ≤ℤ total p highs k) × (sign ≡ pos 1))

  pub IsVoid-stopped : HasSign → IsStopped p k lows highs → IsVoid p p.floor p.cap (mult_of by)
  IsVoid-stopped (inl (short, e)) stopped = IsVoid-short e short
  IsVoid-stopped (inr (enough, e)) (inl short) = absurd (omega (arith, ints, enough, short))
  IsVoid-stopped (inr (enough, e)) (inr over) = IsVoid-over e over

  pub fits_stopped : HasSign → All IsFit by
  fits_stopped (inl (short, e)) = fit_undone (without_gain p) highs k sign by prices (undone_short e)
  fits_stopped (inr (enough, e)) = fit_undone (without_gain p) lows k sign by prices (undone_over e)

pub ruleset allocated = (IsAllocation-chosen, chosen_small)
