-- A step undone: what is chosen between the narrowed ends is chosen between the ends before, at other prices.
use Rattle.std.proofs.Common.{◌≡◌, ℕ, ◌<◌, Bool, true, false, cond, Option, Some, None, List, refl, ap, sym, ◌∙◌, subst, arith}
use Rattle.std.specs.Prelude.{ℤ, pos, ◌-ℤ◌, ◌<ℤ◌}
use Rattle.std.specs.Int.{int_max, int_min}
use Rattle.std.proofs.lemmas.Int.{ints, clamps}
use Rattle.pc_program_bound.specs.declared.program.Program.{Program}
use Rattle.pc_program_bound.specs.Sums.{nat_at, int_at}
use Rattle.pc_program_bound.specs.Allocation.{cells_of, total}
use Rattle.pc_program.specs.Settled.{is_in}
use Rattle.pc_nested.specs.declared.narrowing.Step.{Step}
use Rattle.pc_nested.specs.Filled.{IsChosen}
use Rattle.pc_nested.specs.Narrowed.{at_least, at_most, price_at, Undoes, AreChosen, IsTight, HavePrice, IsRaised, IsLowered, IsStep}
use Rattle.pc_nested.proofs.Choosing.{chosen_below, barred_all, chosen_above, forced_all}
use Rattle.pc_nested.proofs.Totals.{total_same}

-- ---- one cell

module _ (p : Program) (k : ℕ) where
  -- the price of a cell once the high ends, or the low ends, are as they were
  abbrev pub after_lower : Option ℤ → ℕ → ℤ → ℤ
  after_lower bound i x = cond (is_in p i k) (at_least bound x) x

  abbrev pub after_raise : Option ℤ → ℕ → ℤ → ℤ
  after_raise bound i x = cond (is_in p i k) (at_most bound x) x

  abbrev IsChosenAt : List ℕ → List ℕ → ℕ → ℤ → ℕ → Type 0
  IsChosenAt lows highs i x count = IsChosen (int_at p.gain i) (nat_at lows i) (nat_at highs i) x count

  same_price : (test : Bool) (x : ℤ) → cond test x x ≡ x
  same_price true x = refl
  same_price false x = refl

  lower_back : (lows highs lowered : List ℕ) (bound : Option ℤ) → IsLowered p k lows highs lowered bound → (i : ℕ) → i < cells_of p → (x : ℤ) (count : ℕ)
      → IsChosenAt lows lowered i x count → IsChosenAt lows highs i (after_lower bound i x) count
  lower_back lows highs lowered None cut i h x count chosen = subst (λ y. IsChosenAt lows highs i y count) (sym (same_price (is_in p i k) x))
      (subst (λ ends. IsChosenAt lows ends i x count) cut.0 chosen)
  lower_back lows highs lowered (Some b) cut i h x count chosen = by_test (is_in p i k) (λ e. e) (λ e. e)
    where
      by_test : (test : Bool) → (test ≡ true → is_in p i k ≡ true) → (test ≡ false → is_in p i k ≡ false)
          → IsChosenAt lows highs i (cond test (int_max b x) x) count
      by_test true member out = chosen_below (int_at p.gain i) (nat_at lows i) (nat_at highs i) b x (nat_at lowered i) count (cut.chosen i h (member refl)) chosen
      by_test false member out = subst (λ n. IsChosen (int_at p.gain i) (nat_at lows i) n x count) (cut.others i h (out refl)) chosen

  raise_back : (lows highs raised : List ℕ) (bound : Option ℤ) → IsRaised p k lows highs raised bound → (i : ℕ) → i < cells_of p → (x : ℤ) (count : ℕ)
      → IsChosenAt raised highs i x count → IsChosenAt lows highs i (after_raise bound i x) count
  raise_back lows highs raised None cut i h x count chosen = subst (λ y. IsChosenAt lows highs i y count) (sym (same_price (is_in p i k) x))
      (subst (λ ends. IsChosenAt ends highs i x count) cut.0 chosen)
  raise_back lows highs raised (Some a) cut i h x count chosen = by_test (is_in p i k) (λ e. e) (λ e. e)
    where
      by_test : (test : Bool) → (test ≡ true → is_in p i k ≡ true) → (test ≡ false → is_in p i k ≡ false)
          → IsChosenAt lows highs i (cond test (int_min a x) x) count
      by_test true member out = chosen_above (int_at p.gain i) (nat_at lows i) (nat_at highs i) a x (nat_at raised i) count (cut.chosen i h (member refl)) chosen
      by_test false member out = subst (λ n. IsChosen (int_at p.gain i) n (nat_at highs i) x count) (cut.others i h (out refl)) chosen

-- ---- all cells

-- both cuts at once
both_prices : (test : Bool) (a b : Option ℤ) (x : ℤ) → cond test (at_most a (cond test (at_least b x) x)) (cond test (at_least b x) x) ≡ cond test (at_most a (at_least b x)) x
both_prices true a b x = refl
both_prices false a b x = refl

pub chosen_back : (p : Program) (step : Step) (lows highs raised lowered : List ℕ) (prices undone : ℕ → ℤ) (counts : List ℕ)
    → IsStep p step lows highs raised lowered → AreChosen p raised lowered prices counts → Undoes p step prices undone → AreChosen p lows highs undone counts
chosen_back p step lows highs raised lowered prices undone counts cut chosen undoes = record {
  sized = chosen.sized;
  each = λ i h. subst (λ y. IsChosen (int_at p.gain i) (nat_at lows i) (nat_at highs i) y (nat_at counts i))
      (both_prices (is_in p i step.place) step.raised step.lowered (prices i) ∙ sym (undoes i h))
      (raise_back p step.place lows highs raised step.raised cut.up i h (after_lower p step.place step.lowered i (prices i)) (nat_at counts i)
      (lower_back p step.place raised highs lowered step.lowered cut.down i h (prices i) (nat_at counts i) (chosen.each i h)));
}

-- ---- the constraint of the step

-- where its price has to rise, it has all that it may
tight_up : (p : Program) (k : ℕ) (lows highs lowered : List ℕ) (a bound : Option ℤ) (prices : ℕ → ℤ) (counts : List ℕ) (price : ℤ)
    → IsLowered p k lows highs lowered bound → AreChosen p lows lowered prices counts → HavePrice p k prices price
    → price <ℤ at_most a (at_least bound price) → total p counts k ≡ pos (nat_at p.most k)
tight_up p k lows highs lowered None None prices counts price cut chosen have rises = absurd (omega (arith, ints, rises))
tight_up p k lows highs lowered (Some a) None prices counts price cut chosen have rises = absurd (omega (arith, ints, clamps, rises))
tight_up p k lows highs lowered a (Some b) prices counts price cut chosen have rises =
    total_same p counts lowered k (λ i h member.
    barred_all (int_at p.gain i) (nat_at lows i) (nat_at highs i) b (prices i) (nat_at lowered i) (nat_at counts i) (cut.chosen i h member) (chosen.each i h)
    (subst (λ y. y <ℤ b) (sym (have i h member)) (above a rises)))
    ∙ cut.total
  where
    above : (a : Option ℤ) → price <ℤ at_most a (int_max b price) → price <ℤ b
    above None less = omega (arith, ints, clamps, less)
    above (Some n) less = omega (arith, ints, clamps, less)

-- and where it has to fall, as little as it may
tight_down : (p : Program) (k : ℕ) (lows highs raised lowered : List ℕ) (bound b : Option ℤ) (prices : ℕ → ℤ) (counts : List ℕ) (price : ℤ)
    → IsRaised p k lows highs raised bound → IsLowered p k raised highs lowered b → AreChosen p raised lowered prices counts → HavePrice p k prices price
    → at_most bound (at_least b price) <ℤ price → total p counts k ≡ pos (nat_at p.least k)
tight_down p k lows highs raised lowered None None prices counts price cut low chosen have falls = absurd (omega (arith, ints, falls))
tight_down p k lows highs raised lowered None (Some b) prices counts price cut low chosen have falls = absurd (omega (arith, ints, clamps, falls))
tight_down p k lows highs raised lowered (Some a) b prices counts price cut low chosen have falls =
    total_same p counts raised k (λ i h member.
    let full = lower_back p k raised highs lowered b low i h (prices i) (nat_at counts i) (chosen.each i h) in
    let same : after_lower p k b i (prices i) ≡ at_least b price =
    ap (λ t. cond t (at_least b (prices i)) (prices i)) member ∙ ap (λ x. at_least b x) (have i h member) in
    forced_all (int_at p.gain i) (nat_at lows i) (nat_at highs i) a (after_lower p k b i (prices i)) (nat_at raised i) (nat_at counts i) (cut.chosen i h member) full
    (subst (λ y. a <ℤ y) (sym same) (below b falls)))
    ∙ all
  where
    below : (b : Option ℤ) → int_min a (at_least b price) <ℤ price → a <ℤ at_least b price
    below None less = omega (arith, ints, clamps, less)
    below (Some n) less = omega (arith, ints, clamps, less)

    all : total p raised k ≡ pos (nat_at p.least k)
    all = let is = cut.total in omega (arith, ints, is)

above_by : (x y : ℤ) → pos 0 <ℤ (x -ℤ y) → y <ℤ x
above_by x y more = omega (arith, ints, more)

below_by : (x y : ℤ) → (x -ℤ y) <ℤ pos 0 → x <ℤ y
below_by x y less = omega (arith, ints, less)

pub step_tight : (p : Program) (step : Step) (lows highs raised lowered : List ℕ) (prices : ℕ → ℤ) (counts : List ℕ) (price : ℤ)
    → IsStep p step lows highs raised lowered → AreChosen p raised lowered prices counts → HavePrice p step.place prices price
    → IsTight p step.place counts (price_at step price -ℤ price)
step_tight p step lows highs raised lowered prices counts price cut chosen have = record {
  up = λ rises. tight_up p step.place raised highs lowered step.raised step.lowered prices counts price cut.down chosen have (above_by (price_at step price) price rises);
  down = λ falls. tight_down p step.place lows highs raised lowered step.raised step.lowered prices counts price cut.up cut.down chosen have (below_by (price_at step price) price falls);
}
