-- The ends after one step more.
use Rattle.std.proofs.Common.{◌≡◌, ℕ, ◌<◌, ◌≤◌, ◌^◌, true, false, cond, Bool, Option, Some, None, List, [], ◌∷◌, length, map, refl, ap, sym, ◌∙◌, subst, arith}
use Rattle.std.specs.Prelude.{ℤ, pos, nat_abs, ◌≤ℤ◌, All, ⊤, MatchOption}
use Rattle.std.proofs.lemmas.Int.{ints}
use Rattle.std.proofs.lemmas.List.{get_or-replicate}
use Rattle.std.proofs.lemmas.List.Elements.{All-nil, All-cons, All-weaker, All-map}
use Rattle.pc_program_bound.specs.declared.program.Program.{Program}
use Rattle.pc_program_bound.specs.Sums.{nat_at, int_at}
use Rattle.pc_program_bound.specs.Allocation.{cells_of, constraints_of, total, IsProgram}
use Rattle.pc_program_bound.specs.Bound.{without_gain}
use Rattle.pc_program.specs.Settled.{is_in}
use Rattle.pc_nested.specs.declared.narrowing.Step.{Step}
use Rattle.pc_nested.specs.Filled.{AreBelow, IsChosen, IsFilled}
use Rattle.pc_nested.specs.Narrowed.{IsRaised, IsLowered, IsBarred, IsEmptied, IsStep, ComesBefore, IsSmallStep, IsMetBetween, AreNarrowed, IsNarrowing, flat, flat_price}
use Rattle.pc_nested.proofs.Totals.{total_same, total_mono}
use Rattle.pc_nested.proofs.Undoing.{chosen_back, step_tight}

-- ---- one cell of a step

-- raised low ends are between the ends
raised_between : (p : Program) (k : ℕ) (lows highs raised : List ℕ) (bound : Option ℤ) → IsRaised p k lows highs raised bound → AreBelow p lows highs
    → (i : ℕ) → i < cells_of p → (nat_at lows i ≤ nat_at raised i) × (nat_at raised i ≤ nat_at highs i)
raised_between p k lows highs raised None cut ordered i h =
    subst (λ ends. (nat_at lows i ≤ nat_at ends i) × (nat_at ends i ≤ nat_at highs i)) (sym cut.0) (omega arith, ordered i h)
raised_between p k lows highs raised (Some a) cut ordered i h = by_test (is_in p i k) (λ e. e) (λ e. e)
  where
    by_test : (test : Bool) → (test ≡ true → is_in p i k ≡ true) → (test ≡ false → is_in p i k ≡ false)
        → (nat_at lows i ≤ nat_at raised i) × (nat_at raised i ≤ nat_at highs i)
    by_test true member out = let chosen = cut.chosen i h (member refl) in (chosen.above, chosen.below)
    by_test false member out = let same = cut.others i h (out refl) in let le = ordered i h in (omega (arith, same), omega (arith, same, le))

lowered_between : (p : Program) (k : ℕ) (lows highs lowered : List ℕ) (bound : Option ℤ) → IsLowered p k lows highs lowered bound → AreBelow p lows highs
    → (i : ℕ) → i < cells_of p → (nat_at lows i ≤ nat_at lowered i) × (nat_at lowered i ≤ nat_at highs i)
lowered_between p k lows highs lowered None cut ordered i h =
    subst (λ ends. (nat_at lows i ≤ nat_at ends i) × (nat_at ends i ≤ nat_at highs i)) (sym cut.0) (ordered i h, omega arith)
lowered_between p k lows highs lowered (Some b) cut ordered i h = by_test (is_in p i k) (λ e. e) (λ e. e)
  where
    by_test : (test : Bool) → (test ≡ true → is_in p i k ≡ true) → (test ≡ false → is_in p i k ≡ false)
        → (nat_at lows i ≤ nat_at lowered i) × (nat_at lowered i ≤ nat_at highs i)
    by_test true member out = let chosen = cut.chosen i h (member refl) in (chosen.above, chosen.below)
    by_test false member out = let same = cut.others i h (out refl) in let le = ordered i h in (omega (arith, same, le), omega (arith, same))

raised_long : (p : Program) (k : ℕ) (lows highs raised : List ℕ) (bound : Option ℤ) → IsRaised p k lows highs raised bound → length raised ≡ length lows
raised_long p k lows highs raised None cut = ap length cut.0
raised_long p k lows highs raised (Some a) cut = cut.long

lowered_long : (p : Program) (k : ℕ) (lows highs lowered : List ℕ) (bound : Option ℤ) → IsLowered p k lows highs lowered bound → length lowered ≡ length highs
lowered_long p k lows highs lowered None cut = ap length cut.0
lowered_long p k lows highs lowered (Some b) cut = cut.long

-- ---- what raising and lowering leave to the next call

pub raised_enough : (p : Program) (k : ℕ) (lows highs raised : List ℕ) (bound : Option ℤ) → IsRaised p k lows highs raised bound
    → pos (nat_at p.least k) ≤ℤ total p raised k
raised_enough p k lows highs raised None cut = subst (λ ends. pos (nat_at p.least k) ≤ℤ total p ends k) (sym cut.0) cut.1
raised_enough p k lows highs raised (Some a) cut = let is = cut.total in omega (arith, ints, is)

-- raising adds no more than there has to be
pub raised_not_more : (p : Program) (k : ℕ) (lows highs raised : List ℕ) (bound : Option ℤ) → nat_at p.least k ≤ nat_at p.most k
    → IsRaised p k lows highs raised bound → total p lows k ≤ℤ pos (nat_at p.most k) → total p raised k ≤ℤ pos (nat_at p.most k)
raised_not_more p k lows highs raised None ordered cut most = subst (λ ends. total p ends k ≤ℤ pos (nat_at p.most k)) (sym cut.0) most
raised_not_more p k lows highs raised (Some a) ordered cut most = let is = cut.total in omega (arith, ints, is, ordered)

lowered_not_more : (p : Program) (k : ℕ) (lows highs lowered : List ℕ) (bound : Option ℤ) → IsLowered p k lows highs lowered bound
    → total p lowered k ≤ℤ pos (nat_at p.most k)
lowered_not_more p k lows highs lowered None cut = subst (λ ends. total p ends k ≤ℤ pos (nat_at p.most k)) (sym cut.0) cut.1
lowered_not_more p k lows highs lowered (Some b) cut = let is = cut.total in omega (arith, ints, is)

-- ---- high ends are lowered by filling from the low ones

pub emptied_below : (p : Program) (k : ℕ) (lows highs emptied : List ℕ) → IsEmptied p k lows highs (cells_of p) emptied → AreBelow p lows highs
    → AreBelow p emptied highs
emptied_below p k lows highs emptied is ordered i h = rw (is.each i h) (one (is_in p i k))
  where
    one : (test : Bool) → cond test (nat_at lows i) (nat_at highs i) ≤ nat_at highs i
    one true = ordered i h
    one false = omega arith

emptied_in : (p : Program) (k : ℕ) (lows highs emptied : List ℕ) → IsEmptied p k lows highs (cells_of p) emptied → (i : ℕ) → i < cells_of p
    → is_in p i k ≡ true → nat_at emptied i ≡ nat_at lows i
emptied_in p k lows highs emptied is i h member = is.each i h ∙ ap (λ t. cond t (nat_at lows i) (nat_at highs i)) member

emptied_out : (p : Program) (k : ℕ) (lows highs emptied : List ℕ) → IsEmptied p k lows highs (cells_of p) emptied → (i : ℕ) → i < cells_of p
    → is_in p i k ≡ false → nat_at emptied i ≡ nat_at highs i
emptied_out p k lows highs emptied is i h out = is.each i h ∙ ap (λ t. cond t (nat_at lows i) (nat_at highs i)) out

pub emptied_total : (p : Program) (k : ℕ) (lows highs emptied : List ℕ) → IsEmptied p k lows highs (cells_of p) emptied
    → total p emptied k ≡ total p lows k
emptied_total p k lows highs emptied is = total_same p emptied lows k (λ i h member. emptied_in p k lows highs emptied is i h member)

pub IsBarred-filled : (p : Program) (k : ℕ) (lows highs emptied lowered : List ℕ) (price : ℤ) → length highs ≡ cells_of p
    → IsEmptied p k lows highs (cells_of p) emptied → IsFilled p k emptied highs lowered price (nat_at p.most k) → IsBarred p k lows highs lowered price
IsBarred-filled p k lows highs emptied lowered price sized is filled = record {
  long = filled.long ∙ is.sized ∙ sym sized;
  others = λ i h out. filled.others i h out ∙ emptied_out p k lows highs emptied is i h out;
  chosen = λ i h member. subst (λ n. IsChosen (int_at p.gain i) n (nat_at highs i) price (nat_at lowered i)) (emptied_in p k lows highs emptied is i h member)
      (filled.chosen i h member);
  total = let all = filled.total in omega (arith, ints, all);
  small = filled.small;
}

-- ---- the same step where no row is worth anything

no_gain : (p : Program) (i : ℕ) → i < cells_of p → int_at (without_gain p).gain i ≡ pos 0
no_gain p i h = get_or-replicate (cells_of p) i (pos 0) (pos 0) h

flat_chosen : (gain price : ℤ) (low high count : ℕ) (g : ℤ) → g ≡ pos 0 → IsChosen gain low high price count → IsChosen g low high (pos 0) count
flat_chosen gain price low high count g e chosen = record {
  above = chosen.above;
  below = chosen.below;
  full = λ less. absurd (omega (arith, ints, e, less));
  empty = λ more. absurd (omega (arith, ints, e, more));
}

flat_raised : (p : Program) (k : ℕ) (lows highs raised : List ℕ) (bound : Option ℤ) → IsRaised p k lows highs raised bound
    → IsRaised (without_gain p) k lows highs raised (flat_price bound)
flat_raised p k lows highs raised None cut = cut
flat_raised p k lows highs raised (Some a) cut = record {
  long = cut.long;
  others = cut.others;
  chosen = λ i h member. flat_chosen (int_at p.gain i) a (nat_at lows i) (nat_at highs i) (nat_at raised i) _ (no_gain p i h) (cut.chosen i h member);
  total = cut.total;
  small = omega arith;
}

flat_lowered : (p : Program) (k : ℕ) (lows highs lowered : List ℕ) (bound : Option ℤ) → IsLowered p k lows highs lowered bound
    → IsLowered (without_gain p) k lows highs lowered (flat_price bound)
flat_lowered p k lows highs lowered None cut = cut
flat_lowered p k lows highs lowered (Some b) cut = record {
  long = cut.long;
  others = cut.others;
  chosen = λ i h member. flat_chosen (int_at p.gain i) b (nat_at lows i) (nat_at highs i) (nat_at lowered i) _ (no_gain p i h) (cut.chosen i h member);
  total = cut.total;
  small = omega arith;
}

IsStep-flat : (p : Program) (step : Step) (lows highs raised lowered : List ℕ) → IsStep p step lows highs raised lowered
    → IsStep (without_gain p) (flat step) lows highs raised lowered
IsStep-flat p step lows highs raised lowered cut = record {
  up = flat_raised p step.place lows highs raised step.raised cut.up;
  down = flat_lowered p step.place raised highs lowered step.lowered cut.down;
}

-- the prices of a step are small
small_raised : (p : Program) (k : ℕ) (lows highs raised : List ℕ) (bound : Option ℤ) → IsRaised p k lows highs raised bound
    → MatchOption bound ⊤ (λ price. nat_abs price ≤ 2 ^ 87)
small_raised p k lows highs raised None cut = tt
small_raised p k lows highs raised (Some a) cut = cut.small

small_lowered : (p : Program) (k : ℕ) (lows highs lowered : List ℕ) (bound : Option ℤ) → IsLowered p k lows highs lowered bound
    → MatchOption bound ⊤ (λ price. nat_abs price ≤ 2 ^ 87)
small_lowered p k lows highs lowered None cut = tt
small_lowered p k lows highs lowered (Some b) cut = cut.small

IsSmallStep-from : (p : Program) (step : Step) (lows highs raised lowered : List ℕ) → step.place < constraints_of p → IsStep p step lows highs raised lowered
    → IsSmallStep p step
IsSmallStep-from p step lows highs raised lowered there cut = record {
  there = there;
  raised = small_raised p step.place lows highs raised step.raised cut.up;
  lowered = small_lowered p step.place raised highs lowered step.lowered cut.down;
}

-- ---- all steps

AreNarrowed-none : (p : Program) → IsProgram p → AreNarrowed p [] p.floor p.cap
AreNarrowed-none p program = record {
  sized_lows = program.floors;
  sized_highs = program.caps;
  ordered = λ i h. (omega arith, program.boxed i h, omega arith);
  met = All-nil (λ (step : Step). IsMetBetween p p.floor p.cap step.place);
  in_order = tt;
  shown = λ prices counts chosen. chosen;
}

AreNarrowed-more : (p : Program) (steps : List Step) (step : Step) (lows highs raised lowered : List ℕ) → step.place < constraints_of p
    → AreNarrowed p steps lows highs → IsStep p step lows highs raised lowered → All (λ (other : Step). ComesBefore p other.place step.place) steps
    → AreNarrowed p (step ∷ steps) raised lowered
AreNarrowed-more p steps step lows highs raised lowered there narrowed cut order = record {
  sized_lows = raised_long p step.place lows highs raised step.raised cut.up ∙ narrowed.sized_lows;
  sized_highs = lowered_long p step.place raised highs lowered step.lowered cut.down ∙ narrowed.sized_highs;
  ordered = λ i h.
      let before = narrowed.ordered i h in
      let low = raised_between p step.place lows highs raised step.raised cut.up below i h in
      let high = lowered_between p step.place raised highs lowered step.lowered cut.down between i h in
      let floor = before.0 in let cap = before.2 in let l0 = low.0 in let h0 = high.0 in let h1 = high.1 in
      (omega (arith, floor, l0), h0, omega (arith, h1, cap));
  met = All-cons (λ (other : Step). IsMetBetween p raised lowered other.place) step steps
      (raised_enough p step.place lows highs raised step.raised cut.up, lowered_not_more p step.place raised highs lowered step.lowered cut.down)
      (All-weaker (λ (other : Step). IsMetBetween p lows highs other.place) (λ (other : Step). IsMetBetween p raised lowered other.place) still steps narrowed.met);
  in_order = (IsSmallStep-from p step lows highs raised lowered there cut, (order, narrowed.in_order));
  shown = λ prices counts chosen. (
    λ price have. step_tight p step lows highs raised lowered prices counts price cut chosen have,
    λ undone undoes. narrowed.shown undone counts (chosen_back p step lows highs raised lowered prices undone counts cut chosen undoes),
  );
}
  where
    below : AreBelow p lows highs
    below i h = (narrowed.ordered i h).1

    between : AreBelow p raised highs
    between i h = (raised_between p step.place lows highs raised step.raised cut.up below i h).1

    still : (other : Step) → IsMetBetween p lows highs other.place → IsMetBetween p raised lowered other.place
    still other met =
        let low = total_mono p lows raised other.place (λ i h member. (raised_between p step.place lows highs raised step.raised cut.up below i h).0) in
        let high = total_mono p lowered highs other.place (λ i h member. (lowered_between p step.place raised highs lowered step.lowered cut.down between i h).1) in
        let enough = met.0 in let most = met.1 in
        (omega (arith, ints, low, enough), omega (arith, ints, high, most))

pub IsNarrowing-none : (p : Program) → IsProgram p → IsNarrowing p [] p.floor p.cap
IsNarrowing-none p program = record {
  with_gains = AreNarrowed-none p program;
  without_gains = record {
    sized_lows = program.floors;
    sized_highs = program.caps;
    ordered = λ i h. (omega arith, program.boxed i h, omega arith);
    met = All-nil (λ (step : Step). IsMetBetween (without_gain p) p.floor p.cap step.place);
    in_order = tt;
    shown = λ prices counts chosen. chosen;
  };
}

flat_before : (p : Program) (j k : ℕ) → ComesBefore p j k → ComesBefore (without_gain p) j k
flat_before p j k before = record { apart = before.apart; nested = before.nested }

pub IsNarrowing-more : (p : Program) (steps : List Step) (step : Step) (lows highs raised lowered : List ℕ) → step.place < constraints_of p
    → IsNarrowing p steps lows highs → IsRaised p step.place lows highs raised step.raised → IsLowered p step.place raised highs lowered step.lowered
    → All (λ (other : Step). ComesBefore p other.place step.place) steps → IsNarrowing p (step ∷ steps) raised lowered
IsNarrowing-more p steps step lows highs raised lowered there narrowing up down order =
    let cut : IsStep p step lows highs raised lowered = record { up = up; down = down } in
    record {
      with_gains = AreNarrowed-more p steps step lows highs raised lowered there narrowing.with_gains cut order;
      without_gains = AreNarrowed-more (without_gain p) (map flat steps) (flat step) lows highs raised lowered there narrowing.without_gains
          (IsStep-flat p step lows highs raised lowered cut)
          (All-map (λ (other : Step). ComesBefore (without_gain p) other.place step.place) flat steps
          (All-weaker (λ (other : Step). ComesBefore p other.place step.place) (λ (other : Step). ComesBefore (without_gain p) other.place step.place)
          (λ other before. flat_before p other.place step.place before) steps order));
    }

-- ---- as the calls ask

pub raised_none : (p : Program) (k : ℕ) (lows highs : List ℕ) (all least : ℕ) → pos all ≡ total p lows k → least ≡ nat_at p.least k → least ≤ all
    → IsRaised p k lows highs lows None
raised_none p k lows highs all least is same enough = (refl, omega (arith, ints, is, same, enough))

pub raised_few : (p : Program) (k : ℕ) (lows : List ℕ) (all least : ℕ) → pos all ≡ total p lows k → all < least → total p lows k ≤ℤ pos least
raised_few p k lows all least is few = omega (arith, ints, is, few)

pub lowered_none : (p : Program) (k : ℕ) (lows highs : List ℕ) (all most : ℕ) → pos all ≡ total p highs k → most ≡ nat_at p.most k → all ≤ most
    → IsLowered p k lows highs highs None
lowered_none p k lows highs all most is same few = (refl, omega (arith, ints, is, same, few))

pub lowered_many : (p : Program) (k : ℕ) (highs : List ℕ) (all most : ℕ) → pos all ≡ total p highs k → most < all → pos most ≤ℤ total p highs k
lowered_many p k highs all most is many = omega (arith, ints, is, many)

pub emptied_few : (p : Program) (k : ℕ) (lows highs emptied : List ℕ) (most : ℕ) → IsEmptied p k lows highs (cells_of p) emptied
    → total p lows k ≤ℤ pos most → total p emptied k ≤ℤ pos most
emptied_few p k lows highs emptied most is few = rw (emptied_total p k lows highs emptied is) few

pub emptied_sized : (p : Program) (k : ℕ) (lows highs emptied : List ℕ) → IsEmptied p k lows highs (cells_of p) emptied → length emptied ≡ cells_of p
emptied_sized p k lows highs emptied is = is.sized

pub ruleset raising = (raised_none, raised_few)

pub ruleset lowering = (lowered_none, lowered_many, emptied_few, emptied_sized, emptied_below, IsBarred-filled)

pub sized_lows : (p : Program) (steps : List Step) (lows highs : List ℕ) → IsNarrowing p steps lows highs → length lows ≡ cells_of p
sized_lows p steps lows highs narrowing = narrowing.with_gains.sized_lows

pub sized_highs : (p : Program) (steps : List Step) (lows highs : List ℕ) → IsNarrowing p steps lows highs → length highs ≡ cells_of p
sized_highs p steps lows highs narrowing = narrowing.with_gains.sized_highs

pub ends_ordered : (p : Program) (steps : List Step) (lows highs : List ℕ) → IsNarrowing p steps lows highs → AreBelow p lows highs
ends_ordered p steps lows highs narrowing i h = (narrowing.with_gains.ordered i h).1

pub raised_sized : (p : Program) (k : ℕ) (lows highs raised : List ℕ) (bound : Option ℤ) → IsRaised p k lows highs raised bound → length lows ≡ cells_of p
    → length raised ≡ cells_of p
raised_sized p k lows highs raised bound cut sized = raised_long p k lows highs raised bound cut ∙ sized

pub raised_below : (p : Program) (k : ℕ) (lows highs raised : List ℕ) (bound : Option ℤ) → IsRaised p k lows highs raised bound → AreBelow p lows highs
    → AreBelow p raised highs
raised_below p k lows highs raised bound cut ordered i h = (raised_between p k lows highs raised bound cut ordered i h).1

pub ruleset narrowed_ends = (sized_lows, sized_highs, ends_ordered)

pub ruleset narrowing_steps = (sized_lows, sized_highs, ends_ordered, raised_sized, raised_below, raised_not_more, IsNarrowing-more)

pub ruleset whole = (IsNarrowing-none)
