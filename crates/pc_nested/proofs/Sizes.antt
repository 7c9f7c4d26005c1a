-- Constraints with fewer cells come first.
use Rattle.std.proofs.Common.{◌≡◌, ◌≢◌, ℕ, zero, suc, ◌+◌, ◌<◌, ◌≤◌, inl, inr, Bool, true, false, true≢false, cond, List, [], ◌∷◌, length, get_or, refl, ap, sym, ◌∙◌, subst, arith}
use Rattle.std.specs.Prelude.{ℤ, pos, ◌<ℤ◌, ◌≤ℤ◌, All}
use Rattle.std.proofs.lemmas.Int.{ints, by_lt_z}
use Rattle.std.proofs.lemmas.Bool.{cases_eq}
use Rattle.std.proofs.lemmas.List.{length-map, get_or-map}
use Rattle.std.proofs.lemmas.List.Elements.{All-nil, All-cons, All-weaker}
use Rattle.pc_program_bound.specs.declared.program.Program.{Program}
use Rattle.pc_program_bound.specs.Sums.{sum_below, nat_at}
use Rattle.pc_program_bound.specs.Allocation.{cells_of, constraints_of, total}
use Rattle.pc_program_bound.proofs.SumBelow.{sum_below-zero, sum_below-suc, sum_below_mono, sum_below-zeros}
use Rattle.pc_program.specs.Settled.{is_in}
use Rattle.pc_nested.specs.declared.narrowing.Step.{Step}
use Rattle.pc_nested.specs.Nested.{IsInside, AreNestedPair, IsNested}
use Rattle.pc_nested.specs.Narrowed.{ComesBefore, places_of}
use Rattle.pc_nested.specs.Sized.{one_in, size_of, IsEarlier, IsAmong, ArePast}
use Rattle.pc_nested.specs.Ordered.{CanBeMet, IsStopped}

-- ---- sizes

sum_less : (n a : ℕ) (f g : ℕ → ℤ) → a < n → ((i : ℕ) → i < n → f i ≤ℤ g i) → f a <ℤ g a → sum_below n f <ℤ sum_below n g
sum_less zero a f g there below less = absurd (omega arith)
sum_less (suc n) a f g there below less = elim (cases_eq n a) [
  | inl e ↦
      let before = sum_below_mono n f g (λ i h. below i (omega arith)) in
      let last : f n <ℤ g n = subst (λ i. f i <ℤ g i) (sym e) less in
      omega (arith, ints, sum_below-suc n f, sum_below-suc n g, before, last)
  | inr other ↦
      let before = sum_less n a f g (omega arith) (λ i h. below i (omega arith)) less in
      let last = below n (omega arith) in
      omega (arith, ints, sum_below-suc n f, sum_below-suc n g, before, last)
]

one_mono : (p : Program) (j k i : ℕ) → (is_in p i j ≡ true → is_in p i k ≡ true) → one_in p j i ≤ℤ one_in p k i
one_mono p j k i inside = by_test (is_in p i j) (is_in p i k) inside
  where
    by_test : (a b : Bool) → (a ≡ true → b ≡ true) → cond a (pos 1) (pos 0) ≤ℤ cond b (pos 1) (pos 0)
    by_test true true h = omega (arith, ints)
    by_test true false h = absurd (true≢false (sym (h refl)))
    by_test false true h = omega (arith, ints)
    by_test false false h = omega (arith, ints)

-- a constraint that holds another of no fewer cells has no others
pub inside_by_size : (p : Program) (j k : ℕ) → IsInside p k j → size_of p j ≤ℤ size_of p k → IsInside p j k
inside_by_size p j k inside few i h member = by_test (is_in p i k) (λ e. e) (λ e. e)
  where
    by_test : (test : Bool) → (test ≡ true → is_in p i k ≡ true) → (test ≡ false → is_in p i k ≡ false) → is_in p i k ≡ true
    by_test true in_it out = in_it refl
    by_test false in_it out =
        let none : one_in p k i ≡ pos 0 = ap (λ t. cond t (pos 1) (pos 0)) (out refl) in
        let one : one_in p j i ≡ pos 1 = ap (λ t. cond t (pos 1) (pos 0)) member in
        let less = sum_less (cells_of p) i (one_in p k) (one_in p j) h (λ c there. one_mono p k j c (inside c there)) (omega (arith, ints, none, one)) in
        absurd (omega (arith, ints, less, few))

ComesBefore-by_size : (p : Program) (j k : ℕ) → AreNestedPair p j k → j ≢ k → size_of p j ≤ℤ size_of p k → ComesBefore p j k
ComesBefore-by_size p j k (inl apart) other few = record { apart = other; nested = inl apart }
ComesBefore-by_size p j k (inr (inl inside)) other few = record { apart = other; nested = inr inside }
ComesBefore-by_size p j k (inr (inr holds)) other few = record { apart = other; nested = inr (inside_by_size p j k holds few) }

ComesBefore-earlier : (p : Program) (size j k : ℕ) → IsNested p → j < constraints_of p → k < constraints_of p → size_of p k ≡ pos size
    → IsEarlier p j size k → ComesBefore p j k
ComesBefore-earlier p size j k nested first second is (inl less) =
    ComesBefore-by_size p j k (nested.pairs j k first second) (λ e. let same : size_of p j ≡ size_of p k = ap (size_of p) e in absurd (omega (arith, ints, less, is, same)))
    (omega (arith, ints, less, is))
ComesBefore-earlier p size j k nested first second is (inr (same, before)) =
    ComesBefore-by_size p j k (nested.pairs j k first second) (λ e. omega (arith, e, before)) (omega (arith, ints, same, is))

-- all steps before a constraint of that size
pub steps_in_order : (p : Program) (steps : List Step) (size k : ℕ) → IsNested p → k < constraints_of p → size_of p k ≡ pos size
    → ArePast p (places_of steps) size k → All (λ (step : Step). ComesBefore p step.place k) steps
steps_in_order p steps size k nested there is past place d h =
    let long : length (places_of steps) ≡ length steps = length-map steps (λ (step : Step). step.place) in
    let found = past.earlier place d.place (omega (arith, long, h)) in
    let same : get_or (places_of steps) place d.place ≡ (get_or steps place d).place = get_or-map (λ (step : Step). step.place) steps place d d.place h in
    let before = subst (λ j. (j < constraints_of p) × IsEarlier p j size k) same found in
    ComesBefore-earlier p size (get_or steps place d).place k nested before.0 there is before.1

-- ---- the places of the steps

later : (p : Program) (j size place : ℕ) → IsEarlier p j size place → IsEarlier p j size (place + 1)
later p j size place (inl less) = inl less
later p j size place (inr (same, before)) = inr (same, omega arith)

later_all : (p : Program) (places : List ℕ) (size place : ℕ) → ArePast p places size place
    → All (λ j. (j < constraints_of p) × IsEarlier p j size (place + 1)) places
later_all p places size place past =
    All-weaker (λ j. (j < constraints_of p) × IsEarlier p j size place) (λ j. (j < constraints_of p) × IsEarlier p j size (place + 1))
    (λ j found. (found.0, later p j size place found.1)) places past.earlier

size_positive : (p : Program) (k : ℕ) → pos 0 ≤ℤ size_of p k
size_positive p k =
    let zeros = sum_below-zeros (cells_of p) in
    let more = sum_below_mono (cells_of p) (λ i. pos 0) (one_in p k) (λ i h. one (is_in p i k)) in
    omega (arith, ints, zeros, more)
  where
    one : (test : Bool) → pos 0 ≤ℤ cond test (pos 1) (pos 0)
    one true = omega (arith, ints)
    one false = omega (arith, ints)

ones_below : (n : ℕ) (f : ℕ → ℤ) → ((i : ℕ) → i < n → f i ≤ℤ pos 1) → sum_below n f ≤ℤ pos n
ones_below zero f small = rw (sum_below-zero f) (omega (arith, ints))
ones_below (suc n) f small =
    let before = ones_below n f (λ i h. small i (omega arith)) in
    let last = small n (omega arith) in
    omega (arith, ints, sum_below-suc n f, before, last)

size_few : (p : Program) (k : ℕ) → size_of p k ≤ℤ pos (cells_of p)
size_few p k = ones_below (cells_of p) (one_in p k) (λ i h. one (is_in p i k))
  where
    one : (test : Bool) → cond test (pos 1) (pos 0) ≤ℤ pos 1
    one true = omega (arith, ints)
    one false = omega (arith, ints)

pub ArePast-none : (p : Program) → ArePast p [] 0 0
ArePast-none p = record {
  earlier = All-nil (λ j. (j < constraints_of p) × IsEarlier p j 0 0);
  whole = λ j there before. absurd (none j before);
}
  where
    none : (j : ℕ) → IsEarlier p j 0 0 → ⊥
    none j (inl less) = let some = size_positive p j in omega (arith, ints, less, some)
    none j (inr (same, before)) = omega arith

pub ArePast-skip : (p : Program) (places : List ℕ) (size place : ℕ) → ArePast p places size place → size_of p place ≢ pos size → ArePast p places size (place + 1)
ArePast-skip p places size place past other = record {
  earlier = later_all p places size place past;
  whole = λ j there before. past.whole j there (known j before);
}
  where
    known : (j : ℕ) → IsEarlier p j size (place + 1) → IsEarlier p j size place
    known j (inl less) = inl less
    known j (inr (same, before)) = elim (cases_eq j place) [
      | inl e ↦ absurd (other (subst (λ n. size_of p n ≡ pos size) e same))
      | inr apart ↦ inr (same, omega arith)
    ]

among_more : (place : ℕ) (places : List ℕ) (j : ℕ) → IsAmong places j → IsAmong (place ∷ places) j
among_more place places j (k, short, is) = (suc k, omega (arith, short), is)

pub ArePast-step : (p : Program) (places : List ℕ) (size place : ℕ) → place < constraints_of p → ArePast p places size place → size_of p place ≡ pos size
    → ArePast p (place ∷ places) size (place + 1)
ArePast-step p places size place there past is = record {
  earlier = All-cons (λ j. (j < constraints_of p) × IsEarlier p j size (place + 1)) place places (there, inr (is, omega arith)) (later_all p places size place past);
  whole = λ j inside before. by_place j inside before;
}
  where
    by_place : (j : ℕ) → j < constraints_of p → IsEarlier p j size (place + 1) → IsAmong (place ∷ places) j
    by_place j inside (inl less) = among_more place places j (past.whole j inside (inl less))
    by_place j inside (inr (same, before)) = elim (cases_eq j place) [
      | inl e ↦ (0, omega arith, sym e)
      | inr apart ↦ among_more place places j (past.whole j inside (inr (same, omega arith)))
    ]

pub ArePast-next : (p : Program) (places : List ℕ) (size place : ℕ) → constraints_of p ≤ place → ArePast p places size place → ArePast p places (size + 1) 0
ArePast-next p places size place end past = record {
  earlier = All-weaker (λ j. (j < constraints_of p) × IsEarlier p j size place) (λ j. (j < constraints_of p) × IsEarlier p j (size + 1) 0)
      (λ j found. (found.0, inl (less j found.1))) places past.earlier;
  whole = λ j there before. past.whole j there (known j there before);
}
  where
    less : (j : ℕ) → IsEarlier p j size place → size_of p j <ℤ pos (size + 1)
    less j (inl fewer) = omega (arith, ints, fewer)
    less j (inr (same, before)) = omega (arith, ints, same)

    known : (j : ℕ) → j < constraints_of p → IsEarlier p j (size + 1) 0 → IsEarlier p j size place
    known j there (inl fewer) = by_lt_z (size_of p j) (pos size) (λ h. inl h) (λ h. inr (omega (arith, ints, fewer, h), omega (arith, there, end)))
    known j there (inr (same, before)) = absurd (omega arith)

pub ArePast-all : (p : Program) (places : List ℕ) (size : ℕ) → cells_of p < size → ArePast p places size 0 → (j : ℕ) → j < constraints_of p → IsAmong places j
ArePast-all p places size all past j there = let few = size_few p j in past.whole j there (inl (omega (arith, ints, few, all)))

-- ---- a constraint that cannot be met

pub stopped_from : (p : Program) (k : ℕ) (lows highs : List ℕ) → (CanBeMet p k lows highs → ⊥) → IsStopped p k lows highs
stopped_from p k lows highs not =
    by_lt_z (total p highs k) (pos (nat_at p.least k)) (λ short. inl short)
    (λ enough. by_lt_z (pos (nat_at p.most k)) (total p lows k) (λ over. inr over) (λ most. absurd (not (enough, most))))

-- ---- as the calls ask

pub past_whole : (p : Program) (place : ℕ) (n : List Step) (size : ℕ) (count : ℕ) → pos count ≡ size_of p place → (count ≡ size → ⊥)
    → ArePast p (places_of n) size place → ArePast p (places_of n) size (place + 1)
past_whole p place n size count is other past = ArePast-skip p (places_of n) size place past (λ e. other (omega (arith, ints, is, e)))

pub past_narrowed : (p : Program) (place : ℕ) (before after : List Step) (size count : ℕ) → place < constraints_of p → pos count ≡ size_of p place → count ≡ size
    → places_of after ≡ place ∷ places_of before → ArePast p (places_of before) size place → ArePast p (places_of after) size (place + 1)
past_narrowed p place before after size count there is same places past =
    subst (λ ps. ArePast p ps size (place + 1)) (sym places) (ArePast-step p (places_of before) size place there past (sym is ∙ ap (λ n. pos n) same))

pub order_before : (p : Program) (place : ℕ) (steps : List Step) (size count : ℕ) → IsNested p → place < constraints_of p → pos count ≡ size_of p place
    → count ≡ size → ArePast p (places_of steps) size place → All (λ (step : Step). ComesBefore p step.place place) steps
order_before p place steps size count nested there is same past = steps_in_order p steps size place nested there (sym is ∙ ap (λ n. pos n) same) past

pub ruleset past_steps = (past_whole, past_narrowed, order_before, stopped_from)

pub past_next : (p : Program) (steps : List Step) (size place : ℕ) → constraints_of p ≤ place → ArePast p (places_of steps) size place
    → ArePast p (places_of steps) (size + 1) 0
past_next p steps size place end past = ArePast-next p (places_of steps) size place end past

pub can_be_met : (p : Program) (k : ℕ) (lows highs : List ℕ) (fewest most : ℕ) → pos fewest ≡ total p lows k → pos most ≡ total p highs k
    → nat_at p.least k ≤ most → fewest ≤ nat_at p.most k → CanBeMet p k lows highs
can_be_met p k lows highs fewest most low high enough few = (omega (arith, ints, high, enough), omega (arith, ints, low, few))

pub ruleset sizes_met = (past_next, can_be_met)

pub ruleset no_places = (ArePast-none)
