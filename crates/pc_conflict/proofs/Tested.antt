-- The places that are tested are places of the list, and the other members are among them.
use Rattle.std.proofs.Common.{◌≡◌, ◌⊎◌, ℕ, zero, suc, ◌+◌, ◌-◌, ◌≤◌, ◌<◌, Bool, true, false, not, cond, List, [], ◌∷◌, ◌++◌, length, get_or, filter, eqb, All, AllPairs, Contains, inl, inr, refl, sym, ap, ◌∙◌, append_assoc, true≢false, arith}
use Rattle.std.specs.Prelude.{nat_lt}
use Rattle.std.specs.List.{range_with_len}
use Rattle.std.proofs.lemmas.Bool.{cases_lt, ltb-true}
use Rattle.std.proofs.lemmas.Bool.Decides.{nat_tests}
use Rattle.std.proofs.lemmas.List.Elements.{All-append, All-contains_itself, All-filter, All-head, All-tail, All-weaker, Contains-append_left, Contains-append_right, filter_passes}
use Rattle.std.proofs.lemmas.List.FromFn.{get_or-range_with_len, length-range_with_len}
use Rattle.std.proofs.lemmas.List.Kept.{AllPairs-cons, AllPairs-filter}
use Rattle.pc_model.specs.declared.constraint.Constraint.{Constraint}
use Rattle.pc_model.proofs.Lists.{AllPairs-head, AllPairs-tail}
use Rattle.pc_conflict.specs.Core.{other_than}
use Rattle.pc_conflict.specs.Deletion.{from_place}
use Rattle.pc_conflict.specs.Deleting.{ArePlaces, tested_at}

-- ---- lists of numbers

below : ℕ → ℕ → Type 0
below a b = a < b

AllPairs-append : {X : Type 0} (R : X → X → Type 0) (xs ys : List X) → AllPairs R xs → AllPairs R ys → All (λ x. All (R x) ys) xs → AllPairs R (xs ++ ys)
AllPairs-append R [] ys first second across = second
AllPairs-append R (x ∷ xs) ys first second across =
    AllPairs-cons R x (xs ++ ys) (All-append (R x) xs ys (AllPairs-head R x xs first) (All-head (λ y. All (R y) ys) x xs across))
    (AllPairs-append R xs ys (AllPairs-tail R x xs first) second (All-tail (λ y. All (R y) ys) x xs across))

in_range : (from count : ℕ) → All (λ n. (from ≤ n) × (n < from + count)) (range_with_len from count)
in_range from count k d here =
    let short : k < count = omega (arith, here, length-range_with_len from count) in
    let is = get_or-range_with_len from count k d short in
    (omega (arith, is), omega (arith, is, short))

rising_range : (from count : ℕ) → AllPairs (λ (a b : ℕ). a < b) (range_with_len from count)
rising_range from count i j d before here =
    let short : j < count = omega (arith, here, length-range_with_len from count) in
    let first = get_or-range_with_len from count i d (omega (arith, before, short)) in
    let second = get_or-range_with_len from count j d short in
    omega (arith, first, second, before)

has_number : (from count n : ℕ) → from ≤ n → n < from + count → Contains (range_with_len from count) n
has_number from count n low high =
    let place : from + (n - from) ≡ n = omega (arith, low) in
    (n - from, omega (arith, length-range_with_len from count, low, high), get_or-range_with_len from count (n - from) n (omega (arith, low, high)) ∙ place)

Contains-filter : {X : Type 0} (p : X → Bool) (xs : List X) (x : X) → Contains xs x → p x ≡ true → Contains (filter p xs) x
Contains-filter p [] x there passes = absurd (omega (arith, there.1))
Contains-filter {X} p (y ∷ ys) x there passes = by there.0 there.1 there.2 (λ within. Contains-filter p ys x within passes) (p y) refl
  where
    later : Contains (filter p ys) x → (b : Bool) → Contains (cond b (y ∷ filter p ys) (filter p ys)) x
    later found true = (suc found.0, omega (arith, found.1), found.2)
    later found false = found

    first : y ≡ x → (b : Bool) → p y ≡ b → Contains (cond b (y ∷ filter p ys) (filter p ys)) x
    first is true passed = (0, omega arith, is)
    first is false failed = absurd (true≢false (sym (ap p is ∙ passes) ∙ failed))

    by : (k : ℕ) → k < length (y ∷ ys) → get_or (y ∷ ys) k x ≡ x → (Contains ys x → Contains (filter p ys) x) → (b : Bool) → p y ≡ b → Contains (cond b (y ∷ filter p ys) (filter p ys)) x
    by zero here is rest b what = first is b what
    by (suc k) here is rest b what = later (rest (k, omega (arith, here), is)) b

pub range_step : (places : List ℕ) (place later : ℕ) → place ≤ later → (places ++ range_with_len place (later - place)) ++ later ∷ [] ≡ places ++ range_with_len place (later + 1 - place)
range_step places place later le =
    let more : later + 1 - place ≡ suc (later - place) = omega (arith, le) in
    let last : place + (later - place) ≡ later = omega (arith, le) in
    append_assoc places (range_with_len place (later - place)) (later ∷ [])
    ∙ ap (λ ms. places ++ ms) (ap (λ n. range_with_len place (later - place) ++ n ∷ []) (sym last) ∙ sym (range_more place (later - place)) ∙ ap (range_with_len place) (sym more))
  where
    range_more : (from count : ℕ) → range_with_len from (suc count) ≡ range_with_len from count ++ (from + count) ∷ []
    range_more from zero = let same : from ≡ from + 0 = omega arith in ap (λ n. n ∷ []) same
    range_more from (suc count) =
        let same : from + 1 + count ≡ from + suc count = omega arith in
        ap (λ ns. from ∷ ns) (range_more (from + 1) count) ∙ ap (λ n. (from ∷ range_with_len (from + 1) count) ++ n ∷ []) same

-- ---- places

module _ (constraints : List Constraint) where
  abbrev IsThere : ℕ → Type 0
  IsThere place = place < length constraints

  pub later_there : (place : ℕ) → All IsThere (from_place constraints place)
  later_there place =
      All-weaker (λ n. (place ≤ n) × (n < place + (length constraints - place))) IsThere (λ n within. omega (arith, within.0, within.1)) (from_place constraints place) (in_range place (length constraints - place))

  pub tested_there : (members : List ℕ) (place : ℕ) → All IsThere members → All IsThere (tested_at constraints members place)
  tested_there members place inside =
      All-append IsThere (filter (λ (member : ℕ). nat_lt member place) members) (from_place constraints (suc place)) (All-filter (λ (member : ℕ). nat_lt member place) IsThere members inside) (later_there (suc place))

  -- numbers below a place, each below the next, and those from a later place on
  pub are_places : (members : List ℕ) (place from : ℕ) → place ≤ from → All IsThere members → AllPairs (λ (a b : ℕ). a < b) members → All (λ member. member < place) members → ArePlaces constraints (members ++ from_place constraints from)
  are_places members place from le inside rising before = record {
    inside = All-append IsThere members (from_place constraints from) inside (later_there from);
    rising =
        AllPairs-append (λ (a b : ℕ). a < b) members (from_place constraints from) rising (rising_range from (length constraints - from))
        (λ k d here. All-weaker (λ n. (from ≤ n) × (n < from + (length constraints - from))) (λ n. get_or members k d < n) (λ n within. omega (arith, within.0, before k d here, le)) (from_place constraints from) (in_range from (length constraints - from)));
  }

  pub tested_places : (members : List ℕ) (place : ℕ) → All IsThere members → AllPairs (λ (a b : ℕ). a < b) members → ArePlaces constraints (tested_at constraints members place)
  tested_places members place inside rising =
      let test = λ (member : ℕ). nat_lt member place in
      are_places (filter test members) place (suc place) (omega arith) (All-filter test IsThere members inside) (AllPairs-filter (λ (a b : ℕ). a < b) test members rising)
      (All-weaker (λ member. nat_lt member place ≡ true) (λ member. member < place) (λ member passed. ltb-true member place passed) (filter test members) (filter_passes test members))

  pub others_there : (members : List ℕ) (member : ℕ) → All IsThere members → All IsThere (other_than member members)
  others_there members member inside = All-filter (λ (x : ℕ). not (eqb x member)) IsThere members inside

  -- the other members are among what a member was tested without
  pub others_tested : (members : List ℕ) (member : ℕ) → All IsThere members → All (Contains (tested_at constraints members member)) (other_than member members)
  others_tested members member inside k d here =
      let others = other_than member members in
      let differs = λ (x : ℕ). not (eqb x member) in
      among (get_or others k d) (All-filter differs (Contains members) members (All-contains_itself members) k d here) (All-filter differs IsThere members inside k d here)
      (filter_passes differs members k d here) (cases_lt (get_or others k d) member)
    where
      among : (other : ℕ) → Contains members other → IsThere other → not (eqb other member) ≡ true → (other < member) ⊎ (member ≤ other) → Contains (tested_at constraints members member) other
      among other has there differs (inl lower) =
          Contains-append_left (filter (λ (x : ℕ). nat_lt x member) members) (from_place constraints (suc member)) other (Contains-filter (λ (x : ℕ). nat_lt x member) members other has (grind (arith, nat_tests)))
      among other has there differs (inr higher) =
          let above : member < other = grind (arith, nat_tests) in
          Contains-append_right (filter (λ (x : ℕ). nat_lt x member) members) (from_place constraints (suc member)) other
          (has_number (suc member) (length constraints - suc member) other (omega (arith, above)) (omega (arith, above, there)))
