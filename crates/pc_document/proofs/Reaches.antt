-- How far trees reach.
use Rattle.std.proofs.Common.{◌≡◌, ℕ, zero, suc, ◌+◌, ◌-◌, ◌<◌, ◌≤◌, Bool, true, false, List, [], ◌∷◌, length, drop, get_or, inl, inr, refl, sym, ap, ◌∙◌, subst, arith}
use Rattle.std.specs.Prelude.{◌==◌, ◌≢◌, ◌⊎◌, slice_set}
use Rattle.std.proofs.lemmas.List.{drop_more, drop-drop, length-drop, length-set, get_or-set_other}
use Rattle.std.proofs.lemmas.Grind.{get_or-set_at}
use Rattle.std.proofs.lemmas.Bool.Decides.{eqb_tells}
use Rattle.pc_document_format.specs.Formats.{AreTrees}
use Rattle.pc_document.specs.Spans.{Trees, owed, span, ArePast}

no_span : (flags : List Bool) → span 0 flags ≡ 0
unfolding span
no_span [] = refl
no_span (flag ∷ flags) = refl

none : (n : ℕ) → span n [] ≡ 0
unfolding span
none zero = refl
none (suc n) = refl

owed_more : (flag : Bool) (n m k : ℕ) → k ≡ n + m → owed flag k ≡ owed flag n + m
owed_more true n m k e = omega arith
owed_more false n m k e = e

first_span : (n : ℕ) (flag : Bool) (flags : List Bool) → span (suc n) (flag ∷ flags) ≡ 1 + span (owed flag n) flags
unfolding span
first_span n flag flags = refl

-- so many trees, and more after them
spans_join : (flags : List Bool) (n m k : ℕ) → k ≡ n + m → span k flags ≡ span n flags + span m (drop (span n flags) flags)
spans_join flags zero m k is = by_zero (span 0 flags) (no_span flags)
  where
    by_zero : (j : ℕ) → j ≡ 0 → span k flags ≡ j + span m (drop j flags)
    by_zero j e = let same : k ≡ m = omega arith in rw (e, same) (omega arith)
spans_join flags (suc n) m zero is = absurd (omega arith)
spans_join [] (suc n) m (suc k) is = by_none (span (suc n) []) (none (suc n))
  where
    by_none : (j : ℕ) → j ≡ 0 → span (suc k) [] ≡ j + span m (drop j [])
    by_none j e = let left = none m in rw e (none (suc k) ∙ omega arith)
spans_join (flag ∷ flags) (suc n) m (suc k) is =
    by_first (spans_join flags (owed flag n) m (owed flag k) (owed_more flag n m k (omega arith))) (span (suc n) (flag ∷ flags)) (first_span n flag flags)
  where
    by_first : span (owed flag k) flags ≡ span (owed flag n) flags + span m (drop (span (owed flag n) flags) flags)
        → (j : ℕ) → j ≡ 1 + span (owed flag n) flags → span (suc k) (flag ∷ flags) ≡ j + span m (drop j (flag ∷ flags))
    by_first again j e =
        let whole = first_span k flag flags in
        let one : 1 + span (owed flag n) flags ≡ suc (span (owed flag n) flags) = omega arith in
        rw (e, one) (whole ∙ rw again (omega arith))

-- so many trees leave the others
trees_left : (flags : List Bool) (n m k : ℕ) → k ≡ n + m → Trees k flags → Trees m (drop (span n flags) flags)
unfolding AreTrees
trees_left flags zero m k is trees = by_zero (span 0 flags) (no_span flags)
  where
    by_zero : (j : ℕ) → j ≡ 0 → Trees m (drop j flags)
    by_zero j e = let same : k ≡ m = omega arith in rw e (subst (λ (i : ℕ). Trees i flags) same trees)
trees_left flags (suc n) m zero is trees = absurd (omega arith)
trees_left [] (suc n) m (suc k) is trees = absurd trees
trees_left (flag ∷ flags) (suc n) m (suc k) is trees =
    by_first (trees_left flags (owed flag n) m (owed flag k) (owed_more flag n m k (omega arith)) trees.1) (span (suc n) (flag ∷ flags)) (first_span n flag flags)
  where
    by_first : Trees m (drop (span (owed flag n) flags) flags) → (j : ℕ) → j ≡ 1 + span (owed flag n) flags → Trees m (drop j (flag ∷ flags))
    by_first again j e =
        let one : 1 + span (owed flag n) flags ≡ suc (span (owed flag n) flags) = omega arith in
        rw (e, one) again

some_left : (n : ℕ) (flags : List Bool) → Trees (suc n) flags → 0 < length flags
unfolding AreTrees
some_left n [] trees = absurd trees
some_left n (flag ∷ flags) trees = omega arith

-- the nodes from any place on are those of some trees
trees_from : (flags : List Bool) (k n : ℕ) → Trees n flags → k < length flags → (m : ℕ) × Trees (suc m) (drop k flags)
unfolding AreTrees
trees_from [] k n trees inside = absurd (omega arith)
trees_from (flag ∷ flags) k zero trees inside = absurd trees
trees_from (flag ∷ flags) zero (suc n) trees inside = (n, trees)
trees_from (flag ∷ flags) (suc k) (suc n) trees inside = trees_from flags k (owed flag n) trees.1 (omega arith)

-- what a node with two parts has after it
record HasParts (flags : List Bool) (k : ℕ) : Type 0 where
  next : k + 1 < length flags
  second : k + 1 + span 1 (drop (k + 1) flags) < length flags
  whole : k + span 1 (drop k flags) ≡ k + 1 + span 1 (drop (k + 1) flags) + span 1 (drop (k + 1 + span 1 (drop (k + 1) flags)) flags)

parts_after : (flags : List Bool) (k : ℕ) → Trees 1 flags → k < length flags → get_or flags k false ≡ true → HasParts flags k
unfolding AreTrees
parts_after flags k trees inside is =
    let front : drop k flags ≡ true ∷ drop (k + 1) flags = drop_more flags k false inside ∙ ap (λ (flag : Bool). flag ∷ drop (k + 1) flags) is in
    let here = trees_from flags k 1 trees inside in
    let at_front : Trees (suc here.0) (true ∷ drop (k + 1) flags) = subst (λ (list : List Bool). Trees (suc here.0) list) front here.1 in
    let later : Trees (suc (suc here.0)) (drop (k + 1) flags) = at_front.1 in
    let some : 0 < length (drop (k + 1) flags) = some_left (suc here.0) (drop (k + 1) flags) later in
    let left : 0 < length (drop (span 1 (drop (k + 1) flags)) (drop (k + 1) flags)) =
    some_left here.0 (drop (span 1 (drop (k + 1) flags)) (drop (k + 1) flags)) (trees_left (drop (k + 1) flags) 1 (suc here.0) (suc (suc here.0)) (omega arith) later) in
    let long = length-drop (k + 1) flags in
    let left_long = length-drop (span 1 (drop (k + 1) flags)) (drop (k + 1) flags) in
    let joined = spans_join (drop (k + 1) flags) 1 1 2 refl in
    let first = first_span 0 true (drop (k + 1) flags) in
    let twice = drop-drop (span 1 (drop (k + 1) flags)) (k + 1) flags in
    let whole : span 1 (drop k flags) ≡ 1 + span 2 (drop (k + 1) flags) = ap (span 1) front ∙ first in
    let parts : span 2 (drop (k + 1) flags) ≡ span 1 (drop (k + 1) flags) + span 1 (drop (k + 1 + span 1 (drop (k + 1) flags)) flags) = joined ∙ ap (λ (list : List Bool). span 1 (drop (k + 1) flags) + span 1 list) twice in
    record {
      next = omega arith;
      second = omega arith;
      whole = omega arith;
    }

leaf_after : (flags : List Bool) (k : ℕ) → k < length flags → get_or flags k false ≡ false → span 1 (drop k flags) ≡ 1
leaf_after flags k inside is =
    let front : drop k flags ≡ false ∷ drop (k + 1) flags = drop_more flags k false inside ∙ ap (λ (flag : Bool). flag ∷ drop (k + 1) flags) is in
    ap (span 1) front ∙ first_span 0 false (drop (k + 1) flags) ∙ ap (λ (j : ℕ). 1 + j) (no_span (drop (k + 1) flags))

-- ---- a pass from the last node to the first

pub next_inside : (flags : List Bool) (k : ℕ) → Trees 1 flags → k < length flags → get_or flags k false ≡ true → k + 1 < length flags
next_inside flags k trees inside is = (parts_after flags k trees inside is).next

pub second_inside : (flags : List Bool) (past : List ℕ) (k : ℕ) → Trees 1 flags → k < length flags → get_or flags k false ≡ true → ArePast flags past (k + 1) → get_or past (k + 1) 0 < length past
second_inside flags past k trees inside is known =
    let parts = parts_after flags k trees inside is in
    let next = known.each (k + 1) (omega arith) parts.next in
    let second = parts.second in
    let many = known.as_many in
    rw (next, many) second

pub second_end : (flags : List Bool) (past : List ℕ) (k : ℕ) → Trees 1 flags → k < length flags → get_or flags k false ≡ true → ArePast flags past (k + 1) → get_or past (get_or past (k + 1) 0) 0 ≡ k + span 1 (drop k flags)
second_end flags past k trees inside is known =
    let parts = parts_after flags k trees inside is in
    let next = known.each (k + 1) (omega arith) parts.next in
    let second = known.each (k + 1 + span 1 (drop (k + 1) flags)) (omega arith) parts.second in
    ap (λ (j : ℕ). get_or past j 0) next ∙ second ∙ sym parts.whole

pub leaf_end : (flags : List Bool) (k : ℕ) → k < length flags → get_or flags k false ≡ false → k + 1 ≡ k + span 1 (drop k flags)
leaf_end flags k inside is = let one = leaf_after flags k inside is in omega arith

-- before the last node nothing is known, and each further number is known beside the later ones
pub past_none : (flags : List Bool) (past : List ℕ) → length past ≡ length flags → ArePast flags past (length flags)
past_none flags past many = record { as_many = many; each = λ j late inside. absurd (omega arith) }

pub past_more : (flags : List Bool) (past : List ℕ) (k end : ℕ) → 0 < k → k ≤ length flags → end ≡ k - 1 + span 1 (drop (k - 1) flags) → ArePast flags past k → ArePast flags (slice_set past (k - 1) end) (k - 1)
past_more flags past k end some inside is known = record {
  as_many = length-set past (k - 1) end ∙ known.as_many;
  each = each;
}
  where
    each : (j : ℕ) → k - 1 ≤ j → j < length flags → get_or (slice_set past (k - 1) end) j 0 ≡ j + span 1 (drop j flags)
    each j from below = by_place (eqb_tells j (k - 1))
      where
        later : j ≢ k - 1 → k ≤ j
        later apart = omega (arith, apart)

        by_place : (((j == (k - 1)) ≡ true) × (j ≡ k - 1)) ⊎ (((j == (k - 1)) ≡ false) × (j ≢ k - 1)) → get_or (slice_set past (k - 1) end) j 0 ≡ j + span 1 (drop j flags)
        by_place (inl (t, same)) = let here = get_or-set_at past (k - 1) j end 0 same (let many = known.as_many in omega arith) in here ∙ is ∙ ap (λ (i : ℕ). i + span 1 (drop i flags)) (sym same)
        by_place (inr (t, other)) = get_or-set_other past (k - 1) j end 0 other ∙ known.each j (later other) below

pub ruleset past_steps = (next_inside, second_inside, second_end, leaf_end, past_none, past_more)
