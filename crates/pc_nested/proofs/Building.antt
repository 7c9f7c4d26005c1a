-- Lists and sums that loops build, a step further.
use Rattle.std.proofs.Common.{◌≡◌, ℕ, ◌+◌, ◌<◌, ◌≤◌, inl, inr, cond, List, [], ◌∷◌, ◌++◌, length, set, refl, ap, sym, ◌∙◌, subst, arith, get_or-set_same, get_or-set_other, length-set}
use Rattle.std.specs.Prelude.{ℤ, pos, ◌<ℤ◌, ◌≤ℤ◌}
use Rattle.std.proofs.lemmas.Int.{ints}
use Rattle.std.proofs.lemmas.Bool.{cases_eq}
use Rattle.std.proofs.lemmas.List.{length_push, get_or_push, get_or_append_left}
use Rattle.pc_program_bound.specs.declared.program.Program.{Program}
use Rattle.pc_program_bound.specs.Sums.{sum_below, nat_at, int_at}
use Rattle.pc_program_bound.specs.Allocation.{cells_of}
use Rattle.pc_program_bound.proofs.SumBelow.{sum_below-zero, sum_below-more}
use Rattle.pc_program.specs.Settled.{is_in}
use Rattle.pc_nested.specs.Filled.{IsChosen}
use Rattle.pc_nested.specs.Narrowed.{IsEmptied, AreChosen}
use Rattle.pc_nested.specs.Sized.{one_in}
use Rattle.pc_nested.specs.Priced.{IsRepriced}

-- what holds of each item, and of one pushed
pushed : (P : ℕ → ℕ → Type 0) (items : List ℕ) (x to : ℕ) → length items ≡ to → ((i : ℕ) → i < to → P i (nat_at items i)) → P to x
    → (i : ℕ) → i < to + 1 → P i (nat_at (items ++ x ∷ []) i)
pushed P items x to sized each last i h = elim (cases_eq i to) [
  | inl e ↦ rw e (subst (P to) (sym (get_or_push items x 0 to sized)) last)
  | inr other ↦ subst (P i) (sym (get_or_append_left items (x ∷ []) 0 i (omega (arith, sized, h, other)))) (each i (omega (arith, h, other)))
]

-- ---- ends

pub emptied_none : (p : Program) (k : ℕ) (lows highs : List ℕ) → IsEmptied p k lows highs 0 []
emptied_none p k lows highs = record { sized = refl; each = λ i h. absurd (omega arith) }

pub emptied_more : (p : Program) (k : ℕ) (lows highs : List ℕ) (to : ℕ) (ends : List ℕ) (x : ℕ) → IsEmptied p k lows highs to ends
    → x ≡ cond (is_in p to k) (nat_at lows to) (nat_at highs to) → IsEmptied p k lows highs (to + 1) (ends ++ x ∷ [])
emptied_more p k lows highs to ends x is last = record {
  sized = let long = is.sized in omega (arith, length_push ends x, long);
  each = pushed (λ i n. n ≡ cond (is_in p i k) (nat_at lows i) (nat_at highs i)) ends x to is.sized is.each last;
}

pub ruleset emptied_steps = (emptied_none, emptied_more)

-- ---- counts

pub record AreChosenTo (p : Program) (lows highs : List ℕ) (to : ℕ) (counts : List ℕ) : Type 0 where
  pub sized : length counts ≡ to
  pub each : (i : ℕ) → i < to → IsChosen (int_at p.gain i) (nat_at lows i) (nat_at highs i) (pos 0) (nat_at counts i)

pub chosen_none : (p : Program) (lows highs : List ℕ) → AreChosenTo p lows highs 0 []
chosen_none p lows highs = record { sized = refl; each = λ i h. absurd (omega arith) }

pub chosen_more : (p : Program) (lows highs : List ℕ) (to : ℕ) (counts : List ℕ) (x : ℕ) → AreChosenTo p lows highs to counts
    → IsChosen (int_at p.gain to) (nat_at lows to) (nat_at highs to) (pos 0) x → AreChosenTo p lows highs (to + 1) (counts ++ x ∷ [])
chosen_more p lows highs to counts x is last = record {
  sized = let long = is.sized in omega (arith, length_push counts x, long);
  each = pushed (λ i n. IsChosen (int_at p.gain i) (nat_at lows i) (nat_at highs i) (pos 0) n) counts x to is.sized is.each last;
}

pub chosen_all : (p : Program) (lows highs : List ℕ) (to : ℕ) (counts : List ℕ) → AreChosenTo p lows highs to counts → cells_of p ≤ to → to ≤ cells_of p
    → AreChosen p lows highs (λ i. pos 0) counts
chosen_all p lows highs to counts is end short = record {
  sized = let long = is.sized in omega (arith, long, end, short);
  each = λ i h. is.each i (omega (arith, h, end));
}

pub chosen_high : (gain : ℤ) (low high : ℕ) → low ≤ high → pos 0 <ℤ gain → IsChosen gain low high (pos 0) high
chosen_high gain low high ordered more = record {
  above = ordered;
  below = omega arith;
  full = λ h. refl;
  empty = λ h. absurd (omega (arith, ints, more, h));
}

pub chosen_low : (gain : ℤ) (low high : ℕ) → low ≤ high → gain ≤ℤ pos 0 → IsChosen gain low high (pos 0) low
chosen_low gain low high ordered less = record {
  above = omega arith;
  below = ordered;
  full = λ h. absurd (omega (arith, ints, less, h));
  empty = λ h. refl;
}

pub ruleset chosen_steps = (chosen_none, chosen_more, chosen_all)

pub ruleset chosen_ends = (chosen_high, chosen_low)

-- ---- sizes

pub size_none : (p : Program) (k : ℕ) → pos 0 ≡ sum_below 0 (one_in p k)
size_none p k = sym (sum_below-zero (one_in p k))

pub size_more : (p : Program) (k cell size one : ℕ) → pos size ≡ sum_below cell (one_in p k) → pos one ≡ cond (is_in p cell k) (pos 1) (pos 0)
    → pos (size + one) ≡ sum_below (cell + 1) (one_in p k)
size_more p k cell size one before last = omega (arith, ints, before, last, sum_below-more cell (one_in p k))

pub ruleset size_steps = (size_none, size_more)

-- ---- prices

pub repriced_none : (p : Program) (k : ℕ) (before : List ℤ) (price : ℤ) → IsRepriced p k before price 0 before
repriced_none p k before price = record { long = refl; changed = λ i h. absurd (omega arith); kept = λ i h. refl }

pub repriced_more : (p : Program) (k : ℕ) (before : List ℤ) (price : ℤ) (to : ℕ) (after : List ℤ) (x : ℤ) → IsRepriced p k before price to after
    → to < length after → x ≡ cond (is_in p to k) price (int_at after to) → IsRepriced p k before price (to + 1) (set after to x)
repriced_more p k before price to after x is there last = record {
  long = length-set after to x ∙ is.long;
  changed = λ i h. elim (cases_eq i to) [
    | inl e ↦ rw e (get_or-set_same after to x (pos 0) there ∙ last ∙ ap (λ y. cond (is_in p to k) price y) (is.kept to (omega arith)))
    | inr other ↦ get_or-set_other after to i x (pos 0) other ∙ is.changed i (omega (arith, h, other))
  ];
  kept = λ i h. get_or-set_other after to i x (pos 0) (λ e. omega (arith, h, e)) ∙ is.kept i (omega (arith, h));
}

pub ruleset repriced_steps = (repriced_none, repriced_more)
