-- Numbers from the last of a rising list to the first, each once.
use Rattle.std.proofs.Common.{◌≡◌, ◌==◌, ℕ, suc, ◌+◌, ◌-◌, ◌<◌, ℤ, pos, ◌<ℤ◌, ◌≤ℤ◌, Bool, true, false, cond, List, [], ◌∷◌, ◌++◌, length, get_or, Contains, inl, inr, refl, sym, ap, subst, ◌∙◌, arith, eqb-true}
use Rattle.std.specs.Ordering.{int_eq}
use Rattle.std.specs.List.Sorted.{IsPermutation}
use Rattle.std.proofs.lemmas.Bool.{cases_lt}
use Rattle.std.proofs.lemmas.Bool.Decides.{Decides-int_eq, Decides-eqb, not_from_Decides}
use Rattle.std.proofs.lemmas.Int.{ints, by_lt_z}
use Rattle.std.proofs.lemmas.List.{get_or_append_left, get_or_push, length_push, get_or_default}
use Rattle.std.proofs.lemmas.List.Elements.{All-push, All-weaker, All-contains, Contains-push, Contains-append_left, All-contains_itself}
use Rattle.std.proofs.lemmas.List.Sorted.{Contains-permutation, IsPermutation-sym}
use Rattle.pc_agg.specs.Falling.{IsRising, IsFallingOf, IsFallingFrom, ends_in}

abbrev at : List ℤ → ℕ → ℤ
at numbers place = get_or numbers place (pos 0)

contains_at : (numbers : List ℤ) (place : ℕ) → place < length numbers → Contains numbers (at numbers place)
contains_at numbers place there = (place, there, get_or_default numbers place (at numbers place) (pos 0) there)

-- ---- the loop

module _ (rising : List ℤ) (before : ℕ) (falling : List ℤ) (there : before < length rising) (rises : IsRising rising) (so_far : IsFallingFrom rising (suc before) falling) where
  abbrev number : ℤ
  number = at rising before

  abbrev longer : List ℤ
  longer = falling ++ number ∷ []

  -- the last so far is no less
  over_last : 0 < length falling → number ≤ℤ at falling (length falling - 1)
  over_last some = elim (cases_lt (suc before) (length rising)) [
    | inl more ↦ omega (arith, ints, rises before more, (so_far.last more).1)
    | inr past ↦ absurd (omega (arith, some, ap length (so_far.none past)))
  ]

  kept : 0 < length falling → at falling (length falling - 1) ≡ number → IsFallingFrom rising before falling
  kept some same = record {
    falls = so_far.falls;
    from = so_far.from;
    each = λ i from inside. elim (cases_lt before i) [
      | inl after ↦ so_far.each i after inside
      | inr upto ↦
          let here : i ≡ before = omega (arith, from, upto) in
          subst (Contains falling) (same ∙ ap (at rising) (sym here)) (contains_at falling (length falling - 1) (omega (arith, some)))
    ];
    last = λ _. (some, same);
    none = λ past. absurd (omega (arith, there, past));
  }

  long : length longer ≡ length falling + 1
  long = length_push falling number

  old : (k : ℕ) → k < length falling → at longer k ≡ at falling k
  old k inside = get_or_append_left falling (number ∷ []) (pos 0) k inside

  new : at longer (length falling) ≡ number
  new = get_or_push falling number (pos 0) (length falling) refl

  lower : (0 < length falling → number <ℤ at falling (length falling - 1)) → IsFallingFrom rising before longer
  lower less = record {
    falls = λ k below. elim (cases_lt (suc k) (length falling)) [
      | inl inside ↦ omega (arith, ints, so_far.falls k inside, old (suc k) inside, old k (omega (arith, inside)))
      | inr past ↦
          let last_is : suc k ≡ length falling = omega (arith, past, below, long) in
          let here : k ≡ length falling - 1 = omega (arith, last_is) in
          let first : at longer (suc k) ≡ number = ap (at longer) last_is ∙ new in
          let second : at longer k ≡ at falling (length falling - 1) = old k (omega (arith, last_is)) ∙ ap (at falling) here in
          omega (arith, ints, less (omega (arith, last_is)), first, second)
    ];
    from = All-push (Contains rising) falling number so_far.from (contains_at rising before there);
    each = λ i from inside. elim (cases_lt before i) [
      | inl after ↦ Contains-append_left falling (number ∷ []) (at rising i) (so_far.each i after inside)
      | inr upto ↦
          let here : i ≡ before = omega (arith, from, upto) in
          subst (Contains longer) (ap (at rising) (sym here)) (Contains-push falling number)
    ];
    last = λ _. (omega (arith, long), ap (at longer) (omega (arith, long)) ∙ new);
    none = λ past. absurd (omega (arith, there, past));
  }

  apart : (a b : ℤ) → a ≤ℤ b → (b ≡ a → ⊥) → a <ℤ b
  apart a b le differ = by_lt_z a b (λ less. less) (λ over. absurd (differ (omega (arith, ints, le, over))))

  pub next_falling : (next : List ℤ) → next ≡ cond (ends_in falling number) falling longer → IsFallingFrom rising before next
  next_falling next is = subst (IsFallingFrom rising before) (sym is) (by_length (length falling == 0) refl)
    where
      by_last : (test : Bool) → int_eq (at falling (length falling - 1)) number ≡ test → 0 < length falling → IsFallingFrom rising before (cond test falling longer)
      by_last true same some = kept some ((Decides-int_eq (at falling (length falling - 1)) number).0 same)
      by_last false differ some = lower (λ _. apart number (at falling (length falling - 1)) (over_last some)
          (not_from_Decides (int_eq (at falling (length falling - 1)) number) (Decides-int_eq (at falling (length falling - 1)) number) differ))

      by_length : (empty : Bool) → (length falling == 0) ≡ empty → IsFallingFrom rising before (cond (cond empty false (int_eq (at falling (length falling - 1)) number)) falling longer)
      by_length true none = lower (λ some. absurd (omega (arith, some, eqb-true (length falling) 0 none)))
      by_length false more = by_last (int_eq (at falling (length falling - 1)) number) refl
          (elim (cases_lt 0 (length falling)) [ inl some ↦ some | inr none ↦ absurd (not_from_Decides (length falling == 0) (Decides-eqb (length falling) 0) more (omega (arith, none))) ])

pub all_falling : (rising falling : List ℤ) → IsFallingFrom rising 0 falling → IsFallingOf rising falling
all_falling rising falling is = record {
  falls = is.falls;
  from = is.from;
  each = λ k d inside. subst (Contains falling) (get_or_default rising k (pos 0) d inside) (is.each k (omega arith) inside);
}

-- ---- the order that the numbers came in

pub same_falling : (numbers rising falling : List ℤ) → IsPermutation numbers rising → IsFallingOf rising falling → IsFallingOf numbers falling
same_falling numbers rising falling moved is = record {
  falls = is.falls;
  from = All-weaker (Contains rising) (Contains numbers) (λ number. Contains-permutation rising numbers number (IsPermutation-sym numbers rising moved)) falling is.from;
  each = All-weaker (Contains numbers) (Contains falling) (λ number there. All-contains (Contains falling) rising number is.each (Contains-permutation numbers rising number moved there))
      numbers (All-contains_itself numbers);
}
