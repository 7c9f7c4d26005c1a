-- Which rungs the keys that pass give, falling and each once.
use Rattle.std.proofs.Common.{◌≡◌, ℕ, zero, suc, ◌+◌, ◌-◌, ◌<◌, ◌≤◌, ℤ, pos, ◌<ℤ◌, ◌≤ℤ◌, Bool, true, false, true≢false, ◌⊎◌, inl, inr, List, length, get_or, All, Any, Contains, Option, Some, None, IfSome, MatchOption, refl, sym, subst, ◌∙◌, arith}
use Rattle.std.proofs.lemmas.Bool.{cases_lt}
use Rattle.std.proofs.lemmas.Int.{ints}
use Rattle.std.proofs.lemmas.List.{get_or_default}
use Rattle.std.proofs.lemmas.List.Elements.{All-contains}
use Rattle.std.proofs.lemmas.Option.{none-some}
use Rattle.pc_agg.specs.declared.ladder.Test.{Test}
use Rattle.pc_agg.specs.declared.ladder.Test.TheVariants.{Reach, Avoid}
use Rattle.pc_agg.specs.Falling.{IsFalling, IsFallingOf}
use Rattle.pc_agg.specs.Kept.{passes, AreStandable}

abbrev at : List ℤ → ℕ → ℤ
at numbers place = get_or numbers place (pos 0)

-- ---- of falling numbers

falls_by : (rungs : List ℤ) → IsFalling rungs → (i d : ℕ) → i + d < length rungs → at rungs (i + d) ≤ℤ at rungs i
falls_by rungs falls i zero inside = let same : i + zero ≡ i = omega arith in rw same (omega (arith, ints))
falls_by rungs falls i (suc d) inside =
    let on : i + suc d ≡ suc (i + d) = omega arith in
    let before = falls_by rungs falls i d (omega (arith, inside)) in
    let next = falls (i + d) (omega (arith, inside)) in
    rw on (omega (arith, ints, before, next))

under : (rungs : List ℤ) → IsFalling rungs → (i j : ℕ) → i ≤ j → j < length rungs → at rungs j ≤ℤ at rungs i
under rungs falls i j le inside =
    let there : i + (j - i) ≡ j = omega (arith, le) in
    subst (λ k. at rungs k ≤ℤ at rungs i) there (falls_by rungs falls i (j - i) (omega (arith, there, inside)))

-- ---- of what was observed

-- a key that does not pass
above_failed : (seen : Option ℤ) (key : ℤ) → passes Reach seen key ≡ false → (m : ℤ) × (seen ≡ Some m) × (key ≤ℤ m)
above_failed None key failed = absurd (true≢false failed)
above_failed (Some m) key failed = (m, refl, omega (arith, ints, failed))

below_failed : (seen : Option ℤ) (key : ℤ) → passes Avoid seen key ≡ false → (m : ℤ) × (seen ≡ Some m) × (m ≤ℤ key)
below_failed None key failed = absurd (true≢false failed)
below_failed (Some m) key failed = (m, refl, omega (arith, ints, failed))

above_passed : (seen : Option ℤ) (key : ℤ) → passes Reach seen key ≡ true → IfSome seen (λ m. m <ℤ key)
above_passed None key passed = tt
above_passed (Some m) key passed = omega (arith, ints, passed)

below_passed : (seen : Option ℤ) (key : ℤ) → passes Avoid seen key ≡ true → IfSome seen (λ m. key <ℤ m)
below_passed None key passed = tt
below_passed (Some m) key passed = omega (arith, ints, passed)

weaker : (seen : Option ℤ) (P Q : ℤ → Type 0) → ((m : ℤ) → P m → Q m) → IfSome seen P → IfSome seen Q
weaker None P Q weak holds = tt
weaker (Some m) P Q weak holds = weak m holds

module _ {X : Type 0} (is_chosen : X → Bool) (key : X → ℤ) (items : List X) (seen : Option ℤ) (numbers rungs : List ℤ) (falling : IsFallingOf numbers rungs) where
  abbrev IsKey : ℤ → Type 0
  IsKey number = Any (λ item. (is_chosen item ≡ true) × (key item ≡ number)) items

  abbrev Each : (ℤ → Type 0) → Type 0
  Each P = All (λ item. is_chosen item ≡ true → P (key item)) items

  abbrev Standable : Test → Type 0
  Standable test = AreStandable is_chosen key items test seen numbers

  from_rung : (test : Test) → Standable test → (place : ℕ) → place < length rungs → (IsKey (at rungs place) × (passes test seen (at rungs place) ≡ true)) ⊎ (seen ≡ Some (at rungs place))
  from_rung test are place there = All-contains (λ number. (IsKey number × (passes test seen number ≡ true)) ⊎ (seen ≡ Some number)) numbers (at rungs place) are.from (falling.from place (pos 0) there)

  rung_of : (number : ℤ) → Contains numbers number → (q : ℕ) × (q < length rungs) × (at rungs q ≡ number)
  rung_of number there =
      let found = All-contains (Contains rungs) numbers number falling.each there in
      (found.0, found.1, get_or_default rungs found.0 (pos 0) number found.1 ∙ found.2)

  own_rung : (test : Test) → Standable test → (m : ℤ) → seen ≡ Some m → (q : ℕ) × (q < length rungs) × (at rungs q ≡ m)
  own_rung test are m is = rung_of m (subst (λ o. IfSome o (Contains numbers)) is are.own)

  -- each number of a chosen item is a rung, or does not pass
  or_failed : (test : Test) → Standable test → (P : ℤ → Type 0) → ((q : ℕ) → q < length rungs → P (at rungs q)) → ((number : ℤ) → passes test seen number ≡ false → P number) → Each P
  or_failed test are P rung failed k d inside chosen = by_test (passes test seen (key (get_or items k d))) refl
    where
      by_test : (test_is : Bool) → passes test seen (key (get_or items k d)) ≡ test_is → P (key (get_or items k d))
      by_test true passed = let found = rung_of (key (get_or items k d)) (are.each k d inside chosen passed) in subst P found.2 (rung found.0 found.1)
      by_test false not_passed = failed (key (get_or items k d)) not_passed

  -- ---- rows that reach

  module _ (are : Standable Reach) where
    above : (place : ℕ) → place < length rungs → IfSome seen (λ m. m ≤ℤ at rungs place)
    above place there = elim (from_rung Reach are place there) [
      | inl of_key ↦ weaker seen (λ m. m <ℤ at rungs place) (λ m. m ≤ℤ at rungs place) (λ m less. omega (arith, ints, less)) (above_passed seen (at rungs place) of_key.1)
      | inr observed ↦ rw observed (omega (arith, ints))
    ]

    pub reach_apart : (place : ℕ) → suc place < length rungs → Each (λ number. (number ≤ℤ at rungs (suc place)) ⊎ (at rungs place ≤ℤ number))
    reach_apart place there = or_failed Reach are (λ number. (number ≤ℤ at rungs (suc place)) ⊎ (at rungs place ≤ℤ number))
        (λ q inside. elim (cases_lt place q) [
          | inl after ↦ inl (under rungs falling.falls (suc place) q after inside)
          | inr upto ↦ inr (under rungs falling.falls q place upto (omega (arith, there)))
        ])
        (λ number failed.
        let found = above_failed seen number failed in
        let over : found.0 ≤ℤ at rungs (suc place) = subst (λ o. IfSome o (λ m. m ≤ℤ at rungs (suc place))) found.1 (above (suc place) there) in
        inl (omega (arith, ints, found.2, over)))

    pub reach_each : (place : ℕ) → place < length rungs → (IsKey (at rungs place) × IfSome seen (λ m. m <ℤ at rungs place)) ⊎ ((suc place ≡ length rungs) × (seen ≡ Some (at rungs place)))
    reach_each place there = elim (from_rung Reach are place there) [
      | inl of_key ↦ inl (of_key.0, above_passed seen (at rungs place) of_key.1)
      | inr observed ↦ inr (
        elim (cases_lt (suc place) (length rungs)) [
          | inl more ↦
              let over : at rungs place ≤ℤ at rungs (suc place) = subst (λ o. IfSome o (λ m. m ≤ℤ at rungs (suc place))) observed (above (suc place) more) in
              absurd (omega (arith, ints, over, falling.falls place more))
          | inr last ↦ omega (arith, there, last)
        ],
        observed,
      )
    ]

    pub reach_top : 0 < length rungs → Each (λ number. number ≤ℤ at rungs 0)
    reach_top some = or_failed Reach are (λ number. number ≤ℤ at rungs 0) (λ q inside. under rungs falling.falls 0 q (omega arith) inside)
        (λ number failed.
        let found = above_failed seen number failed in
        let own = own_rung Reach are found.0 found.1 in
        omega (arith, ints, found.2, own.2, under rungs falling.falls 0 own.0 (omega arith) own.1))

    pub reach_bottom : 0 < length rungs → MatchOption seen (Each (λ number. at rungs (length rungs - 1) ≤ℤ number)) (λ m. at rungs (length rungs - 1) ≡ m)
    reach_bottom some = by_seen seen refl
      where
        last_under : (q : ℕ) → q < length rungs → at rungs (length rungs - 1) ≤ℤ at rungs q
        last_under q inside = under rungs falling.falls q (length rungs - 1) (omega (arith, inside)) (omega (arith, inside))

        by_seen : (o : Option ℤ) → seen ≡ o → MatchOption o (Each (λ number. at rungs (length rungs - 1) ≤ℤ number)) (λ m. at rungs (length rungs - 1) ≡ m)
        by_seen None none = or_failed Reach are (λ number. at rungs (length rungs - 1) ≤ℤ number) last_under
            (λ number failed. let found = above_failed seen number failed in absurd (none-some found.0 (sym none ∙ found.1)))
        by_seen (Some m) is =
            let own = own_rung Reach are m is in
            let over : m ≤ℤ at rungs (length rungs - 1) = subst (λ o. IfSome o (λ n. n ≤ℤ at rungs (length rungs - 1))) is (above (length rungs - 1) (omega (arith, some))) in
            omega (arith, ints, over, own.2, last_under own.0 own.1)

  -- ---- rows that are avoided

  module _ (are : Standable Avoid) where
    below : (place : ℕ) → place < length rungs → IfSome seen (λ m. at rungs place ≤ℤ m)
    below place there = elim (from_rung Avoid are place there) [
      | inl of_key ↦ weaker seen (λ m. at rungs place <ℤ m) (λ m. at rungs place ≤ℤ m) (λ m less. omega (arith, ints, less)) (below_passed seen (at rungs place) of_key.1)
      | inr observed ↦ rw observed (omega (arith, ints))
    ]

    pub avoid_apart : (place : ℕ) → suc place < length rungs → Each (λ number. (number ≤ℤ at rungs (suc place)) ⊎ (at rungs place ≤ℤ number))
    avoid_apart place there = or_failed Avoid are (λ number. (number ≤ℤ at rungs (suc place)) ⊎ (at rungs place ≤ℤ number))
        (λ q inside. elim (cases_lt place q) [
          | inl after ↦ inl (under rungs falling.falls (suc place) q after inside)
          | inr upto ↦ inr (under rungs falling.falls q place upto (omega (arith, there)))
        ])
        (λ number failed.
        let found = below_failed seen number failed in
        let less : at rungs place ≤ℤ found.0 = subst (λ o. IfSome o (λ m. at rungs place ≤ℤ m)) found.1 (below place (omega (arith, there))) in
        inr (omega (arith, ints, found.2, less)))

    pub avoid_each : (place : ℕ) → place < length rungs → (IsKey (at rungs place) ⊎ (seen ≡ Some (at rungs place))) × IfSome seen (λ m. at rungs place ≤ℤ m)
    avoid_each place there = (
      elim (from_rung Avoid are place there) [
        | inl of_key ↦ inl of_key.0
        | inr observed ↦ inr observed
      ],
      below place there,
    )

    pub avoid_top : 0 < length rungs → MatchOption seen (Each (λ number. number ≤ℤ at rungs 0)) (λ m. at rungs 0 ≡ m)
    avoid_top some = by_seen seen refl
      where
        by_seen : (o : Option ℤ) → seen ≡ o → MatchOption o (Each (λ number. number ≤ℤ at rungs 0)) (λ m. at rungs 0 ≡ m)
        by_seen None none = or_failed Avoid are (λ number. number ≤ℤ at rungs 0) (λ q inside. under rungs falling.falls 0 q (omega arith) inside)
            (λ number failed. let found = below_failed seen number failed in absurd (none-some found.0 (sym none ∙ found.1)))
        by_seen (Some m) is =
            let own = own_rung Avoid are m is in
            let less : at rungs 0 ≤ℤ m = subst (λ o. IfSome o (λ n. at rungs 0 ≤ℤ n)) is (below 0 some) in
            omega (arith, ints, less, own.2, under rungs falling.falls 0 own.0 (omega arith) own.1)

    pub avoid_bottom : 0 < length rungs → Each (λ number. at rungs (length rungs - 1) ≤ℤ number)
    avoid_bottom some = or_failed Avoid are (λ number. at rungs (length rungs - 1) ≤ℤ number)
        (λ q inside. under rungs falling.falls q (length rungs - 1) (omega (arith, inside)) (omega (arith, inside)))
        (λ number failed.
        let found = below_failed seen number failed in
        let own = own_rung Avoid are found.0 found.1 in
        omega (arith, ints, found.2, own.2, under rungs falling.falls own.0 (length rungs - 1) (omega (arith, some, own.1)) (omega (arith, some))))

  -- ---- no rungs

  pub none_standable : (test : Test) → Standable test → length rungs ≡ 0 → (seen ≡ None) × Each (λ _. ⊥)
  none_standable test are empty = (by_seen seen refl, or_failed test are (λ _. ⊥) (λ q inside. omega (arith, inside, empty)) (λ number failed. by_test test are number failed))
    where
      by_seen : (o : Option ℤ) → seen ≡ o → o ≡ None
      by_seen None is = refl
      by_seen (Some m) is = let own = own_rung test are m is in absurd (omega (arith, own.1, empty))

      never : (t : Test) → Standable t → (m : ℤ) → seen ≡ Some m → ⊥
      never t holds m is = let own = own_rung t holds m is in omega (arith, own.1, empty)

      by_test : (t : Test) → Standable t → (number : ℤ) → passes t seen number ≡ false → ⊥
      by_test Reach holds number failed = let found = above_failed seen number failed in never Reach holds found.0 found.1
      by_test Avoid holds number failed = let found = below_failed seen number failed in never Avoid holds found.0 found.1
