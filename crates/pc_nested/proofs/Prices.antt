-- The multipliers of the steps, the last one first.
use Rattle.std.proofs.Common.{◌≡◌, ◌≢◌, ℕ, ◌<◌, ◌≤◌, ◌^◌, ◌⊎◌, inl, inr, Bool, true, false, true≢false, cond, Option, Some, None, List, ◌∷◌, length, set, refl, ap, sym, ◌∙◌, subst, arith, get_or-set_same, get_or-set_other, length-set}
use Rattle.std.specs.Prelude.{ℤ, pos, ◌-ℤ◌, nat_abs, All, ⊤, MatchOption}
use Rattle.std.specs.Int.{int_max, int_min}
use Rattle.std.proofs.lemmas.Int.{ints, clamps, by_lt_z}
use Rattle.std.proofs.lemmas.Bool.{cases_eq}
use Rattle.std.proofs.lemmas.List.Elements.{All-head, All-tail}
use Rattle.pc_program_bound.specs.declared.program.Program.{Program}
use Rattle.pc_program_bound.specs.Sums.{sum_below, int_at}
use Rattle.pc_program_bound.specs.Allocation.{cells_of, constraints_of}
use Rattle.pc_program_bound.specs.Bound.{part_of}
use Rattle.pc_program.specs.Settled.{is_in}
use Rattle.pc_nested.specs.declared.narrowing.Step.{Step}
use Rattle.pc_nested.specs.Narrowed.{at_least, at_most, price_at, Undoes, HavePrice, IsTight, IsSmallStep, ComesBefore}
use Rattle.pc_nested.specs.Priced.{mult_of, IsLeft, AreUndone, ArePriced, HasPriceOf, IsRepriced}
use Rattle.pc_nested.proofs.Totals.{sum_below-but_one}
use borrow.Author.Differences.{abs_is}

-- ---- prices that are small

least_small : (bound : Option ℤ) (x : ℤ) (m : ℕ) → MatchOption bound ⊤ (λ price. nat_abs price ≤ m) → nat_abs x ≤ m → nat_abs (at_least bound x) ≤ m
least_small None x m small fits = fits
least_small (Some b) x m small fits = by_lt_z b x
    (λ less. let e : int_max b x ≡ x = omega (arith, ints, clamps, less) in rw e fits)
    (λ more. let e : int_max b x ≡ b = omega (arith, ints, clamps, more) in rw e small)

most_small : (bound : Option ℤ) (x : ℤ) (m : ℕ) → MatchOption bound ⊤ (λ price. nat_abs price ≤ m) → nat_abs x ≤ m → nat_abs (at_most bound x) ≤ m
most_small None x m small fits = fits
most_small (Some a) x m small fits = by_lt_z a x
    (λ less. let e : int_min a x ≡ a = omega (arith, ints, clamps, less) in rw e small)
    (λ more. let e : int_min a x ≡ x = omega (arith, ints, clamps, more) in rw e fits)

price_small : (p : Program) (step : Step) (x : ℤ) → IsSmallStep p step → nat_abs x ≤ 2 ^ 87 → nat_abs (price_at step x) ≤ 2 ^ 87
price_small p step x small fits =
    most_small step.raised (at_least step.lowered x) (2 ^ 87) small.raised (least_small step.lowered x (2 ^ 87) small.lowered fits)

price_of_small : (p : Program) (k : ℕ) (prices : List ℤ) (price : ℤ) → ((i : ℕ) → i < cells_of p → nat_abs (int_at prices i) ≤ 2 ^ 87)
    → HasPriceOf p k prices price → nat_abs price ≤ 2 ^ 87
price_of_small p k prices price small (inl (i, h, member, e)) = rw e (small i h)
price_of_small p k prices price small (inr (none, e)) = rw e (omega arith)

pub difference_size : (a b : ℤ) → nat_abs a ≤ 2 ^ 87 → nat_abs b ≤ 2 ^ 87 → nat_abs (a -ℤ b) ≤ 2 ^ 88
difference_size a b first second = omega (arith, ints, abs_is a, abs_is b, abs_is (a -ℤ b), first, second)

-- what undo takes from one number to the next fits
pub old_small : (p : Program) (k : ℕ) (by prices : List ℤ) (price : ℤ) → ArePriced p by prices → HasPriceOf p k prices price → nat_abs price ≤ 2 ^ 87
old_small p k by prices price priced has = price_of_small p k prices price priced.small has

pub new_small : (p : Program) (step : Step) (by prices : List ℤ) (price : ℤ) → IsSmallStep p step → ArePriced p by prices → HasPriceOf p step.place prices price
    → nat_abs (price_at step price) ≤ 2 ^ 87
new_small p step by prices price small priced has = price_small p step price small (old_small p step.place by prices price priced has)

-- ---- other prices for a constraint's cells

pub repriced_in : (p : Program) (k : ℕ) (before after : List ℤ) (price : ℤ) → IsRepriced p k before price (cells_of p) after → (i : ℕ) → i < cells_of p
    → is_in p i k ≡ true → int_at after i ≡ price
repriced_in p k before after price is i h member = is.changed i h ∙ ap (λ t. cond t price (int_at before i)) member

pub repriced_out : (p : Program) (k : ℕ) (before after : List ℤ) (price : ℤ) → IsRepriced p k before price (cells_of p) after → (i : ℕ) → i < cells_of p
    → is_in p i k ≡ false → int_at after i ≡ int_at before i
repriced_out p k before after price is i h out = is.changed i h ∙ ap (λ t. cond t price (int_at before i)) out

-- by whether the cell is in the constraint
pub by_member : {P : Type 0} (test : Bool) → (test ≡ true → P) → (test ≡ false → P) → P
by_member true here_it out_it = here_it refl
by_member false here_it out_it = out_it refl

pub repriced_small : (p : Program) (k : ℕ) (before after : List ℤ) (price : ℤ) → IsRepriced p k before price (cells_of p) after → nat_abs price ≤ 2 ^ 87
    → ((i : ℕ) → i < cells_of p → nat_abs (int_at before i) ≤ 2 ^ 87) → (i : ℕ) → i < cells_of p → nat_abs (int_at after i) ≤ 2 ^ 87
repriced_small p k before after price is fits small i h = by_member (is_in p i k)
    (λ member. rw (repriced_in p k before after price is i h member) fits)
    (λ out. rw (repriced_out p k before after price is i h out) (small i h))

-- cells of a constraint that comes before keep one price
pub repriced_even : (p : Program) (j k : ℕ) (before after : List ℤ) (price : ℤ) → IsRepriced p k before price (cells_of p) after → ComesBefore p j k
    → ((h i : ℕ) → h < cells_of p → i < cells_of p → is_in p h j ≡ true → is_in p i j ≡ true → int_at before h ≡ int_at before i)
    → (h i : ℕ) → h < cells_of p → i < cells_of p → is_in p h j ≡ true → is_in p i j ≡ true → int_at after h ≡ int_at after i
repriced_even p j k before after price is order even h i first second one two = by_case order.nested
  where
    out : (n : ℕ) → n < cells_of p → is_in p n j ≡ true → ((c : ℕ) → c < cells_of p → is_in p c j ≡ true → is_in p c k ≡ true → ⊥)
        → int_at after n ≡ int_at before n
    out n there member apart = by_member (is_in p n k)
        (λ e. absurd (apart n there member e))
        (λ e. repriced_out p k before after price is n there e)

    by_case : ((c : ℕ) → c < cells_of p → is_in p c j ≡ true → is_in p c k ≡ true → ⊥) ⊎ ((c : ℕ) → c < cells_of p → is_in p c j ≡ true → is_in p c k ≡ true)
        → int_at after h ≡ int_at after i
    by_case (inl apart) = out h first one apart ∙ even h i first second one two ∙ sym (out i second two apart)
    by_case (inr inside) =
        repriced_in p k before after price is h first (inside h first one) ∙ sym (repriced_in p k before after price is i second (inside i second two))

-- ---- one step

-- the price that undo starts from is that of all cells of the constraint
have_price : (p : Program) (k : ℕ) (prices : List ℤ) (price : ℤ) → HasPriceOf p k prices price
    → ((h i : ℕ) → h < cells_of p → i < cells_of p → is_in p h k ≡ true → is_in p i k ≡ true → int_at prices h ≡ int_at prices i)
    → HavePrice p k (int_at prices) price
have_price p k prices price (inl (c, there, member, e)) even i h inside = even i c h there inside member ∙ sym e
have_price p k prices price (inr (none, e)) even i h inside = absurd (true≢false (sym inside ∙ none i h))

module _ (p : Program) (counts : List ℕ) (k : ℕ) (m : ℤ) (step : Step) (steps : List Step) (by prices after : List ℤ) (old : ℤ)
    (undone : AreUndone p counts k m (step ∷ steps) by prices) (has : HasPriceOf p step.place prices old)
    (repriced : IsRepriced p step.place prices (price_at step old) (cells_of p) after) where
  abbrev new : ℤ
  new = price_at step old

  abbrev more : List ℤ
  more = set by step.place (new -ℤ old)

  left : IsLeft p k by prices step.place
  left = All-head (λ (s : Step). IsLeft p k by prices s.place) step steps undone.left

  small : IsSmallStep p step
  small = undone.in_order.0

  have : HavePrice p step.place (int_at prices) old
  have = have_price p step.place prices old has left.even

  there : step.place < length by
  there = let long = undone.long in let in_it = small.there in omega (arith, long, in_it)

  here : int_at more step.place ≡ new -ℤ old
  here = get_or-set_same by step.place (new -ℤ old) (pos 0) there

  elsewhere : (j : ℕ) → j ≢ step.place → int_at more j ≡ int_at by j
  elsewhere j apart = get_or-set_other by step.place j (new -ℤ old) (pos 0) apart

  undoes : Undoes p step (int_at prices) (int_at after)
  undoes i h = by_member (is_in p i step.place)
      (λ member.
      let same : price_at step (int_at prices i) ≡ new = ap (λ x. price_at step x) (have i h member) in
      repriced_in p step.place prices after new repriced i h member
      ∙ sym (ap (λ t. cond t (price_at step (int_at prices i)) (int_at prices i)) member ∙ same))
      (λ out.
      repriced_out p step.place prices after new repriced i h out
      ∙ sym (ap (λ t. cond t (price_at step (int_at prices i)) (int_at prices i)) out))

  priced : (i : ℕ) → i < cells_of p → int_at after i ≡ sum_below (constraints_of p) (part_of p (mult_of more) i)
  priced i h =
      let whole = sum_below-but_one (constraints_of p) step.place (part_of p (mult_of by) i) (part_of p (mult_of more) i) small.there
      (λ j below apart. ap (λ x. cond (is_in p i j) x (pos 0)) (elsewhere j apart)) in
      let before = undone.priced i h in
      by_member (is_in p i step.place)
      (λ member.
      let first : part_of p (mult_of by) i step.place ≡ pos 0 = ap (λ t. cond t (int_at by step.place) (pos 0)) member ∙ left.none in
      let second : part_of p (mult_of more) i step.place ≡ new -ℤ old = ap (λ t. cond t (int_at more step.place) (pos 0)) member ∙ here in
      let now = repriced_in p step.place prices after new repriced i h member in
      let was = have i h member in
      omega (arith, ints, whole, before, first, second, now, was))
      (λ out.
      let first : part_of p (mult_of by) i step.place ≡ pos 0 = ap (λ t. cond t (int_at by step.place) (pos 0)) out in
      let second : part_of p (mult_of more) i step.place ≡ pos 0 = ap (λ t. cond t (int_at more step.place) (pos 0)) out in
      let now = repriced_out p step.place prices after new repriced i h out in
      omega (arith, ints, whole, before, first, second, now))

  tight : (j : ℕ) → j < constraints_of p → (j ≡ k → ⊥) → IsTight p j counts (int_at more j)
  tight j h other = elim (cases_eq j step.place) [
    | inl e ↦ subst (λ n. IsTight p n counts (int_at more n)) (sym e) (subst (λ x. IsTight p step.place counts x) (sym here) (undone.shows.0 old have))
    | inr apart ↦ subst (λ x. IsTight p j counts x) (sym (elsewhere j apart)) (undone.tight j h other)
  ]

  still_left : All (λ (s : Step). IsLeft p k more after s.place) steps
  still_left n d h =
      let before = All-tail (λ (s : Step). IsLeft p k by prices s.place) step steps undone.left n d h in
      let order = undone.in_order.1.0 n d h in
      record {
        other = before.other;
        none = elsewhere _ order.apart ∙ before.none;
        even = repriced_even p _ step.place prices after new repriced order before.even;
      }

  old_fits : nat_abs old ≤ 2 ^ 87
  old_fits = price_of_small p step.place prices old undone.small_prices has

  small_more : (j : ℕ) → j < constraints_of p → nat_abs (int_at more j) ≤ 2 ^ 88
  small_more j h = elim (cases_eq j step.place) [
    | inl e ↦ rw (e, here) (difference_size new old (price_small p step old small old_fits) old_fits)
    | inr apart ↦ rw (elsewhere j apart) (undone.small_by j h)
  ]

  pub AreUndone-more : AreUndone p counts k m steps more after
  AreUndone-more = record {
    long = length-set by step.place (new -ℤ old) ∙ undone.long;
    wide = repriced.long ∙ undone.wide;
    shows = undone.shows.1 (int_at after) undoes;
    priced = priced;
    tight = tight;
    kept = elsewhere k (λ e. left.other (sym e)) ∙ undone.kept;
    left = still_left;
    in_order = undone.in_order.1.1;
    small_by = small_more;
    small_prices = repriced_small p step.place prices after new repriced (price_small p step old small old_fits) undone.small_prices;
  }

-- ---- the same whatever the gains

with_gains : (p : Program) (gains : List ℤ) (k : ℕ) (before after : List ℤ) (price : ℤ) → IsRepriced p k before price (cells_of p) after
    → IsRepriced (record p { gain = gains }) k before price (cells_of p) after
with_gains p gains k before after price is = record { long = is.long; changed = is.changed; kept = is.kept }

pub undone_step : (p : Program) (step : Step) (by prices new_by after : List ℤ) (old new change : ℤ) → HasPriceOf p step.place prices old → new ≡ price_at step old
    → change ≡ new -ℤ old → new_by ≡ set by step.place change → IsRepriced p step.place prices new (cells_of p) after
    → (gains : List ℤ) (counts : List ℕ) (k : ℕ) (m : ℤ) (steps : List Step) → AreUndone (record p { gain = gains }) counts k m (step ∷ steps) by prices
    → AreUndone (record p { gain = gains }) counts k m steps new_by after
undone_step p step by prices new_by after old raised change has is changed set_is repriced gains counts k m steps undone =
    let all : new_by ≡ set by step.place (price_at step old -ℤ old) = set_is ∙ ap (λ x. set by step.place x) (changed ∙ ap (λ x. x -ℤ old) is) in
    subst (λ b. AreUndone (record p { gain = gains }) counts k m steps b after) (sym all)
    (AreUndone-more (record p { gain = gains }) counts k m step steps by prices after old undone has
    (with_gains p gains step.place prices after (price_at step old) (subst (λ x. IsRepriced p step.place prices x (cells_of p) after) is repriced)))

pub ArePriced-more : (p : Program) (k : ℕ) (by prices new_by after : List ℤ) (change new : ℤ) → ArePriced p by prices → nat_abs new ≤ 2 ^ 87
    → new_by ≡ set by k change → IsRepriced p k prices new (cells_of p) after → ArePriced p new_by after
ArePriced-more p k by prices new_by after change price priced fits is repriced = record {
  long = ap length is ∙ length-set by k change ∙ priced.long;
  wide = repriced.long ∙ priced.wide;
  small = repriced_small p k prices after price repriced fits priced.small;
}

pub ruleset undoing = (undone_step, ArePriced-more, old_small, new_small)
