-- The stand on the rung that halving left.
use Rattle.std.proofs.Common.{◌≡◌, ℕ, suc, ◌<◌, ◌≤◌, ℤ, Bool, true, false, inl, inr, ◌⊎◌, List, [], ◌∷◌, length, Any, Contains, Result, Ok, Err, IfOk, refl, sym, subst, true≢false, arith}
use Rattle.std.specs.List.{AllZip}
use Rattle.std.proofs.lemmas.Bool.{cases_lt}
use Rattle.pc_model.specs.declared.row.Row.{Row}
use Rattle.pc_program_bound.specs.declared.program.Program.{Program}
use Rattle.pc_proof.specs.Setting.{Setting, cells}
use Rattle.pc_agg.specs.Grounds.{HasValues}
use Rattle.pc_agg.proofs.Lacks.{any_grown, doubt_grown}
use Rattle.pc_agg_search.specs.declared.extreme.Extreme.{Extreme}
use Rattle.pc_agg_search.specs.declared.want.Want.{Want}
use Rattle.pc_agg_search.specs.Keys.{IsAtEnd}
use Rattle.pc_agg_search.specs.Wants.{IsDoubt, IsFound, most_chosen, want_for}
use Rattle.pc_quantile.specs.declared.climb.Passing.{Passing}
use Rattle.pc_quantile.specs.declared.climb.Standing.{Standing}
use Rattle.pc_quantile.specs.declared.measure.Measure.{Measure}
use Rattle.pc_quantile.specs.declared.stand.Stand.{Stand}
use Rattle.pc_quantile.specs.Climbing.{AreRungs, AreWanted, HaveValue, IsStanding, IsStoodAt, IsStoodOn, MayHaveValue, StandsOn, program_after, want_after}
use Rattle.pc_quantile.specs.Measure.{cells_for, has_numbers}
use Rattle.pc_quantile.specs.Past.{IsCandidateBeside, end_in}

-- ---- there are rungs

a_number : (seen : List ℤ) → has_numbers seen ≡ true → (number : ℤ) × Contains seen number
a_number [] some = absurd (true≢false (sym some))
a_number (x ∷ xs) some = (x, (0, omega arith, refl))

module _ (s : Setting) (seen : List ℤ) (extreme : Extreme) (rungs : List ℤ) (are : AreRungs s seen extreme rungs) where
  one_rung : (number : ℤ) → IsCandidateBeside s seen extreme number → 0 < length rungs
  one_rung number is = let there = are.each number is in omega (arith, there.1)

  some_by : (observed : Bool) → has_numbers seen ≡ observed → HasValues s observed → 0 < length rungs
  some_by true is some = let own = a_number seen is in one_rung own.0 (inr own.1)
  some_by false is some = one_rung (end_in s extreme some.1) (inl (record { class = some.1; listed = (some.0, some.2, some.3); chosen = some.4; is = refl }))

  pub some_rung : HasValues s (has_numbers seen) → 0 < length rungs
  some_rung some = some_by (has_numbers seen) refl some

-- ---- what is said of all wanted counts

module _ (m : Measure) (extreme : Extreme) (rungs : List ℤ) (place : ℕ) (Q : Program → Want → Type 0) where
  abbrev s : Setting
  s = cells_for m

  -- of those that pass the next rung, and of those with a value
  of_wanted : (p : Program) (want : Want) → AreWanted s m.seen.now extreme m.asked.now rungs place p want →
      (suc place < length rungs → Q (program_after s extreme m.asked.now rungs place) (want_after m.seen.now extreme m.asked.now rungs place)) → Q (most_chosen s) (want_for (has_numbers m.seen.now)) → Q p want
  of_wanted p want (inl next) inner last = subst (Q p) (sym next.2) (subst (λ r. Q r (want_after m.seen.now extreme m.asked.now rungs place)) (sym next.1) (inner next.0))
  of_wanted p want (inr end) inner last = subst (Q p) (sym end.2) (subst (λ r. Q r (want_for (has_numbers m.seen.now))) (sym end.1) last)

module _ (m : Measure) (extreme : Extreme) (rungs : List ℤ) (are : AreRungs (cells_for m) m.seen.now extreme rungs) (before : List (List ℕ)) (standing : Standing)
    (stands : IsStanding (cells_for m) m.problem.nodes m.seen.now extreme m.asked.now rungs before standing) (picks : List Row) (picked : AllZip (IsAtEnd (cells_for m) extreme) (cells (cells_for m)) picks)
    (stand : Stand) (on : IsStoodOn m extreme rungs standing.place picks stand) where
  abbrev u : Setting
  u = cells_for m

  abbrev InDoubt : Program → Want → Type 0
  InDoubt p want = IsDoubt p want m.problem.nodes standing.found

  abbrev WasFound : Program → Want → Type 0
  WasFound p want = Any (IsFound p want) standing.found

  in_doubt : MayHaveValue m before → InDoubt stand.program stand.want
  in_doubt doubt = of_wanted m extreme rungs standing.place InDoubt stand.program stand.want on.wanted stands.doubt
      (subst (IsDoubt (most_chosen u) (want_for (has_numbers m.seen.now)) m.problem.nodes) (sym stands.grown)
      (doubt_grown (most_chosen u) (want_for (has_numbers m.seen.now)) m.problem.nodes before stands.more doubt))

  pub stood_at : MayHaveValue m before → IsStoodAt u m.problem.nodes m.seen.now extreme m.asked.now before stand standing.found
  stood_at doubt = record {
    more = stands.more;
    grown = stands.grown;
    lawful = stands.lawful;
    stand_is = record {
      rungs = rungs;
      are_rungs = are;
      place = standing.place;
      inside = stands.inside;
      key_is = on.key_is;
      held = stands.held;
      wanted = on.wanted;
      doubt = in_doubt doubt;
      program = on.program;
      small = on.small;
      picked = subst (AllZip (IsAtEnd u extreme) (cells u)) (sym on.picks_are) picked;
    };
  }

  -- where no search was cut short
  pub stood_surely : HaveValue m before → (suc standing.place < length rungs → StandsOn u m.seen.now extreme m.asked.now rungs standing.found standing.place) → Any (IsFound stand.program stand.want) standing.found
  stood_surely found inner = of_wanted m extreme rungs standing.place WasFound stand.program stand.want on.wanted inner
      (subst (Any (IsFound (most_chosen u) (want_for (has_numbers m.seen.now)))) (sym stands.grown)
      (any_grown (IsFound (most_chosen u) (want_for (has_numbers m.seen.now))) before stands.more found))

-- ---- the counts that the code takes

less_or : (n m : ℕ) → n ≤ m → (n ≡ m) ⊎ (n < m)
less_or n m within = elim (cases_lt n m) [
  | inl less ↦ inr less
  | inr past ↦ inl (omega (arith, within, past))
]

module _ (m : Measure) (extreme : Extreme) (rungs : List ℤ) (place : ℕ) (inside : place < length rungs) where
  abbrev Wanted : Passing → Type 0
  Wanted made = AreWanted (cells_for m) m.seen.now extreme m.asked.now rungs place made.program made.want

  pub wanted_next : {E : Type 0} → suc place < length rungs → (r : Result Passing E) → IfOk r (λ made. made.program ≡ program_after (cells_for m) extreme m.asked.now rungs place) →
      IfOk r (λ made. made.want ≡ want_after m.seen.now extreme m.asked.now rungs place) → IfOk r Wanted
  wanted_next next (Ok made) program want = inl (next, program, want)
  wanted_next next (Err e) program want = tt

  pub wanted_last : (suc place < length rungs → ⊥) → (made : Passing) → made.program ≡ most_chosen (cells_for m) → made.want ≡ want_for (has_numbers m.seen.now) → Wanted made
  wanted_last none made program want = inr (by_last (less_or (suc place) (length rungs) inside), program, want)
    where
      by_last : (suc place ≡ length rungs) ⊎ (suc place < length rungs) → suc place ≡ length rungs
      by_last (inl last) = last
      by_last (inr next) = absurd (none next)
