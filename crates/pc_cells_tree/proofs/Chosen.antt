-- The cut that is made: how many predicates the cuts pass through, counted up to a limit, and the first of the fewest.
use Rattle.std.proofs.Common.{◌≡◌, ℕ, zero, suc, ◌+◌, ◌<◌, ◌≤◌, nat_le, ◌-◌, ◌&&◌, not, cond, Bool, true, false, List, length, get_or, Option, Some, None, MatchOption, inl, inr, refl, sym, subst, arith, add-one}
use Rattle.std.specs.Prelude.{IsTrue, ◌↔◌, ⊤, min}
use Rattle.std.proofs.lemmas.Bool.{cond_both, cases_lt, leb-true, leb-false, false≢true}
use Rattle.std.proofs.lemmas.Option.{slice_get-get_or}
use Rattle.pc_model.specs.declared.region.Region.{Region}
use Rattle.pc_model.specs.declared.constraint.Constraint.{Constraint}
use Rattle.pc_model.specs.declared.tree.Cut.{Cut}
use Rattle.pc_model.specs.CutTrees.{IsApart}
use Rattle.pc_box.specs.Boxes.{AreAlike}
use Rattle.pc_box.specs.Sides.{regions_meet}
use Rattle.pc_box.proofs.Rows.{test_from_apart}
use Rattle.pc_cells_tree.specs.declared.choice.Candidate.{Candidate}
use Rattle.pc_cells_tree.specs.declared.known.Known.{Known}
use Rattle.pc_cells_tree.specs.Knowing.{is_open}
use Rattle.pc_cells_tree.specs.Choices.{is_passed_when, is_passed, count_below, passed_by, fewer_of, cut_at, IsFewest}
use Rattle.pc_cells_tree.specs.Stances.{IsAlong}
use Rattle.pc_cells_tree.proofs.Choices.{meet-from_rows}

-- ---- counted numbers

module _ (test : ℕ → Bool) where
  none_below : count_below test 0 ≡ 0
  unfolding count_below
  none_below = refl

  one_more : (n : ℕ) → count_below test (suc n) ≡ count_below test n + cond (test n) 1 0
  unfolding count_below
  one_more n = refl

  pub one_after : (n : ℕ) → count_below test (n + 1) ≡ count_below test n + cond (test n) 1 0
  one_after n = let next : n + 1 ≡ suc n = add-one n in rw next (one_more n)

  pub count_below-le : (n : ℕ) → count_below test n ≤ n
  count_below-le zero = rw none_below (omega arith)
  count_below-le (suc n) =
      let before = count_below-le n in
      rw (one_more n) (cond_both (test n) 1 0 (λ more. count_below test n + more ≤ suc n) (λ e. omega (arith, before)) (λ e. omega (arith, before)))

  grows : (n : ℕ) → count_below test n ≤ count_below test (suc n)
  grows n = rw (one_more n) (omega arith)

  pub count_below-mono : (n more : ℕ) → count_below test n ≤ count_below test (n + more)
  count_below-mono n zero = let same : n + 0 ≡ n = omega arith in rw same (omega arith)
  count_below-mono n (suc more) =
      let before = count_below-mono n more in
      let next = grows (n + more) in
      let same : n + suc more ≡ suc (n + more) = omega arith in
      rw same (omega (arith, before, next))

-- ---- the predicates through which a cut passes

module _ (part : Region) (constraints : List Constraint) (known : Known) (cut : Cut) where
  abbrev test : ℕ → Bool
  test = is_passed part constraints known cut

  pub none_yet : 0 ≡ count_below test 0
  none_yet = sym (none_below test)

  module _ (place passed : ℕ) (item : Constraint) (there : place < length constraints) (is : item ≡ get_or constraints place item) (e : passed ≡ count_below test place) where
    test_here : test place ≡ (is_open known place && is_passed_when part cut item.when)
    test_here = rw (slice_get-get_or constraints place item there, sym is) refl

    unchanged : test place ≡ false → passed ≡ count_below test (place + 1)
    unchanged not_here = rw (one_after test place, not_here) (omega (arith, e))

    pub passed_one : is_open known place ≡ true → is_passed_when part cut item.when ≡ true → passed + 1 ≡ count_below test (place + 1)
    passed_one unknown passes = let here : test place ≡ true = rw (test_here, unknown, passes) refl in rw (one_after test place, here, e) refl

    pub passed_known : is_open known place ≡ false → passed ≡ count_below test (place + 1)
    passed_known known_here = unchanged (rw (test_here, known_here) refl)

    pub passed_beside : is_open known place ≡ true → is_passed_when part cut item.when ≡ false → passed ≡ count_below test (place + 1)
    passed_beside unknown beside = unchanged (rw (test_here, unknown, beside) refl)

  -- the count has come to the most that is asked for
  pub passed_most : (most passed place : ℕ) → passed ≡ count_below test place → passed ≤ most → most ≤ passed → place ≤ length constraints → passed ≡ min most (passed_by part constraints known cut)
  passed_most most passed place e few enough within =
      let all : count_below test place ≤ count_below test (place + (length constraints - place)) = count_below-mono test place (length constraints - place) in
      let whole : place + (length constraints - place) ≡ length constraints = omega (arith, within) in
      let total : count_below test place ≤ passed_by part constraints known cut = rw whole at all in
      omega (arith, e, few, enough, total)

  -- .. or to its end
  pub passed_all : (most passed place : ℕ) → passed ≡ count_below test place → passed ≤ most → length constraints ≤ place → place ≤ length constraints → passed ≡ min most (passed_by part constraints known cut)
  passed_all most passed place e few past within =
      let whole : place ≡ length constraints = omega (arith, past, within) in
      let total : passed ≡ passed_by part constraints known cut = rw whole at e in
      omega (arith, few, total)

  pub passed_few : passed_by part constraints known cut ≤ length constraints
  passed_few = count_below-le test (length constraints)

-- boxes that are apart do not meet
pub not_met : (a b : Region) (result : Bool) → AreAlike a b → (IsTrue result ↔ IsApart a b) → not result ≡ regions_meet a b
not_met a b true alike means = sym (test_from_apart a b alike (means.0 refl))
not_met a b false alike means = sym (meet-from_rows a b alike (λ apart. false≢true (means.1 apart)))

-- ---- the first of the fewest

module _ (cut_of : ℕ → Option Cut) (passed : Cut → ℕ) where
  -- among the cuts of the first n columns
  abbrev pub HasFewest : ℕ → Option Candidate → Type 0
  HasFewest n best = MatchOption best ((k : ℕ) → k < n → cut_of k ≡ None) (λ (one : Candidate). IsFewest cut_of passed n one.cut)

  abbrev pub IsFewerOf : Option Candidate → Cut → Cut → Type 0
  IsFewerOf before cut after = MatchOption before (after ≡ cut) (λ (one : Candidate). after ≡ fewer_of passed one.cut cut)

  pub fewest_none : (n : ℕ) (best : Option Candidate) → cut_of n ≡ None → HasFewest n best → HasFewest (n + 1) best
  fewest_none n None none before = λ k below. elim (cases_lt k n) [
    | inl old ↦ before k old
    | inr new ↦ let same : k ≡ n = omega (arith, below, new) in rw same none
  ]
  fewest_none n (Some one) none before = record {
    column = before.column;
    there = omega (arith, before.there);
    own = before.own;
    fewest = λ k other below is. elim (cases_lt k n) [
      | inl old ↦ before.fewest k other old is
      | inr new ↦ let same : k ≡ n = omega (arith, below, new) in let none_here : cut_of k ≡ None = rw same none in absurd cc
    ];
    first = before.first;
  }

  -- the cut of column n is the first one
  alone : (n : ℕ) (cut : Cut) → cut_of n ≡ Some cut → ((k : ℕ) → k < n → cut_of k ≡ None) → IsFewest cut_of passed (n + 1) cut
  alone n cut own none = record {
    column = n;
    there = omega arith;
    own = own;
    fewest = λ k other below is. elim (cases_lt k n) [
      | inl old ↦ let none_here = none k old in absurd cc
      | inr new ↦
          let here : k ≡ n = omega (arith, below, new) in
          let here_too : cut_of n ≡ Some other = rw here at is in
          let same : cut ≡ other = cc in
          rw same (omega arith)
    ];
    first = λ k other before is. let none_here = none k before in absurd cc;
  }

  -- .. or it passes through no fewer than the best before it, or through fewer
  module _ (n : ℕ) (best cut : Cut) (own : cut_of n ≡ Some cut) (before : IsFewest cut_of passed n best) where
    kept : passed best ≤ passed cut → IsFewest cut_of passed (n + 1) best
    kept le = record {
      column = before.column;
      there = omega (arith, before.there);
      own = before.own;
      fewest = λ k other below is. elim (cases_lt k n) [
        | inl old ↦ before.fewest k other old is
        | inr new ↦
            let here : k ≡ n = omega (arith, below, new) in
            let here_too : cut_of n ≡ Some other = rw here at is in
            let same : cut ≡ other = cc in
            rw (sym same) le
      ];
      first = before.first;
    }

    replaced : passed cut < passed best → IsFewest cut_of passed (n + 1) cut
    replaced less = record {
      column = n;
      there = omega arith;
      own = own;
      fewest = λ k other below is. elim (cases_lt k n) [
        | inl old ↦ let more = before.fewest k other old is in omega (arith, less, more)
        | inr new ↦
            let here : k ≡ n = omega (arith, below, new) in
            let here_too : cut_of n ≡ Some other = rw here at is in
            let same : cut ≡ other = cc in
            rw same (omega arith)
      ];
      first = λ k other old is. let more = before.fewest k other old is in omega (arith, less, more);
    }

    pub replaced_or_kept : IsFewest cut_of passed (n + 1) (fewer_of passed best cut)
    replaced_or_kept = cond_both (nat_le (passed best) (passed cut)) best cut (IsFewest cut_of passed (n + 1)) (λ e. kept (leb-true (passed best) (passed cut) e)) (λ e. replaced (leb-false (passed best) (passed cut) e))

  pub fewest_more : (n : ℕ) (before : Option Candidate) (after : Candidate) (cut : Cut) → cut_of n ≡ Some cut → IsFewerOf before cut after.cut → HasFewest n before → IsFewest cut_of passed (n + 1) after.cut
  fewest_more n None after cut own is before = rw is (alone n cut own before)
  fewest_more n (Some one) after cut own is before = rw is (replaced_or_kept n one.cut cut own before)

-- all columns have been gone through
pub fewest_end : (cut_of : ℕ → Option Cut) (passed : Cut → ℕ) (n all : ℕ) (best : Option Candidate) → n ≡ all → HasFewest cut_of passed n best → MatchOption best ⊤ (λ (one : Candidate). IsFewest cut_of passed all one.cut)
fewest_end cut_of passed n all None e before = tt
fewest_end cut_of passed n all (Some one) e before = subst (λ m. IsFewest cut_of passed m one.cut) e before

pub along_fewest : (part region : Region) (passed : Cut → ℕ) (n : ℕ) (cut : Cut) → n ≤ length part.sides → IsFewest (cut_at part region) passed n cut → IsAlong part region cut
along_fewest part region passed n cut within it = (it.column, omega (arith, it.there, within), it.own)
