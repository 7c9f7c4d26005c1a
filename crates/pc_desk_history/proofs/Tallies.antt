-- Counts of the rows of periods, one row after the other.
use Rattle.std.proofs.Common.{◌≡◌, ◌∙◌, ℕ, ℤ, suc, ◌+◌, ◌<◌, ◌≤◌, Bool, true, false, not, cond, nat_lt, if◌then◌else◌, List, [], ◌∷◌, ◌++◌, All, get_or, length, map, take, Option, Some, None, position, refl, sym, ap, subst, append-nil, arith, true≢false}
use Rattle.std.specs.Ordering.{int_eq}
use Rattle.std.specs.Prelude.{count_by, fold}
use Rattle.std.specs.List.{AllByRecursion, IsDistinct, position_or_len}
use Rattle.std.proofs.lemmas.Bool.{le-ltb, lt-ltb, ltb-false, ltb-true}
use Rattle.std.proofs.lemmas.Bool.Decides.{Decides-int_eq}
use Rattle.std.proofs.lemmas.List.{length-take-le}
use Rattle.std.proofs.lemmas.List.Elements.{All-map, filter_more}
use Rattle.std.proofs.lemmas.List.Sums.{count_by-le-length, fold-append, length-filter}
use Rattle.pc_model.specs.declared.area.Area.{Area}
use Rattle.pc_model.specs.declared.row.Row.{Row}
use Rattle.pc_model.specs.Membership.{is_in, row_from as row}
use Rattle.pc_rows.specs.Stored.{row_at}
use Rattle.pc_desk_history.specs.declared.numbers.Numbers.{Numbers}
use Rattle.pc_desk_history.specs.Draft.{numbers_for, numbers_from, numbers_with}
use Rattle.pc_desk_history.specs.Periods.{count_in, counts_of, counts_with, is_of, period_of, rows_in, with_one_at}

-- the step of a row that an area holds
pub counted_in : (per : Option ℕ) (periods : List ℤ) (area : Area) (extra : Row) (counts : List ℕ) (test : Bool) (at : Option ℕ) (period : ℤ) →
    test ≡ is_in area extra → test ≡ true → period ≡ period_of per extra → at ≡ position (int_eq period) periods →
    with_one_at counts at ≡ counts_with per periods area extra counts
counted_in per periods area extra counts false at period held holds is there = absurd (true≢false (sym holds))
counted_in per periods area extra counts true at period held holds is there = rw (← held, ← is, there) refl

-- no more rows than there are
pub few_in : (per : Option ℕ) (periods : List ℤ) (area : Area) (rows : List Row) (limit : ℕ) → length rows ≤ limit →
    All (λ (count : ℕ). count ≤ limit) (counts_of per periods (rows_in area rows))
few_in per periods area rows limit few =
    All-map (λ (count : ℕ). count ≤ limit) (count_in per (rows_in area rows)) periods
    (λ k d inside.
    let first = count_by-le-length (is_of per (get_or periods k d)) (rows_in area rows) in
    let kept = length-filter (is_in area) rows in
    let second = count_by-le-length (is_in area) rows in
    omega (arith, first, kept, second, few))

-- what lists of counts say is what the periods say
pub numbers_over_lists : (lost : Option ℕ) (f g : ℤ → ℕ) (periods : List ℤ) (before : Option Numbers) →
    numbers_from lost (map f periods) (map g periods) before
    ≡ fold (λ (b : Option Numbers) (period : ℤ). numbers_with b (numbers_for lost (f period) (g period))) before periods
numbers_over_lists lost f g [] before = refl
numbers_over_lists lost f g (period ∷ periods) before = numbers_over_lists lost f g periods (numbers_with before (numbers_for lost (f period) (g period)))

-- ---- one row more

none_of : (test : ℤ → Bool) (f : ℤ → ℕ) (periods : List ℤ) → AllByRecursion (λ p. test p ≡ false) periods → map (λ p. f p + cond (test p) 1 0) periods ≡ map f periods
none_of test f [] none = refl
none_of test f (p ∷ periods) none = let same : f p + 0 ≡ f p = omega arith in rw (none.0, none_of test f periods none.1, same) refl

lt_suc : (n long : ℕ) → nat_lt (1 + n) (suc long) ≡ nat_lt n long
lt_suc n long = by_test (nat_lt n long) refl
  where
    by_test : (test : Bool) → nat_lt n long ≡ test → nat_lt (1 + n) (suc long) ≡ test
    by_test true e = let below = ltb-true n long e in lt-ltb (1 + n) (suc long) (omega (arith, below))
    by_test false e = let above = ltb-false n long e in le-ltb (1 + n) (suc long) (omega (arith, above))

after : (x : ℕ) (xs : List ℕ) (n : ℕ) (test : Bool) → x ∷ with_one_at xs (cond test (Some n) None) ≡ with_one_at (x ∷ xs) (cond test (Some (1 + n)) None)
after x xs n false = refl
after x xs n true = let next : 1 + n ≡ suc n = omega arith in rw next refl

-- where no period stands twice, one row more is one more at the place of its period
bumped : (period : ℤ) (f : ℤ → ℕ) (periods : List ℤ) → IsDistinct int_eq periods →
    map (λ p. f p + cond (int_eq period p) 1 0) periods ≡ with_one_at (map f periods) (position (int_eq period) periods)
unfolding IsDistinct
bumped period f [] apart = refl
bumped period f (p ∷ periods) apart = by_test (int_eq period p) refl (bumped period f periods apart.1)
  where
    at : ℕ
    at = position_or_len (int_eq period) periods

    by_test : (test : Bool) → int_eq period p ≡ test →
        map (λ q. f q + cond (int_eq period q) 1 0) periods ≡ with_one_at (map f periods) (position (int_eq period) periods) →
        (f p + cond test 1 0) ∷ map (λ q. f q + cond (int_eq period q) 1 0) periods
        ≡ with_one_at (f p ∷ map f periods) (cond (nat_lt (cond (not test) (1 + at) 0) (suc (length periods))) (Some (cond (not test) (1 + at) 0)) None)
    by_test true e later =
        let none = subst (λ x. AllByRecursion (λ y. int_eq x y ≡ false) periods) (sym ((Decides-int_eq period p).0 e)) apart.0 in
        let first : nat_lt 0 (suc (length periods)) ≡ true = lt-ltb 0 (suc (length periods)) (omega arith) in
        rw (first, none_of (int_eq period) f periods none) refl
    by_test false e later =
        let same : f p + 0 ≡ f p = omega arith in
        rw (lt_suc at (length periods), same, later) (after (f p) (map f periods) at (nat_lt at (length periods)))

count_push : (test : Row → Bool) (rows : List Row) (extra : Row) → count_by test (rows ++ extra ∷ []) ≡ count_by test rows + cond (test extra) 1 0
count_push test rows extra = fold-append (λ (n : ℕ) (r : Row). n + cond (test r) 1 0) 0 rows (extra ∷ [])

counts_push : (per : Option ℕ) (periods : List ℤ) (rows : List Row) (extra : Row) →
    counts_of per periods (rows ++ extra ∷ []) ≡ map (λ p. count_in per rows p + cond (int_eq (period_of per extra) p) 1 0) periods
counts_push per [] rows extra = refl
counts_push per (p ∷ periods) rows extra = rw (count_push (is_of per p) rows extra, counts_push per periods rows extra) refl

pub counts_more : (per : Option ℕ) (periods : List ℤ) (area : Area) (rows : List Row) (place : ℕ) → IsDistinct int_eq periods → place < length rows →
    counts_with per periods area (row_at rows place) (counts_of per periods (rows_in area (take place rows))) ≡ counts_of per periods (rows_in area (take (place + 1) rows))
counts_more per periods area rows place apart here =
    by_test (is_in area extra) ∙ sym (ap (counts_of per periods) (filter_more (is_in area) rows place (row []) here))
  where
    extra : Row
    extra = row_at rows place

    before : List Row
    before = rows_in area (take place rows)

    by_test : (test : Bool) →
        (if test then with_one_at (counts_of per periods before) (position (int_eq (period_of per extra)) periods) else counts_of per periods before)
        ≡ counts_of per periods (before ++ cond test (extra ∷ []) [])
    by_test true = sym (counts_push per periods before extra ∙ bumped (period_of per extra) (count_in per before) periods apart)
    by_test false = sym (ap (counts_of per periods) (append-nil before))

-- before the last row there are fewer than the limit
pub fewer_in : (per : Option ℕ) (periods : List ℤ) (area : Area) (rows : List Row) (place limit : ℕ) → place < length rows → place < limit →
    All (λ (count : ℕ). count < limit) (counts_of per periods (rows_in area (take place rows)))
fewer_in per periods area rows place limit here below k d inside =
    let few = few_in per periods area (take place rows) place (let long = length-take-le place rows (omega (arith, here)) in omega (arith, long)) k d inside in
    omega (arith, few, below)
