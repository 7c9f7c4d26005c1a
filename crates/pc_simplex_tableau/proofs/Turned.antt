-- A turned column keeps what the rows mean.
use Rattle.std.proofs.Common.{◌≡◌, ℕ, ◌+◌, ◌<◌, Bool, true, false, cond, not, List, length, refl, ap, ap₂, sym, subst, ◌∙◌, arith, Option, Some, None, ◌==◌}
use Rattle.std.specs.Prelude.{ℤ, pos, neg_ℤ, ◌+ℤ◌, ◌-ℤ◌, ◌*ℤ◌}
use Rattle.std.proofs.lemmas.Int.{ints}
use Rattle.std.proofs.lemmas.Bool.{ne_eqb, eq-eqb}
use Rattle.std.proofs.lemmas.List.{get_or_past, length-set}
use Rattle.pc_program_bound.specs.declared.program.Program.{Program}
use Rattle.pc_program_bound.specs.Sums.{int_at}
use Rattle.pc_program_bound.proofs.SumBelow.{sum_below-more}
use Rattle.pc_simplex_tableau.specs.Tableau.{TableauRow, Tableau, Columns, row_at, is_turned, is_helper, range_of, end_of, turned_numbers, turned}
use Rattle.pc_simplex_tableau.specs.Relaxation.{columns_of}
use Rattle.pc_simplex_tableau.specs.Conditions.{IsSized}
use Rattle.pc_simplex_tableau.specs.Standing.{entry_at, basic_at, IsSolved, plain, IsMixed, place, miss, SolvesRows, IsMeant}
use Rattle.pc_simplex_tableau.proofs.Sized.{sized_basic, sized_row, sized_rows}
use Rattle.pc_program_bound.proofs.Ring.{mul_assoc}
use Rattle.pc_simplex_tableau.proofs.Products.{mul-neg, neg-mul, mul-sub, sub-mul}
use Rattle.pc_simplex_tableau.proofs.Mixes.{IsMixed-signed}
use Rattle.pc_simplex_tableau.proofs.Meaning.{miss-signed, sum_below-but_one}
use Rattle.pc_simplex_tableau.proofs.Pivots.{by_same}
use Rattle.pc_simplex_tableau.proofs.Turns.{signed, signed_none, signed_swap, signed_not, at_column, at_value, at_other, at_none, at-turned_row, length-turned_row, rows-turned, row_at-turned, is_turned-column, is_turned-other, aim-column, aim-other}

-- where a column stands once it is turned
placed_again : (test : Bool) (y u z : ℤ) → cond (not test) (neg_ℤ y -ℤ u *ℤ z) y ≡ neg_ℤ (cond test (neg_ℤ y -ℤ u *ℤ z) y) -ℤ u *ℤ z
placed_again true y u z = omega (arith, ints)
placed_again false y u z = refl

-- its number times that
turned_product : (a s u z : ℤ) → neg_ℤ a *ℤ (neg_ℤ s -ℤ u *ℤ z) ≡ a *ℤ s +ℤ a *ℤ (u *ℤ z)
turned_product a s u z =
    let split = mul-sub (neg_ℤ a) (neg_ℤ s) (u *ℤ z) in
    let first = neg-mul a (neg_ℤ s) in
    let second = mul-neg a s in
    let third = neg-mul a (u *ℤ z) in
    omega (arith, ints, split, first, second, third)

-- and the value
value_product : (v a u z : ℤ) → (v -ℤ a *ℤ u) *ℤ z ≡ v *ℤ z -ℤ a *ℤ (u *ℤ z)
value_product v a u z = let split = sub-mul v (a *ℤ u) z in let grouped = mul_assoc a u z in omega (arith, ints, split, grouped)

module _ (f : Columns) (c u : ℕ) (t : Tableau) (own : c < f.count) (end : end_of f c ≡ u) (sized : IsSized f t) where
  abbrev after : Tableau
  after = turned f c u t

  abbrev new_numbers : ℕ → List ℤ
  new_numbers i = turned_numbers f c u (row_at t i).numbers

  abbrev is_own : ℕ → Bool
  is_own i = basic_at t i == c

  pub below : (i : ℕ) → i < length after.rows → i < length t.rows
  below i h = omega (arith, h, rows-turned f c u t)

  pub entry_at-turned : (i k : ℕ) → i < length t.rows → entry_at after i k ≡ signed (is_own i) (int_at (new_numbers i) k)
  entry_at-turned i k h = ap (λ (row : TableauRow). int_at row.numbers k) (row_at-turned f c u t i h) ∙ at-turned_row f c u (row_at t i) k

  pub basic_at-turned : (i : ℕ) → i < length t.rows → basic_at after i ≡ basic_at t i
  basic_at-turned i h = ap (λ (row : TableauRow). row.basic) (row_at-turned f c u t i h)

  pub IsSized-turned : IsSized f after
  IsSized-turned = record {
    ranges = sized.ranges;
    rows = sized_rows f after
        (λ i h. ap (λ (row : TableauRow). length row.numbers) (row_at-turned f c u t i (below i h))
        ∙ length-turned_row f c u (row_at t i) own (sized_row sized i (below i h)))
        (λ i h. rw (basic_at-turned i (below i h)) (sized_basic sized i (below i h)));
    turned = length-set t.turned c (not (is_turned t c)) ∙ sized.turned;
    aim = length-set t.aim c (neg_ℤ (int_at t.aim c)) ∙ sized.aim;
  }

  -- ---- each row solves for its basic column
  none_kept : (i k : ℕ) → i < length t.rows → k < f.count → entry_at t i k ≡ pos 0 → entry_at after i k ≡ pos 0
  none_kept i k h lt none =
      entry_at-turned i k h ∙ signed_none (is_own i) (int_at (new_numbers i) k) (at_none f c u own (row_at t i).numbers (sized_row sized i h) k lt none)

  pub own_entry : (i : ℕ) → i < length t.rows → entry_at after i (basic_at t i) ≡ entry_at t i (basic_at t i)
  own_entry i h = by_same (basic_at t i) c same other
    where
      same : basic_at t i ≡ c → entry_at after i (basic_at t i) ≡ entry_at t i (basic_at t i)
      same e =
          let column = at_column f c u own (row_at t i).numbers (sized_row sized i h) in
          entry_at-turned i (basic_at t i) h
          ∙ ap (λ test. signed test (int_at (new_numbers i) (basic_at t i))) (eq-eqb (basic_at t i) c e)
          ∙ ap (λ k. neg_ℤ (int_at (new_numbers i) k)) e ∙ ap neg_ℤ column ∙ twice (entry_at t i c) ∙ ap (entry_at t i) (sym e)
        where
          twice : (x : ℤ) → neg_ℤ (neg_ℤ x) ≡ x
          twice x = omega (arith, ints)

      other : (basic_at t i ≡ c → ⊥) → entry_at after i (basic_at t i) ≡ entry_at t i (basic_at t i)
      other ne =
          entry_at-turned i (basic_at t i) h
          ∙ ap (λ test. signed test (int_at (new_numbers i) (basic_at t i))) (ne_eqb (basic_at t i) c ne)
          ∙ at_other f c u own (row_at t i).numbers (sized_row sized i h) (basic_at t i) (sized_basic sized i h) ne

  pub IsSolved-turned : IsSolved t → IsSolved after
  IsSolved-turned solved = record {
    positive = λ i h. rw (basic_at-turned i (below i h), own_entry i (below i h)) (solved.positive i (below i h));
    alone = λ i k h j apart. rw (basic_at-turned k (below k j))
        (none_kept i (basic_at t k) (below i h) (sized_basic sized k (below k j)) (solved.alone i k (below i h) (below k j) apart));
    aimed = λ k h. rw (basic_at-turned k (below k h)) (aimed k (below k h));
    weighed = solved.weighed;
  }
    where
      aimed : (k : ℕ) → k < length t.rows → int_at after.aim (basic_at t k) ≡ pos 0
      aimed k h = by_same (basic_at t k) c
          (λ e. ap (int_at after.aim) e ∙ aim-column f c u t (omega (arith, own, sized.aim))
          ∙ signed_none true (int_at t.aim c) (ap (int_at t.aim) (sym e) ∙ solved.aimed k h))
          (λ ne. aim-other f c u t (basic_at t k) ne ∙ solved.aimed k h)

  -- ---- entries
  plain_kept : (row new : List ℤ) → int_at new c ≡ neg_ℤ (int_at row c) → ((k : ℕ) → k < f.count → (k ≡ c → ⊥) → int_at new k ≡ int_at row k)
      → (k : ℕ) → k < f.count → plain after new k ≡ plain t row k
  plain_kept row new column others k lt = by_same k c same other
    where
      same : k ≡ c → plain after new k ≡ plain t row k
      same e = subst (λ n. plain after new n ≡ plain t row n) (sym e)
          (rw (is_turned-column f c u t (omega (arith, own, sized.turned)), column) (signed_not (is_turned t c) (int_at row c)))

      other : (k ≡ c → ⊥) → plain after new k ≡ plain t row k
      other ne = rw (is_turned-other f c u t k ne, others k lt ne) refl

  plain_signed : (i k : ℕ) → i < length t.rows → k < f.count → plain after (row_at after i).numbers k ≡ signed (is_own i) (plain t (row_at t i).numbers k)
  plain_signed i k h lt =
      ap (signed (is_turned after k)) (entry_at-turned i k h)
      ∙ signed_swap (is_turned after k) (is_own i) (int_at (new_numbers i) k)
      ∙ ap (signed (is_own i)) (plain_kept (row_at t i).numbers (new_numbers i) (at_column f c u own (row_at t i).numbers (sized_row sized i h))
      (at_other f c u own (row_at t i).numbers (sized_row sized i h)) k lt)

  module _ (p : Program) (gain : ℕ → ℤ) (count : f.count ≡ columns_of p) where
    column : (k : ℕ) → k < columns_of p → k < f.count
    column k h = omega (arith, h, count)

    pub rows_mixed-turned : (i : ℕ) → i < length t.rows → IsMixed p (pos 0) gain (plain t (row_at t i).numbers) → IsMixed p (pos 0) gain (plain after (row_at after i).numbers)
    rows_mixed-turned i h mixed =
        IsMixed-signed p gain (is_own i) (pos 0) (pos 0) (plain t (row_at t i).numbers) (plain after (row_at after i).numbers)
        (λ k lt. plain_signed i k h (column k lt)) (sym (signed_none (is_own i) (pos 0) refl)) mixed

    pub aim_mixed-turned : IsMixed p t.weight gain (plain t t.aim) → IsMixed p t.weight gain (plain after after.aim)
    aim_mixed-turned mixed =
        IsMixed-signed p gain false t.weight t.weight (plain t t.aim) (plain after after.aim)
        (λ k lt. plain_kept t.aim after.aim (aim-column f c u t (omega (arith, own, sized.aim))) (λ m less ne. aim-other f c u t m ne) k (column k lt)) refl mixed

  -- ---- solutions
  module _ (y : ℕ → ℤ) where
    place_column : place f after y c ≡ neg_ℤ (place f t y c) -ℤ pos u *ℤ y f.count
    place_column = rw (is_turned-column f c u t (omega (arith, own, sized.turned)), end) (placed_again (is_turned t c) (y c) (pos u) (y f.count))

    place_other : (k : ℕ) → (k ≡ c → ⊥) → place f after y k ≡ place f t y k
    place_other k ne = rw (is_turned-other f c u t k ne) refl

    place_value : place f t y f.count ≡ y f.count
    place_value = rw (get_or_past t.turned f.count false (omega (arith, sized.turned))) refl

    pub miss_kept : (row : List ℤ) → length row ≡ f.count + 1 → miss f.count (turned_numbers f c u row) (place f after y) ≡ miss f.count row (place f t y)
    miss_kept row long =
        let cells = sum_below-but_one f.count c new old own (λ k lt ne. ap₂ (λ m n. m *ℤ n) (at_other f c u own row long k lt ne) (place_other k ne)) in
        rw (sum_below-more f.count new, sum_below-more f.count old) (omega (arith, ints, cells, at_c, at_end))
      where
        new : ℕ → ℤ
        new k = int_at (turned_numbers f c u row) k *ℤ place f after y k

        old : ℕ → ℤ
        old k = int_at row k *ℤ place f t y k

        at_c : new c ≡ old c +ℤ int_at row c *ℤ (pos u *ℤ y f.count)
        at_c = ap₂ (λ m n. m *ℤ n) (at_column f c u own row long) place_column ∙ turned_product (int_at row c) (place f t y c) (pos u) (y f.count)

        at_end : new f.count ≡ old f.count -ℤ int_at row c *ℤ (pos u *ℤ y f.count)
        at_end =
            ap₂ (λ m n. m *ℤ n) (at_value f c u own row long) (place_other f.count (λ e. omega (arith, own, e)) ∙ place_value)
            ∙ value_product (int_at row f.count) (int_at row c) (pos u) (y f.count)
            ∙ ap (λ n. int_at row f.count *ℤ n -ℤ int_at row c *ℤ (pos u *ℤ y f.count)) (sym place_value)

    pub SolvesRows-turned : SolvesRows f after y → SolvesRows f t y
    SolvesRows-turned solves i h =
        sym (miss_kept (row_at t i).numbers (sized_row sized i h))
        ∙ miss-signed f.count (is_own i) (new_numbers i) (row_at after i).numbers (place f after y) (λ k. entry_at-turned i k h)
        (solves i (omega (arith, h, rows-turned f c u t)))

-- ---- all of it

pub end_is : (f : Columns) (c u : ℕ) → range_of f c ≡ Some u → end_of f c ≡ u
end_is f c u e = ap (λ (range : Option ℕ). elim range [ Some n ↦ n | None ↦ 0 ]) e

pub IsMeant-turned : (p : Program) (floors : List ℕ) (gain : ℕ → ℤ) (f : Columns) (c u : ℕ) (t : Tableau) → IsMeant p floors gain f t
    → c < f.count → range_of f c ≡ Some u → IsMeant p floors gain f (turned f c u t)
IsMeant-turned p floors gain f c u t meant own range =
    let end = end_is f c u range in
    let sized = meant.sized in
    let less = λ (i : ℕ) (h : i < length (turned f c u t).rows). below f c u t own end sized i h in
    record {
      sized = IsSized-turned f c u t own end sized;
      solved = IsSolved-turned f c u t own end sized meant.solved;
      rows = rows-turned f c u t ∙ meant.rows;
      count = meant.count;
      rows_mixed = λ i h. rows_mixed-turned f c u t own end sized p gain meant.count i (less i h) (meant.rows_mixed i (less i h));
      aim_mixed = aim_mixed-turned f c u t own end sized p gain meant.count meant.aim_mixed;
      endless = λ k none. by_same k c
          (λ e. absurd (clash (ap (range_of f) (sym e) ∙ none)))
          (λ ne. is_turned-other f c u t k ne ∙ meant.endless k none);
      helpers = λ i h helper none.
          let same = basic_at-turned f c u t own end sized i (less i h) in
          ap gain same ∙ meant.helpers i (less i h) (ap (is_helper f) (sym same) ∙ helper) none;
      back = λ y solves. meant.back y (SolvesRows-turned f c u t own end sized y solves);
    }
  where
    clash : range_of f c ≡ None → ⊥
    clash none = let some = sym none ∙ range in absurd cc
