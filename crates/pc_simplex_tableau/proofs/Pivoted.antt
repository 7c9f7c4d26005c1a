-- A pivot keeps what the rows mean.
use Rattle.std.proofs.Common.{◌≡◌, ℕ, ◌+◌, ◌<◌, false, List, length, refl, ap, sym, subst, ◌∙◌, arith, true≢false}
use Rattle.std.specs.Prelude.{ℤ, pos, ◌-ℤ◌, ◌*ℤ◌, ◌<ℤ◌}
use Rattle.std.proofs.lemmas.Int.{ints}
use Rattle.std.proofs.Math.IntN.{*ℤ_comm}
use Rattle.pc_program_bound.specs.declared.program.Program.{Program}
use Rattle.pc_program_bound.specs.Sums.{int_at}
use Rattle.pc_simplex_tableau.specs.Tableau.{Tableau, Columns, row_at, is_turned, is_helper, pivoted}
use Rattle.pc_simplex_tableau.specs.Relaxation.{columns_of}
use Rattle.pc_simplex_tableau.specs.Conditions.{IsSized}
use Rattle.pc_simplex_tableau.specs.Standing.{entry_at, basic_at, IsSolved, plain, IsMixed, place, miss, SolvesRows, IsMeant}
use Rattle.pc_simplex_tableau.proofs.Sized.{sized_basic, sized_row, sized_rows}
use Rattle.pc_simplex_tableau.proofs.Products.{mul-zero, mul_positive, lt_cancel, none_cancel}
use Rattle.pc_simplex_tableau.proofs.Mixes.{IsMixed-combined, turned_place}
use Rattle.pc_simplex_tableau.proofs.Meaning.{miss-back, miss-same}
use Rattle.pc_simplex_tableau.proofs.Pivots.{by_same, IsPivot, IsPivot-pivoted}

-- a number where the pivot's row has 0
kept_positive : (g p t a b x : ℤ) → pos 0 <ℤ g → pos 0 <ℤ p → g *ℤ x ≡ p *ℤ a -ℤ t *ℤ b → b ≡ pos 0 → pos 0 <ℤ a → pos 0 <ℤ x
kept_positive g p t a b x positive also e none above =
    let some = mul_positive p a also above in
    let whole = rw (none, mul-zero t) at e in
    lt_cancel g x positive (omega (arith, ints, whole, some))

kept_none : (g p t a b x : ℤ) → pos 0 <ℤ g → g *ℤ x ≡ p *ℤ a -ℤ t *ℤ b → b ≡ pos 0 → a ≡ pos 0 → x ≡ pos 0
kept_none g p t a b x positive e none also =
    let whole = rw (none, also, mul-zero t, mul-zero p) at e in
    none_cancel g x positive (omega (arith, ints, whole))

-- the pivot's column
left_none : (g p t x : ℤ) → pos 0 <ℤ g → g *ℤ x ≡ p *ℤ t -ℤ t *ℤ p → x ≡ pos 0
left_none g p t x positive e = none_cancel g x positive (let turned = *ℤ_comm p t in omega (arith, ints, e, turned))

module _ (f : Columns) (c r : ℕ) (t after : Tableau) (lt : r < length t.rows) (own : c < f.count) (positive : pos 0 <ℤ entry_at t r c)
    (pivot : IsPivot f.count c r t after) where
  below : (i : ℕ) → i < length after.rows → i < length t.rows
  below i h = rw pivot.rows at h

  pub IsSized-pivot : IsSized f t → IsSized f after
  IsSized-pivot sized = record {
    ranges = sized.ranges;
    rows = sized_rows f after
        (λ i h. by_same i r (λ e. subst (λ k. length (row_at after k).numbers ≡ f.count + 1) (sym e) (ap length pivot.same ∙ sized_row sized r lt))
        (λ ne. pivot.sizes i (below i h) ne))
        (λ i h. by_same i r (λ e. subst (λ k. basic_at after k < f.count) (sym e) (subst (λ k. k < f.count) (sym pivot.basic) own))
        (λ ne. subst (λ k. k < f.count) (sym (pivot.basics i (below i h) ne)) (sized_basic sized i (below i h))));
    turned = ap length pivot.turns ∙ sized.turned;
    aim = pivot.aims;
  }

  at_row : (k : ℕ) → entry_at after r k ≡ entry_at t r k
  at_row k = ap (λ numbers. int_at numbers k) pivot.same

  -- ---- each row solves for its basic column
  module _ (sized : IsSized f t) (solved : IsSolved t) where
    basic_positive : (i : ℕ) → i < length t.rows → (i ≡ r → ⊥) → pos 0 <ℤ entry_at after i (basic_at t i)
    basic_positive i h ne =
        let freed = pivot.freed i h ne in
        kept_positive freed.times (entry_at t r c) (entry_at t i c) (entry_at t i (basic_at t i)) (entry_at t r (basic_at t i)) (entry_at after i (basic_at t i))
        freed.positive positive (freed.each (basic_at t i) (omega (arith, sized_basic sized i h))) (solved.alone r i lt h (λ e. ne (sym e))) (solved.positive i h)

    basic_alone : (i k : ℕ) → i < length t.rows → k < length t.rows → (i ≡ r → ⊥) → (k ≡ r → ⊥) → (i ≡ k → ⊥) → entry_at after i (basic_at t k) ≡ pos 0
    basic_alone i k h j ne also apart =
        let freed = pivot.freed i h ne in
        kept_none freed.times (entry_at t r c) (entry_at t i c) (entry_at t i (basic_at t k)) (entry_at t r (basic_at t k)) (entry_at after i (basic_at t k))
        freed.positive (freed.each (basic_at t k) (omega (arith, sized_basic sized k j))) (solved.alone r k lt j (λ e. also (sym e))) (solved.alone i k h j apart)

    column_alone : (i : ℕ) → i < length t.rows → (i ≡ r → ⊥) → entry_at after i c ≡ pos 0
    column_alone i h ne =
        let freed = pivot.freed i h ne in
        left_none freed.times (entry_at t r c) (entry_at t i c) (entry_at after i c) freed.positive (freed.each c (omega (arith, own)))

    aim_alone : (k : ℕ) → k < length t.rows → (k ≡ r → ⊥) → int_at after.aim (basic_at t k) ≡ pos 0
    aim_alone k h ne =
        let aim = pivot.aim in
        kept_none aim.times (entry_at t r c) (int_at t.aim c) (int_at t.aim (basic_at t k)) (entry_at t r (basic_at t k)) (int_at after.aim (basic_at t k))
        aim.positive (aim.each (basic_at t k) (sized_basic sized k h)) (solved.alone r k lt h (λ e. ne (sym e))) (solved.aimed k h)

    alone_in_row : (k : ℕ) → k < length t.rows → (k ≡ r → ⊥) → entry_at after r (basic_at after k) ≡ pos 0
    alone_in_row k h ne = rw (pivot.basics k h ne, at_row (basic_at t k)) (solved.alone r k lt h (λ e. ne (sym e)))

    pub IsSolved-pivot : IsSolved after
    IsSolved-pivot = record {
      positive = λ i h. by_same i r
          (λ e. subst (λ k. pos 0 <ℤ entry_at after k (basic_at after k)) (sym e) (rw (pivot.basic, at_row c) positive))
          (λ ne. rw (pivot.basics i (below i h) ne) (basic_positive i (below i h) ne));
      alone = λ i k h j apart. by_same i r
          (λ e. subst (λ n. entry_at after n (basic_at after k) ≡ pos 0) (sym e) (alone_in_row k (below k j) (λ d. apart (e ∙ sym d))))
          (λ ne. by_same k r
          (λ e. subst (λ n. entry_at after i (basic_at after n) ≡ pos 0) (sym e) (rw pivot.basic (column_alone i (below i h) ne)))
          (λ also. rw (pivot.basics k (below k j) also) (basic_alone i k (below i h) (below k j) ne also apart)));
      aimed = λ k h. by_same k r
          (λ e. subst (λ n. int_at after.aim (basic_at after n) ≡ pos 0) (sym e) (rw pivot.basic
          (left_none pivot.aim.times (entry_at t r c) (int_at t.aim c) (int_at after.aim c) pivot.aim.positive (pivot.aim.each c own))))
          (λ ne. rw (pivot.basics k (below k h) ne) (aim_alone k (below k h) ne));
      weighed = lt_cancel pivot.aim.times after.weight pivot.aim.positive (rw pivot.aim.weight (mul_positive (entry_at t r c) t.weight positive solved.weighed));
    }

  -- ---- entries
  plain_same : (numbers : List ℤ) (k : ℕ) → plain after numbers k ≡ plain t numbers k
  plain_same numbers k = rw pivot.turns refl

  plain_freed : (g a b : ℤ) (row other new : List ℤ) (k : ℕ) → g *ℤ int_at new k ≡ a *ℤ int_at row k -ℤ b *ℤ int_at other k
      → g *ℤ plain after new k ≡ a *ℤ plain t row k -ℤ b *ℤ plain t other k
  plain_freed g a b row other new k e = rw (plain_same new k) (turned_place (is_turned t k) g a b (int_at row k) (int_at other k) (int_at new k) e)

  module _ (p : Program) (gain : ℕ → ℤ) (count : f.count ≡ columns_of p)
      (mixed : (i : ℕ) → i < length t.rows → IsMixed p (pos 0) gain (plain t (row_at t i).numbers)) where
    column : (k : ℕ) → k < columns_of p → k < f.count
    column k h = omega (arith, h, count)

    pub rows_mixed-pivot : (i : ℕ) → i < length after.rows → IsMixed p (pos 0) gain (plain after (row_at after i).numbers)
    rows_mixed-pivot i h = by_same i r same other
      where
        same : i ≡ r → IsMixed p (pos 0) gain (plain after (row_at after i).numbers)
        same e = subst (λ n. IsMixed p (pos 0) gain (plain after (row_at after n).numbers)) (sym e)
            (rw (pivot.same, pivot.turns) (mixed r lt))

        other : (i ≡ r → ⊥) → IsMixed p (pos 0) gain (plain after (row_at after i).numbers)
        other ne =
            let freed = pivot.freed i (below i h) ne in
            IsMixed-combined p gain freed.times (entry_at t r c) (entry_at t i c) (pos 0) (pos 0) (plain t (row_at t i).numbers) (plain t (row_at t r).numbers)
            (plain after (row_at after i).numbers) freed.positive
            (λ k j. plain_freed freed.times (entry_at t r c) (entry_at t i c) (row_at t i).numbers (row_at t r).numbers (row_at after i).numbers k
            (freed.each k (omega (arith, column k j))))
            (mul-zero freed.times ∙ sym (mul-zero (entry_at t r c))) (mixed i (below i h)) (mixed r lt)

    pub aim_mixed-pivot : IsMixed p t.weight gain (plain t t.aim) → IsMixed p after.weight gain (plain after after.aim)
    aim_mixed-pivot aim =
        let freed = pivot.aim in
        IsMixed-combined p gain freed.times (entry_at t r c) (int_at t.aim c) t.weight after.weight (plain t t.aim) (plain t (row_at t r).numbers)
        (plain after after.aim) freed.positive
        (λ k j. plain_freed freed.times (entry_at t r c) (int_at t.aim c) t.aim (row_at t r).numbers after.aim k (freed.each k (column k j)))
        freed.weight aim (mixed r lt)

  -- ---- solutions
  place_same : (y : ℕ → ℤ) (k : ℕ) → place f after y k ≡ place f t y k
  place_same y k = rw pivot.turns refl

  pub SolvesRows-pivot : (y : ℕ → ℤ) → SolvesRows f after y → SolvesRows f t y
  SolvesRows-pivot y solves i h = by_same i r (λ e. subst (λ n. miss f.count (row_at t n).numbers (place f t y) ≡ pos 0) (sym e) own_row) other
    where
      met : (n : ℕ) → n < length t.rows → miss f.count (row_at after n).numbers (place f t y) ≡ pos 0
      met n less = sym (miss-same f.count (row_at after n).numbers (place f after y) (place f t y) (place_same y)) ∙ solves n (rw pivot.rows less)

      own_row : miss f.count (row_at t r).numbers (place f t y) ≡ pos 0
      own_row = ap (λ numbers. miss f.count numbers (place f t y)) (sym pivot.same) ∙ met r lt

      other : (i ≡ r → ⊥) → miss f.count (row_at t i).numbers (place f t y) ≡ pos 0
      other ne =
          let freed = pivot.freed i h ne in
          miss-back f.count freed.times (entry_at t r c) (entry_at t i c) (row_at t i).numbers (row_at t r).numbers (row_at after i).numbers (place f t y)
          positive freed.each (met i h) own_row

-- ---- all of it

pub IsMeant-pivoted : (p : Program) (floors : List ℕ) (gain : ℕ → ℤ) (f : Columns) (c r : ℕ) (t : Tableau) → IsMeant p floors gain f t
    → c < f.count → is_helper f c ≡ false → r < length t.rows → pos 0 <ℤ entry_at t r c → IsMeant p floors gain f (pivoted c r t)
IsMeant-pivoted p floors gain f c r t meant own plain_column lt positive =
    let after = pivoted c r t in
    let pivot = IsPivot-pivoted f.count c r t lt (sized_row meant.sized) meant.sized.aim positive meant.solved.weighed in
    record {
      sized = IsSized-pivot f c r t after lt own positive pivot meant.sized;
      solved = IsSolved-pivot f c r t after lt own positive pivot meant.sized meant.solved;
      rows = pivot.rows ∙ meant.rows;
      count = meant.count;
      rows_mixed = rows_mixed-pivot f c r t after lt own positive pivot p gain meant.count meant.rows_mixed;
      aim_mixed = aim_mixed-pivot f c r t after lt own positive pivot p gain meant.count meant.rows_mixed meant.aim_mixed;
      endless = λ k none. rw pivot.turns (meant.endless k none);
      helpers = λ i h helper none. by_same i r
          (λ e. absurd (true≢false (sym helper ∙ ap (is_helper f) (ap (basic_at after) e ∙ pivot.basic) ∙ plain_column)))
          (λ ne. let same = pivot.basics i (rw pivot.rows at h) ne in
          ap gain same ∙ meant.helpers i (rw pivot.rows at h) (ap (is_helper f) (sym same) ∙ helper) none);
      back = λ y solves. meant.back y (SolvesRows-pivot f c r t after lt own positive pivot y solves);
    }
