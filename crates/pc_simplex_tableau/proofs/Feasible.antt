-- A step within the room that there is keeps each basic column within its range.
use Rattle.std.proofs.Common.{◌≡◌, ℕ, ◌<◌, length, ap, sym, subst, ◌∙◌, arith, MatchOption}
use Rattle.std.specs.Prelude.{⊤, ℤ, pos, neg_ℤ, ◌-ℤ◌, ◌*ℤ◌, ◌<ℤ◌, ◌≤ℤ◌}
use Rattle.std.proofs.lemmas.Int.{ints}
use Rattle.std.proofs.lemmas.Bool.{ne_eqb, eq-eqb}
use Rattle.pc_program_bound.specs.Sums.{int_at}
use Rattle.pc_program_bound.proofs.Ring.{mul_assoc}
use Rattle.pc_simplex_tableau.specs.Tableau.{Tableau, Columns, row_at, range_of, end_of, turned_numbers, turned}
use Rattle.pc_simplex_tableau.specs.Conditions.{IsSized}
use Rattle.pc_simplex_tableau.specs.Standing.{entry_at, basic_at, value_at, IsSolved, IsFeasible, HasRoom}
use Rattle.pc_simplex_tableau.proofs.Sized.{sized_basic, sized_row}
use Rattle.pc_simplex_tableau.proofs.Products.{mul-zero, one-mul, mul-sub, neg-mul, le_cancel}
use Rattle.pc_simplex_tableau.proofs.Pivots.{by_same, IsPivot}
use Rattle.pc_simplex_tableau.proofs.Limits.{in_range}
use Rattle.pc_simplex_tableau.proofs.Turns.{signed, at_value, at_other}
use Rattle.pc_simplex_tableau.proofs.Turned.{below, entry_at-turned, basic_at-turned, own_entry}

-- ---- a pivot

-- the value of another row
freed_low : (g q v a w x : ℤ) → pos 0 <ℤ g → g *ℤ x ≡ q *ℤ w -ℤ a *ℤ v → (a *ℤ v) ≤ℤ (q *ℤ w) → pos 0 ≤ℤ x
freed_low g q v a w x positive whole room =
    let none = mul-zero g in
    le_cancel g (pos 0) x positive (omega (arith, ints, whole, room, none))

-- and the end of its range, where its entry e becomes d
freed_high : (g q v a w x b e d u : ℤ) → pos 0 <ℤ g → g *ℤ x ≡ q *ℤ w -ℤ a *ℤ v → g *ℤ d ≡ q *ℤ e -ℤ a *ℤ b → b ≡ pos 0
    → (neg_ℤ a *ℤ v) ≤ℤ (q *ℤ (e *ℤ u -ℤ w)) → x ≤ℤ (d *ℤ u)
freed_high g q v a w x b e d u positive whole entry none room =
    le_cancel g x (d *ℤ u) positive most
  where
    most : (g *ℤ x) ≤ℤ (g *ℤ (d *ℤ u))
    most =
        let entries = rw (none, mul-zero a) at entry in
        let same : g *ℤ d ≡ q *ℤ e = omega (arith, ints, entries) in
        let scaled : g *ℤ (d *ℤ u) ≡ q *ℤ (e *ℤ u) = sym (mul_assoc g d u) ∙ ap (λ m. m *ℤ u) same ∙ mul_assoc q e u in
        let split = mul-sub q (e *ℤ u) w in
        let turned = neg-mul a v in
        omega (arith, ints, whole, scaled, split, turned, room)

module _ (f : Columns) (c r : ℕ) (t after : Tableau) (lt : r < length t.rows) (sized : IsSized f t) (solved : IsSolved t)
    (pivot : IsPivot f.count c r t after) (room : HasRoom f c t (value_at f t r) (entry_at t r c)) where
  less : (i : ℕ) → i < length after.rows → i < length t.rows
  less i h = rw pivot.rows at h

  at_row : (k : ℕ) → entry_at after r k ≡ entry_at t r k
  at_row k = ap (λ numbers. int_at numbers k) pivot.same

  IsHigh : ℕ → Type 0
  IsHigh i = MatchOption (range_of f (basic_at after i)) ⊤ (λ u. value_at f after i ≤ℤ (entry_at after i (basic_at after i) *ℤ pos u))

  high_row : IsHigh r
  unfolding IsHigh
  high_row = rw (pivot.basic, at_row f.count, at_row c) room.own

  high_other : (i : ℕ) → i < length t.rows → (i ≡ r → ⊥) → IsHigh i
  unfolding IsHigh
  high_other i h ne =
      let freed = pivot.freed i h ne in
      let b = basic_at t i in
      rw (pivot.basics i h ne) (in_range (range_of f b)
      (λ u. (neg_ℤ (entry_at t i c) *ℤ value_at f t r) ≤ℤ (entry_at t r c *ℤ (entry_at t i b *ℤ pos u -ℤ value_at f t i)))
      (λ u. (neg_ℤ (entry_at t i c) *ℤ value_at f t r) ≤ℤ (entry_at t r c *ℤ (entry_at t i b *ℤ pos u -ℤ value_at f t i)))
      (λ u. value_at f after i ≤ℤ (entry_at after i b *ℤ pos u))
      (λ u within same. freed_high freed.times (entry_at t r c) (value_at f t r) (entry_at t i c) (value_at f t i) (value_at f after i) (entry_at t r b) (entry_at t i b)
      (entry_at after i b) (pos u) freed.positive (freed.each f.count (omega arith)) (freed.each b (omega (arith, sized_basic sized i h)))
      (solved.alone r i lt h (λ e. ne (sym e))) within)
      (room.high i h) (room.high i h))

  pub IsFeasible-pivot : IsFeasible f after
  unfolding IsHigh
  IsFeasible-pivot = record {
    low = λ i h. by_same i r
        (λ e. subst (λ k. pos 0 ≤ℤ value_at f after k) (sym e) (rw (at_row f.count) room.risen))
        (λ ne. let freed = pivot.freed i (less i h) ne in
        freed_low freed.times (entry_at t r c) (value_at f t r) (entry_at t i c) (value_at f t i) (value_at f after i) freed.positive
        (freed.each f.count (omega arith)) (room.low i (less i h)));
    high = λ i h. by_same i r (λ e. subst IsHigh (sym e) high_row) (λ ne. high_other i (less i h) ne);
  }

-- ---- a turned column

-- the value of a row, its column being another one
turned_low : (v a u x : ℤ) → x ≡ v -ℤ a *ℤ u → (a *ℤ u) ≤ℤ (pos 1 *ℤ v) → pos 0 ≤ℤ x
turned_low v a u x e room = let one = one-mul v in omega (arith, ints, e, room, one)

turned_high : (v a u x w : ℤ) → x ≡ v -ℤ a *ℤ u → (neg_ℤ a *ℤ u) ≤ℤ (pos 1 *ℤ (w -ℤ v)) → x ≤ℤ w
turned_high v a u x w e room = let one = one-mul (w -ℤ v) in let turned = neg-mul a u in omega (arith, ints, e, room, one, turned)

module _ (f : Columns) (c u : ℕ) (t : Tableau) (own : c < f.count) (end : end_of f c ≡ u) (sized : IsSized f t) where
  -- the value of a row whose basic column is another one
  pub value_at-turned : (i : ℕ) → i < length t.rows → (basic_at t i ≡ c → ⊥) → value_at f (turned f c u t) i ≡ value_at f t i -ℤ entry_at t i c *ℤ pos u
  value_at-turned i h ne =
      entry_at-turned f c u t own end sized i f.count h
      ∙ ap (λ test. signed test (int_at (turned_numbers f c u (row_at t i).numbers) f.count)) (ne_eqb (basic_at t i) c ne)
      ∙ at_value f c u own (row_at t i).numbers (sized_row sized i h)

  pub entry_at-other : (i k : ℕ) → i < length t.rows → (basic_at t i ≡ c → ⊥) → k < f.count → (k ≡ c → ⊥) → entry_at (turned f c u t) i k ≡ entry_at t i k
  entry_at-other i k h ne lt other =
      entry_at-turned f c u t own end sized i k h
      ∙ ap (λ test. signed test (int_at (turned_numbers f c u (row_at t i).numbers) k)) (ne_eqb (basic_at t i) c ne)
      ∙ at_other f c u own (row_at t i).numbers (sized_row sized i h) k lt other

  -- those of the row whose basic column it is
  pub value_at-own : (i : ℕ) → i < length t.rows → basic_at t i ≡ c → value_at f (turned f c u t) i ≡ neg_ℤ (value_at f t i -ℤ entry_at t i c *ℤ pos u)
  value_at-own i h e =
      entry_at-turned f c u t own end sized i f.count h
      ∙ ap (λ test. signed test (int_at (turned_numbers f c u (row_at t i).numbers) f.count)) (eq-eqb (basic_at t i) c e)
      ∙ ap neg_ℤ (at_value f c u own (row_at t i).numbers (sized_row sized i h))

  pub entry_at-own : (i k : ℕ) → i < length t.rows → basic_at t i ≡ c → k < f.count → (k ≡ c → ⊥) → entry_at (turned f c u t) i k ≡ neg_ℤ (entry_at t i k)
  entry_at-own i k h e lt other =
      entry_at-turned f c u t own end sized i k h
      ∙ ap (λ test. signed test (int_at (turned_numbers f c u (row_at t i).numbers) k)) (eq-eqb (basic_at t i) c e)
      ∙ ap neg_ℤ (at_other f c u own (row_at t i).numbers (sized_row sized i h) k lt other)

  pub IsFeasible-turned : ((i : ℕ) → i < length t.rows → basic_at t i ≡ c → ⊥) → HasRoom f c t (pos u) (pos 1) → IsFeasible f (turned f c u t)
  IsFeasible-turned free room = record {
    low = λ i h. low i (below f c u t own end sized i h);
    high = λ i h. high i (below f c u t own end sized i h);
  }
    where
      low : (i : ℕ) → i < length t.rows → pos 0 ≤ℤ value_at f (turned f c u t) i
      low i h = turned_low (value_at f t i) (entry_at t i c) (pos u) (value_at f (turned f c u t) i) (value_at-turned i h (free i h)) (room.low i h)

      high : (i : ℕ) → i < length t.rows → MatchOption (range_of f (basic_at (turned f c u t) i)) ⊤
          (λ w. value_at f (turned f c u t) i ≤ℤ (entry_at (turned f c u t) i (basic_at (turned f c u t) i) *ℤ pos w))
      high i h =
          let b = basic_at t i in
          rw (basic_at-turned f c u t own end sized i h, own_entry f c u t own end sized i h) (in_range (range_of f b)
          (λ w. (neg_ℤ (entry_at t i c) *ℤ pos u) ≤ℤ (pos 1 *ℤ (entry_at t i b *ℤ pos w -ℤ value_at f t i)))
          (λ w. (neg_ℤ (entry_at t i c) *ℤ pos u) ≤ℤ (pos 1 *ℤ (entry_at t i b *ℤ pos w -ℤ value_at f t i)))
          (λ w. value_at f (turned f c u t) i ≤ℤ (entry_at t i b *ℤ pos w))
          (λ w within same. turned_high (value_at f t i) (entry_at t i c) (pos u) (value_at f (turned f c u t) i) (entry_at t i b *ℤ pos w)
          (value_at-turned i h (free i h)) within)
          (room.high i h) (room.high i h))
