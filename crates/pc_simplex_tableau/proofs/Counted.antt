-- Where a column stands, as the fraction that its row gives, and the counts of the cells as such fractions.
use Rattle.std.proofs.Common.{◌≡◌, ℕ, ◌-◌, ◌<◌, ◌≤◌, Bool, true, false, cond, List, refl, ap, subst, ◌∙◌, arith, Option, Some, None}
use Rattle.std.specs.Prelude.{ℤ, pos, neg_ℤ, ◌+ℤ◌, ◌-ℤ◌, ◌*ℤ◌, ◌<ℤ◌}
use Rattle.std.proofs.lemmas.Int.{ints}
use Rattle.std.proofs.Math.IntN.{*ℤ_comm}
use Rattle.pc_program_bound.specs.declared.program.Program.{Program}
use Rattle.pc_program_bound.specs.Sums.{nat_at}
use Rattle.pc_program_bound.specs.Allocation.{cells_of, worth, IsRelaxed, IsBox, IsProgram}
use Rattle.pc_program_bound.specs.Bound.{raw_bound}
use Rattle.pc_program_bound.proofs.Ring.{mul-add, mul_assoc}
use Rattle.pc_simplex_tableau.specs.Tableau.{Tableau, Columns, is_turned, end_of, entering}
use Rattle.pc_simplex_tableau.specs.Relaxation.{columns_of, multipliers, IsFrame}
use Rattle.pc_simplex_tableau.specs.Standing.{entry_at, basic_at, IsSolved, IsStanding, gain_two}
use Rattle.pc_simplex_tableau.specs.Point.{row_of, over_at, under_at, count_over}
use Rattle.pc_simplex_tableau.proofs.Products.{mul-zero, one-mul, mul-sub}
use Rattle.pc_simplex_tableau.proofs.Points.{IsPoint, HasPoint-exists, row_of-some, row_of-none}
use Rattle.pc_simplex_tableau.proofs.Shares.{from_end, spread}
use Rattle.pc_simplex_tableau.proofs.Ends.{cell-end}
use Rattle.pc_simplex_tableau.proofs.Reached.{count_is}
use Rattle.pc_simplex_tableau.proofs.Vertices.{found, IsRelaxed-found, worth-found}

-- a column's entry in the row that it is basic in is positive
pub under-positive : (t : Tableau) → IsSolved t → (k : ℕ) → pos 0 <ℤ under_at t k
under-positive t solved k = by (row_of t k) refl
  where
    by : (row : Option ℕ) → row_of t k ≡ row → pos 0 <ℤ elim row [ Some r ↦ entry_at t r k | None ↦ pos 1 ]
    by (Some r) e = let there = row_of-some t k r e in subst (λ n. pos 0 <ℤ entry_at t r n) there.1 (solved.positive r there.0)
    by None e = omega (arith, ints)

-- ---- pieces over plain numbers

pub scaled_sum : (a z u over : ℤ) (d : ℕ) → u *ℤ z ≡ pos d *ℤ over → (pos d *ℤ a +ℤ z) *ℤ u ≡ (a *ℤ u +ℤ over) *ℤ pos d
scaled_sum a z u over d stands =
    let turned = *ℤ_comm (pos d *ℤ a +ℤ z) u in
    let split = mul-add u (pos d *ℤ a) z in
    let whole = mul-add (pos d) (a *ℤ u) over in
    let back = *ℤ_comm (a *ℤ u +ℤ over) (pos d) in
    let first = *ℤ_comm u (pos d *ℤ a) ∙ mul_assoc (pos d) a u in
    omega (arith, ints, turned, split, whole, back, first, stands)

pub scaled_rest : (a z u over : ℤ) (d : ℕ) → u *ℤ z ≡ pos d *ℤ over → (pos d *ℤ a -ℤ z) *ℤ u ≡ (a *ℤ u -ℤ over) *ℤ pos d
scaled_rest a z u over d stands =
    let turned = *ℤ_comm (pos d *ℤ a -ℤ z) u in
    let split = mul-sub u (pos d *ℤ a) z in
    let whole = mul-sub (pos d) (a *ℤ u) over in
    let back = *ℤ_comm (a *ℤ u -ℤ over) (pos d) in
    let first = *ℤ_comm u (pos d *ℤ a) ∙ mul_assoc (pos d) a u in
    omega (arith, ints, turned, split, whole, back, first, stands)

-- a count above its floor, or below its cap where the column is turned
counted_over : (test : Bool) (count d floor ceiling e : ℕ) (z w u over : ℤ) → floor ≤ ceiling → w ≡ neg_ℤ (pos d) → e ≡ ceiling - floor → u *ℤ z ≡ pos d *ℤ over
    → pos count ≡ pos d *ℤ pos floor +ℤ cond test (neg_ℤ z -ℤ pos e *ℤ w) z
    → pos count *ℤ u ≡ cond test (pos ceiling *ℤ u -ℤ over) (pos floor *ℤ u +ℤ over) *ℤ pos d
counted_over true count d floor ceiling e z w u over le whole range stands is =
    let there = from_end z w d e whole in
    let wide = spread d floor ceiling le in
    let same : pos d *ℤ pos e ≡ pos d *ℤ pos (ceiling - floor) = ap (λ n. pos d *ℤ pos n) range in
    let below : pos count ≡ pos d *ℤ pos ceiling -ℤ z = omega (arith, ints, is, there, wide, same) in
    ap (λ n. n *ℤ u) below ∙ scaled_rest (pos ceiling) z u over d stands
counted_over false count d floor ceiling e z w u over le whole range stands is = ap (λ n. n *ℤ u) is ∙ scaled_sum (pos floor) z u over d stands

-- ---- the counts of a vertex

pub record HasCounts (p : Program) (floors caps : List ℕ) (t : Tableau) : Type 0 where
  pub den : ℕ
  pub counts : List ℕ
  pub relaxed : IsRelaxed p floors caps den counts
  pub greatest : t.weight *ℤ worth p counts ≡ pos den *ℤ raw_bound p floors caps (multipliers p t t.weight)
  pub counted : (i : ℕ) → i < cells_of p → pos (nat_at counts i) *ℤ under_at t i ≡ count_over p floors caps t i *ℤ pos den

module _ (p : Program) (floors caps : List ℕ) (f : Columns) (t : Tableau) (program : IsProgram p) (box : IsBox p floors caps)
    (frame : IsFrame p floors caps f) (standing : IsStanding p floors (gain_two p) f t) (d : ℕ) (z : ℕ → ℤ) (point : IsPoint f t d z)
    (helper : f.helper ≡ Some 0) where
  column : (i : ℕ) → i < cells_of p → i < f.count
  column i lt = let many = frame.count in omega (arith, lt, many)

  stands_at : (i : ℕ) → i < cells_of p → under_at t i *ℤ z i ≡ pos d *ℤ over_at p t i
  stands_at i lt = by (row_of t i) refl
    where
      by : (row : Option ℕ) → row_of t i ≡ row → elim row [ Some r ↦ entry_at t r i | None ↦ pos 1 ] *ℤ z i
          ≡ pos d *ℤ elim row [ Some r ↦ entry_at t r (columns_of p) | None ↦ pos 0 ]
      by (Some r) e =
          let there = row_of-some t i r e in
          subst (λ n. entry_at t r n *ℤ z n ≡ pos d *ℤ entry_at t r (columns_of p)) there.1
          (subst (λ n. entry_at t r (basic_at t r) *ℤ z (basic_at t r) ≡ pos d *ℤ entry_at t r n) frame.count (point.basics r there.0))
      by None e =
          let none = point.others i (column i lt) (row_of-none t i e) in
          let one = one-mul (z i) in
          let nothing = mul-zero (pos d) in
          omega (arith, ints, none, one, nothing)

  counted-found : (i : ℕ) → i < cells_of p → pos (nat_at (found p floors caps f t program box frame standing d z point helper) i) *ℤ under_at t i
      ≡ count_over p floors caps t i *ℤ pos d
  counted-found i lt =
      counted_over (is_turned t i) (nat_at (found p floors caps f t program box frame standing d z point helper) i) d (nat_at floors i) (nat_at caps i) (end_of f i)
      (z i) (z f.count) (under_at t i) (over_at p t i) (box.inside i lt).1 point.whole
      (cell-end p floors caps f t program box frame standing.meant.sized standing.meant.solved d z point standing.feasible i lt)
      (stands_at i lt) (count_is p floors caps (gain_two p) f t program box frame standing d z point i lt)

pub HasCounts-vertex : (p : Program) (floors caps : List ℕ) (f : Columns) (t : Tableau) → IsProgram p → IsBox p floors caps → IsFrame p floors caps f
    → f.helper ≡ Some 0 → IsStanding p floors (gain_two p) f t → entering f t ≡ None → HasCounts p floors caps t
HasCounts-vertex p floors caps f t program box frame helper standing over =
    let there = HasPoint-exists f t standing.meant.sized standing.meant.solved in
    record {
      den = there.den;
      counts = found p floors caps f t program box frame standing there.den there.numbers there.point helper;
      relaxed = IsRelaxed-found p floors caps f t program box frame standing there.den there.numbers there.point helper;
      greatest = worth-found p floors caps f t program box frame standing there.den there.numbers there.point helper over;
      counted = counted-found p floors caps f t program box frame standing there.den there.numbers there.point helper;
    }

pub vertex : (p : Program) (floors caps : List ℕ) (f : Columns) (t : Tableau) → IsProgram p → IsBox p floors caps → IsFrame p floors caps f
    → f.helper ≡ Some 0 → IsStanding p floors (gain_two p) f t → entering f t ≡ None
    → (d : ℕ) × (counts : List ℕ) × IsRelaxed p floors caps d counts × (t.weight *ℤ worth p counts ≡ pos d *ℤ raw_bound p floors caps (multipliers p t t.weight))
vertex p floors caps f t program box frame helper standing over =
    let there = HasCounts-vertex p floors caps f t program box frame helper standing over in
    (there.den, there.counts, there.relaxed, there.greatest)
