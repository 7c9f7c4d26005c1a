-- An objective row freed of the basic columns, row by row, and what stands once it is.
use Rattle.std.proofs.Common.{◌≡◌, ℕ, zero, suc, ◌<◌, ◌≤◌, Bool, true, false, List, length, refl, ap, sym, subst, ◌∙◌, arith}
use Rattle.std.specs.Prelude.{ℤ, pos, ◌-ℤ◌, ◌*ℤ◌, ◌<ℤ◌, cond}
use Rattle.std.proofs.lemmas.Int.{ints}
use Rattle.std.proofs.Math.IntN.{*ℤ_comm}
use Rattle.pc_program_bound.specs.declared.program.Program.{Program}
use Rattle.pc_program_bound.specs.Sums.{int_at}
use Rattle.pc_simplex_tableau.specs.Numbers.{is_zero}
use Rattle.pc_simplex_tableau.specs.Tableau.{Tableau, Columns, row_at, is_turned, combined_aim, freed_aim}
use Rattle.pc_simplex_tableau.specs.Relaxation.{freed_by, freed_below, freed}
use Rattle.pc_simplex_tableau.specs.Standing.{entry_at, basic_at, plain, IsMixed, IsFeasible, IsStanding}
use Rattle.pc_simplex_tableau.specs.Freed.{IsMeantRows, IsStandingRows}
use Rattle.pc_simplex_tableau.proofs.Sized.{sized_basic, sized_row}
use Rattle.pc_simplex_tableau.proofs.Products.{mul-zero, mul_positive, lt_cancel, none_cancel}
use Rattle.pc_simplex_tableau.proofs.Mixes.{IsMixed-combined, turned_place}
use Rattle.pc_simplex_tableau.proofs.Pivots.{by_same, IsFreedAim, IsFreedAim-freed_aim, length-freed_aim}

-- ---- a tableau with another objective row

abbrev pub aimed_as : Tableau → Tableau → Tableau
aimed_as t other = record t { aim = other.aim; weight = other.weight }

pub freed_aim_is : (c : ℕ) (numbers : List ℤ) (t : Tableau) → freed_aim c numbers t ≡ aimed_as t (freed_aim c numbers t)
freed_aim_is c numbers t = by (is_zero (int_at t.aim c))
  where
    by : (test : Bool) → cond test t (combined_aim c numbers t) ≡ aimed_as t (cond test t (combined_aim c numbers t))
    by true = refl
    by false = refl

-- ---- one row

no_rest : (g p e a b x : ℤ) → pos 0 <ℤ g → g *ℤ x ≡ p *ℤ a -ℤ e *ℤ b → p *ℤ a ≡ e *ℤ b → x ≡ pos 0
no_rest g p e a b x positive whole same = none_cancel g x positive (omega (arith, ints, whole, same))

module _ (p : Program) (floors : List ℕ) (gain : ℕ → ℤ) (f : Columns) where
  module _ (t : Tableau) (r : ℕ) (lt : r < length t.rows) (meant : IsMeantRows p floors gain f t) where
    abbrev after : Tableau
    after = freed_by r t

    step : IsFreedAim f.count (entry_at t r (basic_at t r)) (int_at t.aim (basic_at t r)) (row_at t r).numbers t after
    step = IsFreedAim-freed_aim (basic_at t r) f.count (row_at t r).numbers t meant.sized.aim (sized_row meant.sized r lt) (meant.solved.positive r lt) meant.solved.weighed

    weighed-freed_by : pos 0 <ℤ after.weight
    weighed-freed_by =
        lt_cancel step.times after.weight step.positive (rw step.weight (mul_positive (entry_at t r (basic_at t r)) t.weight (meant.solved.positive r lt) meant.solved.weighed))

    pub own-freed_by : int_at after.aim (basic_at t r) ≡ pos 0
    own-freed_by =
        let b = basic_at t r in
        no_rest step.times (entry_at t r b) (int_at t.aim b) (int_at t.aim b) (entry_at t r b) (int_at after.aim b) step.positive
        (step.each b (sized_basic meant.sized r lt)) (*ℤ_comm (entry_at t r b) (int_at t.aim b))

    pub other-freed_by : (i : ℕ) → i < length t.rows → (i ≡ r → ⊥) → int_at t.aim (basic_at t i) ≡ pos 0 → int_at after.aim (basic_at t i) ≡ pos 0
    other-freed_by i h ne none =
        let b = basic_at t r in
        let c = basic_at t i in
        no_rest step.times (entry_at t r b) (int_at t.aim b) (int_at t.aim c) (entry_at t r c) (int_at after.aim c) step.positive
        (step.each c (sized_basic meant.sized i h))
        (ap (λ n. entry_at t r b *ℤ n) none ∙ mul-zero (entry_at t r b) ∙ sym (mul-zero (int_at t.aim b))
        ∙ ap (λ n. int_at t.aim b *ℤ n) (sym (meant.solved.alone r i lt h (λ e. ne (sym e)))))

    aim_mixed-freed_by : IsMixed p after.weight gain (plain t after.aim)
    aim_mixed-freed_by =
        let b = basic_at t r in
        IsMixed-combined p gain step.times (entry_at t r b) (int_at t.aim b) t.weight after.weight (plain t t.aim) (plain t (row_at t r).numbers) (plain t after.aim)
        step.positive
        (λ k less. turned_place (is_turned t k) step.times (entry_at t r b) (int_at t.aim b) (int_at t.aim k) (entry_at t r k) (int_at after.aim k)
        (step.each k (omega (arith, less, meant.count))))
        step.weight meant.aim_mixed (meant.rows_mixed r lt)

    IsMeantRows-aimed : IsMeantRows p floors gain f (aimed_as t after)
    IsMeantRows-aimed = record {
      sized = record {
        ranges = meant.sized.ranges;
        rows = meant.sized.rows;
        turned = meant.sized.turned;
        aim = length-freed_aim (basic_at t r) f.count (row_at t r).numbers t meant.sized.aim (sized_row meant.sized r lt);
      };
      solved = record { positive = meant.solved.positive; alone = meant.solved.alone; weighed = weighed-freed_by };
      rows = meant.rows;
      count = meant.count;
      rows_mixed = meant.rows_mixed;
      aim_mixed = aim_mixed-freed_by;
      endless = meant.endless;
      helpers = meant.helpers;
      back = meant.back;
    }

  -- ---- the first n rows

  -- what stands once the objective row is freed of their basic columns
  record IsFreedBelow (n : ℕ) (t after : Tableau) : Type 0 where
    same : after ≡ aimed_as t after
    meant : IsMeantRows p floors gain f after
    aimed : (i : ℕ) → i < n → int_at after.aim (basic_at after i) ≡ pos 0

  more_freed : (n : ℕ) (t after : Tableau) → n < length t.rows → IsFreedBelow n t after → IsFreedBelow (suc n) t (freed_by n after)
  more_freed n t after lt below =
      let rows : length after.rows ≡ length t.rows = ap (λ (u : Tableau). length u.rows) below.same in
      let less : n < length after.rows = rw rows lt in
      let is = freed_aim_is (basic_at after n) (row_at after n).numbers after in
      record {
        same = is ∙ ap (λ (u : Tableau). aimed_as u (freed_by n after)) below.same;
        meant = subst (IsMeantRows p floors gain f) (sym is) (IsMeantRows-aimed after n less below.meant);
        aimed = λ i h. subst (λ (u : Tableau). int_at u.aim (basic_at u i) ≡ pos 0) (sym is) (each i h less);
      }
    where
      each : (i : ℕ) → i < suc n → n < length after.rows → int_at (freed_by n after).aim (basic_at after i) ≡ pos 0
      each i h less = by_same i n (λ e. subst (λ k. int_at (freed_by n after).aim (basic_at after k) ≡ pos 0) (sym e) (own-freed_by after n less below.meant))
          (λ ne. other-freed_by after n less below.meant i (omega (arith, h, less)) ne (below.aimed i (omega (arith, h, ne))))

  freed_below_is : (n : ℕ) (t : Tableau) → n ≤ length t.rows → IsMeantRows p floors gain f t → IsFreedBelow n t (freed_below n t)
  unfolding freed_below
  freed_below_is zero t le meant = record { same = refl; meant = meant; aimed = λ i h. absurd (omega (arith, h)) }
  freed_below_is (suc n) t le meant = more_freed n t (freed_below n t) (omega (arith, le)) (freed_below_is n t (omega (arith, le)) meant)

  -- ---- all rows

  pub IsStanding-freed : (t : Tableau) → IsStandingRows p floors gain f t → IsStanding p floors gain f (freed t)
  IsStanding-freed t standing =
      let below = freed_below_is (length t.rows) t (omega arith) standing.meant in
      let after = freed t in
      let rows : length after.rows ≡ length t.rows = ap (λ (u : Tableau). length u.rows) below.same in
      let meant = below.meant in
      record {
        meant = record {
          sized = meant.sized;
          solved = record {
            positive = meant.solved.positive;
            alone = meant.solved.alone;
            aimed = λ r h. below.aimed r (rw rows at h);
            weighed = meant.solved.weighed;
          };
          rows = meant.rows;
          count = meant.count;
          rows_mixed = meant.rows_mixed;
          aim_mixed = meant.aim_mixed;
          endless = meant.endless;
          helpers = meant.helpers;
          back = meant.back;
        };
        feasible = feasible_as t after below.same standing.feasible;
      }
    where
      feasible_as : (t other : Tableau) → other ≡ aimed_as t other → IsFeasible f t → IsFeasible f other
      feasible_as t other same feasible = subst (IsFeasible f) (sym same) (record { low = feasible.low; high = feasible.high })
