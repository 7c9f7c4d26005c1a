-- Where phase one ends with a helper that still holds something, the multipliers there show that the box has no allocation.
use Rattle.std.proofs.Common.{◌≡◌, ℕ, zero, suc, ◌+◌, ◌-◌, ◌<◌, ◌≤◌, ◌&&◌, not, Bool, true, false, cond, nat_le, List, [], ◌∷◌, length, refl, ap, sym, subst, ◌∙◌, arith, None}
use Rattle.std.specs.Prelude.{ℤ, pos, negsuc, neg_ℤ, int_lt, ◌+ℤ◌, ◌-ℤ◌, ◌*ℤ◌, ◌≤ℤ◌, ◌<ℤ◌, slice_index_or}
use Rattle.std.specs.List.{list_all}
use Rattle.std.proofs.lemmas.Int.{ints, by_lt_z}
use Rattle.std.proofs.lemmas.Bool.{leb-true, le-leb, lt-leb, not-true}
use Rattle.std.proofs.Math.IntN.{*ℤ_comm}
use Rattle.pc_program_bound.proofs.Ring.{mul_mono, mul_anti}
use Rattle.pc_simplex_tableau.proofs.Frames.{IsFrame-ranges}
use Rattle.std.proofs.lemmas.List.{get_or-replicate}
use Rattle.pc_program_bound.specs.declared.program.Program.{Program}
use Rattle.pc_program_bound.specs.Sums.{sum_below, int_at}
use Rattle.pc_program_bound.specs.Allocation.{cells_of, constraints_of, worth, IsBox, IsProgram}
use Rattle.pc_program_bound.specs.Bound.{raw_bound, without_gain}
use Rattle.pc_program_bound.proofs.Duality.{worth-none}
use Rattle.pc_program_bound.proofs.SumBelow.{sum_below-suc, sum_below-zeros, sum_below_mono}
use Rattle.pc_simplex_tableau.specs.Tableau.{TableauRow, Tableau, Columns, no_row, is_turned, is_helper, value_of, entering}
use Rattle.pc_simplex_tableau.specs.Relaxation.{slack_of, helper_of, is_short, phase_one, multipliers, has_helper, IsFrame}
use Rattle.pc_simplex_tableau.specs.Standing.{entry_at, basic_at, value_at, plain, place, IsStanding, gain_one}
use Rattle.pc_simplex_tableau.proofs.Sized.{sized_basic}
use Rattle.pc_simplex_tableau.proofs.Products.{mul-zero, minus_one-mul, neg-mul, sub-mul, mul_positive, mul_not_negative, lt_cancel}
use Rattle.pc_simplex_tableau.proofs.Pivots.{by_same}
use Rattle.pc_simplex_tableau.proofs.Points.{IsPoint, HasPoint-exists, number-low}
use Rattle.pc_simplex_tableau.proofs.Ends.{aim-none}
use Rattle.pc_simplex_tableau.proofs.Reached.{counts, by_slack, bound_at-end}

-- ---- sums

-- a sum of numbers that are not positive, of which one is negative
sum_below-falls : (n c : ℕ) (x : ℕ → ℤ) → c < n → ((k : ℕ) → k < n → x k ≤ℤ pos 0) → x c <ℤ pos 0 → sum_below n x <ℤ pos 0
sum_below-falls zero c x lt falls less = absurd (omega (arith, lt))
sum_below-falls (suc n) c x lt falls less = by_same c n here (λ ne. before ne (λ below. sum_below-falls n c x below (λ k h. falls k (omega (arith, h))) less))
  where
    here : c ≡ n → sum_below (suc n) x <ℤ pos 0
    here e =
        let rest = sum_below_mono n x (λ k. pos 0) (λ k h. falls k (omega (arith, h))) in
        let nothing = sum_below-zeros n in
        let last = subst (λ k. x k <ℤ pos 0) e less in
        let split = sum_below-suc n x in
        omega (arith, ints, rest, nothing, last, split)

    before : (c ≡ n → ⊥) → (c < n → sum_below n x <ℤ pos 0) → sum_below (suc n) x <ℤ pos 0
    before ne again =
        let rest = again (omega (arith, lt, ne)) in
        let last = falls n (omega arith) in
        let split = sum_below-suc n x in
        omega (arith, ints, rest, last, split)

-- ---- a row that fails a test

record Fails {X : Type 0} (test : X → Bool) (xs : List X) (other : X) : Type 0 where
  place : ℕ
  inside : place < length xs
  fails : test (slice_index_or xs place other) ≡ false

Fails-list_all : {X : Type 0} (test : X → Bool) (xs : List X) (other : X) → list_all test xs ≡ false → Fails test xs other
Fails-list_all test [] other e = absurd cc
Fails-list_all test (x ∷ xs) other e = by (test x) refl (Fails-list_all test xs other) e
  where
    by : (b : Bool) → test x ≡ b → (list_all test xs ≡ false → Fails test xs other) → (b && list_all test xs) ≡ false → Fails test (x ∷ xs) other
    by false d again h = record { place = zero; inside = omega arith; fails = d }
    by true d again h =
        let rest = again h in
        let less = rest.inside in
        record { place = suc rest.place; inside = omega (arith, less); fails = rest.fails }

both_of : (a b : Bool) → not (a && b) ≡ false → (a ≡ true) × (b ≡ true)
both_of true true e = (refl, refl)
both_of true false e = absurd cc
both_of false b e = absurd cc

-- ---- what a helper adds

-- it takes part with its gain alone
helper_part : (by slack helper gain weight z : ℤ) → by ≡ neg_ℤ slack → helper ≡ slack +ℤ weight *ℤ gain → helper *ℤ z ≡ pos 0 → by *ℤ z ≡ (weight *ℤ gain) *ℤ z
helper_part by slack helper gain weight z e mixed none =
    let product : by ≡ weight *ℤ gain -ℤ helper = omega (arith, ints, e, mixed) in
    let split = sub-mul (weight *ℤ gain) helper z in
    ap (λ n. n *ℤ z) product ∙ omega (arith, ints, split, none)

part_falls : (gain weight z : ℤ) → gain ≤ℤ pos 0 → pos 0 <ℤ weight → pos 0 ≤ℤ z → ((weight *ℤ gain) *ℤ z) ≤ℤ pos 0
part_falls gain weight z falls positive low =
    let first : (weight *ℤ gain) ≤ℤ (weight *ℤ pos 0) = mul_mono weight gain (pos 0) (omega (arith, ints, positive)) falls in
    let none = mul-zero weight in
    let second : ((weight *ℤ gain) *ℤ z) ≤ℤ ((weight *ℤ gain) *ℤ pos 0) = mul_anti (weight *ℤ gain) (pos 0) z (omega (arith, ints, first, none)) low in
    let nothing = mul-zero (weight *ℤ gain) in
    omega (arith, ints, second, nothing)

part_below : (gain weight z : ℤ) → gain ≡ negsuc 0 → pos 0 <ℤ weight → pos 0 <ℤ z → ((weight *ℤ gain) *ℤ z) <ℤ pos 0
part_below gain weight z e positive some =
    let product : weight *ℤ gain ≡ neg_ℤ weight = ap (λ n. weight *ℤ n) e ∙ *ℤ_comm weight (negsuc 0) ∙ minus_one-mul weight in
    let turned = neg-mul weight z in
    let whole : (weight *ℤ gain) *ℤ z ≡ neg_ℤ weight *ℤ z = ap (λ n. n *ℤ z) product in
    let above = mul_positive weight z positive some in
    omega (arith, ints, whole, turned, above)

scaled_below : (d : ℕ) (x : ℤ) → (pos d *ℤ x) <ℤ pos 0 → x <ℤ pos 0
scaled_below d x less = by_lt_z x (pos 0) (λ below. below) (λ above. absurd (too_much above))
  where
    too_much : pos 0 ≤ℤ x → ⊥
    too_much above = let some : pos 0 ≤ℤ (pos d *ℤ x) = mul_not_negative (pos d) x (omega (arith, ints)) above in omega (arith, ints, some, less)

module _ (p : Program) (floors caps : List ℕ) (gain : ℕ → ℤ) (f : Columns) (t : Tableau) (program : IsProgram p) (box : IsBox p floors caps)
    (frame : IsFrame p floors caps f) (standing : IsStanding p floors gain f t) (d : ℕ) (z : ℕ → ℤ) (point : IsPoint f t d z)
    (helper : f.helper ≡ None) (over : entering f t ≡ None) (cells : (i : ℕ) → i < cells_of p → gain i ≡ pos 0) (falls : (k : ℕ) → gain k ≤ℤ pos 0) where
  abbrev at : ℕ → ℤ
  at = place f t z

  abbrev by : ℕ → ℤ
  by = int_at (multipliers p t (pos 1)).by

  helper_counted : (j : ℕ) → j < constraints_of p → helper_of p j < f.count
  helper_counted j lt = let many = frame.count in omega (arith, lt, many)

  unturned : (j : ℕ) → is_turned t (helper_of p j) ≡ false
  unturned j =
      let long = frame.ranges in
      standing.meant.endless (helper_of p j) (rw (le-leb (length f.ranges) (helper_of p j) (omega (arith, long))) helper)

  at_helper : (j : ℕ) → at (helper_of p j) ≡ z (helper_of p j)
  at_helper j = rw (unturned j) refl

  plain_helper : (j : ℕ) → plain t t.aim (helper_of p j) ≡ int_at t.aim (helper_of p j)
  plain_helper j = rw (unturned j) refl

  same : (i : ℕ) → i < cells_of p → pos 1 *ℤ int_at (without_gain p).gain i ≡ t.weight *ℤ gain i
  same i lt =
      ap (λ n. pos 1 *ℤ n) (get_or-replicate (cells_of p) i (pos 0) (pos 0) lt) ∙ mul-zero (pos 1) ∙ sym (mul-zero t.weight)
      ∙ ap (λ n. t.weight *ℤ n) (sym (cells i lt))

  part_is : (j : ℕ) → j < constraints_of p → by j *ℤ at (helper_of p j) ≡ (t.weight *ℤ gain (helper_of p j)) *ℤ z (helper_of p j)
  part_is j lt =
      let k = helper_of p j in
      ap (λ n. by j *ℤ n) (at_helper j)
      ∙ helper_part (by j) (plain t t.aim (slack_of p j)) (plain t t.aim k) (gain k) t.weight (z k)
      (by_slack p floors caps gain f t program box frame standing d z point (without_gain p).gain (pos 1) over same j lt)
      (standing.meant.aim_mixed.helpers j lt)
      (ap (λ n. n *ℤ z k) (plain_helper j) ∙ aim-none f t standing.meant.solved d z point k (helper_counted j lt))

  low : (j : ℕ) → j < constraints_of p → pos 0 ≤ℤ z (helper_of p j)
  low j lt = number-low f t d z standing.meant.solved standing.feasible point (helper_of p j) (helper_counted j lt)

  part_low : (j : ℕ) → j < constraints_of p → (by j *ℤ at (helper_of p j)) ≤ℤ pos 0
  part_low j lt =
      let same = part_is j lt in
      let less = part_falls (gain (helper_of p j)) t.weight (z (helper_of p j)) (falls (helper_of p j)) standing.meant.solved.weighed (low j lt) in
      omega (arith, ints, same, less)

  -- a helper that is basic and holds something
  module _ (r : ℕ) (lt : r < length t.rows) (is : is_helper f (basic_at t r) ≡ true) (holds : int_lt (pos 0) (value_at f t r) ≡ true) where
    own : ℕ
    own = basic_at t r - (cells_of p + constraints_of p)

    own_is : (helper_of p own ≡ basic_at t r) × (own < constraints_of p)
    unfolding own
    own_is =
        let behind = leb-true (length f.ranges) (basic_at t r) is in
        let long = frame.ranges in
        let many = frame.count in
        let inside = sized_basic standing.meant.sized r lt in
        (omega (arith, behind, long), omega (arith, behind, long, many, inside))

    some : pos 0 <ℤ z (basic_at t r)
    some =
        let positive = standing.meant.solved.positive r lt in
        let product : pos 0 <ℤ (pos d *ℤ value_at f t r) = mul_positive (pos d) (value_at f t r) (counted point.positive) (omega (arith, ints, holds)) in
        let same = point.basics r lt in
        lt_cancel (entry_at t r (basic_at t r)) (z (basic_at t r)) positive (omega (arith, ints, product, same))
      where
        counted : 1 ≤ d → pos 0 <ℤ pos d
        counted more = omega (arith, ints, more)

    part_less : (by own *ℤ at (helper_of p own)) <ℤ pos 0
    part_less =
        let whole = part_is own own_is.1 in
        let less = part_below (gain (helper_of p own)) t.weight (z (helper_of p own)) (ap gain own_is.0 ∙ standing.meant.helpers r lt is helper)
        standing.meant.solved.weighed (subst (λ k. pos 0 <ℤ z k) (sym own_is.0) some) in
        omega (arith, ints, whole, less)

    below-held : raw_bound (without_gain p) floors caps (multipliers p t (pos 1)) <ℤ pos 0
    below-held =
        let whole = bound_at-end p floors caps gain f t program box frame standing d z point (without_gain p).gain (pos 1) over same in
        let parts = sum_below-falls (constraints_of p) own (λ j. by j *ℤ at (helper_of p j)) own_is.1 part_low part_less in
        let none : pos 1 *ℤ worth (without_gain p) (counts p floors caps gain f t program box frame standing d z point) ≡ pos 0 =
        ap (λ n. pos 1 *ℤ n) (worth-none p (counts p floors caps gain f t program box frame standing d z point)) ∙ mul-zero (pos 1) in
        scaled_below d (raw_bound (without_gain p) floors caps (multipliers p t (pos 1))) (omega (arith, ints, whole, parts, none))

-- ---- all of it

gain_of_cell : (p : Program) (floors : List ℕ) (i : ℕ) → i < cells_of p → gain_one p floors i ≡ pos 0
gain_of_cell p floors i lt = rw (lt-leb (helper_of p 0) i (omega (arith, lt))) refl

gain_low : (p : Program) (floors : List ℕ) (k : ℕ) → gain_one p floors k ≤ℤ pos 0
gain_low p floors k = by (nat_le (helper_of p 0) k && is_short p floors (k - helper_of p 0))
  where
    by : (test : Bool) → cond test (negsuc 0) (pos 0) ≤ℤ pos 0
    by true = omega (arith, ints)
    by false = omega (arith, ints)

pub void_of-helper : (p : Program) (floors caps : List ℕ) (t : Tableau) → IsProgram p → IsBox p floors caps
    → IsStanding p floors (gain_one p floors) (phase_one p floors caps) t → entering (phase_one p floors caps) t ≡ None
    → has_helper (phase_one p floors caps) t ≡ true → raw_bound (without_gain p) floors caps (multipliers p t (pos 1)) <ℤ pos 0
void_of-helper p floors caps t program box standing over has =
    let f = phase_one p floors caps in
    let there = HasPoint-exists f t standing.meant.sized standing.meant.solved in
    let held = Fails-list_all (λ (row : TableauRow). not (is_helper f row.basic && int_lt (pos 0) (value_of f row))) t.rows no_row
    (not-true (list_all (λ (row : TableauRow). not (is_helper f row.basic && int_lt (pos 0) (value_of f row))) t.rows) has) in
    let both = both_of (is_helper f (basic_at t held.place)) (int_lt (pos 0) (value_at f t held.place)) held.fails in
    below-held p floors caps (gain_one p floors) f t program box (IsFrame-ranges p floors caps None) standing there.den there.numbers there.point
    refl over (gain_of_cell p floors) (gain_low p floors) held.place held.inside both.0 both.1
