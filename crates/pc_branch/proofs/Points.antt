-- Where a point is whole, and where it is not.
use Rattle.std.proofs.Common.{◌≡◌, ℕ, ◌*◌, ◌<◌, ◌≤◌, Bool, true, false, cond, List, ap, sym, subst, ◌∙◌, arith}
use Rattle.std.specs.Prelude.{ℤ, pos, nat_abs, ◌*ℤ◌, ◌≤ℤ◌}
use Rattle.std.specs.Int.{◌∣◌, IsGcd, int_div_euclid}
use Rattle.std.proofs.lemmas.Int.{ints, by_lt_z, unsigned_abs-mul}
use Rattle.std.proofs.lemmas.Nat.Gcd.{dvd_refl, le_of_dvd}
use Rattle.std.proofs.lemmas.List.{length-map}
use Rattle.std.proofs.Math.IntN.{*ℤ_comm}
use Rattle.std.proofs.Math.ListN.{get_or-map}
use Rattle.std.proofs.Math.Nat.{dvd-mul_right, le_of_mul-le-mul_right}
use Rattle.pc_num.specs.declared.Frac.{Frac}
use Rattle.pc_num.proofs.Rounding.{is_whole_part}
use Rattle.pc_model.specs.declared.tree.Mult.{Mult}
use Rattle.pc_model.specs.Places.{has_bit}
use Rattle.pc_program_bound.specs.declared.program.Program.{Program}
use Rattle.pc_program_bound.specs.Sums.{nat_at, int_at}
use Rattle.pc_program_bound.specs.Allocation.{cells_of, count_for, total, worth, IsAllocation}
use Rattle.pc_program_bound.specs.Bound.{raw_bound, bound_of}
use Rattle.pc_program_bound.proofs.Ring.{mul_mono, mul-pos, le-div_euclid}
use Rattle.pc_program_bound.proofs.SumBelow.{sum_below-same, sum_below-scale}
use Rattle.pc_simplex_tableau.specs.Point.{no_count}
use Rattle.pc_simplex_tableau.proofs.Products.{le_cancel, cancel, mul_swap}
use Rattle.pc_simplex.specs.Vertices.{count_at, IsVertex}
use Rattle.pc_branch.specs.Licence.{IsWhole, IsSplitOf}
use Rattle.pc_branch.specs.Ends.{whole_counts}

-- ---- a count as a fraction

-- num / den is count / over, so a number is at most the one where it is at most the other
module _ (num den : ℤ) (over count : ℕ) (positive : pos 1 ≤ℤ den) (some : 1 ≤ over) (counted : num *ℤ pos over ≡ pos count *ℤ den) where
  pub floor-under : (n : ℕ) → n * over ≤ count → (den *ℤ pos n) ≤ℤ num
  floor-under n below =
      let more : (den *ℤ pos (n * over)) ≤ℤ (den *ℤ pos count) = mul_mono den (pos (n * over)) (pos count) (omega (arith, ints)) (omega (arith, ints)) in
      let drawn = mul-pos den n over in
      let turned = *ℤ_comm (pos count) den in
      let moved = *ℤ_comm num (pos over) in
      le_cancel (pos over) (den *ℤ pos n) num (omega (arith, ints)) (omega (arith, ints, more, drawn, turned, moved, counted))

  pub cap-over : (n : ℕ) → count ≤ n * over → num ≤ℤ (den *ℤ pos n)
  cap-over n above =
      let more : (den *ℤ pos count) ≤ℤ (den *ℤ pos (n * over)) = mul_mono den (pos count) (pos (n * over)) (omega (arith, ints)) (omega (arith, ints)) in
      let drawn = mul-pos den n over in
      let turned = *ℤ_comm (pos count) den in
      let moved = *ℤ_comm num (pos over) in
      le_cancel (pos over) num (den *ℤ pos n) (omega (arith, ints)) (omega (arith, ints, more, drawn, turned, moved, counted))

-- a reduced fraction that is a whole number has the denominator 1
pub whole-reduced : (num den : ℤ) (n : ℕ) → pos 1 ≤ℤ den → IsGcd (nat_abs num) (nat_abs den) 1 → num ≡ den *ℤ pos n → den ≡ pos 1
whole-reduced num den n positive reduced same =
    let product : nat_abs num ≡ nat_abs den * n = ap nat_abs same ∙ unsigned_abs-mul den (pos n) in
    let divides = subst (λ m. nat_abs den ∣ m) (sym product) (dvd-mul_right (nat_abs den) n) in
    let few : nat_abs den ≤ 1 = le_of_dvd (omega arith) (reduced.2 (nat_abs den) divides (dvd_refl (nat_abs den))) in
    omega (arith, ints, few)

-- ---- where it is not whole

split-between : (num den : ℤ) (over count floor ceiling at : ℕ) → pos 1 ≤ℤ den → 1 ≤ over → num *ℤ pos over ≡ pos count *ℤ den
    → floor * over ≤ count → count ≤ ceiling * over → IsGcd (nat_abs num) (nat_abs den) 1 → (den ≡ pos 1 → ⊥) → pos at ≡ int_div_euclid num den
    → (floor ≤ at) × (at < ceiling)
split-between num den over count floor ceiling at positive some counted above below reduced parted rounded = (low, high)
  where
    low : floor ≤ at
    low =
        let under = le-div_euclid (pos floor) num den (omega (arith, ints)) (floor-under num den over count positive some counted floor above) in
        omega (arith, ints, under, rounded)

    part : (den *ℤ pos at) ≤ℤ num
    part =
        let whole = (is_whole_part num den (omega (arith, ints))).not_above in
        let turned = *ℤ_comm (pos at) den in
        let same : (pos at *ℤ den) ≤ℤ num = rw rounded whole in
        omega (arith, ints, same, turned)

    most : num ≤ℤ (den *ℤ pos ceiling)
    most = cap-over num den over count positive some counted ceiling below

    high : at < ceiling
    high = by_lt_z (pos at) (pos ceiling) (λ less. omega (arith, ints, less)) (λ not_less. absurd (
        let more : (den *ℤ pos ceiling) ≤ℤ (den *ℤ pos at) = mul_mono den (pos ceiling) (pos at) (omega (arith, ints)) not_less in
        parted (whole-reduced num den at positive reduced (omega (arith, ints, more, part, most)))
        ))

pub split-inside : (p : Program) (floors caps : List ℕ) (point : List Frac) (mult : Mult) (cell at : ℕ) → IsVertex p floors caps point mult
    → cell < cells_of p → IsSplitOf point cell at → (nat_at floors cell ≤ at) × (at < nat_at caps cell)
split-inside p floors caps point mult cell at v inside split =
    split-between (count_at point cell).num (count_at point cell).den v.den (nat_at v.counts cell) (nat_at floors cell) (nat_at caps cell) at
    (v.positive cell) v.relaxed.positive (v.counted cell inside) (v.relaxed.within cell inside).0 (v.relaxed.within cell inside).1
    (v.reduced cell inside) split.parted split.rounded

-- ---- where it is whole

whole-count : (num den : ℤ) (over count : ℕ) → den ≡ pos 1 → 1 ≤ over → num *ℤ pos over ≡ pos count *ℤ den → count ≡ nat_abs num * over
whole-count num den over count one some counted =
    let single : pos count *ℤ den ≡ pos count = rw one (omega (arith, ints)) in
    let size : nat_abs (num *ℤ pos over) ≡ nat_abs num * over = unsigned_abs-mul num (pos over) in
    let same : nat_abs (num *ℤ pos over) ≡ count = ap nat_abs (counted ∙ single) in
    sym same ∙ size

pub whole-at : (point : List Frac) (i : ℕ) → nat_at (whole_counts point) i ≡ nat_abs (count_at point i).num
whole-at point i = get_or-map (λ (count : Frac). nat_abs count.num) point i no_count

-- counts that are so many times others have sums that are so many times theirs
module _ (p : Program) (over : ℕ) (counts single : List ℕ) (times : (i : ℕ) → i < cells_of p → nat_at counts i ≡ nat_at single i * over) where
  scaled-for : (j i : ℕ) → i < cells_of p → count_for p counts j i ≡ pos over *ℤ count_for p single j i
  scaled-for j i h = by (has_bit (nat_at p.masks i) j)
    where
      by : (test : Bool) → cond test (pos (nat_at counts i)) (pos 0) ≡ pos over *ℤ cond test (pos (nat_at single i)) (pos 0)
      by true = rw (times i h) (*ℤ_comm (pos (nat_at single i)) (pos over))
      by false = omega (arith, ints)

  scaled-total : (j : ℕ) → total p counts j ≡ pos over *ℤ total p single j
  scaled-total j =
      sum_below-same (cells_of p) (count_for p counts j) (λ i. pos over *ℤ count_for p single j i) (scaled-for j)
      ∙ sum_below-scale (pos over) (cells_of p) (count_for p single j)

  scaled-worth : worth p counts ≡ pos over *ℤ worth p single
  scaled-worth =
      sum_below-same (cells_of p) (λ i. int_at p.gain i *ℤ pos (nat_at counts i)) (λ i. pos over *ℤ (int_at p.gain i *ℤ pos (nat_at single i)))
      (λ i h. rw (times i h) (mul-pos (int_at p.gain i) (nat_at single i) over))
      ∙ sum_below-scale (pos over) (cells_of p) (λ i. int_at p.gain i *ℤ pos (nat_at single i))

least-single : (t : ℤ) (least over : ℕ) → 1 ≤ over → pos (least * over) ≤ℤ (pos over *ℤ t) → pos least ≤ℤ t
least-single t least over some below =
    let turned : pos (least * over) ≡ pos over *ℤ pos least = *ℤ_comm (pos least) (pos over) in
    le_cancel (pos over) (pos least) t (omega (arith, ints)) (omega (arith, ints, below, turned))

most-single : (t : ℤ) (most over : ℕ) → 1 ≤ over → (pos over *ℤ t) ≤ℤ pos (most * over) → t ≤ℤ pos most
most-single t most over some above =
    let turned : pos (most * over) ≡ pos over *ℤ pos most = *ℤ_comm (pos most) (pos over) in
    le_cancel (pos over) t (pos most) (omega (arith, ints)) (omega (arith, ints, above, turned))

-- a product divided by its factor
pub exact-div : (d w b : ℤ) → pos 1 ≤ℤ d → d *ℤ w ≡ b → w ≡ int_div_euclid b d
exact-div d w b positive same =
    let least = le-div_euclid w b d (omega (arith, ints)) (omega (arith, ints, same)) in
    let part = (is_whole_part b d (omega (arith, ints))).not_above in
    let turned = *ℤ_comm d (int_div_euclid b d) in
    let most = le_cancel d (int_div_euclid b d) w (omega (arith, ints)) (omega (arith, ints, part, turned, same)) in
    omega (arith, ints, least, most)

module _ (p : Program) (floors caps : List ℕ) (point : List Frac) (mult : Mult) (v : IsVertex p floors caps point mult) (whole : IsWhole point) where
  pub whole-times : (i : ℕ) → i < cells_of p → nat_at v.counts i ≡ nat_at (whole_counts point) i * v.den
  whole-times i h =
      rw (whole-at point i) (whole-count (count_at point i).num (count_at point i).den v.den (nat_at v.counts i) (whole i) v.relaxed.positive (v.counted i h))

  pub whole-allowed : IsAllocation p floors caps (whole_counts point)
  whole-allowed = record {
    sized = length-map point (λ (count : Frac). nat_abs count.num) ∙ v.sized;
    within = λ i h.
        let here = rw (whole-times i h) at (v.relaxed.within i h) in
        let some : 0 < v.den = v.relaxed.positive in
        (le_of_mul-le-mul_right here.0 some, le_of_mul-le-mul_right here.1 some);
    met = λ j h.
        let here = rw (scaled-total p v.den v.counts (whole_counts point) whole-times j) at (v.relaxed.met j h) in (
          least-single (total p (whole_counts point) j) (nat_at p.least j) v.den v.relaxed.positive here.0,
          most-single (total p (whole_counts point) j) (nat_at p.most j) v.den v.relaxed.positive here.1,
        );
  }

  pub whole-worth : worth p (whole_counts point) ≡ bound_of p floors caps mult
  whole-worth =
      let single = worth p (whole_counts point) in
      let raw = raw_bound p floors caps mult in
      let over = v.relaxed.positive in
      let greatest : mult.den *ℤ (pos v.den *ℤ single) ≡ pos v.den *ℤ raw =
      ap (λ w. mult.den *ℤ w) (sym (scaled-worth p v.den v.counts (whole_counts point) whole-times)) ∙ v.greatest in
      exact-div mult.den single raw v.by.positive
      (cancel (pos v.den) (mult.den *ℤ single) raw (omega (arith, ints, over)) (mul_swap (pos v.den) mult.den single ∙ greatest))
