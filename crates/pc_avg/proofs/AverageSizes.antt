-- How large the numbers of an average are.
use Rattle.std.proofs.Common.{◌≡◌, ℕ, ◌*◌, ◌<◌, ◌≤◌, ◌^◌, ℤ, pos, negsuc, neg_ℤ, ◌*ℤ◌, ◌≤ℤ◌, ◌<ℤ◌, Bool, cond, inl, inr, ◌⊎◌, List, get_or, All, Option, Some, IfSome, refl, ap, subst, ◌∙◌, arith}
use Rattle.std.specs.Prelude.{nat_abs, unsigned_abs, ◌+ℤ◌, ◌&&◌}
use Rattle.std.proofs.Math.IntN.{*ℤ_comm}
use Rattle.std.specs.Int.{◌∣◌}
use Rattle.std.proofs.Math.Nat.{dvd-mul_left}
use Rattle.std.proofs.lemmas.Int.{ints, unsigned_abs-mul}
use Rattle.std.proofs.lemmas.List.Elements.{All-filter, All-map}
use Rattle.std.proofs.lemmas.Nat.Gcd.{le_of_dvd}
use Rattle.pc_num.specs.Scaled.{greatest_size}
use Rattle.pc_num.specs.declared.fraction.Frac.{Frac}
use Rattle.pc_num.specs.Fractions.{IsFrac}
use Rattle.pc_num.proofs.Divisors.{gauss}
use Rattle.pc_model.specs.declared.schema.Schema.{Schema}
use Rattle.pc_model.specs.declared.constraint.Constraint.{Constraint}
use Rattle.pc_model.specs.declared.tree.CutNode.{CutNode}
use Rattle.pc_model.specs.declared.tree.Tree.{Tree}
use Rattle.pc_model.specs.declared.query.Agg.TheVariants.{Avg}
use Rattle.pc_model.specs.declared.query.Query.{Query}
use Rattle.pc_model.specs.declared.query.Folded.{Folded}
use Rattle.pc_model.specs.Aggregate.{Ratio, whole, asked, is_in_group}
use Rattle.pc_model.specs.Cells.{Class}
use Rattle.pc_model.specs.Membership.{is_in}
use Rattle.pc_model.specs.WellFormed.{IsWellFormed}
use Rattle.pc_program_bound.proofs.Ring.{mul_mono}
use Rattle.pc_simplex_tableau.proofs.Products.{le_cancel, mul_swap, mul-zero}
use Rattle.pc_simplex_short.proofs.Sizes.{size_of_product-le}
use Rattle.pc_proof.specs.Form.{IsFormedRatio}
use Rattle.pc_proof.specs.Setting.{Setting, cells, on_chosen, seen_numbers}
use Rattle.pc_proof.specs.Setting.{seen as seen_rows}
use Rattle.pc_proof.specs.Table.{ratio_of}
use Rattle.pc_proof.proofs.Numbers.{least_keeps, greatest_keeps}
use Rattle.pc_agg_search.specs.declared.extreme.Extreme.{Extreme}
use Rattle.pc_agg_search.specs.declared.extreme.Extreme.TheVariants.{Low, High}
use Rattle.pc_agg_search.specs.Asked.{Asking, setting_for}
use Rattle.pc_agg_search.specs.Ends.{signed}
use Rattle.pc_agg_search.specs.Fitting.{AreObserved}
use Rattle.pc_agg_search.specs.Keys.{key_of}
use Rattle.pc_agg_search.specs.Settings.{unseen}
use Rattle.pc_proof.proofs.RowNumbers.{asked_small}
use Rattle.pc_avg_ratio.specs.declared.fractional.Fractional.{Fractional}
use Rattle.pc_avg_ratio.specs.Fractional.{most_sum, over_before}
use Rattle.pc_avg_ratio.specs.Highest.{IsAbove, IsLesser, fewest_rows}
use Rattle.pc_avg_ratio.specs.Steps.{IsRatioOf}
use Rattle.pc_avg_ratio.proofs.Raising.{fewest_small, bottom_some}
use Rattle.pc_avg.specs.declared.sides.Side.{Side}
use Rattle.pc_avg.specs.Ends.{turned}
use Rattle.pc_avg.specs.Sides.{observed_key, IsChosenKey, IsOutermostKey, IsOutermost, IsSide}
use Rattle.pc_agg_search.proofs.CellNumbers.{each_small}
use Rattle.pc_avg.proofs.SideNumbers.{turned_is, least_seen, greatest_seen}
use Rattle.pc_avg.proofs.SideShort.{turned_lowest, whole_lowest}

-- ---- fractions

pub turned_formed : (extreme : Extreme) (f : Frac) → IsFormedRatio f → IsFormedRatio (turned extreme f)
turned_formed extreme f is = record { reduced = turned_lowest extreme f is.reduced; small = by_side extreme; few = is.few }
  where
    by_side : (extreme : Extreme) → nat_abs (signed extreme f.num) ≤ 3 * 10 ^ 31
    by_side Low = let small = is.small in omega (arith, ints, small)
    by_side High = is.small

pub ratio_formed : (f : Fractional) (r : Frac) (counts : List ℕ) → IsFrac r → IsRatioOf f (ratio_of r) counts → IsFormedRatio r
ratio_formed f r counts lowest of = record { reduced = lowest; small = omega (arith, of.small_num); few = omega (arith, ints, of.small_den) }

pub whole_formed : (n : ℤ) → nat_abs n ≤ 2 ^ 63 → IsFormedRatio (record { num = n; den = pos 1 })
whole_formed n small = record { reduced = whole_lowest n (omega (arith, ints, small)); small = omega (arith, small); few = omega (arith, ints) }

-- a fraction in lowest terms has no greater numerator than another that is the same
least_num : (v : Frac) (n d : ℤ) → IsFrac v → v.num *ℤ d ≡ n *ℤ v.den → n <ℤ pos 0 → nat_abs v.num ≤ nat_abs n
least_num v n d lowest same below =
    let left = unsigned_abs-mul v.num d in
    let right = unsigned_abs-mul n v.den in
    let sizes = ap unsigned_abs same in
    let products : unsigned_abs d * unsigned_abs v.num ≡ unsigned_abs v.den * unsigned_abs n = omega (arith, left, right, sizes) in
    let divides : unsigned_abs v.num ∣ unsigned_abs n = gauss (unsigned_abs v.num) (unsigned_abs v.den) (unsigned_abs n) lowest.reduced
    (subst (λ (k : ℕ). unsigned_abs v.num ∣ k) products (dvd-mul_left (unsigned_abs v.num) (unsigned_abs d))) in
    let some : 0 < unsigned_abs n = omega (arith, ints, below) in
    let less = le_of_dvd some divides in
    omega (arith, ints, less)

-- the lesser of a fraction that is not far below 0 and of a small whole number
module _ (v : Frac) (n d key : ℤ) (lowest : IsFrac v) (few : v.den ≤ℤ pos (3 * 10 ^ 16)) (positive : pos 0 <ℤ d) (small : nat_abs key ≤ greatest_size) (from : neg_ℤ (pos (3 * 10 ^ 31)) ≤ℤ n) where
  product_small : nat_abs (v.den *ℤ key) ≤ 3 * 10 ^ 31
  product_small =
      let above = lowest.above in
      let size = size_of_product-le v.den key (3 * 10 ^ 16) (greatest_size) (omega (arith, ints, few, above)) small in
      omega (arith, size)

  module _ (same : v.num *ℤ d ≡ n *ℤ v.den) where
    under : (n *ℤ pos 1) ≤ℤ (key *ℤ d) → v.num ≤ℤ pos (3 * 10 ^ 31)
    under less =
        let turned' = *ℤ_comm key d in
        let first = mul_mono v.den n (d *ℤ key) (let above = lowest.above in omega (arith, ints, above)) (omega (arith, ints, less, turned')) in
        let swap = mul_swap v.den d key in
        let own = *ℤ_comm v.num d in
        let other = *ℤ_comm n v.den in
        let top : v.num ≤ℤ (v.den *ℤ key) = le_cancel d v.num (v.den *ℤ key) positive (omega (arith, ints, first, swap, same, own, other)) in
        let size = product_small in
        omega (arith, ints, top, size)

    over : (k : ℤ) → n ≡ k → neg_ℤ (pos (3 * 10 ^ 31)) ≤ℤ v.num
    over (pos k) is =
        let first = mul_mono v.den (pos 0) n (let above = lowest.above in omega (arith, ints, above)) (omega (arith, ints, is)) in
        let none = mul-zero v.den in
        let nothing = mul-zero d in
        let own = *ℤ_comm v.num d in
        let other = *ℤ_comm n v.den in
        let top : pos 0 ≤ℤ v.num = le_cancel d (pos 0) v.num positive (omega (arith, ints, first, none, nothing, same, own, other)) in
        omega (arith, ints, top)
    over (negsuc k) is =
        let less = least_num v n d lowest same (omega (arith, ints, is)) in
        omega (arith, ints, less, from, is)

  lesser_small : IsLesser (ratio_of v) (record { num = n; den = d }) (whole key) → nat_abs v.num ≤ 3 * 10 ^ 31
  lesser_small (inl first) =
      let low = over first.0 n refl in
      let high = under first.0 first.1 in
      omega (arith, ints, low, high)
  lesser_small (inr second) =
      let size = product_small in
      let is = second.0 in
      let turned' = *ℤ_comm key v.den in
      omega (arith, ints, size, is, turned')

pub value_formed : (f : Fractional) (key : ℤ) (budget : ℕ) (first : Ratio) (ratio : Frac) (counts : List ℕ) (tree : Tree) (value : Frac) → f.count ≤ 1_000_000 → nat_abs key ≤ greatest_size →
    IsAbove f key budget first ratio counts tree value → IsFormedRatio value
value_formed f key budget first ratio counts tree value few small above =
    let top = ratio.num *ℤ fewest_rows f +ℤ (over_before f (ratio_of ratio) +ℤ above.bound) in
    let product = size_of_product-le ratio.num (fewest_rows f) most_sum 1_000_000 above.ratio_is.small_num (fewest_small f few) in
    let more = above.over in
    record {
      reduced = above.value_lowest;
      small = lesser_small value top (ratio.den *ℤ fewest_rows f) key above.value_lowest above.value_small (bottom_some f few ratio.den above.ratio_is.positive above.ratio_is.small_den) small
          (omega (arith, ints, product, more)) above.value_is;
      few = above.value_small;
    }

-- ---- the outermost number

module _ (schema : Schema) (constraints : List Constraint) (query : Query) (seen : Folded) (nodes : List CutNode) (formed : IsWellFormed schema) (asking : Asking schema constraints query seen) (agg_is : query.agg ≡ Avg) where
  abbrev u : Setting
  u = unseen schema constraints query nodes

  abbrev s : Setting
  s = setting_for schema constraints query seen nodes asking

  abbrev IsSmall : ℤ → Type 0
  IsSmall n = nat_abs n ≤ greatest_size

  numbers_small : AreObserved s → All IsSmall (seen_numbers s.question)
  numbers_small inside =
      All-map IsSmall (asked s.question.query) (seen_rows s.question)
      (All-filter (λ row. is_in s.question.query.chosen row && is_in_group s.question.query.group s.question.name row) (λ row. IsSmall (asked s.question.query row)) s.question.observed
      (λ place d below. asked_small schema s.question.query (get_or s.question.observed place d) formed (inside place d below)))

  observed_small : (extreme : Extreme) (key : ℤ) → AreObserved s → observed_key seen extreme ≡ Some key → IsSmall key
  observed_small High key inside is =
      subst (λ (o : Option ℤ). IfSome o IsSmall) (greatest_seen schema constraints query seen nodes asking agg_is ∙ is) (greatest_keeps IsSmall (seen_numbers s.question) (numbers_small inside))
  observed_small Low key inside is =
      let least = least_seen schema constraints query seen nodes asking agg_is ∙ turned_is seen.least key is in
      let small : IsSmall (neg_ℤ key) = subst (λ (o : Option ℤ). IfSome o IsSmall) least (least_keeps IsSmall (seen_numbers s.question) (numbers_small inside)) in
      omega (arith, ints, small)

  pub key_small : (extreme : Extreme) (side : Side) → IsSide u seen extreme side → (key : ℤ) → side.outermost ≡ Some key → AreObserved s → nat_abs key ≤ greatest_size
  key_small extreme side is key key_is inside = by_origin own.of_cell
    where
      own : IsOutermostKey u extreme (observed_key seen extreme) key
      own = subst (IsOutermost u extreme (observed_key seen extreme)) key_is is.outermost

      by_origin : IsChosenKey u extreme key ⊎ (observed_key seen extreme ≡ Some key) → IsSmall key
      by_origin (inr observed) = observed_small extreme key inside observed
      by_origin (inl chosen) =
          let each = each_small u extreme formed (cells u) side.picks is.picked in
          let here = subst (λ (class : Class). IsSmall (on_chosen (key_of u extreme) class)) chosen.3 (each chosen.0 chosen.1 chosen.2) in
          subst IsSmall (ap (λ (test : Bool). cond test (key_of u extreme chosen.1) (pos 0)) chosen.4.0 ∙ chosen.4.1) here
