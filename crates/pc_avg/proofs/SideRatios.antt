-- Ratios that are turned at a low end, values above a ratio, and trees whose bound leaves nothing over.
use Rattle.std.proofs.Common.{◌≡◌, ℕ, ◌≤◌, ◌^◌, ℤ, pos, neg_ℤ, nat_abs, ◌+ℤ◌, ◌*ℤ◌, ◌≤ℤ◌, ◌<ℤ◌, inl, inr, Option, Some, None, MatchOption, sym, ap, ◌∙◌, arith}
use Rattle.std.specs.Prelude.{IfSome, ⊤}
use Rattle.std.specs.Int.{int_max}
use lib.IntN.{*ℤ_comm}
use Rattle.std.proofs.lemmas.Int.{ints, clamps, by_lt_z}
use Rattle.pc_model.specs.declared.tree.Tree.{Tree}
use Rattle.pc_model.specs.Aggregate.{Ratio, whole, IsAtMost, IsSame}
use Rattle.pc_program_bound.specs.declared.program.Program.{Program}
use Rattle.pc_program_bound.proofs.Ring.{mul-add, mul_assoc, mul_mono}
use Rattle.pc_simplex_tableau.proofs.Products.{neg-mul}
use Rattle.pc_proof.specs.Table.{limit, bound_for, left_over, Shows}
use Rattle.pc_proof.proofs.Fractions.{mul_above}
use Rattle.pc_agg_search.specs.declared.extreme.Extreme.{Extreme}
use Rattle.pc_agg_search.specs.declared.extreme.Extreme.TheVariants.{Low, High}
use Rattle.pc_avg_ratio.specs.Highest.{IsTreeWithin}
use Rattle.pc_avg_ratio.specs.Highest as highest
use Rattle.pc_avg.proofs.SidePrograms.{turned_ratio}

-- ---- turned ratios

pub same_turns : (extreme : Extreme) (a b : Ratio) → IsSame a b → IsSame (turned_ratio extreme a) (turned_ratio extreme b)
same_turns High a b same = same
same_turns Low a b same = omega (arith, ints, same, neg-mul a.num b.den, neg-mul b.num a.den)

pub same_back : (extreme : Extreme) (a b : Ratio) → IsSame (turned_ratio extreme a) (turned_ratio extreme b) → IsSame a b
same_back High a b same = same
same_back Low a b same = omega (arith, ints, same, neg-mul a.num b.den, neg-mul b.num a.den)

pub most_turns : (a b : Ratio) → IsAtMost a b → IsAtMost (turned_ratio Low b) (turned_ratio Low a)
most_turns a b below = omega (arith, ints, below, neg-mul a.num b.den, neg-mul b.num a.den)

pub most_back : (a b : Ratio) → IsAtMost (turned_ratio Low b) (turned_ratio Low a) → IsAtMost a b
most_back a b below = omega (arith, ints, below, neg-mul a.num b.den, neg-mul b.num a.den)

pub same_most : (a b : Ratio) → IsSame a b → IsAtMost a b
same_most a b same = omega (arith, ints, same)

-- ---- a value above a ratio

abbrev pub IsBelow : Ratio → Ratio → Type 0
IsBelow a b = (a.num *ℤ b.den) <ℤ (b.num *ℤ a.den)

pub not_below : (a b : Ratio) → IsBelow a b → IsAtMost b a → ⊥
not_below a b below most = omega (arith, ints, below, most)

spread_above : (r v : Ratio) (d left : ℤ) → pos 0 <ℤ v.den → pos 1 ≤ℤ d → pos 0 <ℤ left → IsSame v (record { num = r.num *ℤ d +ℤ left; den = r.den *ℤ d }) → IsBelow r v
spread_above r v d left above some over same =
    by_lt_z (r.num *ℤ v.den) (v.num *ℤ r.den) (λ less. less)
    (λ most.
    let scaled = mul_mono d (v.num *ℤ r.den) (r.num *ℤ v.den) (omega (arith, ints, some)) most in
    let first : v.num *ℤ (r.den *ℤ d) ≡ d *ℤ (v.num *ℤ r.den) = sym (mul_assoc v.num r.den d) ∙ *ℤ_comm (v.num *ℤ r.den) d in
    let second : v.den *ℤ (r.num *ℤ d) ≡ d *ℤ (r.num *ℤ v.den) = sym (mul_assoc v.den r.num d) ∙ *ℤ_comm (v.den *ℤ r.num) d ∙ ap (λ n. d *ℤ n) (*ℤ_comm v.den r.num) in
    let sum : (r.num *ℤ d +ℤ left) *ℤ v.den ≡ v.den *ℤ (r.num *ℤ d) +ℤ v.den *ℤ left = *ℤ_comm (r.num *ℤ d +ℤ left) v.den ∙ mul-add v.den (r.num *ℤ d) left in
    let more = mul_above v.den left above over in
    absurd (omega (arith, ints, same, scaled, first, second, sum, more)))

number_above : (r v : Ratio) (key : ℤ) → pos 0 <ℤ v.den → r.num <ℤ (key *ℤ r.den) → IsSame v (whole key) → IsBelow r v
number_above r v key above under same =
    let scaled = mul_mono v.den (r.num +ℤ pos 1) (key *ℤ r.den) (omega (arith, ints, above)) (omega (arith, ints, under)) in
    let sum = mul-add v.den r.num (pos 1) in
    let value : v.num ≡ v.den *ℤ key = omega (arith, ints, same, *ℤ_comm key v.den) in
    let first : v.num *ℤ r.den ≡ v.den *ℤ (key *ℤ r.den) = ap (λ n. n *ℤ r.den) value ∙ mul_assoc v.den key r.den in
    omega (arith, ints, scaled, sum, first, above, *ℤ_comm v.den r.num)

pub lesser_above : (r v : Ratio) (d left key : ℤ) → pos 0 <ℤ v.den → pos 1 ≤ℤ d → pos 0 <ℤ left → r.num <ℤ (key *ℤ r.den) →
    highest.IsLesser v (record { num = r.num *ℤ d +ℤ left; den = r.den *ℤ d }) (whole key) → IsBelow r v
lesser_above r v d left key above some over under (inl by') = spread_above r v d left above some over by'.0
lesser_above r v d left key above some over under (inr by') = number_above r v key above under by'.0

-- ---- trees that leave nothing over

small_bound : (k : Option ℤ) (over most : ℤ) → MatchOption k ⊤ (λ x. x ≤ℤ most) → (over +ℤ most) ≤ℤ pos 0 → nat_abs over ≤ 10 ^ 37 → IfSome k (λ x. x ≤ℤ limit)
small_bound None over most within few small = tt
small_bound (Some x) over most within few small = omega (arith, ints, within, few, small)

passes_bound : (k : Option ℤ) (over most : ℤ) (P : ℤ → Type 0) → MatchOption k ⊤ (λ x. x ≤ℤ most) → (over +ℤ most) ≤ℤ pos 0 → nat_abs over ≤ 10 ^ 37 → ((x : ℤ) → (over +ℤ x) ≤ℤ pos 0 → P x) →
    IfSome k (λ x. P (int_max x (neg_ℤ limit)))
passes_bound None over most P within few small pass = tt
passes_bound (Some x) over most P within few small pass = pass (int_max x (neg_ℤ limit)) (omega (arith, ints, clamps, within, few, small))

pub shows_within : (p : Program) (budget : ℕ) (tree : Tree) (over most : ℤ) (P : ℤ → Type 0) → IsTreeWithin p budget tree most → (over +ℤ most) ≤ℤ pos 0 → nat_abs over ≤ 10 ^ 37 →
    ((x : ℤ) → (over +ℤ x) ≤ℤ pos 0 → P x) → Shows p tree P
shows_within p budget tree over most P is few small pass = record {
  sound = record { proves = is.proves; small = small_bound (bound_for p tree) over most is.within few small };
  passes = passes_bound (bound_for p tree) over most P is.within few small pass;
}

-- what a bound leaves over
pub left_of : (over bound : ℤ) (k : Option ℤ) → k ≡ Some bound → nat_abs bound ≤ 10 ^ 37 → pos 0 <ℤ (over +ℤ bound) → left_over over k ≡ over +ℤ bound
left_of over bound k is small some = ap (left_over over) is ∙ by_bound (int_max bound (neg_ℤ limit)) (omega (arith, ints, clamps, small))
  where
    by_bound : (n : ℤ) → n ≡ bound → int_max (pos 0) (over +ℤ n) ≡ over +ℤ bound
    by_bound n same = omega (arith, ints, clamps, same, some)
