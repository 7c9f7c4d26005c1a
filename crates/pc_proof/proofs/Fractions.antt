-- Whole numbers beside fractions, and fractions beside each other.
use Rattle.std.proofs.Common.{◌≡◌, ℤ, pos, ◌+ℤ◌, ◌-ℤ◌, ◌*ℤ◌, ◌≤ℤ◌, ◌<ℤ◌, sym, ap, ◌∙◌, arith}
use lib.IntN.{*ℤ_comm}
use Rattle.std.proofs.lemmas.Int.{ints, by_lt_z}
use Rattle.pc_model.specs.Aggregate.{Ratio, whole, IsAtMost}
use Rattle.pc_program_bound.proofs.Ring.{mul-add, mul_assoc, mul_mono}

pub lesser_at_most : (a b : ℤ) (v : Ratio) → pos 0 <ℤ v.den → a ≤ℤ b → IsAtMost (whole b) v → IsAtMost (whole a) v
lesser_at_most a b v above below within =
    let more = mul_mono v.den a b (omega (arith, ints)) below in
    omega (arith, ints, more, within, *ℤ_comm v.den a, *ℤ_comm v.den b)

pub greater_at_least : (a b : ℤ) (v : Ratio) → pos 0 <ℤ v.den → a ≤ℤ b → IsAtMost v (whole a) → IsAtMost v (whole b)
greater_at_least a b v above below within =
    let more = mul_mono v.den a b (omega (arith, ints)) below in
    omega (arith, ints, more, within, *ℤ_comm v.den a, *ℤ_comm v.den b)

-- a number from one that is over, and one up to one that is under
pub higher : (m n : ℤ) (v : Ratio) → pos 0 <ℤ v.den → m ≤ℤ n → v.num <ℤ (m *ℤ v.den) → v.num <ℤ (n *ℤ v.den)
higher m n v above below over =
    let more = mul_mono v.den m n (omega (arith, ints)) below in
    omega (arith, ints, more, *ℤ_comm v.den m, *ℤ_comm v.den n)

pub lower : (m n : ℤ) (v : Ratio) → pos 0 <ℤ v.den → m ≤ℤ n → (n *ℤ v.den) <ℤ v.num → (m *ℤ v.den) <ℤ v.num
lower m n v above below under =
    let more = mul_mono v.den m n (omega (arith, ints)) below in
    omega (arith, ints, more, *ℤ_comm v.den m, *ℤ_comm v.den n)

-- factors that change places
turned : (a b n : ℤ) → a *ℤ (n *ℤ b) ≡ b *ℤ (n *ℤ a)
turned a b n =
    ap (λ x. a *ℤ x) (*ℤ_comm n b) ∙ sym (mul_assoc a b n) ∙ ap (λ x. x *ℤ n) (*ℤ_comm a b) ∙ mul_assoc b a n ∙ ap (λ x. b *ℤ x) (*ℤ_comm a n)

-- a factor above 0 can be left out
mul_cancel : (c a b : ℤ) → pos 0 <ℤ c → (c *ℤ a) ≤ℤ (c *ℤ b) → a ≤ℤ b
mul_cancel c a b above within = by_lt_z b a less (λ most. most)
  where
    less : b <ℤ a → a ≤ℤ b
    less below =
        let more = mul_mono c (b +ℤ pos 1) a (omega (arith, ints)) (omega (arith, ints)) in
        absurd (omega (arith, ints, more, within, above, mul-add c b (pos 1)))

pub mul_above : (a b : ℤ) → pos 0 <ℤ a → pos 0 <ℤ b → pos 0 <ℤ (a *ℤ b)
mul_above a b first second =
    let more = mul_mono a (pos 1) b (omega (arith, ints)) (omega (arith, ints)) in
    omega (arith, ints, more, first)

pub at_most_trans : (a b c : Ratio) → pos 0 <ℤ a.den → pos 0 <ℤ b.den → pos 0 <ℤ c.den → IsAtMost a b → IsAtMost b c → IsAtMost a c
at_most_trans a b c a_above b_above c_above first second =
    let scaled_first = mul_mono c.den (a.num *ℤ b.den) (b.num *ℤ a.den) (omega (arith, ints, c_above)) first in
    let scaled_second = mul_mono a.den (b.num *ℤ c.den) (c.num *ℤ b.den) (omega (arith, ints, a_above)) second in
    mul_cancel b.den (a.num *ℤ c.den) (c.num *ℤ a.den) b_above
    (omega (arith, ints, scaled_first, scaled_second, turned c.den b.den a.num, turned c.den a.den b.num, turned a.den b.den c.num))

-- ---- what is left over, spread over the fewest

pub spread_over : (q p sum count d e : ℤ) → pos 1 ≤ℤ d → d ≤ℤ count → pos 0 ≤ℤ e → (q *ℤ sum) ≤ℤ (p *ℤ count +ℤ e) →
    (sum *ℤ (q *ℤ d)) ≤ℤ ((p *ℤ d +ℤ e) *ℤ count)
spread_over q p sum count d e some few over within =
    let scaled = mul_mono d (q *ℤ sum) (p *ℤ count +ℤ e) (omega (arith, ints)) within in
    let rest = mul_mono e d count over few in
    omega (
      arith,
      ints,
      scaled,
      rest,
      mul-add d (p *ℤ count) e,
      mul-add count (p *ℤ d) e,
      turned sum d q,
      turned count d p,
      *ℤ_comm d e,
      *ℤ_comm count e,
      *ℤ_comm (p *ℤ d +ℤ e) count,
    )

pub spread_under : (q p sum count d e : ℤ) → pos 1 ≤ℤ d → d ≤ℤ count → pos 0 ≤ℤ e → (p *ℤ count) ≤ℤ (q *ℤ sum +ℤ e) →
    ((p *ℤ d -ℤ e) *ℤ count) ≤ℤ (sum *ℤ (q *ℤ d))
spread_under q p sum count d e some few over within =
    let scaled = mul_mono d (p *ℤ count) (q *ℤ sum +ℤ e) (omega (arith, ints)) within in
    let rest = mul_mono e d count over few in
    let whole_part : (p *ℤ d -ℤ e) +ℤ e ≡ p *ℤ d = omega (arith, ints) in
    omega (
      arith,
      ints,
      scaled,
      rest,
      mul-add d (q *ℤ sum) e,
      mul-add count (p *ℤ d -ℤ e) e,
      ap (λ x. count *ℤ x) whole_part,
      turned sum d q,
      turned count d p,
      *ℤ_comm d e,
      *ℤ_comm count e,
      *ℤ_comm (p *ℤ d -ℤ e) count,
    )
