-- Ratios of sums to numbers of rows, over plain numbers: p / q is a ratio, and t and u are sums over m and n rows.
use Rattle.std.proofs.Common.{◌≡◌, sym, ap, ◌∙◌, arith}
use Rattle.std.specs.Prelude.{ℤ, pos, ◌-ℤ◌, ◌*ℤ◌, ◌≤ℤ◌, ◌<ℤ◌}
use Rattle.std.proofs.lemmas.Int.{ints}
use Rattle.std.proofs.Math.IntN.{*ℤ_comm}
use Rattle.pc_program_bound.proofs.Ring.{mul_assoc, mul_mono}
use Rattle.pc_simplex_tableau.proofs.Products.{mul-sub, sub-mul, mul_positive, le_cancel, lt_cancel, mul_swap}

turned : (a b c : ℤ) → a *ℤ (b *ℤ c) ≡ c *ℤ (b *ℤ a)
turned a b c = mul_swap a b c ∙ ap (λ x. b *ℤ x) (*ℤ_comm a c) ∙ mul_swap b c a

-- t over m is p over q
replaced : (q p t m n : ℤ) → p *ℤ m ≡ t *ℤ q → m *ℤ (p *ℤ n) ≡ q *ℤ (t *ℤ n)
replaced q p t m n same = mul_swap m p n ∙ sym (mul_assoc p m n) ∙ ap (λ x. x *ℤ n) same ∙ mul_assoc t q n ∙ mul_swap t q n

-- the second sum is no further above the ratio than the first, and has a greater ratio
pub fewer_rows : (q p t m u n e d : ℤ) → pos 0 <ℤ q → pos 0 <ℤ m → e ≡ q *ℤ t -ℤ p *ℤ m → d ≡ q *ℤ u -ℤ p *ℤ n → pos 0 <ℤ e → d ≤ℤ e → pos 0 <ℤ (m *ℤ u -ℤ t *ℤ n) → n <ℤ m
fewer_rows q p t m u n e d above some e_is d_is over best greater =
    let steeper = mul_positive q (m *ℤ u -ℤ t *ℤ n) above greater in
    let steeper_is = mul-sub q (m *ℤ u) (t *ℤ n) in
    let within = mul_mono m d e (omega (arith, ints, some)) best in
    let first_is : e *ℤ n ≡ (q *ℤ t) *ℤ n -ℤ (p *ℤ m) *ℤ n = ap (λ x. x *ℤ n) e_is ∙ sub-mul (q *ℤ t) (p *ℤ m) n in
    let second_is : m *ℤ d ≡ m *ℤ (q *ℤ u) -ℤ m *ℤ (p *ℤ n) = ap (λ x. m *ℤ x) d_is ∙ mul-sub m (q *ℤ u) (p *ℤ n) in
    let rest = mul-sub e m n in
    let less = lt_cancel e (m -ℤ n) over
    (omega (arith, ints, steeper, steeper_is, within, first_is, second_is, rest, *ℤ_comm e m, mul_assoc q t n, mul_assoc p m n, mul_swap m q u, mul_swap m p n)) in
    omega (arith, ints, less)

-- what is above the ratio t over m has a greater one
pub greater_ratio : (q p t m u n : ℤ) → pos 0 <ℤ q → pos 0 <ℤ m → p *ℤ m ≡ t *ℤ q → pos 0 <ℤ (q *ℤ u -ℤ p *ℤ n) → pos 0 <ℤ (m *ℤ u -ℤ t *ℤ n)
greater_ratio q p t m u n above some same over =
    let scaled = mul_positive m (q *ℤ u -ℤ p *ℤ n) some over in
    let scaled_is = mul-sub m (q *ℤ u) (p *ℤ n) in
    let whole_is = mul-sub q (m *ℤ u) (t *ℤ n) in
    lt_cancel q (m *ℤ u -ℤ t *ℤ n) above (omega (arith, ints, scaled, scaled_is, whole_is, mul_swap m q u, replaced q p t m n same))

-- what is above a ratio has at least that one
pub ratio_grows : (q p t m q' p' : ℤ) → pos 0 <ℤ m → pos 0 <ℤ q' → pos 0 <ℤ (q *ℤ t -ℤ p *ℤ m) → p' *ℤ m ≡ t *ℤ q' → (p *ℤ q') ≤ℤ (p' *ℤ q)
ratio_grows q p t m q' p' some above over same =
    let scaled = mul_positive q' (q *ℤ t -ℤ p *ℤ m) above over in
    let scaled_is = mul-sub q' (q *ℤ t) (p *ℤ m) in
    let turned_is : q' *ℤ (t *ℤ q) ≡ q' *ℤ (q *ℤ t) = ap (λ x. q' *ℤ x) (*ℤ_comm t q) in
    le_cancel m (p *ℤ q') (p' *ℤ q) some (omega (arith, ints, scaled, scaled_is, turned m p q', replaced q' p' t m q same, turned_is))

-- what is above a ratio is above any that is no greater
pub above_lesser : (q p q' p' u n : ℤ) → pos 0 <ℤ q → pos 0 <ℤ q' → pos 0 ≤ℤ n → (p *ℤ q') ≤ℤ (p' *ℤ q) → pos 0 <ℤ (q' *ℤ u -ℤ p' *ℤ n) → pos 0 <ℤ (q *ℤ u -ℤ p *ℤ n)
above_lesser q p q' p' u n above above' some less over =
    let scaled = mul_positive q (q' *ℤ u -ℤ p' *ℤ n) above over in
    let scaled_is = mul-sub q (q' *ℤ u) (p' *ℤ n) in
    let whole_is = mul-sub q' (q *ℤ u) (p *ℤ n) in
    let more = mul_mono n (p *ℤ q') (p' *ℤ q) some less in
    lt_cancel q' (q *ℤ u -ℤ p *ℤ n) above'
    (omega (arith, ints, scaled, scaled_is, whole_is, more, mul_swap q q' u, turned n p q', turned n p' q))
