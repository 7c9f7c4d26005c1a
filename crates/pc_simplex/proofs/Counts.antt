-- The count of a cell is one reduced fraction.
use Rattle.std.proofs.Common.{◌≡◌, ℕ, ◌*◌, ◌<◌, List, sym, ap, ◌∙◌, refl, arith}
use Rattle.std.specs.Prelude.{ℤ, pos, nat_abs, ◌*ℤ◌, ◌<ℤ◌, ◌≤ℤ◌}
use Rattle.std.specs.Int.{IsGcd}
use Rattle.std.proofs.lemmas.Int.{ints, unsigned_abs-mul}
use Rattle.std.proofs.Math.IntN.{*ℤ_comm}
use Rattle.pc_num.specs.declared.Frac.{Frac}
use Rattle.pc_num.proofs.Divisors.{same_reduced}
use Rattle.pc_program_bound.specs.declared.program.Program.{Program}
use Rattle.pc_program_bound.proofs.Ring.{mul_assoc}
use Rattle.pc_simplex_tableau.specs.Tableau.{Tableau}
use Rattle.pc_simplex_tableau.specs.Point.{under_at, count_over, IsCount}
use Rattle.pc_simplex_tableau.proofs.Products.{cancel, mul_swap}

-- ---- two fractions that are equal to a third

-- tops and bottoms cross out
pub across : (over under n d m e : ℤ) → pos 0 <ℤ under → n *ℤ under ≡ over *ℤ d → m *ℤ under ≡ over *ℤ e → n *ℤ e ≡ m *ℤ d
across over under n d m e above first second =
    cancel under (n *ℤ e) (m *ℤ d) above
    (turned under n e ∙ ap (λ x. x *ℤ e) first ∙ mul_assoc over d e ∙ ap (λ x. over *ℤ x) (*ℤ_comm d e) ∙ sym (mul_assoc over e d)
    ∙ ap (λ x. x *ℤ d) (sym second) ∙ sym (turned under m d))
  where
    turned : (g a b : ℤ) → g *ℤ (a *ℤ b) ≡ (a *ℤ g) *ℤ b
    turned g a b = mul_swap g a b ∙ sym (mul_assoc a g b)

natural : (x : ℤ) → pos 1 ≤ℤ x → pos (nat_abs x) ≡ x
natural x above = omega (arith, ints, above)

some : (x : ℤ) → pos 1 ≤ℤ x → 0 < nat_abs x
some x above = omega (arith, ints, above)

pub one_fraction : (over under n d m e : ℤ) → pos 0 <ℤ under → pos 1 ≤ℤ d → pos 1 ≤ℤ e → IsGcd (nat_abs n) (nat_abs d) 1 → IsGcd (nat_abs m) (nat_abs e) 1
    → n *ℤ under ≡ over *ℤ d → m *ℤ under ≡ over *ℤ e → (n ≡ m) × (d ≡ e)
one_fraction over under n d m e above positive also reduced lowest first second = (tops, bottoms)
  where
    crossed : n *ℤ e ≡ m *ℤ d
    crossed = across over under n d m e above first second

    sizes : nat_abs n * nat_abs e ≡ nat_abs m * nat_abs d
    sizes = sym (unsigned_abs-mul n e) ∙ ap nat_abs crossed ∙ unsigned_abs-mul m d

    bottoms : d ≡ e
    bottoms =
        sym (natural d positive)
        ∙ ap pos (same_reduced (nat_abs n) (nat_abs d) (nat_abs m) (nat_abs e) (some e also) reduced lowest sizes).1
        ∙ natural e also

    tops : n ≡ m
    tops =
        cancel d n m (omega (arith, ints, positive))
        (*ℤ_comm d n ∙ ap (λ x. n *ℤ x) bottoms ∙ crossed ∙ *ℤ_comm m d)

same_parts : (n d m e : ℤ) → (n ≡ m) × (d ≡ e) → ◌≡◌ {A = Frac} (record { num = n; den = d }) (record { num = m; den = e })
same_parts n d m e same = rw (same.0, same.1) refl

pub one_count : (p : Program) (floors caps : List ℕ) (t : Tableau) (i : ℕ) (a b : Frac) → pos 0 <ℤ under_at t i
    → IsCount p floors caps t i a → IsCount p floors caps t i b → a ≡ b
one_count p floors caps t i a b above first second =
    same_parts a.num a.den b.num b.den
    (one_fraction (count_over p floors caps t i) (under_at t i) a.num a.den b.num b.den above first.positive second.positive
    first.reduced second.reduced first.same second.same)
