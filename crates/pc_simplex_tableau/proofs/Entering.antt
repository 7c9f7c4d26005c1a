-- The column that enters is neither a helper nor basic.
use Rattle.std.proofs.Common.{◌≡◌, ℕ, zero, suc, ◌<◌, Bool, true, false, cond, not, ◌&&◌, length, refl, ap, sym, subst, ◌∙◌, arith, Option, Some, None, true≢false, ◌==◌}
use Rattle.std.specs.Prelude.{pos, int_lt}
use Rattle.std.proofs.lemmas.Bool.{and_parts, eq-eqb, lt-leb}
use Rattle.std.proofs.lemmas.List.Folds.{list_all_at}
use Rattle.pc_program_bound.specs.Sums.{nat_at, int_at}
use Rattle.pc_simplex_tableau.specs.Numbers.{first_below}
use Rattle.pc_simplex_tableau.specs.Tableau.{TableauRow, Tableau, Columns, no_row, is_helper, range_of, is_basic, entering}
use Rattle.pc_simplex_tableau.specs.Standing.{basic_at}

pub first_below-some : (n : ℕ) (test : ℕ → Bool) (k : ℕ) → first_below n test ≡ Some k → (k < n) × (test k ≡ true)
unfolding first_below
first_below-some zero test k e = absurd cc
first_below-some (suc n) test k e = by (first_below n test) refl (first_below-some n test) e
  where
    last : (b : Bool) → test n ≡ b → cond b (Some n) None ≡ Some k → (k < suc n) × (test k ≡ true)
    last true d h = let same : n ≡ k = cc in (omega (arith, same), subst (λ m. test m ≡ true) same d)
    last false d h = absurd cc

    by : (found : Option ℕ) → first_below n test ≡ found → ((j : ℕ) → first_below n test ≡ Some j → (j < n) × (test j ≡ true))
        → elim found [ Some j ↦ Some j | None ↦ cond (test n) (Some n) None ] ≡ Some k → (k < suc n) × (test k ≡ true)
    by None d again h = last (test n) refl h
    by (Some j) d again h = let same : j ≡ k = cc in let there = again k (d ∙ h) in (omega (arith, there.0), there.1)

-- it is no helper and not basic
pub record IsEntering (f : Columns) (t : Tableau) (c : ℕ) : Type 0 where
  pub ranged : c < length f.ranges
  pub free : (i : ℕ) → i < length t.rows → basic_at t i ≡ c → ⊥

pub IsEntering-entering : (f : Columns) (t : Tableau) (c : ℕ) → entering f t ≡ Some c → IsEntering f t c
IsEntering-entering f t c e =
    let found = first_below-some (length f.ranges) (λ k. not (is_basic t k) && int_lt (pos 0) (int_at t.aim k)) c e in
    record { ranged = found.0; free = λ i lt same. basic i lt same (and_parts (not (is_basic t c)) (int_lt (pos 0) (int_at t.aim c)) found.1).0 }
  where
    basic : (i : ℕ) → i < length t.rows → basic_at t i ≡ c → not (is_basic t c) ≡ true → ⊥
    basic i lt same free =
        let other = list_all_at (λ (row : TableauRow). not (row.basic == c)) t.rows i no_row lt (ap not (eq-eqb (basic_at t i) c same)) in
        true≢false (sym free ∙ ap (λ b. not (not b)) other)

pub plain_column : (f : Columns) (c : ℕ) → c < length f.ranges → is_helper f c ≡ false
plain_column f c lt = lt-leb (length f.ranges) c lt

pub range_is : (f : Columns) (c : ℕ) → c < length f.ranges → range_of f c ≡ Some (nat_at f.ranges c)
range_is f c lt = rw (plain_column f c lt) refl
