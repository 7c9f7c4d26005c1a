-- A column turned, told by what that does to the numbers at each place.
use Rattle.std.proofs.Common.{◌≡◌, ℕ, zero, suc, ◌+◌, ◌<◌, Bool, true, false, cond, not, List, [], ◌∷◌, map, length, refl, ap, sym, ◌∙◌, arith, slice_set, ◌==◌}
use Rattle.std.specs.Prelude.{ℤ, pos, neg_ℤ, ◌-ℤ◌, ◌*ℤ◌}
use Rattle.std.proofs.lemmas.Int.{ints}
use Rattle.std.proofs.lemmas.List.{get_or-map, length-map, length-set, get_or-set_same, get_or-set_other}
use Rattle.pc_program_bound.specs.Sums.{int_at}
use Rattle.pc_simplex_tableau.specs.Tableau.{TableauRow, Tableau, Columns, row_at, no_row, is_turned, turned_numbers, turned_row, turned}
use Rattle.pc_simplex_tableau.proofs.Pivots.{by_same}

-- a number, its sign changed or not
abbrev pub signed : Bool → ℤ → ℤ
signed test x = cond test (neg_ℤ x) x

pub signed_none : (test : Bool) (x : ℤ) → x ≡ pos 0 → signed test x ≡ pos 0
signed_none true x e = omega (arith, ints, e)
signed_none false x e = e

pub none_signed : (test : Bool) (x : ℤ) → signed test x ≡ pos 0 → x ≡ pos 0
none_signed true x e = omega (arith, ints, e)
none_signed false x e = e

-- two changes of sign exchanged
pub signed_swap : (test other : Bool) (x : ℤ) → signed test (signed other x) ≡ signed other (signed test x)
signed_swap true true x = refl
signed_swap true false x = refl
signed_swap false other x = refl

pub signed_not : (test : Bool) (x : ℤ) → signed (not test) (neg_ℤ x) ≡ signed test x
signed_not true x = refl
signed_not false x = omega (arith, ints)

at_signs : (row : List ℤ) (k : ℕ) → int_at (map neg_ℤ row) k ≡ neg_ℤ (int_at row k)
at_signs [] k = refl
at_signs (a ∷ row) zero = refl
at_signs (a ∷ row) (suc k) = at_signs row k

-- ---- the numbers of a row of n numbers and a value

module _ (f : Columns) (c u : ℕ) (own : c < f.count) (row : List ℤ) (long : length row ≡ f.count + 1) where
  abbrev lowered : List ℤ
  lowered = slice_set row f.count (int_at row f.count -ℤ int_at row c *ℤ pos u)

  pub length-turned_numbers : length (turned_numbers f c u row) ≡ f.count + 1
  length-turned_numbers = length-set lowered c (neg_ℤ (int_at row c)) ∙ length-set row f.count (int_at row f.count -ℤ int_at row c *ℤ pos u) ∙ long

  pub at_column : int_at (turned_numbers f c u row) c ≡ neg_ℤ (int_at row c)
  at_column =
      let size = length-set row f.count (int_at row f.count -ℤ int_at row c *ℤ pos u) in
      get_or-set_same lowered c (neg_ℤ (int_at row c)) (pos 0) (omega (arith, size, long, own))

  pub at_value : int_at (turned_numbers f c u row) f.count ≡ int_at row f.count -ℤ int_at row c *ℤ pos u
  at_value =
      get_or-set_other lowered c f.count (neg_ℤ (int_at row c)) (pos 0) (λ e. omega (arith, own, e))
      ∙ get_or-set_same row f.count (int_at row f.count -ℤ int_at row c *ℤ pos u) (pos 0) (omega (arith, long))

  pub at_other : (k : ℕ) → k < f.count → (k ≡ c → ⊥) → int_at (turned_numbers f c u row) k ≡ int_at row k
  at_other k lt other =
      get_or-set_other lowered c k (neg_ℤ (int_at row c)) (pos 0) other
      ∙ get_or-set_other row f.count k (int_at row f.count -ℤ int_at row c *ℤ pos u) (pos 0) (λ e. omega (arith, lt, e))

  pub at_none : (k : ℕ) → k < f.count → int_at row k ≡ pos 0 → int_at (turned_numbers f c u row) k ≡ pos 0
  at_none k lt none = by_same k c
      (λ e. ap (int_at (turned_numbers f c u row)) e ∙ at_column ∙ signed_none true (int_at row c) (ap (int_at row) (sym e) ∙ none))
      (λ other. at_other k lt other ∙ none)

-- ---- a row

pub at-turned_row : (f : Columns) (c u : ℕ) (row : TableauRow) (k : ℕ)
    → int_at (turned_row f c u row).numbers k ≡ signed (row.basic == c) (int_at (turned_numbers f c u row.numbers) k)
at-turned_row f c u row k = by (row.basic == c)
  where
    by : (test : Bool) → int_at (cond test (map neg_ℤ (turned_numbers f c u row.numbers)) (turned_numbers f c u row.numbers)) k
        ≡ signed test (int_at (turned_numbers f c u row.numbers) k)
    by true = at_signs (turned_numbers f c u row.numbers) k
    by false = refl

pub length-turned_row : (f : Columns) (c u : ℕ) (row : TableauRow) → c < f.count → length row.numbers ≡ f.count + 1
    → length (turned_row f c u row).numbers ≡ f.count + 1
length-turned_row f c u row own long = by (row.basic == c)
  where
    by : (test : Bool) → length (cond test (map neg_ℤ (turned_numbers f c u row.numbers)) (turned_numbers f c u row.numbers)) ≡ f.count + 1
    by true = length-map (turned_numbers f c u row.numbers) neg_ℤ ∙ length-turned_numbers f c u own row.numbers long
    by false = length-turned_numbers f c u own row.numbers long

-- ---- the tableau

pub rows-turned : (f : Columns) (c u : ℕ) (t : Tableau) → length (turned f c u t).rows ≡ length t.rows
rows-turned f c u t = length-map t.rows (turned_row f c u)

pub row_at-turned : (f : Columns) (c u : ℕ) (t : Tableau) (i : ℕ) → i < length t.rows → row_at (turned f c u t) i ≡ turned_row f c u (row_at t i)
row_at-turned f c u t i lt = get_or-map (turned_row f c u) t.rows i no_row no_row lt

pub is_turned-column : (f : Columns) (c u : ℕ) (t : Tableau) → c < length t.turned → is_turned (turned f c u t) c ≡ not (is_turned t c)
is_turned-column f c u t lt = get_or-set_same t.turned c (not (is_turned t c)) false lt

pub is_turned-other : (f : Columns) (c u : ℕ) (t : Tableau) (k : ℕ) → (k ≡ c → ⊥) → is_turned (turned f c u t) k ≡ is_turned t k
is_turned-other f c u t k other = get_or-set_other t.turned c k (not (is_turned t c)) false other

pub aim-column : (f : Columns) (c u : ℕ) (t : Tableau) → c < length t.aim → int_at (turned f c u t).aim c ≡ neg_ℤ (int_at t.aim c)
aim-column f c u t lt = get_or-set_same t.aim c (neg_ℤ (int_at t.aim c)) (pos 0) lt

pub aim-other : (f : Columns) (c u : ℕ) (t : Tableau) (k : ℕ) → (k ≡ c → ⊥) → int_at (turned f c u t).aim k ≡ int_at t.aim k
aim-other f c u t k other = get_or-set_other t.aim c k (neg_ℤ (int_at t.aim c)) (pos 0) other
