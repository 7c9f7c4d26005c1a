-- A pivot, told by what it does to the numbers at each place.
use Rattle.std.proofs.Common.{◌≡◌, ℕ, zero, suc, ◌+◌, ◌<◌, Bool, true, false, cond, List, ◌∷◌, map, length, refl, ap, sym, subst, ◌∙◌, arith}
use Rattle.std.specs.Prelude.{ℤ, pos, nat_abs, ◌-ℤ◌, ◌*ℤ◌, ◌<ℤ◌}
use Rattle.std.specs.Int.{int_div_euclid}
use Rattle.std.proofs.lemmas.Int.{ints, by_lt_z}
use Rattle.std.proofs.lemmas.Bool.{eqb-true}
use Rattle.std.proofs.lemmas.List.{get_or-map, length-map, length-set, get_or-set_same, get_or-set_other}
use Rattle.std.proofs.Math.Nat.{pos_of_dvd_of_pos}
use Rattle.pc_program_bound.specs.Sums.{int_at}
use Rattle.pc_simplex_tableau.specs.Numbers.{common, primitive, combined, is_zero}
use Rattle.pc_simplex_tableau.specs.Tableau.{TableauRow, Tableau, row_at, no_row, freed_row, combined_aim, freed_aim, pivoted}
use Rattle.pc_simplex_tableau.specs.Standing.{entry_at, basic_at}
use Rattle.pc_simplex_tableau.proofs.Products.{mul_positive}
use Rattle.pc_simplex_tableau.proofs.Places.{length-combined, at-combined, common-dvd, exact, divided, IsTimes-primitive, length-primitive}

-- two places are the same or not
pub by_same : {P : Type 0} (i r : ℕ) → (i ≡ r → P) → ((i ≡ r → ⊥) → P) → P
by_same i r same other =
    by_lt_z (pos i) (pos r) (λ less. other (λ e. omega (arith, ints, less, e)))
    (λ above. by_lt_z (pos r) (pos i) (λ more. other (λ e. omega (arith, ints, more, e))) (λ below. same (omega (arith, ints, above, below))))

-- ---- one row

-- the first n numbers of a row after a pivot by another, whose entry is p, where the row's is t
pub record IsFreed (n : ℕ) (p t : ℤ) (row other new : List ℤ) : Type 0 where
  pub times : ℤ
  pub positive : pos 0 <ℤ times
  pub each : (k : ℕ) → k < n → times *ℤ int_at new k ≡ p *ℤ int_at row k -ℤ t *ℤ int_at other k

kept_place : (p t a b : ℤ) → t ≡ pos 0 → p *ℤ a ≡ p *ℤ a -ℤ t *ℤ b
kept_place p t a b e = rw e (omega (arith, ints))

is_zero-true : (z : ℤ) → is_zero z ≡ true → z ≡ pos 0
is_zero-true z e = let none : nat_abs z ≡ 0 = eqb-true (nat_abs z) 0 e in omega (arith, ints, none)

pub IsFreed-row : (c n : ℕ) (other : List ℤ) (row : TableauRow) → length row.numbers ≡ n → length other ≡ n → pos 0 <ℤ int_at other c
    → IsFreed n (int_at other c) (int_at row.numbers c) row.numbers other (freed_row c other row).numbers
IsFreed-row c n other row long also positive = by (is_zero (int_at row.numbers c)) refl
  where
    p : ℤ
    p = int_at other c

    t : ℤ
    t = int_at row.numbers c

    by : (test : Bool) → is_zero (int_at row.numbers c) ≡ test
        → IsFreed n (int_at other c) (int_at row.numbers c) row.numbers other
        (cond test row (record row { numbers = primitive (combined (int_at other c) row.numbers (int_at row.numbers c) other) })).numbers
    by true e = record { times = p; positive = positive; each = λ k lt. kept_place p t (int_at row.numbers k) (int_at other k) (is_zero-true t e) }
    by false e =
        let whole = IsTimes-primitive (combined p row.numbers t other) in
        record {
          times = whole.times;
          positive = whole.positive;
          each = λ k lt. whole.each k ∙ at-combined p t row.numbers other k (omega (arith, lt, long)) (omega (arith, long, also));
        }

pub length-freed_row : (c n : ℕ) (other : List ℤ) (row : TableauRow) → length row.numbers ≡ n → length other ≡ n → length (freed_row c other row).numbers ≡ n
length-freed_row c n other row long also = by (is_zero (int_at row.numbers c))
  where
    by : (test : Bool)
        → length (cond test row (record row { numbers = primitive (combined (int_at other c) row.numbers (int_at row.numbers c) other) })).numbers ≡ n
    by true = long
    by false =
        length-primitive (combined (int_at other c) row.numbers (int_at row.numbers c) other)
        ∙ length-combined (int_at other c) (int_at row.numbers c) row.numbers other (omega (arith, long, also)) ∙ long

pub basic-freed_row : (c : ℕ) (other : List ℤ) (row : TableauRow) → (freed_row c other row).basic ≡ row.basic
basic-freed_row c other row = by (is_zero (int_at row.numbers c))
  where
    by : (test : Bool)
        → (cond test row (record row { numbers = primitive (combined (int_at other c) row.numbers (int_at row.numbers c) other) })).basic ≡ row.basic
    by true = refl
    by false = refl

-- ---- the objective row

pub record IsFreedAim (n : ℕ) (p e : ℤ) (other : List ℤ) (t after : Tableau) : Type 0 where
  pub times : ℤ
  pub positive : pos 0 <ℤ times
  pub each : (k : ℕ) → k < n → times *ℤ int_at after.aim k ≡ p *ℤ int_at t.aim k -ℤ e *ℤ int_at other k
  pub weight : times *ℤ after.weight ≡ p *ℤ t.weight

IsFreedAim-combined : (c n : ℕ) (other : List ℤ) (t : Tableau) → length t.aim ≡ n → length other ≡ n + 1 → pos 0 <ℤ int_at other c → pos 0 <ℤ t.weight
    → IsFreedAim n (int_at other c) (int_at t.aim c) other t (combined_aim c other t)
IsFreedAim-combined c n other t long also positive weighed =
    let p = int_at other c in
    let entries = combined p t.aim (int_at t.aim c) other in
    let all = (p *ℤ t.weight) ∷ entries in
    let above = mul_positive p t.weight positive weighed in
    let some : zero < nat_abs (p *ℤ t.weight) = omega (arith, ints, above) in
    let divisor : zero < common all = pos_of_dvd_of_pos (common-dvd all 0) some in
    record {
      times = pos (common all);
      positive = omega (arith, ints, divisor);
      each = λ k lt. divided entries (common all) k divisor (common-dvd all (suc k))
          ∙ at-combined p (int_at t.aim c) t.aim other k (omega (arith, lt, long)) (omega (arith, long, also));
      weight = exact (common all) (p *ℤ t.weight) divisor (common-dvd all 0);
    }

pub IsFreedAim-freed_aim : (c n : ℕ) (other : List ℤ) (t : Tableau) → length t.aim ≡ n → length other ≡ n + 1 → pos 0 <ℤ int_at other c → pos 0 <ℤ t.weight
    → IsFreedAim n (int_at other c) (int_at t.aim c) other t (freed_aim c other t)
IsFreedAim-freed_aim c n other t long also positive weighed = by (is_zero (int_at t.aim c)) refl
  where
    by : (test : Bool) → is_zero (int_at t.aim c) ≡ test
        → IsFreedAim n (int_at other c) (int_at t.aim c) other t (cond test t (combined_aim c other t))
    by true e = record {
      times = int_at other c;
      positive = positive;
      each = λ k lt. kept_place (int_at other c) (int_at t.aim c) (int_at t.aim k) (int_at other k) (is_zero-true (int_at t.aim c) e);
      weight = refl;
    }
    by false e = IsFreedAim-combined c n other t long also positive weighed

pub length-freed_aim : (c n : ℕ) (other : List ℤ) (t : Tableau) → length t.aim ≡ n → length other ≡ n + 1 → length (freed_aim c other t).aim ≡ n
length-freed_aim c n other t long also = by (is_zero (int_at t.aim c))
  where
    entries : List ℤ
    entries = combined (int_at other c) t.aim (int_at t.aim c) other

    divisor : ℤ
    divisor = pos (common ((int_at other c *ℤ t.weight) ∷ entries))

    by : (test : Bool) → length (cond test t (combined_aim c other t)).aim ≡ n
    by true = long
    by false = length-map entries (λ a. int_div_euclid a divisor)
        ∙ length-combined (int_at other c) (int_at t.aim c) t.aim other (omega (arith, long, also)) ∙ long

pub turned-freed_aim : (c : ℕ) (other : List ℤ) (t : Tableau) → (freed_aim c other t).turned ≡ t.turned
turned-freed_aim c other t = by (is_zero (int_at t.aim c))
  where
    by : (test : Bool) → (cond test t (combined_aim c other t)).turned ≡ t.turned
    by true = refl
    by false = refl

-- ---- the tableau

-- what a pivot at column c in row r leaves, where a row has n numbers and then its value
pub record IsPivot (n c r : ℕ) (t after : Tableau) : Type 0 where
  pub rows : length after.rows ≡ length t.rows
  pub turns : after.turned ≡ t.turned
  pub same : (row_at after r).numbers ≡ (row_at t r).numbers
  pub basic : basic_at after r ≡ c
  pub basics : (i : ℕ) → i < length t.rows → (i ≡ r → ⊥) → basic_at after i ≡ basic_at t i
  pub sizes : (i : ℕ) → i < length t.rows → (i ≡ r → ⊥) → length (row_at after i).numbers ≡ n + 1
  pub freed : (i : ℕ) → i < length t.rows → (i ≡ r → ⊥)
      → IsFreed (n + 1) (entry_at t r c) (entry_at t i c) (row_at t i).numbers (row_at t r).numbers (row_at after i).numbers
  pub aims : length after.aim ≡ n
  pub aim : IsFreedAim n (entry_at t r c) (int_at t.aim c) (row_at t r).numbers t after

module _ (c r : ℕ) (t : Tableau) where
  abbrev rows_freed : List TableauRow
  rows_freed = map (freed_row c (row_at t r).numbers) t.rows

  abbrev new_row : TableauRow
  new_row = record { numbers = (row_at t r).numbers; basic = c }

  row_at-pivoted_same : r < length t.rows → row_at (pivoted c r t) r ≡ new_row
  row_at-pivoted_same lt = get_or-set_same rows_freed r new_row no_row (omega (arith, lt, length-map t.rows (freed_row c (row_at t r).numbers)))

  row_at-pivoted_other : (i : ℕ) → i < length t.rows → (i ≡ r → ⊥) → row_at (pivoted c r t) i ≡ freed_row c (row_at t r).numbers (row_at t i)
  row_at-pivoted_other i lt other =
      get_or-set_other rows_freed r i new_row no_row other ∙ get_or-map (freed_row c (row_at t r).numbers) t.rows i no_row no_row lt

pub IsPivot-pivoted : (n c r : ℕ) (t : Tableau) → r < length t.rows → ((i : ℕ) → i < length t.rows → length (row_at t i).numbers ≡ n + 1)
    → length t.aim ≡ n → pos 0 <ℤ entry_at t r c → pos 0 <ℤ t.weight → IsPivot n c r t (pivoted c r t)
IsPivot-pivoted n c r t lt sized long positive weighed =
    let other = (row_at t r).numbers in
    let same = row_at-pivoted_same c r t lt in
    let rest = row_at-pivoted_other c r t in
    record {
      rows = length-set (rows_freed c r t) r (new_row c r t) ∙ length-map t.rows (freed_row c other);
      turns = turned-freed_aim c other t;
      same = ap (λ (row : TableauRow). row.numbers) same;
      basic = ap (λ (row : TableauRow). row.basic) same;
      basics = λ i h ne. ap (λ (row : TableauRow). row.basic) (rest i h ne) ∙ basic-freed_row c other (row_at t i);
      sizes = λ i h ne. ap (λ (row : TableauRow). length row.numbers) (rest i h ne) ∙ length-freed_row c (n + 1) other (row_at t i) (sized i h) (sized r lt);
      freed = λ i h ne. subst (λ (row : TableauRow). IsFreed (n + 1) (int_at other c) (entry_at t i c) (row_at t i).numbers other row.numbers)
          (sym (rest i h ne)) (IsFreed-row c (n + 1) other (row_at t i) (sized i h) (sized r lt) positive);
      aims = length-freed_aim c n other t long (sized r lt);
      aim = aim_of (IsFreedAim-freed_aim c n other t long (sized r lt) positive weighed);
    }
  where
    aim_of : IsFreedAim n (entry_at t r c) (int_at t.aim c) (row_at t r).numbers t (freed_aim c (row_at t r).numbers t)
        → IsFreedAim n (entry_at t r c) (int_at t.aim c) (row_at t r).numbers t (pivoted c r t)
    aim_of h = record { times = h.times; positive = h.positive; each = h.each; weight = h.weight }
