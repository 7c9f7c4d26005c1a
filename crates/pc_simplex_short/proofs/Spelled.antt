-- The numbers that a short row spells, place by place.
use Rattle.std.proofs.Common.{◌≡◌, ℕ, zero, suc, ◌+◌, ◌<◌, Bool, List, [], ◌∷◌, ◌++◌, length, refl, ap, ap₂, sym, ◌∙◌, arith}
use Rattle.std.specs.Prelude.{ℤ, pos}
use Rattle.std.proofs.lemmas.List.{get_or-map, length-map}
use Rattle.std.proofs.lemmas.Int.{ints, by_lt_z}
use Rattle.pc_program_bound.specs.Sums.{int_at}
use Rattle.pc_simplex_tableau.specs.Numbers.{table}
use Rattle.pc_simplex_tableau.specs.Tableau.{Tableau, no_row, row_at}
use Rattle.pc_simplex_tableau.proofs.Listed.{length-table, at-table}
use Rattle.pc_simplex_short.specs.Short.{ShortSetting, entry, spelled_numbers, spelled_row, aim_entry, spelled_aim, spelled}

-- lists of the same numbers
pub same_numbers : (xs ys : List ℤ) → length xs ≡ length ys → ((k : ℕ) → k < length ys → int_at xs k ≡ int_at ys k) → xs ≡ ys
same_numbers [] [] long each = refl
same_numbers [] (y ∷ ys) long each = absurd (omega (arith, long))
same_numbers (x ∷ xs) [] long each = absurd (omega (arith, long))
same_numbers (x ∷ xs) (y ∷ ys) long each =
    ap₂ ◌∷◌ (each 0 (omega arith)) (same_numbers xs ys (omega (arith, long)) (λ k lt. each (suc k) (omega (arith, lt))))

at_before : (xs : List ℤ) (y : ℤ) (k : ℕ) → k < length xs → int_at (xs ++ y ∷ []) k ≡ int_at xs k
at_before [] y k lt = absurd (omega (arith, lt))
at_before (x ∷ xs) y zero lt = refl
at_before (x ∷ xs) y (suc k) lt = at_before xs y k (omega (arith, lt))

at_end : (xs : List ℤ) (y : ℤ) (k : ℕ) → k ≡ length xs → int_at (xs ++ y ∷ []) k ≡ y
at_end [] y zero e = refl
at_end [] y (suc k) e = absurd (omega (arith, e))
at_end (x ∷ xs) y zero e = absurd (omega (arith, e))
at_end (x ∷ xs) y (suc k) e = at_end xs y k (omega (arith, e))

long_after : (xs : List ℤ) (y : ℤ) → length (xs ++ y ∷ []) ≡ suc (length xs)
long_after [] y = refl
long_after (x ∷ xs) y = ap suc (long_after xs y)

module _ (f : ShortSetting) (turned : List Bool) (numbers : List ℤ) where
  abbrev entries : List ℤ
  entries = table f.columns.count (entry f turned numbers)

  long : length entries ≡ f.columns.count
  long = length-table f.columns.count (entry f turned numbers)

  pub length-spelled : length (spelled_numbers f turned numbers) ≡ f.columns.count + 1
  length-spelled = omega (arith, long_after entries (int_at numbers f.constraints), long)

  pub at-spelled : (k : ℕ) → k < f.columns.count → int_at (spelled_numbers f turned numbers) k ≡ entry f turned numbers k
  at-spelled k lt =
      at_before entries (int_at numbers f.constraints) k (omega (arith, long, lt)) ∙ at-table f.columns.count (entry f turned numbers) k (pos 0) lt

  pub value-spelled : int_at (spelled_numbers f turned numbers) f.columns.count ≡ int_at numbers f.constraints
  value-spelled = at_end entries (int_at numbers f.constraints) f.columns.count (sym long)

  -- numbers that are what a short row spells at each column, and its value
  pub is_spelled : (xs : List ℤ) → length xs ≡ f.columns.count + 1 → ((k : ℕ) → k < f.columns.count → int_at xs k ≡ entry f turned numbers k)
      → int_at xs f.columns.count ≡ int_at numbers f.constraints → xs ≡ spelled_numbers f turned numbers
  is_spelled xs sized each value = same_numbers xs (spelled_numbers f turned numbers) (sized ∙ sym length-spelled) (λ k lt. by k (rw length-spelled at lt))
    where
      by : (k : ℕ) → k < f.columns.count + 1 → int_at xs k ≡ int_at (spelled_numbers f turned numbers) k
      by k lt = by_lt_z (pos k) (pos f.columns.count) (λ less. let below : k < f.columns.count = omega (arith, ints, less) in each k below ∙ sym (at-spelled k below))
          (λ above. let e : k ≡ f.columns.count = omega (arith, ints, above, lt) in ap (int_at xs) e ∙ value ∙ sym value-spelled ∙ ap (int_at (spelled_numbers f turned numbers)) (sym e))

module _ (f : ShortSetting) (turned : List Bool) (weight : ℤ) (aim : List ℤ) where
  pub length-aim : length (spelled_aim f turned weight aim) ≡ f.columns.count
  length-aim = length-table f.columns.count (aim_entry f turned weight aim)

  pub at-aim : (k : ℕ) → k < f.columns.count → int_at (spelled_aim f turned weight aim) k ≡ aim_entry f turned weight aim k
  at-aim k lt = at-table f.columns.count (aim_entry f turned weight aim) k (pos 0) lt

  pub is_aim : (xs : List ℤ) → length xs ≡ f.columns.count → ((k : ℕ) → k < f.columns.count → int_at xs k ≡ aim_entry f turned weight aim k)
      → xs ≡ spelled_aim f turned weight aim
  is_aim xs sized each = same_numbers xs (spelled_aim f turned weight aim) (sized ∙ sym length-aim)
      (λ k lt. let below : k < f.columns.count = rw length-aim at lt in each k below ∙ sym (at-aim k below))

pub row_at-spelled : (f : ShortSetting) (t : Tableau) (r : ℕ) → r < length t.rows → row_at (spelled f t) r ≡ spelled_row f t.turned (row_at t r)
row_at-spelled f t r lt = get_or-map (spelled_row f t.turned) t.rows r no_row no_row lt

pub rows-spelled : (f : ShortSetting) (t : Tableau) → length (spelled f t).rows ≡ length t.rows
rows-spelled f t = length-map t.rows (spelled_row f t.turned)
