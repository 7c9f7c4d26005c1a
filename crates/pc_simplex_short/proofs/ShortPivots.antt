-- What a short tableau spells after a pivot, or after its objective row is freed.
use Rattle.std.proofs.Common.{◌≡◌, ℕ, ◌+◌, ◌<◌, Bool, true, false, cond, List, [], ◌∷◌, map, set, get_or, length, All, refl, ap, ap₂, sym, subst, ◌∙◌}
use Rattle.std.specs.Prelude.{ℤ}
use Rattle.std.proofs.lemmas.List.{map-set, get_or_default}
use Rattle.std.proofs.lemmas.List.Elements.{All-head, All-tail, All-set, All-map}
use Rattle.pc_program_bound.specs.Sums.{int_at}
use Rattle.pc_simplex_tableau.specs.Numbers.{is_zero}
use Rattle.pc_simplex_tableau.specs.Tableau.{TableauRow, Tableau, no_row, row_at, freed_row, combined_aim, freed_aim, pivoted}
use Rattle.pc_simplex_tableau.specs.Conditions.{aim_alone, row_in}
use Rattle.pc_simplex_short.specs.Short.{ShortSetting, spelled_numbers, spelled_row, spelled_aim, spelled, freed_short, aim_from}
use Rattle.pc_simplex_short.specs.Kept.{IsWithin, IsSetting, IsShortRow, IsSmallRow, IsShort}
use Rattle.pc_simplex_short.specs.Stays.{HasShort, HasShortAim}
use Rattle.pc_simplex_short.proofs.Alike.{AreLong, small_rows, aim_held}
use Rattle.pc_simplex_short.proofs.Given.{length-freed_short}
use Rattle.pc_simplex_short.proofs.Spelled.{row_at-spelled}
use Rattle.pc_simplex_short.proofs.FreedRows.{freed-spelled}

-- the rows and the turns take no part where the objective row is freed
freed_split : (c : ℕ) (other : List ℤ) (t : Tableau) → freed_aim c other t ≡ record {
  rows = t.rows;
  turned = t.turned;
  aim = (freed_aim c other (aim_alone t.aim t.weight)).aim;
  weight = (freed_aim c other (aim_alone t.aim t.weight)).weight;
}
freed_split c other t = by (is_zero (int_at t.aim c))
  where
    by : (test : Bool) → cond test t (combined_aim c other t) ≡ record {
      rows = t.rows;
      turned = t.turned;
      aim = (cond test (aim_alone t.aim t.weight) (combined_aim c other (aim_alone t.aim t.weight))).aim;
      weight = (cond test (aim_alone t.aim t.weight) (combined_aim c other (aim_alone t.aim t.weight))).weight;
    }
    by true = refl
    by false = refl

module _ (f : ShortSetting) (h : IsSetting f) (t : Tableau) (s : IsShort f t) (c r : ℕ) (column : c < f.columns.count) (within : r < length t.rows) where
  abbrev own : List ℤ
  own = (row_at t r).numbers

  abbrev other : List ℤ
  other = spelled_numbers f t.turned own

  pub own_short : IsShortRow f (row_at t r)
  own_short = s.rows r no_row within

  other_is : other ≡ (row_at (spelled f t) r).numbers
  other_is = ap (λ (row : TableauRow). row.numbers) (sym (row_at-spelled f t r within))

  abbrev apart : List ℤ → Tableau
  apart numbers = freed_aim c numbers (aim_alone (spelled_aim f t.turned t.weight t.aim) t.weight)

  -- the objective row of what stands in short form
  pub freeing_aim : HasShort f (freed_aim c (row_at (spelled f t) r).numbers (spelled f t)) → HasShortAim f t.turned (apart other)
  freeing_aim held =
      let seen = (row_at (spelled f t) r).numbers in
      subst (λ numbers. HasShortAim f t.turned (apart numbers)) (sym other_is)
      (aim_held f t.turned (spelled f t).rows (apart seen) (subst (HasShort f) (freed_split c seen (spelled f t)) held))

  pub pivot_aim : HasShort f (pivoted c r (spelled f t)) → HasShortAim f t.turned (apart other)
  pivot_aim held =
      let seen = (row_at (spelled f t) r).numbers in
      subst (λ numbers. HasShortAim f t.turned (apart numbers)) (sym other_is)
      (aim_held f t.turned (rows_by seen) (apart seen) (subst (λ (x : Tableau). HasShort f (record x { rows = rows_by seen })) (freed_split c seen (spelled f t)) held))
    where
      rows_by : List ℤ → List TableauRow
      rows_by numbers = set (map (freed_row c numbers) (spelled f t).rows) r (record { numbers = numbers; basic = c })

  rows_long : AreLong f (set (map (freed_short f t.turned c own) t.rows) r (record { numbers = own; basic = c }))
  rows_long =
      All-set (λ (row : TableauRow). length row.numbers ≡ f.constraints + 1) (map (freed_short f t.turned c own) t.rows) r (record { numbers = own; basic = c })
      own_short.numbers
      (All-map (λ (row : TableauRow). length row.numbers ≡ f.constraints + 1) (freed_short f t.turned c own) t.rows
      (λ k d lt. let row = get_or t.rows k d in
      let long = (s.rows k d lt).numbers in
      length-freed_short f t.turned c own row (long ∙ sym own_short.numbers) ∙ long))

  freed_rows : (rows : List TableauRow) → All (IsShortRow f) rows
      → map (spelled_row f t.turned) (map (freed_short f t.turned c own) rows) ≡ map (freed_row c other) (map (spelled_row f t.turned) rows)
  freed_rows [] short = refl
  freed_rows (row ∷ rows) short =
      ap₂ ◌∷◌ (freed-spelled f t.turned h c own row column (All-head (IsShortRow f) row rows short).numbers own_short.numbers)
      (freed_rows rows (All-tail (IsShortRow f) row rows short))

  module _ (left : ℤ) (new : List ℤ)
      (aim_is : spelled_aim f t.turned left new ≡ (freed_aim c (spelled_numbers f t.turned (row_at t r).numbers) (aim_alone (spelled_aim f t.turned t.weight t.aim) t.weight)).aim)
      (weight_is : left ≡ (freed_aim c (spelled_numbers f t.turned (row_at t r).numbers) (aim_alone (spelled_aim f t.turned t.weight t.aim) t.weight)).weight) where
    freed_by_own : spelled f (record t { aim = new; weight = left }) ≡ freed_aim c other (spelled f t)
    freed_by_own = ap₂ (λ a w. with_aim a w) aim_is weight_is ∙ sym (freed_split c other (spelled f t))
      where
        with_aim : List ℤ → ℤ → Tableau
        with_aim a w = record { rows = map (spelled_row f t.turned) t.rows; turned = t.turned; aim = a; weight = w }

    pub freed_whole : spelled f (record t { aim = new; weight = left }) ≡ freed_aim c (row_at (spelled f t) r).numbers (spelled f t)
    freed_whole = freed_by_own ∙ ap (λ numbers. freed_aim c numbers (spelled f t)) other_is

    pub pivoted_whole : (rows : List TableauRow) → rows ≡ set (map (freed_short f t.turned c (row_at t r).numbers) t.rows) r (record { numbers = (row_at t r).numbers; basic = c })
        → spelled f (record { rows = rows; turned = t.turned; aim = new; weight = left }) ≡ pivoted c r (spelled f t)
    pivoted_whole rows e =
        let each =
        ap (map (spelled_row f t.turned)) e
        ∙ map-set (spelled_row f t.turned) (map (freed_short f t.turned c own) t.rows) r (record { numbers = own; basic = c })
        ∙ ap (λ l. set l r (own_row other)) (freed_rows t.rows s.rows) in
        ap₂ with_rows freed_by_own each ∙ ap pivoted_by other_is
      where
        own_row : List ℤ → TableauRow
        own_row numbers = record { numbers = numbers; basic = c }

        with_rows : Tableau → List TableauRow → Tableau
        with_rows after rows = record after { rows = rows }

        pivoted_by : List ℤ → Tableau
        pivoted_by numbers = with_rows (freed_aim c numbers (spelled f t)) (set (map (freed_row c numbers) (map (spelled_row f t.turned) t.rows)) r (own_row numbers))

-- ---- as the code does it, in whose hands the parts of the tableau are

module _ (f : ShortSetting) (h : IsSetting f) (t now : Tableau) (view : t ≡ now) (s : IsShort f now) (c r : ℕ) (column : c < f.columns.count) (lt : r < length now.rows)
    (row : TableauRow) (row_is : row ≡ get_or t.rows r row) where
  seen : (P : Tableau → Type 0) → P now → P t
  seen P p = subst P (sym view) p

  short : IsShort f t
  short = seen (IsShort f) s

  within : r < length t.rows
  within = seen (λ (x : Tableau). r < length x.rows) lt

  row_found : row ≡ row_at t r
  row_found = row_is ∙ get_or_default t.rows r row no_row within

  module _ (turned : List Bool) (turned_is : turned ≡ t.turned) (numbers : List ℤ) (numbers_is : numbers ≡ row.numbers) (aim : List ℤ) (aim_is : aim ≡ t.aim) where
    numbers_found : numbers ≡ (row_at t r).numbers
    numbers_found = numbers_is ∙ ap (λ (x : TableauRow). x.numbers) row_found

    pub found_long : length numbers ≡ f.constraints + 1
    found_long = rw numbers_found (own_short f h t short c r column within).numbers

    pub found_small : All (IsWithin 50) numbers
    found_small = subst (All (IsWithin 50)) (sym numbers_found) (own_short f h t short c r column within).small

    pub freeing_aim_given : HasShort f (freed_aim c (row_at (spelled f now) r).numbers (spelled f now)) → HasShortAim f turned (aim_from f c turned numbers t.weight aim)
    freeing_aim_given held = rw (turned_is, numbers_found, aim_is)
        (freeing_aim f h t short c r column within (seen (λ (x : Tableau). HasShort f (freed_aim c (row_at (spelled f x) r).numbers (spelled f x))) held))

    pub pivot_aim_given : HasShort f (pivoted c r (spelled f now)) → HasShortAim f turned (aim_from f c turned numbers t.weight aim)
    pivot_aim_given held = rw (turned_is, numbers_found, aim_is)
        (pivot_aim f h t short c r column within (seen (λ (x : Tableau). HasShort f (pivoted c r (spelled f x))) held))

    module _ (left : ℤ) (new : List ℤ) (freed : spelled_aim f turned left new ≡ (aim_from f c turned numbers t.weight aim).aim) (weighed : left ≡ (aim_from f c turned numbers t.weight aim).weight) where
      freed_there : spelled_aim f t.turned left new ≡ (aim_from f c t.turned (row_at t r).numbers t.weight t.aim).aim
      freed_there = rw (turned_is, numbers_found, aim_is) at freed

      weighed_there : left ≡ (aim_from f c t.turned (row_at t r).numbers t.weight t.aim).weight
      weighed_there = rw (turned_is, numbers_found, aim_is) at weighed

      pub after_freeing : spelled f (record { rows = t.rows; turned = t.turned; aim = new; weight = left }) ≡ freed_aim c (row_at (spelled f now) r).numbers (spelled f now)
      after_freeing =
          freed_whole f h t short c r column within left new freed_there weighed_there
          ∙ ap (λ (x : Tableau). freed_aim c (row_at (spelled f x) r).numbers (spelled f x)) view

      pub after_pivot : (again : List Bool) (old rows : List TableauRow) → again ≡ t.turned → old ≡ t.rows
          → rows ≡ set (map (freed_short f again c (row_in old r).numbers) old) r (record { numbers = (row_in old r).numbers; basic = c })
          → spelled f (record { rows = rows; turned = t.turned; aim = new; weight = left }) ≡ pivoted c r (spelled f now)
      after_pivot again old rows again_is old_is made =
          pivoted_whole f h t short c r column within left new freed_there weighed_there rows (rw (again_is, old_is) at made)
          ∙ ap (λ (x : Tableau). pivoted c r (spelled f x)) view

      pub pivot_rows_given : (again : List Bool) (old : List TableauRow) → again ≡ t.turned → old ≡ t.rows → HasShort f (pivoted c r (spelled f now))
          → All IsSmallRow (set (map (freed_short f again c (row_in old r).numbers) old) r (record { numbers = (row_in old r).numbers; basic = c }))
      pivot_rows_given again old again_is old_is held =
          small_rows f (after (rows_by again old)) h (rw (again_is, old_is) (rows_long f h t short c r column within))
          (record { short = held.short; small = held.small; same = held.same ∙ sym (after_pivot again old (rows_by again old) again_is old_is refl) })
        where
          rows_by : List Bool → List TableauRow → List TableauRow
          rows_by again old = set (map (freed_short f again c (row_in old r).numbers) old) r (record { numbers = (row_in old r).numbers; basic = c })

          after : List TableauRow → Tableau
          after rows = record { rows = rows; turned = t.turned; aim = new; weight = left }
