-- Short forms that spell the same have numbers of the same sizes.
use Rattle.std.proofs.Common.{◌≡◌, ℕ, ◌+◌, ◌<◌, Bool, List, map, length, get_or, All, ap, sym, subst, ◌∙◌, arith}
use Rattle.std.specs.Prelude.{ℤ, pos, nat_abs}
use Rattle.std.proofs.lemmas.List.{get_or-map, length-map}
use Rattle.std.proofs.lemmas.List.Elements.{All-from_get_or}
use Rattle.pc_program_bound.specs.Sums.{int_at}
use Rattle.pc_simplex_tableau.specs.Tableau.{TableauRow, Tableau, no_row}
use Rattle.pc_simplex_tableau.proofs.Pivots.{by_same}
use Rattle.pc_simplex_short.specs.Short.{ShortSetting, spelled_numbers, spelled_row, spelled_aim, spelled}
use Rattle.pc_simplex_short.specs.Kept.{IsWithin, IsSetting, IsShortRow, IsSmallRow, IsShortAim}
use Rattle.pc_simplex_short.specs.Stays.{HasShort, HasShortAim}
use Rattle.pc_simplex_short.proofs.Multiples.{slack-entry, slack-aim_entry}
use Rattle.pc_simplex_short.proofs.Spelled.{at-spelled, value-spelled, at-aim}

-- rows with a number for each constraint and a value
abbrev pub AreLong : ShortSetting → List TableauRow → Type 0
AreLong f = All (λ (row : TableauRow). length row.numbers ≡ f.constraints + 1)

module _ (f : ShortSetting) (turned : List Bool) (h : IsSetting f) where
  same_size : (xs ys : List ℤ) → spelled_numbers f turned ys ≡ spelled_numbers f turned xs → (j : ℕ) → j < f.constraints + 1
      → nat_abs (int_at ys j) ≡ nat_abs (int_at xs j)
  same_size xs ys same j lt = by_same j f.constraints value before
    where
      value : j ≡ f.constraints → nat_abs (int_at ys j) ≡ nat_abs (int_at xs j)
      value e = rw e (ap nat_abs (sym (value-spelled f turned ys) ∙ ap (λ l. int_at l f.columns.count) same ∙ value-spelled f turned xs))

      before : (j ≡ f.constraints → ⊥) → nat_abs (int_at ys j) ≡ nat_abs (int_at xs j)
      before other =
          let slack = h.slacks j (omega (arith, lt, other)) in
          let k = slack.0 in
          sym (slack-entry f turned ys j k slack.1)
          ∙ ap nat_abs (sym (at-spelled f turned ys k slack.1.within) ∙ ap (λ l. int_at l k) same ∙ at-spelled f turned xs k slack.1.within)
          ∙ slack-entry f turned xs j k slack.1

  small_as : (xs ys : List ℤ) → length xs ≡ f.constraints + 1 → length ys ≡ f.constraints + 1
      → spelled_numbers f turned ys ≡ spelled_numbers f turned xs → All (IsWithin 50) ys → All (IsWithin 50) xs
  small_as xs ys long also same small = All-from_get_or (IsWithin 50) xs (pos 0) (λ j lt.
      let below : j < f.constraints + 1 = omega (arith, lt, long) in
      let alike = same_size xs ys same j below in
      let own : IsWithin 50 (int_at ys j) = small j (pos 0) (omega (arith, below, also)) in
      omega (arith, alike, own))

  pub small_aim_as : (w : ℤ) (xs ys : List ℤ) → length xs ≡ f.constraints → length ys ≡ f.constraints
      → spelled_aim f turned w ys ≡ spelled_aim f turned w xs → All (IsWithin 64) ys → All (IsWithin 64) xs
  small_aim_as w xs ys long also same small = All-from_get_or (IsWithin 64) xs (pos 0) (λ j lt.
      let below : j < f.constraints = omega (arith, lt, long) in
      let slack = h.slacks j below in
      let k = slack.0 in
      let alike =
      sym (slack-aim_entry f turned w ys j k slack.1)
      ∙ ap nat_abs (sym (at-aim f turned w ys k slack.1.within) ∙ ap (λ l. int_at l k) same ∙ at-aim f turned w xs k slack.1.within)
      ∙ slack-aim_entry f turned w xs j k slack.1 in
      let own : IsWithin 64 (int_at ys j) = small j (pos 0) (omega (arith, below, also)) in
      omega (arith, alike, own))

  rows_small_as : (rows others : List TableauRow) → AreLong f rows → map (spelled_row f turned) others ≡ map (spelled_row f turned) rows
      → All (IsShortRow f) others → All IsSmallRow rows
  rows_small_as rows others long same short = All-from_get_or IsSmallRow rows no_row at_row
    where
      at_row : (i : ℕ) → i < length rows → IsSmallRow (get_or rows i no_row)
      at_row i lt =
          let own = get_or rows i no_row in
          let other = get_or others i no_row in
          let many : length others ≡ length rows = sym (length-map others (spelled_row f turned)) ∙ ap length same ∙ length-map rows (spelled_row f turned) in
          let within : i < length others = omega (arith, lt, many) in
          let alike : spelled_row f turned other ≡ spelled_row f turned own =
          sym (get_or-map (spelled_row f turned) others i no_row no_row within) ∙ ap (λ l. get_or l i no_row) same
          ∙ get_or-map (spelled_row f turned) rows i no_row no_row lt in
          let kept = short i no_row within in
          small_as own.numbers other.numbers (long i no_row lt) kept.numbers (ap (λ (row : TableauRow). row.numbers) alike) kept.small

-- the rows of a short tableau are small where what it spells stands in short form with small numbers
pub small_rows : (f : ShortSetting) (t : Tableau) → IsSetting f → AreLong f t.rows → HasShort f (spelled f t) → All IsSmallRow t.rows
small_rows f t h long s =
    let flags : s.short.turned ≡ t.turned = ap (λ (x : Tableau). x.turned) s.same in
    rows_small_as f t.turned h t.rows s.short.rows long
    (subst (λ seen. map (spelled_row f seen) s.short.rows ≡ map (spelled_row f t.turned) t.rows) flags (ap (λ (x : Tableau). x.rows) s.same)) s.small.rows

-- the objective row of a tableau that stands in short form
pub aim_held : (f : ShortSetting) (turned : List Bool) (rows : List TableauRow) (a : Tableau)
    → HasShort f (record { rows = rows; turned = turned; aim = a.aim; weight = a.weight }) → HasShortAim f turned a
aim_held f turned rows a s =
    let flags : s.short.turned ≡ turned = ap (λ (x : Tableau). x.turned) s.same in
    let weight : s.short.weight ≡ a.weight = ap (λ (x : Tableau). x.weight) s.same in
    let aim = ap (λ (x : Tableau). x.aim) s.same in
    record {
      short = s.short.aim;
      small = subst (λ w. IsShortAim f w s.short.aim) weight s.small.aim;
      same = rw (flags, weight) at aim;
    }

-- it is small where it is freed
pub aim_small : (f : ShortSetting) (turned : List Bool) (a : Tableau) (weight : ℤ) (aim : List ℤ) → IsSetting f → HasShortAim f turned a
    → spelled_aim f turned weight aim ≡ a.aim → weight ≡ a.weight → length aim ≡ f.constraints → IsShortAim f weight aim
aim_small f turned a weight aim h s aim_is weight_is long =
    let same : spelled_aim f turned a.weight aim ≡ a.aim = rw weight_is at aim_is in
    record {
      numbers = long;
      small = small_aim_as f turned h a.weight aim s.short long s.small.numbers (s.same ∙ sym same) s.small.small;
      light = rw weight_is s.small.light;
    }
