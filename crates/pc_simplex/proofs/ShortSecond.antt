-- A short tableau with no constraint in its objective row, and where the second phase starts.
use Rattle.std.proofs.Common.{◌≡◌, ℕ, ◌^◌, ◌<◌, ◌≤◌, Bool, true, false, cond, nat_lt, List, [], ◌∷◌, ◌++◌, map, length, refl, ap, sym, ◌∙◌, arith}
use Rattle.std.specs.Prelude.{ℤ, pos, neg_ℤ, ◌+ℤ◌, ◌*ℤ◌, slice_index_or}
use Rattle.std.proofs.lemmas.Int.{ints, by_lt_z}
use Rattle.std.proofs.lemmas.List.{get_or_past}
use Rattle.std.proofs.lemmas.List.Elements.{All-weaker}
use Rattle.pc_program_bound.specs.declared.program.Program.{Program}
use Rattle.pc_program_bound.specs.Sums.{int_at}
use Rattle.pc_program_bound.specs.Allocation.{cells_of, constraints_of}
use Rattle.pc_simplex_tableau.specs.Numbers.{table}
use Rattle.pc_simplex_tableau.specs.Tableau.{TableauRow, Tableau, Columns}
use Rattle.pc_simplex_tableau.specs.Relaxation.{columns_of, with_gains}
use Rattle.pc_simplex_tableau.specs.Standing.{gain_two}
use Rattle.pc_simplex_tableau.proofs.Listed.{length-table, at-table}
use Rattle.pc_simplex_tableau.proofs.Tables.{All-table}
use Rattle.pc_simplex_short.specs.Short.{ShortSetting, mix, signed, places_of, entry, spelled_row, aim_entry, spelled_aim, spelled}
use Rattle.pc_simplex_short.specs.Kept.{IsWithin, IsShortRow, IsShortAim, IsShort}
use Rattle.pc_simplex_short.proofs.Spelled.{is_aim}
use Rattle.pc_simplex.specs.Aims.{gain_at}
use Rattle.pc_simplex.specs.Shorts.{setting_of, no_aim, second_short}

-- ---- no constraint in the objective row

pub mix_none : (places : List ℕ) (numbers : List ℤ) → ((j : ℕ) → int_at numbers j ≡ pos 0) → mix places numbers ≡ pos 0
unfolding mix
mix_none [] numbers none = refl
mix_none (j ∷ places) numbers none = let rest = mix_none places numbers none in let here = none j in omega (arith, ints, here, rest)

no_aim-none : (p : Program) (j : ℕ) → int_at (no_aim p) j ≡ pos 0
no_aim-none p j = by_lt_z (pos j) (pos (constraints_of p))
    (λ less. at-table (constraints_of p) (λ i. pos 0) j (pos 0) (omega (arith, ints, less)))
    (λ past. (let long = length-table (constraints_of p) (λ i. pos 0) in get_or_past (no_aim p) j (pos 0) (omega (arith, ints, long, past))))

whole : (x y : ℤ) → y ≡ pos 0 → pos 1 *ℤ x +ℤ y ≡ x
whole x y e = omega (arith, ints, e)

-- then an objective row of weight 1 has the gains alone
pub gain_alone : (p : Program) (f : ShortSetting) (turned : List Bool) (k : ℕ) (gain : ℤ) → int_at f.gains k ≡ gain
    → aim_entry f turned (pos 1) (no_aim p) k ≡ signed (slice_index_or turned k false) gain
gain_alone p f turned k gain e =
    ap (signed (slice_index_or turned k false))
    (whole (int_at f.gains k) (mix (places_of f k) (no_aim p)) (mix_none (places_of f k) (no_aim p) (no_aim-none p)) ∙ e)

pub no_aim-short : (p : Program) (f : ShortSetting) → f.constraints ≡ constraints_of p → f.top ≤ 2 ^ 69 → IsShortAim f (pos 1) (no_aim p)
no_aim-short p f count light = record {
  numbers = length-table (constraints_of p) (λ j. pos 0) ∙ sym count;
  small = All-table (IsWithin 64) (constraints_of p) (λ j. pos 0) (λ k lt. omega arith);
  light = omega (arith, light);
}

-- ---- the second phase

either_gain : (test cell : Bool) (a : ℤ) → signed test (cond cell a (pos 0)) ≡ cond cell (cond test (neg_ℤ a) a) (pos 0)
either_gain true true a = refl
either_gain true false a = refl
either_gain false cell a = refl

-- rows spell the same where the places and the number of columns are the same
same_rows : (p : Program) (f g : Columns) (gains more : List ℤ) (top other : ℕ) (turned : List Bool) (rows : List TableauRow) → g.count ≡ f.count
    → map (spelled_row (setting_of p g more other) turned) rows ≡ map (spelled_row (setting_of p f gains top) turned) rows
same_rows p f g gains more top other turned rows e =
    ap (λ n. map (λ (row : TableauRow). record {
      numbers = table n (entry (setting_of p f gains top) turned row.numbers) ++ int_at row.numbers (constraints_of p) ∷ [];
      basic = row.basic;
    }) rows) e

pub same_parts : (rows more : List TableauRow) (turned : List Bool) (aim other : List ℤ) → rows ≡ more → aim ≡ other
    → ◌≡◌ {A = Tableau} (record { rows = rows; turned = turned; aim = aim; weight = pos 1 }) (record { rows = more; turned = turned; aim = other; weight = pos 1 })
same_parts rows more turned aim other e d = rw (e, d) refl

module _ (p : Program) (g : Columns) (other : ℕ) (turned : List Bool) (count : g.count ≡ columns_of p) where
  abbrev gains_two : List ℤ
  gains_two = table (columns_of p) (gain_two p)

  abbrev second_setting : ShortSetting
  second_setting = setting_of p g gains_two other

  abbrev aim : List ℤ
  aim = table (columns_of p) (gain_at p turned)

  aim_at : (k : ℕ) → k < g.count → int_at aim k ≡ aim_entry second_setting turned (pos 1) (no_aim p) k
  aim_at k lt =
      let below : k < columns_of p = omega (arith, lt, count) in
      at-table (columns_of p) (gain_at p turned) k (pos 0) below
      ∙ sym (gain_alone p second_setting turned k (gain_two p k) (at-table (columns_of p) (gain_two p) k (pos 0) below)
      ∙ either_gain (slice_index_or turned k false) (nat_lt k (cells_of p)) (int_at p.gain k))

  aim_is : aim ≡ spelled_aim second_setting turned (pos 1) (no_aim p)
  aim_is = is_aim second_setting turned (pos 1) (no_aim p) aim (length-table (columns_of p) (gain_at p turned) ∙ sym count) aim_at

pub second_spells : (p : Program) (f g : Columns) (gains : List ℤ) (top other : ℕ) (t : Tableau) → f.count ≡ columns_of p → g.count ≡ columns_of p
    → length t.turned ≡ columns_of p
    → spelled (setting_of p g (table (columns_of p) (gain_two p)) other) (second_short p t) ≡ with_gains p (spelled (setting_of p f gains top) t)
second_spells p f g gains top other t first second long =
    same_parts _ _ t.turned _ _ (same_rows p f g gains (table (columns_of p) (gain_two p)) top other t.turned t.rows (second ∙ sym first))
    (sym (aim_is p g other t.turned second))

pub second_is_short : (p : Program) (f g : Columns) (gains more : List ℤ) (top other : ℕ) (t : Tableau) → f.count ≡ g.count → other ≤ 2 ^ 69
    → IsShort (setting_of p f gains top) t → IsShort (setting_of p g more other) (second_short p t)
second_is_short p f g gains more top other t e light short = record {
  rows = All-weaker (IsShortRow (setting_of p f gains top)) (IsShortRow (setting_of p g more other))
      (λ row own. record { numbers = own.numbers; basic = omega (arith, own.basic, e); small = own.small }) t.rows short.rows;
  turned = short.turned ∙ e;
  aim = no_aim-short p (setting_of p g more other) refl light;
}
