-- Tableaus that stand in short form, and steps that make no others.
use Rattle.std.specs.Prelude.{◌≡◌, ◌<◌, ℕ, zero, suc, ℤ, Bool, List, map, All, Some, None}
use Rattle.pc_simplex_tableau.specs.Tableau.{TableauRow, Tableau, Columns, Way, turning, pivoting, turning_and_pivoting, row_at, turned, pivoted, freed_aim, entering, deciding, end_of, after_step}
use Rattle.pc_simplex_short.specs.Short.{ShortSetting, spelled_aim, spelled, turned_short, freed_short, pivoted_short}
use Rattle.pc_simplex_short.specs.Kept.{IsSmallRow, IsShortAim, IsShort}

-- a tableau that stands in short form, with small numbers
pub record HasShort (f : ShortSetting) (t : Tableau) : Type 0 where
  pub short : Tableau
  pub small : IsShort f short
  pub same : spelled f short ≡ t

-- an objective row and its weight that stand in short form, with small numbers
pub record HasShortAim (f : ShortSetting) (turned : List Bool) (t : Tableau) : Type 0 where
  pub short : List ℤ
  pub small : IsShortAim f t.weight short
  pub same : spelled_aim f turned t.weight short ≡ t.aim

-- ---- a run

-- what is turned, and what is then pivoted
pub record IsShortBoth (f : ShortSetting) (c b r : ℕ) (t : Tableau) : Type 0 where
  pub first : HasShort f (turned f.columns b (end_of f.columns b) t)
  pub last : HasShort f (pivoted c r (turned f.columns b (end_of f.columns b) t))

-- all that a step makes stands in short form
abbrev pub IsShortStep : ShortSetting → ℕ → ℕ → Way → Tableau → Type 0
IsShortStep f c b turning t = HasShort f (turned f.columns c (end_of f.columns c) t)
IsShortStep f c b (pivoting r) t = HasShort f (pivoted c r t)
IsShortStep f c b (turning_and_pivoting r) t = IsShortBoth f c b r t

-- the step in which column c enters
abbrev pub IsShortAt : ShortSetting → ℕ → Tableau → Type 0
IsShortAt f c t = IsShortStep f c (deciding f.columns c t).column (deciding f.columns c t).way t

abbrev pub stepped : Columns → ℕ → Tableau → Tableau
stepped f c t = after_step f c (deciding f c t).column (deciding f c t).way t

-- the tableau after so many steps, or after the last one
unfoldable pub after_steps : Columns → ℕ → Tableau → Tableau
after_steps f zero t = t
after_steps f (suc n) t = elim (entering f t) [ None ↦ t | Some c ↦ after_steps f n (stepped f c t) ]

-- each of so many steps from what a short tableau spells makes what stands in short form
pub record StaysShort (f : ShortSetting) (most : ℕ) (start : Tableau) : Type 0 where
  pub each : (n c : ℕ) → n < most → Some c ≡ entering f.columns (after_steps f.columns n (spelled f start))
      → IsShortAt f c (after_steps f.columns n (spelled f start))

-- ---- from a short tableau

abbrev pub HasShortTurn : ShortSetting → ℕ → ℕ → Tableau → Type 0
HasShortTurn f c u t = HasShort f (turned f.columns c u (spelled f t))

abbrev pub HasShortPivot : ShortSetting → ℕ → ℕ → Tableau → Type 0
HasShortPivot f c r t = HasShort f (pivoted c r (spelled f t))

abbrev pub HasShortFreeing : ShortSetting → ℕ → ℕ → Tableau → Type 0
HasShortFreeing f c r t = HasShort f (freed_aim c (row_at (spelled f t) r).numbers (spelled f t))

abbrev pub HasShortBoth : ShortSetting → ℕ → ℕ → ℕ → Tableau → Type 0
HasShortBoth f c b r t = IsShortBoth f c b r (spelled f t)

abbrev pub HasShortWay : ShortSetting → ℕ → ℕ → Way → Tableau → Type 0
HasShortWay f c b way t = IsShortStep f c b way (spelled f t)

-- ---- of short rows

abbrev pub IsSmallTurned : ShortSetting → List Bool → ℕ → ℕ → TableauRow → Type 0
IsSmallTurned f flags c u row = IsSmallRow (turned_short f flags c u row)

abbrev pub IsSmallFreed : ShortSetting → List Bool → ℕ → List ℤ → TableauRow → Type 0
IsSmallFreed f flags c other row = IsSmallRow (freed_short f flags c other row)

abbrev pub AreSmallTurned : ShortSetting → List Bool → ℕ → ℕ → List TableauRow → Type 0
AreSmallTurned f flags c u rows = All IsSmallRow (map (turned_short f flags c u) rows)

abbrev pub AreSmallFreed : ShortSetting → List Bool → ℕ → List ℤ → List TableauRow → Type 0
AreSmallFreed f flags c other rows = All IsSmallRow (map (freed_short f flags c other) rows)

abbrev pub AreSmallPivoted : ShortSetting → List Bool → ℕ → ℕ → List TableauRow → Type 0
AreSmallPivoted f flags c r rows = All IsSmallRow (pivoted_short f flags c r rows)
