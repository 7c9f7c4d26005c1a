-- What the phases over short rows leave as it is: the places of a mask, the ends of the columns, and that all of it is a setting.
use Rattle.std.proofs.Common.{◌≡◌, ℕ, zero, suc, ◌+◌, ◌-◌, ◌<◌, ◌≤◌, ◌^◌, ◌&&◌, nat_abs, nat_lt, nat_le, Bool, true, false, cond, List, [], ◌∷◌, ◌++◌, All, Any, ◌⊎◌, inl, inr, length, Option, Some, None, refl, ap, sym, subst, ◌∙◌, arith, add-one}
use Rattle.std.specs.Prelude.{ℤ, pos, negsuc, take}
use Rattle.std.proofs.lemmas.Bool.{cond-true, cond-false, cond_both, and_left, ltb-true, ltb-false, leb-false, lt-ltb, le-ltb, lt-leb}
use Rattle.std.proofs.lemmas.List.{length_push, append-nil, take_more, take_all, get_or_default}
use Rattle.std.proofs.lemmas.List.Elements.{All-nil, All-cons, All-push}
use Rattle.pc_model.specs.Places.{has_bit}
use Rattle.pc_program_bound.specs.declared.program.Program.{Program}
use Rattle.pc_program_bound.specs.Sums.{nat_at, int_at}
use Rattle.pc_program_bound.specs.Allocation.{IsProgram, IsBox, cells_of, constraints_of}
use Rattle.pc_simplex_tableau.specs.Numbers.{table}
use Rattle.pc_simplex_tableau.specs.Tableau.{Columns, is_helper}
use Rattle.pc_simplex_tableau.specs.Relaxation.{columns_of, slack_of, helper_of, ranges_of, phase_one, is_short, IsFrame}
use Rattle.pc_simplex_tableau.specs.Standing.{gain_one, gain_two}
use Rattle.pc_simplex_tableau.proofs.Frames.{IsFrame-ranges}
use Rattle.pc_simplex_tableau.proofs.Listed.{length-table, at-table}
use Rattle.pc_simplex_tableau.proofs.Tables.{All-table}
use Rattle.pc_simplex_short.specs.Short.{ShortSetting}
use Rattle.pc_simplex_short.specs.Kept.{IsSetting, IsSlackOf, ArePlaces}
use Rattle.pc_simplex.specs.Shorts.{AreColumns, places_below, column_places, setting_of}

-- ---- the places of a mask
places_below-zero : (mask : ℕ) → places_below 0 mask ≡ []
unfolding places_below
places_below-zero mask = refl

places_below-suc : (n mask : ℕ) → places_below (suc n) mask ≡ places_below n mask ++ cond (has_bit mask n) (n ∷ []) []
unfolding places_below
places_below-suc n mask = refl

pub no_places : (mask : ℕ) → [] ≡ places_below 0 mask
no_places mask = sym (places_below-zero mask)

-- a place joins the list only where its bit is set
pub places_below-by : (P : List ℕ → Type 0) (n mask : ℕ) → (has_bit mask n ≡ true → P (places_below n mask ++ n ∷ []))
    → (has_bit mask n ≡ false → P (places_below n mask)) → P (places_below (suc n) mask)
places_below-by P n mask more same = rw (places_below-suc n mask) (by (has_bit mask n) refl)
  where
    by : (test : Bool) → has_bit mask n ≡ test → P (places_below n mask ++ cond test (n ∷ []) [])
    by true e = more e
    by false e = rw (append-nil (places_below n mask)) (same e)

pub places_more : (places : List ℕ) (n mask : ℕ) → places ≡ places_below n mask → has_bit mask n ≡ true → places ++ n ∷ [] ≡ places_below (n + 1) mask
places_more places n mask e bit = rw (e, add-one, places_below-suc n mask, bit) refl

pub places_same : (places : List ℕ) (n mask : ℕ) → places ≡ places_below n mask → has_bit mask n ≡ false → places ≡ places_below (n + 1) mask
places_same places n mask e bit = rw (e, add-one, places_below-suc n mask, bit) (sym (append-nil (places_below n mask)))

pub ruleset place_steps = (no_places, places_more, places_same)

pub places_few : (n mask : ℕ) → length (places_below n mask) ≤ n
places_few zero mask = rw (places_below-zero mask) (omega arith)
places_few (suc n) mask =
    let before = places_few n mask in
    let one = length_push (places_below n mask) n in
    places_below-by (λ places. length places ≤ suc n) n mask (λ bit. omega (arith, before, one)) (λ none. omega (arith, before))

pub places_within : (most n mask : ℕ) → n ≤ most → All (λ j. j < most) (places_below n mask)
places_within most zero mask le = rw (places_below-zero mask) (All-nil (λ j. j < most))
places_within most (suc n) mask le =
    let before = places_within most n mask (omega (arith, le)) in
    places_below-by (All (λ j. j < most)) n mask (λ bit. All-push (λ j. j < most) (places_below n mask) n before (omega (arith, le))) (λ none. before)

-- ---- the columns of the phases
module _ (p : Program) (floors caps : List ℕ) (program : IsProgram p) (box : IsBox p floors caps) where
  range_small : (k : ℕ) → k < cells_of p + constraints_of p → nat_at (ranges_of p floors caps) k < 2 ^ 64
  range_small k lt = by (nat_lt k (cells_of p)) refl
    where
      frame : IsFrame p floors caps (phase_one p floors caps)
      frame = IsFrame-ranges p floors caps None

      cell : k < cells_of p → nat_at (ranges_of p floors caps) k < 2 ^ 64
      cell own =
          let is = frame.cells k own in
          let inside = box.inside k own in
          let small = program.small_cap k own in
          omega (arith, is, inside.2, small)

      slack : cells_of p ≤ k → nat_at (ranges_of p floors caps) k < 2 ^ 64
      slack past =
          let j = k - cells_of p in
          let here : slack_of p j ≡ k = omega (arith, past) in
          let own : j < constraints_of p = omega (arith, past, lt) in
          let is = ap (nat_at (ranges_of p floors caps)) (sym here) ∙ frame.slacks j own in
          let small = program.small_most j own in
          omega (arith, is, small)

      by : (test : Bool) → nat_lt k (cells_of p) ≡ test → nat_at (ranges_of p floors caps) k < 2 ^ 64
      by true e = cell (ltb-true k (cells_of p) e)
      by false e = slack (ltb-false k (cells_of p) e)

  pub columns_are : columns_of p < 2 ^ 32 → AreColumns p (phase_one p floors caps)
  columns_are few = record {
    count = refl;
    ranges = long;
    few = few;
    ends = λ k u e. by k u (is_helper (phase_one p floors caps) k) refl e;
  }
    where
      long : length (ranges_of p floors caps) ≡ cells_of p + constraints_of p
      long = (IsFrame-ranges p floors caps None).ranges

      by : (k u : ℕ) (test : Bool) → is_helper (phase_one p floors caps) k ≡ test
          → cond {A = Option ℕ} test None (Some (nat_at (ranges_of p floors caps) k)) ≡ Some u → u < 2 ^ 64
      by k u true e h = absurd cc
      by k u false e h =
          let before = leb-false (length (ranges_of p floors caps)) k e in
          let small = range_small k (omega (arith, before, long)) in
          let is : nat_at (ranges_of p floors caps) k ≡ u = cc in
          omega (arith, small, is)

pub second_columns : (p : Program) (f : Columns) → AreColumns p f → AreColumns p (record f { helper = Some 0 })
second_columns p f are = record { count = are.count; ranges = are.ranges; few = are.few; ends = λ k u e. by k u (is_helper f k) refl e }
  where
    by : (k u : ℕ) (test : Bool) → is_helper f k ≡ test → cond {A = Option ℕ} test (Some 0) (Some (nat_at f.ranges k)) ≡ Some u → u < 2 ^ 64
    by k u true e h = let none : 0 ≡ u = cc in omega (arith, none)
    by k u false e h = are.ends k u (cond-false (is_helper f k) f.helper (Some (nat_at f.ranges k)) e ∙ h)

-- ---- a setting
module _ (p : Program) (columns : Columns) (gain : ℕ → ℤ) (top : ℕ) (program : IsProgram p) (are : AreColumns p columns) where
  abbrev f : ShortSetting
  f = setting_of p columns (table (columns_of p) gain) top

  places_are : (k : ℕ) → k < columns_of p → ArePlaces f (column_places p k)
  places_are k lt = cond_both (nat_lt k (cells_of p)) _ _ (ArePlaces f) cell
      (λ past. cond_both (nat_lt k (helper_of p 0)) _ _ (ArePlaces f) (λ e. slack past e) helper)
    where
      cell : nat_lt k (cells_of p) ≡ true → ArePlaces f (places_below (constraints_of p) (nat_at p.masks k))
      cell e =
          let few = places_few (constraints_of p) (nat_at p.masks k) in
          let all = program.few in
          record { few = omega (arith, few, all); within = places_within (constraints_of p) (constraints_of p) (nat_at p.masks k) (omega arith) }

      one : (j : ℕ) → j < constraints_of p → ArePlaces f (j ∷ [])
      one j own = record { few = omega arith; within = All-cons (λ i. i < constraints_of p) j [] own (All-nil (λ i. i < constraints_of p)) }

      slack : nat_lt k (cells_of p) ≡ false → nat_lt k (helper_of p 0) ≡ true → ArePlaces f ((k - cells_of p) ∷ [])
      slack past e =
          let above = ltb-false k (cells_of p) past in
          let below = ltb-true k (helper_of p 0) e in
          one (k - cells_of p) (omega (arith, above, below))

      helper : nat_lt k (helper_of p 0) ≡ false → ArePlaces f ((k - helper_of p 0) ∷ [])
      helper e = let above = ltb-false k (helper_of p 0) e in one (k - helper_of p 0) (omega (arith, above, lt))

  slack_place : (j : ℕ) → j < constraints_of p → column_places p (slack_of p j) ≡ j ∷ []
  slack_place j own =
      let here : slack_of p j - cells_of p ≡ j = omega arith in
      cond-false (nat_lt (slack_of p j) (cells_of p)) _ _ (le-ltb (slack_of p j) (cells_of p) (omega arith))
      ∙ cond-true (nat_lt (slack_of p j) (helper_of p 0)) _ _ (lt-ltb (slack_of p j) (helper_of p 0) (omega (arith, own)))
      ∙ ap (λ i. i ∷ []) here

  pub IsSetting-of : 1 ≤ top → ((k : ℕ) → k < columns_of p → nat_abs (gain k) ≤ top) → ((j : ℕ) → j < constraints_of p → gain (slack_of p j) ≡ pos 0)
      → IsSetting f
  IsSetting-of some most gainless = record {
    ranges = (let long = are.ranges in let count = are.count in omega (arith, long, count));
    few = (let few = are.few in let count = are.count in omega (arith, few, count));
    ends = are.ends;
    listed = length-table (columns_of p) (column_places p) ∙ sym are.count;
    places = All-table (ArePlaces f) (columns_of p) (column_places p) places_are;
    gains = length-table (columns_of p) gain ∙ sym are.count;
    top = All-table (λ g. nat_abs g ≤ top) (columns_of p) gain most;
    some = some;
    slacks = λ j own. (slack_of p j, slack j own);
  }
    where
      within : (j : ℕ) → j < constraints_of p → slack_of p j < columns_of p
      within j own = omega (arith, own)

      slack : (j : ℕ) → j < constraints_of p → IsSlackOf f j (slack_of p j)
      slack j own = record {
        within = (let count = are.count in let lt = within j own in omega (arith, count, lt));
        place = at-table (columns_of p) (column_places p) (slack_of p j) [] (within j own) ∙ slack_place j own;
        gainless = at-table (columns_of p) gain (slack_of p j) (pos 0) (within j own) ∙ gainless j own;
      }

one_within : (test : Bool) → nat_abs (cond test (negsuc 0) (pos 0)) ≤ 1
one_within true = omega arith
one_within false = omega arith

pub first_is_setting : (p : Program) (floors : List ℕ) (columns : Columns) → IsProgram p → AreColumns p columns
    → IsSetting (setting_of p columns (table (columns_of p) (gain_one p floors)) 1)
first_is_setting p floors columns program are =
    IsSetting-of p columns (gain_one p floors) 1 program are (omega arith)
    (λ k lt. one_within (nat_le (helper_of p 0) k && is_short p floors (k - helper_of p 0)))
    (λ j own. cond-false _ _ _ (and_left (nat_le (helper_of p 0) (slack_of p j)) _ (lt-leb (helper_of p 0) (slack_of p j) (omega (arith, own)))))

pub second_is_setting : (p : Program) (columns : Columns) (top : ℕ) → IsProgram p → AreColumns p columns → 1 ≤ top → All (λ g. nat_abs g ≤ top) p.gain
    → IsSetting (setting_of p columns (table (columns_of p) (gain_two p)) top)
second_is_setting p columns top program are some most =
    IsSetting-of p columns (gain_two p) top program are some
    (λ k lt. cond_both (nat_lt k (cells_of p)) (int_at p.gain k) (pos 0) (λ g. nat_abs g ≤ top) (own k) (λ e. omega arith))
    (λ j lt. cond-false _ _ _ (le-ltb (slack_of p j) (cells_of p) (omega arith)))
  where
    own : (k : ℕ) → nat_lt k (cells_of p) ≡ true → nat_abs (int_at p.gain k) ≤ top
    own k e = most k (pos 0) (let lt = ltb-true k (cells_of p) e in omega (arith, lt, program.gains))

-- the settings as the code makes them: one of lists that were just made
pub made_is_setting : (p : Program) (floors : List ℕ) (columns : Columns) (places : List (List ℕ)) (gains : List ℤ) (constraints : ℕ)
    → places ≡ table (columns_of p) (column_places p) → gains ≡ table (columns_of p) (gain_one p floors) → constraints ≡ constraints_of p
    → IsProgram p → AreColumns p columns → IsSetting (record { columns = columns; places = places; gains = gains; top = 1; constraints = constraints })
made_is_setting p floors columns places gains constraints placed gained counted program are =
    rw (placed, gained, counted) (first_is_setting p floors columns program are)

-- and one made anew of the parts of an older one
pub renewed_is_setting : (p : Program) (setting parts : ShortSetting) (columns : Columns) (gains : List ℤ) (top : ℕ)
    → parts ≡ setting → columns ≡ parts.columns → setting ≡ setting_of p setting.columns setting.gains setting.top
    → gains ≡ table (columns_of p) (gain_two p) → IsProgram p → AreColumns p setting.columns → 1 ≤ top → All (λ g. nat_abs g ≤ top) p.gain
    → IsSetting (record { columns = record columns { helper = Some 0 }; places = parts.places; gains = gains; top = top; constraints = parts.constraints })
renewed_is_setting p setting parts columns gains top same own is made program are some most =
    let placed = ap (λ (f : ShortSetting). f.places) (same ∙ is) in
    let counted = ap (λ (f : ShortSetting). f.constraints) (same ∙ is) in
    let kept = own ∙ ap (λ (f : ShortSetting). f.columns) same in
    rw (placed, counted, kept, made)
    (second_is_setting p (record setting.columns { helper = Some 0 }) top program (second_columns p setting.columns are) some most)

-- ---- a number that no gain exceeds; the items are the gains as they are read
pub none_exceeds_more : (top next : ℕ) (gains items : List ℤ) (i : ℕ) → items ≡ gains → i < length items
    → All (λ g. nat_abs g ≤ top) (take i gains) → top ≤ next → nat_abs (int_at items i) ≤ next → All (λ g. nat_abs g ≤ next) (take (i + 1) gains)
none_exceeds_more top next gains items i e lt before more own =
    let within : i < length gains = rw e at lt in
    let size : nat_abs (int_at gains i) ≤ next = rw e at own in
    rw (take_more gains i (pos 0) within)
    (All-push (λ g. nat_abs g ≤ next) (take i gains) (int_at gains i) (λ k d below. (let old = before k d below in omega (arith, old, more))) size)

-- the size of one of them, or of the greatest before, is that of some
pub some_reaches : (top next : ℕ) (gains items : List ℤ) (i : ℕ) → items ≡ gains → i < length items
    → ((top ≡ 1) ⊎ Any (λ g. nat_abs g ≡ top) gains) → (next ≡ top) ⊎ (next ≡ nat_abs (int_at items i)) → (next ≡ 1) ⊎ Any (λ g. nat_abs g ≡ next) gains
some_reaches top next gains items i e lt before (inl same) = subst (λ t. (t ≡ 1) ⊎ Any (λ g. nat_abs g ≡ t) gains) (sym same) before
some_reaches top next gains items i e lt before (inr own) =
    let within : i < length gains = rw e at lt in
    let size : nat_abs (int_at gains i) ≡ next = rw e at (sym own) in
    inr (i, int_at gains i, within, get_or_default gains i (int_at gains i) (pos 0) within, size)

pub none_exceeds_all : (top : ℕ) (gains items : List ℤ) (i : ℕ) → items ≡ gains → length items ≤ i → All (λ g. nat_abs g ≤ top) (take i gains)
    → All (λ g. nat_abs g ≤ top) gains
none_exceeds_all top gains items i e past all = let whole : length gains ≤ i = rw e at past in rw (take_all i gains whole) at all
