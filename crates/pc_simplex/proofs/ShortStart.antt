-- The short tableau in which the first phase starts: what it spells, and that it is small.
use Rattle.std.proofs.Common.{◌≡◌, ℕ, zero, suc, ◌+◌, ◌-◌, ◌<◌, ◌≤◌, ◌==◌, ◌&&◌, Bool, true, false, cond, List, [], ◌∷◌, ◌++◌, map, length, None, refl, ap, ap₂, sym, subst, ◌∙◌, arith}
use Rattle.std.specs.Prelude.{ℤ, pos, negsuc, ◌+ℤ◌, ◌-ℤ◌, ◌*ℤ◌, ◌≤ℤ◌, int_lt}
use Rattle.std.proofs.lemmas.Int.{ints, by_lt_z}
use Rattle.std.proofs.lemmas.Bool.{cond-true, cond-false, lt-ltb, le-ltb, lt-leb, eq-eqb, ne_eqb}
use Rattle.std.proofs.lemmas.List.{length_push, get_or_push, get_or_append_left}
use Rattle.std.proofs.lemmas.List.Elements.{All-push}
use Rattle.pc_model.specs.Places.{has_bit}
use Rattle.pc_program_bound.specs.declared.program.Program.{Program}
use Rattle.pc_program_bound.specs.Sums.{nat_at, int_at}
use Rattle.pc_program_bound.specs.Allocation.{IsProgram, cells_of, constraints_of}
use Rattle.pc_simplex_tableau.specs.Numbers.{table, first_below}
use Rattle.pc_simplex_tableau.specs.Tableau.{TableauRow, Tableau, Columns, no_row, row_at, is_turned}
use Rattle.pc_simplex_tableau.specs.Relaxation.{columns_of, slack_of, helper_of, slack_range, left_of, is_short, first_row, first_tableau}
use Rattle.pc_simplex_tableau.specs.Standing.{entry_at, gain_one}
use Rattle.pc_simplex_tableau.proofs.Pivots.{by_same}
use Rattle.pc_simplex_tableau.proofs.Points.{first_below-none}
use Rattle.pc_simplex_tableau.proofs.Listed.{length-table, at-table}
use Rattle.pc_simplex_tableau.proofs.Tables.{All-table}
use Rattle.pc_simplex_tableau.proofs.StartRows.{start, length-start, basic-short, basic-long, slack-start, value-start, turned-cell, turned-slack, turned-helper}
use Rattle.pc_simplex_tableau.proofs.StartMeant.{cell-start, helper-start, other_helper-start, other_slack-start, by_short}
use Rattle.pc_simplex_short.specs.Short.{ShortSetting, mix, signed, entry, spelled_numbers, spelled_row, aim_entry, spelled_aim, spelled}
use Rattle.pc_simplex_short.specs.Kept.{IsWithin, IsShortRow, IsShort}
use Rattle.pc_simplex_short.proofs.Spelled.{is_spelled, is_aim}
use Rattle.pc_simplex.specs.Floors.{AreFloors, is_overfull, does_start_turned}
use Rattle.pc_simplex.specs.Shorts.{places_below, column_places, AreColumns, setting_of, short_value, unit_row, first_short_row, no_aim, first_short}
use Rattle.pc_simplex.proofs.Floors.{total_positive}
use Rattle.pc_simplex.proofs.ShortSecond.{gain_alone, no_aim-short, same_parts}

-- ---- mixes

mix-one : (i : ℕ) (numbers : List ℤ) → mix (i ∷ []) numbers ≡ int_at numbers i
unfolding mix
mix-one i numbers = omega (arith, ints)

mix-append : (places more : List ℕ) (numbers : List ℤ) → mix (places ++ more) numbers ≡ mix places numbers +ℤ mix more numbers
unfolding mix
mix-append [] more numbers = omega (arith, ints)
mix-append (j ∷ places) more numbers = let rest = mix-append places more numbers in omega (arith, ints, rest)

mix-no : (numbers : List ℤ) → mix [] numbers ≡ pos 0
unfolding mix
mix-no numbers = refl

mix-perhaps : (test : Bool) (i : ℕ) (numbers : List ℤ) → mix (cond test (i ∷ []) []) numbers ≡ cond test (int_at numbers i) (pos 0)
mix-perhaps true i numbers = mix-one i numbers
mix-perhaps false i numbers = mix-no numbers

places-zero : (mask : ℕ) → places_below zero mask ≡ []
unfolding places_below
places-zero mask = refl

places-suc : (n mask : ℕ) → places_below (suc n) mask ≡ places_below n mask ++ cond (has_bit mask n) (n ∷ []) []
unfolding places_below
places-suc n mask = refl

mix-places_suc : (n mask : ℕ) (numbers : List ℤ)
    → mix (places_below (suc n) mask) numbers ≡ mix (places_below n mask) numbers +ℤ cond (has_bit mask n) (int_at numbers n) (pos 0)
mix-places_suc n mask numbers =
    ap (λ places. mix places numbers) (places-suc n mask)
    ∙ mix-append (places_below n mask) (cond (has_bit mask n) (n ∷ []) []) numbers
    ∙ ap (λ z. mix (places_below n mask) numbers +ℤ z) (mix-perhaps (has_bit mask n) n numbers)

none_either : (test : Bool) (x : ℤ) → x ≡ pos 0 → cond test x (pos 0) ≡ pos 0
none_either true x e = e
none_either false x e = refl

-- ---- the row that has constraint j once
module _ (p : Program) (j : ℕ) (own : j < constraints_of p) (value : ℤ) where
  abbrev unit : List ℤ
  unit = unit_row p j value

  abbrev ones : ℕ → ℤ
  ones k = cond (k == j) (pos 1) (pos 0)

  long : length (table (constraints_of p) ones) ≡ constraints_of p
  long = length-table (constraints_of p) ones

  at_unit : (i : ℕ) → i < constraints_of p → int_at unit i ≡ ones i
  at_unit i lt =
      get_or_append_left (table (constraints_of p) ones) (value ∷ []) (pos 0) i (omega (arith, lt, long)) ∙ at-table (constraints_of p) ones i (pos 0) lt

  at_own : int_at unit j ≡ pos 1
  at_own = at_unit j own ∙ cond-true (j == j) (pos 1) (pos 0) (eq-eqb j j refl)

  at_other : (i : ℕ) → i < constraints_of p → (i ≡ j → ⊥) → int_at unit i ≡ pos 0
  at_other i lt ne = at_unit i lt ∙ cond-false (i == j) (pos 1) (pos 0) (ne_eqb i j ne)

  at_value : int_at unit (constraints_of p) ≡ value
  at_value = get_or_push (table (constraints_of p) ones) value (pos 0) (constraints_of p) long

  mix_own : mix (j ∷ []) unit ≡ pos 1
  mix_own = mix-one j unit ∙ at_own

  mix_other : (i : ℕ) → i < constraints_of p → (i ≡ j → ⊥) → mix (i ∷ []) unit ≡ pos 0
  mix_other i lt ne = mix-one i unit ∙ at_other i lt ne

  -- the places of a mask below n do not have it yet
  mix_before : (n mask : ℕ) → n ≤ j → mix (places_below n mask) unit ≡ pos 0
  mix_before zero mask le = ap (λ places. mix places unit) (places-zero mask) ∙ mix-no unit
  mix_before (suc n) mask le =
      let before = mix_before n mask (omega (arith, le)) in
      let here = none_either (has_bit mask n) (int_at unit n) (at_other n (omega (arith, le, own)) (λ e. omega (arith, le, e))) in
      omega (arith, ints, mix-places_suc n mask unit, before, here)

  -- nor more than once
  mix_mask : (n mask : ℕ) → j < n → n ≤ constraints_of p → mix (places_below n mask) unit ≡ cond (has_bit mask j) (pos 1) (pos 0)
  mix_mask zero mask lt le = absurd (omega (arith, lt))
  mix_mask (suc n) mask lt le = by_same n j
      (λ e. (let before = mix_before n mask (omega (arith, e)) in
      let here : cond (has_bit mask n) (int_at unit n) (pos 0) ≡ cond (has_bit mask j) (pos 1) (pos 0) =
      ap (λ k. cond (has_bit mask k) (int_at unit k) (pos 0)) e ∙ ap (λ z. cond (has_bit mask j) z (pos 0)) at_own in
      omega (arith, ints, mix-places_suc n mask unit, before, here)))
      (λ ne. (let before = mix_mask n mask (omega (arith, lt, ne)) (omega (arith, le)) in
      let here = none_either (has_bit mask n) (int_at unit n) (at_other n (omega (arith, le)) ne) in
      omega (arith, ints, mix-places_suc n mask unit, before, here)))

-- ---- which constraints a column has

by_column : {P : Type 0} (p : Program) (k : ℕ) → k < columns_of p → (k < cells_of p → P)
    → ((i : ℕ) → i < constraints_of p → k ≡ slack_of p i → P) → ((i : ℕ) → i < constraints_of p → k ≡ helper_of p i → P) → P
by_column p k lt cell slack helper = by_lt_z (pos k) (pos (cells_of p)) (λ less. cell (omega (arith, ints, less)))
    (λ past. by_lt_z (pos k) (pos (helper_of p 0))
    (λ less. slack (k - cells_of p) (omega (arith, ints, less, past)) (omega (arith, ints, past)))
    (λ behind. helper (k - helper_of p 0) (omega (arith, ints, lt, behind)) (omega (arith, ints, behind))))

module _ (p : Program) where
  places-cell : (i : ℕ) → i < cells_of p → column_places p i ≡ places_below (constraints_of p) (nat_at p.masks i)
  places-cell i lt = cond-true _ _ _ (lt-ltb i (cells_of p) lt)

  places-slack : (i : ℕ) → i < constraints_of p → column_places p (slack_of p i) ≡ i ∷ []
  places-slack i lt =
      let place : slack_of p i - cells_of p ≡ i = omega arith in
      cond-false _ _ _ (le-ltb (slack_of p i) (cells_of p) (omega arith)) ∙ cond-true _ _ _ (lt-ltb (slack_of p i) (helper_of p 0) (omega (arith, lt)))
      ∙ ap (λ n. n ∷ []) place

  places-helper : (i : ℕ) → column_places p (helper_of p i) ≡ i ∷ []
  places-helper i =
      let place : helper_of p i - helper_of p 0 ≡ i = omega arith in
      cond-false _ _ _ (le-ltb (helper_of p i) (cells_of p) (omega arith)) ∙ cond-false _ _ _ (le-ltb (helper_of p i) (helper_of p 0) (omega arith))
      ∙ ap (λ n. n ∷ []) place

-- ---- the first rows

signed_one : (test : Bool) → signed test (pos 1) ≡ cond test (negsuc 0) (pos 1)
signed_one true = refl
signed_one false = refl

signed_zero : (test : Bool) → signed test (pos 0) ≡ pos 0
signed_zero true = refl
signed_zero false = refl

once_less : (a b : ℤ) → a -ℤ pos 1 *ℤ b ≡ a -ℤ b
once_less a b = omega (arith, ints)

same_row : (row : TableauRow) (numbers : List ℤ) (basic : ℕ) → row.numbers ≡ numbers → row.basic ≡ basic → record { numbers = numbers; basic = basic } ≡ row
same_row row numbers basic e d = rw (sym e, sym d) refl

same_table : {X : Type 0} (n : ℕ) (f g : ℕ → X) → ((k : ℕ) → k < n → f k ≡ g k) → table n f ≡ table n g
unfolding table
same_table zero f g each = refl
same_table (suc n) f g each = ap₂ (λ made x. made ++ x ∷ []) (same_table n f g (λ k lt. each k (omega (arith, lt)))) (each n (omega arith))

map-push : {X Y : Type 0} (h : X → Y) (xs : List X) (x : X) → map h (xs ++ x ∷ []) ≡ map h xs ++ h x ∷ []
map-push h [] x = refl
map-push h (y ∷ xs) x = ap (λ more. h y ∷ more) (map-push h xs x)

map-table : {X Y : Type 0} (h : X → Y) (n : ℕ) (f : ℕ → X) → map h (table n f) ≡ table n (λ k. h (f k))
unfolding table
map-table h zero f = refl
map-table h (suc n) f = map-push h (table n f) (f n) ∙ ap (λ made. made ++ h (f n) ∷ []) (map-table h n f)

module _ (p : Program) (floors : List ℕ) (f : Columns) (gains : List ℤ) (top : ℕ) (columns : AreColumns p f) where
  abbrev own_setting : ShortSetting
  own_setting = setting_of p f gains top

  abbrev turned : List Bool
  turned = table (columns_of p) (does_start_turned p floors)

  abbrev t : Tableau
  t = start p floors []

  module _ (j : ℕ) (own : j < constraints_of p) where
    abbrev numbers : List ℤ
    numbers = unit_row p j (short_value p floors j)

    -- the sign and the mix at a column are those of its number
    by_parts : (k : ℕ) (test : Bool) (places : List ℕ) (x : ℤ) → k < columns_of p → is_turned t k ≡ test → column_places p k ≡ places → mix places numbers ≡ x
        → entry own_setting turned numbers k ≡ signed test x
    by_parts k test places x lt is are mixed =
        ap₂ (λ b l. signed b (mix l numbers)) is (at-table (columns_of p) (column_places p) k [] lt ∙ are) ∙ ap (signed test) mixed

    at_cell : (i : ℕ) → i < cells_of p → entry_at t j i ≡ entry own_setting turned numbers i
    at_cell i lt =
        cell-start p floors [] i j lt own
        ∙ sym (by_parts i false _ _ (omega (arith, lt)) (turned-cell p floors [] i lt) (places-cell p i lt)
        (mix_mask p j own (short_value p floors j) (constraints_of p) (nat_at p.masks i) own (omega arith)))

    at_slack : (i : ℕ) → i < constraints_of p → entry_at t j (slack_of p i) ≡ entry own_setting turned numbers (slack_of p i)
    at_slack i lt = by_same i j
        (λ e. subst (λ n. entry_at t j (slack_of p n) ≡ entry own_setting turned numbers (slack_of p n)) (sym e)
        (slack-start p floors [] j own ∙ sym (signed_one (is_short p floors j))
        ∙ sym (by_parts (slack_of p j) _ _ _ (omega (arith, own)) (turned-slack p floors [] j own) (places-slack p j own) (mix_own p j own (short_value p floors j)))))
        (λ ne. other_slack-start p floors [] i j lt own ne ∙ sym (signed_zero (is_short p floors i))
        ∙ sym (by_parts (slack_of p i) _ _ _ (omega (arith, lt)) (turned-slack p floors [] i lt) (places-slack p i lt)
        (mix_other p j own (short_value p floors j) i lt ne)))

    at_helper : (i : ℕ) → i < constraints_of p → entry_at t j (helper_of p i) ≡ entry own_setting turned numbers (helper_of p i)
    at_helper i lt = by_same i j
        (λ e. subst (λ n. entry_at t j (helper_of p n) ≡ entry own_setting turned numbers (helper_of p n)) (sym e)
        (helper-start p floors [] j own
        ∙ sym (by_parts (helper_of p j) false _ _ (omega (arith, own)) (turned-helper p floors [] (helper_of p j) (omega arith)) (places-helper p j)
        (mix_own p j own (short_value p floors j)))))
        (λ ne. other_helper-start p floors [] i j lt own ne
        ∙ sym (by_parts (helper_of p i) false _ _ (omega (arith, lt)) (turned-helper p floors [] (helper_of p i) (omega arith)) (places-helper p i)
        (mix_other p j own (short_value p floors j) i lt ne)))

    at_each : (k : ℕ) → k < f.count → entry_at t j k ≡ entry own_setting turned numbers k
    at_each k lt = by_column p k (omega (arith, lt, columns.count)) (at_cell k)
        (λ i less e. subst (λ n. entry_at t j n ≡ entry own_setting turned numbers n) (sym e) (at_slack i less))
        (λ i less e. subst (λ n. entry_at t j n ≡ entry own_setting turned numbers n) (sym e) (at_helper i less))

    at_end : int_at (row_at t j).numbers f.count ≡ int_at numbers (constraints_of p)
    at_end =
        ap (int_at (row_at t j).numbers) columns.count ∙ value-start p floors [] j own
        ∙ ap (λ z. cond (is_short p floors j) z (left_of p floors j)) (once_less (left_of p floors j) (pos (slack_range p j)))
        ∙ sym (at_value p j own (short_value p floors j))

    numbers_are : (row_at t j).numbers ≡ spelled_numbers own_setting turned numbers
    numbers_are = is_spelled own_setting turned numbers (row_at t j).numbers
        (let long = length-start p floors [] j own in omega (arith, long, columns.count)) at_each at_end

    basic_is : (row_at t j).basic ≡ cond (is_short p floors j) (helper_of p j) (slack_of p j)
    basic_is = by_short p floors [] j
        (λ e. basic-short p floors [] j own e ∙ sym (cond-true (is_short p floors j) (helper_of p j) (slack_of p j) e))
        (λ e. basic-long p floors [] j own e ∙ sym (cond-false (is_short p floors j) (helper_of p j) (slack_of p j) e))

    row_is : spelled_row own_setting turned (first_short_row p floors j) ≡ first_row p floors [] j
    row_is = same_row (row_at t j) (spelled_numbers own_setting turned numbers) (cond (is_short p floors j) (helper_of p j) (slack_of p j)) numbers_are basic_is
        ∙ at-table (constraints_of p) (first_row p floors []) j no_row own

  rows_are : map (spelled_row own_setting turned) (table (constraints_of p) (first_short_row p floors)) ≡ table (constraints_of p) (first_row p floors [])
  rows_are = map-table (spelled_row own_setting turned) (constraints_of p) (first_short_row p floors)
      ∙ same_table (constraints_of p) (λ j. spelled_row own_setting turned (first_short_row p floors j)) (first_row p floors []) row_is

-- ---- the first objective row

-- a column that starts turned gains nothing
signed_gain : (p : Program) (floors : List ℕ) (k : ℕ) → k < columns_of p → signed (is_turned (start p floors []) k) (gain_one p floors k) ≡ gain_one p floors k
signed_gain p floors k lt = by_lt_z (pos k) (pos (helper_of p 0))
    (λ less. (let below : k < helper_of p 0 = omega (arith, ints, less) in
    ap (λ test. signed (is_turned (start p floors []) k) (cond (test && is_short p floors (k - helper_of p 0)) (negsuc 0) (pos 0))) (lt-leb (helper_of p 0) k below)
    ∙ signed_zero (is_turned (start p floors []) k)
    ∙ sym (ap (λ test. cond (test && is_short p floors (k - helper_of p 0)) (negsuc 0) (pos 0)) (lt-leb (helper_of p 0) k below))))
    (λ past. ap (λ test. signed test (gain_one p floors k)) (turned-helper p floors [] k (omega (arith, ints, past))))

module _ (p : Program) (floors : List ℕ) (f : Columns) (top : ℕ) (columns : AreColumns p f) where
  abbrev gains_one : List ℤ
  gains_one = table (columns_of p) (gain_one p floors)

  abbrev first_setting : ShortSetting
  first_setting = setting_of p f gains_one top

  aim_at : (k : ℕ) → k < f.count → int_at gains_one k ≡ aim_entry first_setting (table (columns_of p) (does_start_turned p floors)) (pos 1) (no_aim p) k
  aim_at k lt =
      let below : k < columns_of p = omega (arith, lt, columns.count) in
      let own : int_at gains_one k ≡ gain_one p floors k = at-table (columns_of p) (gain_one p floors) k (pos 0) below in
      own ∙ sym (gain_alone p first_setting (table (columns_of p) (does_start_turned p floors)) k (gain_one p floors k) own ∙ signed_gain p floors k below)

  aim_is : gains_one ≡ spelled_aim first_setting (table (columns_of p) (does_start_turned p floors)) (pos 1) (no_aim p)
  aim_is = is_aim first_setting (table (columns_of p) (does_start_turned p floors)) (pos 1) (no_aim p) gains_one
      (length-table (columns_of p) (gain_one p floors) ∙ sym columns.count) aim_at

pub first_spells : (p : Program) (floors : List ℕ) (f : Columns) (top : ℕ) → IsProgram p → AreColumns p f
    → spelled (setting_of p f (table (columns_of p) (gain_one p floors)) top) (first_short p floors) ≡ first_tableau p floors []
first_spells p floors f top program columns =
    same_parts _ _ (table (columns_of p) (does_start_turned p floors)) _ _
    (rows_are p floors f (table (columns_of p) (gain_one p floors)) top columns) (sym (aim_is p floors f top columns))

-- ---- it is small

unit_within : (test : Bool) → IsWithin 50 (cond test (pos 1) (pos 0))
unit_within true = omega arith
unit_within false = omega arith

value_within : (test : Bool) (left : ℤ) (u : ℕ) → int_lt (pos u) left ≡ test → int_lt left (pos 0) ≡ false → left ≤ℤ pos 1_000_000_000
    → IsWithin 50 (cond test (left -ℤ pos u) left)
value_within true left u short some most = grind (arith, ints, short, some, most)
value_within false left u short some most = grind (arith, ints, some, most)

either_below : (test : Bool) (a b n : ℕ) → a < n → b < n → cond test a b < n
either_below true a b n h k = h
either_below false a b n h k = k

module _ (p : Program) (floors : List ℕ) (program : IsProgram p) (none : first_below (constraints_of p) (is_overfull p floors) ≡ None) (j : ℕ) (lt : j < constraints_of p) where
  left_most : left_of p floors j ≤ℤ pos 1_000_000_000
  left_most = let some = total_positive p floors j in let most = program.small_most j lt in omega (arith, ints, some, most)

  pub short_value-small : IsWithin 50 (short_value p floors j)
  short_value-small =
      value_within (is_short p floors j) (left_of p floors j) (slack_range p j) refl (first_below-none (constraints_of p) (is_overfull p floors) j none lt) left_most

  -- in each of the two forms
  pub short_value-above : is_short p floors j ≡ true → IsWithin 50 (left_of p floors j -ℤ pos (slack_range p j))
  short_value-above e = value_within true (left_of p floors j) (slack_range p j) e (first_below-none (constraints_of p) (is_overfull p floors) j none lt) left_most

  pub short_value-left : is_short p floors j ≡ false → IsWithin 50 (left_of p floors j)
  short_value-left e = value_within false (left_of p floors j) (slack_range p j) e (first_below-none (constraints_of p) (is_overfull p floors) j none lt) left_most

pub first_is_short : (p : Program) (floors : List ℕ) (f : Columns) (gains : List ℤ) → IsProgram p → AreFloors p floors → AreColumns p f
    → first_below (constraints_of p) (is_overfull p floors) ≡ None → IsShort (setting_of p f gains 1) (first_short p floors)
first_is_short p floors f gains program floored columns none = record {
  rows = All-table (IsShortRow (setting_of p f gains 1)) (constraints_of p) (first_short_row p floors) row;
  turned = length-table (columns_of p) (does_start_turned p floors) ∙ sym columns.count;
  aim = no_aim-short p (setting_of p f gains 1) refl (omega arith);
}
  where
    row : (j : ℕ) → j < constraints_of p → IsShortRow (setting_of p f gains 1) (first_short_row p floors j)
    row j lt = record {
      numbers = length_push (table (constraints_of p) (λ k. cond (k == j) (pos 1) (pos 0))) (short_value p floors j)
          ∙ ap (λ n. n + 1) (length-table (constraints_of p) (λ k. cond (k == j) (pos 1) (pos 0)));
      basic = either_below (is_short p floors j) (helper_of p j) (slack_of p j) f.count (omega (arith, lt, columns.count)) (omega (arith, lt, columns.count));
      small = All-push (IsWithin 50) (table (constraints_of p) (λ k. cond (k == j) (pos 1) (pos 0))) (short_value p floors j)
          (All-table (IsWithin 50) (constraints_of p) (λ k. cond (k == j) (pos 1) (pos 0)) (λ k less. unit_within (k == j)))
          (short_value-small p floors program none j lt);
    }
