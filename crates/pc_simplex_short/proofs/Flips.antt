-- A column turned in short rows is the column turned in what they spell.
use Rattle.std.proofs.Common.{◌≡◌, ℕ, zero, suc, ◌+◌, ◌<◌, Bool, true, false, cond, not, ◌==◌, List, [], ◌∷◌, map, length, All, refl, ap, ap₂, sym, subst, ◌∙◌, arith, slice_index_or, slice_set}
use Rattle.std.specs.Prelude.{ℤ, pos, neg_ℤ, ◌+ℤ◌, ◌-ℤ◌, ◌*ℤ◌}
use Rattle.std.proofs.lemmas.Int.{ints}
use Rattle.std.proofs.lemmas.List.{length-set, get_or-set_same, get_or-set_other, get_or_default}
use Rattle.pc_program_bound.specs.Sums.{int_at}
use Rattle.pc_simplex_tableau.specs.Tableau.{TableauRow, Tableau, turned_numbers, turned_row, turned}
use Rattle.pc_simplex_tableau.proofs.Pivots.{by_same}
use Rattle.pc_simplex_tableau.proofs.Turns.{signed_swap, at_column, at_value, at_other, at-turned_row, length-turned_row}
use Rattle.pc_simplex_short.specs.Short.{ShortSetting, mix, signed, places_of, entry, spelled_numbers, spelled_row, aim_entry, spelled_aim, spelled, flipped, lowered, turned_short}
use Rattle.pc_simplex_short.specs.Kept.{IsSetting, IsShortRow, IsShort}
use Rattle.pc_simplex_short.proofs.Spelled.{length-spelled, at-spelled, value-spelled, is_spelled, length-aim, at-aim, is_aim}

-- ---- the sum at some places, where the numbers change

at_neg : (numbers : List ℤ) (k : ℕ) → int_at (map neg_ℤ numbers) k ≡ neg_ℤ (int_at numbers k)
at_neg [] k = refl
at_neg (a ∷ numbers) zero = refl
at_neg (a ∷ numbers) (suc k) = at_neg numbers k

pub mix_neg : (places : List ℕ) (numbers : List ℤ) → mix places (map neg_ℤ numbers) ≡ neg_ℤ (mix places numbers)
unfolding mix
mix_neg [] numbers = refl
mix_neg (j ∷ places) numbers = let first = at_neg numbers j in let rest = mix_neg places numbers in omega (arith, ints, first, rest)

-- a number that stands after all places counts for nothing
pub mix_set : (places : List ℕ) (numbers : List ℤ) (n : ℕ) (x : ℤ) → All (λ j. j < n) places
    → mix places (slice_set numbers n x) ≡ mix places numbers
unfolding mix
mix_set [] numbers n x within = refl
mix_set (j ∷ places) numbers n x within =
    let below : j < n = within 0 j (omega arith) in
    ap₂ ◌+ℤ◌ (get_or-set_other numbers n j x (pos 0) (λ e. omega (arith, below, e)))
    (mix_set places numbers n x (λ i d lt. within (suc i) d (omega (arith, lt))))

mix_signed : (test : Bool) (places : List ℕ) (numbers : List ℤ)
    → mix places (cond test (map neg_ℤ numbers) numbers) ≡ signed test (mix places numbers)
mix_signed true places numbers = mix_neg places numbers
mix_signed false places numbers = refl

pub at_signed : (test : Bool) (numbers : List ℤ) (k : ℕ) → int_at (cond test (map neg_ℤ numbers) numbers) k ≡ signed test (int_at numbers k)
at_signed true numbers k = at_neg numbers k
at_signed false numbers k = refl

signed_flip : (test : Bool) (x : ℤ) → signed (not test) x ≡ neg_ℤ (signed test x)
signed_flip true x = omega (arith, ints)
signed_flip false x = refl

-- ---- which columns are turned

flipped_here : (turned : List Bool) (c : ℕ) → c < length turned → slice_index_or (flipped turned c) c false ≡ not (slice_index_or turned c false)
flipped_here turned c lt = get_or-set_same turned c (not (slice_index_or turned c false)) false lt

flipped_there : (turned : List Bool) (c k : ℕ) → (k ≡ c → ⊥) → slice_index_or (flipped turned c) k false ≡ slice_index_or turned k false
flipped_there turned c k other = get_or-set_other turned c k (not (slice_index_or turned c false)) false other

pub length-flipped : (turned : List Bool) (c : ℕ) → length (flipped turned c) ≡ length turned
length-flipped turned c = length-set turned c (not (slice_index_or turned c false))

-- ---- a row

module _ (f : ShortSetting) (flags : List Bool) (c u : ℕ) (h : IsSetting f) (own : c < f.columns.count) (long : length flags ≡ f.columns.count)
    (row : TableauRow) (sized : length row.numbers ≡ f.constraints + 1) where
  abbrev e : ℤ
  e = entry f flags row.numbers c

  abbrev low : List ℤ
  low = lowered f u e row.numbers

  abbrev test : Bool
  test = row.basic == c

  abbrev before : List ℤ
  before = spelled_numbers f flags row.numbers

  abbrev after : List ℤ
  after = (turned_short f flags c u row).numbers

  -- what is spelled at a column after the turn
  entry_after : (k : ℕ) → k < f.columns.count
      → entry f (flipped flags c) after k ≡ signed test (signed (slice_index_or (flipped flags c) k false) (mix (places_of f k) row.numbers))
  entry_after k lt =
      let within : All (λ j. j < f.constraints) (places_of f k) = (h.places k [] (omega (arith, h.listed, lt))).within in
      let plain = mix_set (places_of f k) row.numbers f.constraints (int_at row.numbers f.constraints -ℤ e *ℤ pos u) within in
      ap (signed (slice_index_or (flipped flags c) k false)) (mix_signed test (places_of f k) low ∙ ap (signed test) plain)
      ∙ signed_swap (slice_index_or (flipped flags c) k false) test (mix (places_of f k) row.numbers)

  -- what the turn leaves at a column, before the signs of the row change
  numbers_after : (k : ℕ) → k < f.columns.count
      → int_at (turned_numbers f.columns c u before) k ≡ signed (slice_index_or (flipped flags c) k false) (mix (places_of f k) row.numbers)
  numbers_after k lt = by_same k c (λ same. here same) (λ other. there other)
    where
      at_c : int_at (turned_numbers f.columns c u before) c ≡ signed (slice_index_or (flipped flags c) c false) (mix (places_of f c) row.numbers)
      at_c =
          at_column f.columns c u own before (length-spelled f flags row.numbers)
          ∙ ap neg_ℤ (at-spelled f flags row.numbers c own)
          ∙ sym (signed_flip (slice_index_or flags c false) (mix (places_of f c) row.numbers))
          ∙ ap (λ b. signed b (mix (places_of f c) row.numbers)) (sym (flipped_here flags c (omega (arith, own, long))))

      here : k ≡ c → int_at (turned_numbers f.columns c u before) k ≡ signed (slice_index_or (flipped flags c) k false) (mix (places_of f k) row.numbers)
      here same = rw same at_c

      there : (k ≡ c → ⊥) → int_at (turned_numbers f.columns c u before) k ≡ signed (slice_index_or (flipped flags c) k false) (mix (places_of f k) row.numbers)
      there other =
          at_other f.columns c u own before (length-spelled f flags row.numbers) k lt other
          ∙ at-spelled f flags row.numbers k lt
          ∙ ap (λ b. signed b (mix (places_of f k) row.numbers)) (sym (flipped_there flags c k other))

  entry_is : (k : ℕ) → k < f.columns.count → int_at (turned_row f.columns c u (spelled_row f flags row)).numbers k ≡ entry f (flipped flags c) after k
  entry_is k lt =
      at-turned_row f.columns c u (spelled_row f flags row) k ∙ ap (signed test) (numbers_after k lt) ∙ sym (entry_after k lt)

  value_is : int_at (turned_row f.columns c u (spelled_row f flags row)).numbers f.columns.count ≡ int_at after f.constraints
  value_is =
      at-turned_row f.columns c u (spelled_row f flags row) f.columns.count
      ∙ ap (signed test) (at_value f.columns c u own before (length-spelled f flags row.numbers)
      ∙ ap₂ (λ v x. v -ℤ x *ℤ pos u) (value-spelled f flags row.numbers) (at-spelled f flags row.numbers c own)
      ∙ sym (get_or-set_same row.numbers f.constraints (int_at row.numbers f.constraints -ℤ e *ℤ pos u) (pos 0) (omega (arith, sized))))
      ∙ sym (at_signed test low f.constraints)

  pub turned_row-spelled : spelled_row f (flipped flags c) (turned_short f flags c u row) ≡ turned_row f.columns c u (spelled_row f flags row)
  turned_row-spelled =
      ap (λ (numbers : List ℤ). record { numbers = numbers; basic = row.basic })
      (sym (is_spelled f (flipped flags c) after (turned_row f.columns c u (spelled_row f flags row)).numbers
      (length-turned_row f.columns c u (spelled_row f flags row) own (length-spelled f flags row.numbers)) entry_is value_is))

-- ---- the objective row

module _ (f : ShortSetting) (flags : List Bool) (c : ℕ) (weight : ℤ) (aim : List ℤ) (own : c < f.columns.count) (long : length flags ≡ f.columns.count) where
  abbrev raw : ℕ → ℤ
  raw k = weight *ℤ int_at f.gains k +ℤ mix (places_of f k) aim

  abbrev old : List ℤ
  old = spelled_aim f flags weight aim

  aim_entry_is : (k : ℕ) → k < f.columns.count → int_at (slice_set old c (neg_ℤ (int_at old c))) k ≡ aim_entry f (flipped flags c) weight aim k
  aim_entry_is k lt = by_same k c (λ same. rw same at_c) (λ other. there other)
    where
      at_c : int_at (slice_set old c (neg_ℤ (int_at old c))) c ≡ aim_entry f (flipped flags c) weight aim c
      at_c =
          get_or-set_same old c (neg_ℤ (int_at old c)) (pos 0) (omega (arith, own, length-aim f flags weight aim))
          ∙ ap neg_ℤ (at-aim f flags weight aim c own)
          ∙ sym (signed_flip (slice_index_or flags c false) (raw c))
          ∙ ap (λ b. signed b (raw c)) (sym (flipped_here flags c (omega (arith, own, long))))

      there : (k ≡ c → ⊥) → int_at (slice_set old c (neg_ℤ (int_at old c))) k ≡ aim_entry f (flipped flags c) weight aim k
      there other =
          get_or-set_other old c k (neg_ℤ (int_at old c)) (pos 0) other
          ∙ at-aim f flags weight aim k lt
          ∙ ap (λ b. signed b (raw k)) (sym (flipped_there flags c k other))

  pub turned_aim-spelled : slice_set old c (neg_ℤ (int_at old c)) ≡ spelled_aim f (flipped flags c) weight aim
  turned_aim-spelled = is_aim f (flipped flags c) weight aim (slice_set old c (neg_ℤ (int_at old c)))
      (length-set old c (neg_ℤ (int_at old c)) ∙ length-aim f flags weight aim) aim_entry_is

-- ---- the tableau

map_both : {X Y : Type 0} (P : X → Type 0) (g : X → X) (s r : X → Y) (k : Y → Y) (xs : List X) → ((x : X) → P x → s (g x) ≡ k (r x)) → All P xs
    → map s (map g xs) ≡ map k (map r xs)
map_both P g s r k [] each all = refl
map_both P g s r k (x ∷ xs) each all =
    ap₂ ◌∷◌ (each x (all 0 x (omega arith))) (map_both P g s r k xs each (λ i d lt. all (suc i) d (omega (arith, lt))))

-- the tableau that turned rows and flags leave, whose objective row stays
abbrev pub left_by : Tableau → List TableauRow → List Bool → Tableau
left_by t rows flags = record { rows = rows; turned = flags; aim = t.aim; weight = t.weight }

pub turned-spelled : (f : ShortSetting) (t : Tableau) (c u : ℕ) → IsSetting f → c < f.columns.count → IsShort f t
    → spelled f (left_by t (map (turned_short f t.turned c u) t.rows) (flipped t.turned c)) ≡ turned f.columns c u (spelled f t)
turned-spelled f t c u h own short =
    ap₂ (λ (rows : List TableauRow) (aim : List ℤ). record { rows = rows; turned = flipped t.turned c; aim = aim; weight = t.weight })
    (map_both (IsShortRow f) (turned_short f t.turned c u) (spelled_row f (flipped t.turned c)) (spelled_row f t.turned) (turned_row f.columns c u) t.rows
    (λ row k. turned_row-spelled f t.turned c u h own short.turned row k.numbers) short.rows)
    (sym (turned_aim-spelled f t.turned c t.weight t.aim own short.turned))

-- the same as the code leaves it: rows and flags as they were passed on, and the flag as it was read
pub record IsTurnedTo (f : ShortSetting) (t : Tableau) (c u : ℕ) (rows old : List TableauRow) (seen : List Bool) (flag : Bool) : Type 0 where
  pub made : rows ≡ map (turned_short f seen c u) old
  pub old_is : old ≡ t.rows
  pub seen_is : seen ≡ t.turned
  pub flag_is : flag ≡ slice_index_or t.turned c flag

turned_there : (f : ShortSetting) (t : Tableau) (c u : ℕ) (rows old : List TableauRow) (seen : List Bool) (flag : Bool)
    → IsTurnedTo f t c u rows old seen flag → IsSetting f → c < f.columns.count → IsShort f t
    → spelled f (left_by t rows (slice_set t.turned c (not flag))) ≡ turned f.columns c u (spelled f t)
turned_there f t c u rows old seen flag by h own short =
    let read : flag ≡ slice_index_or t.turned c false = by.flag_is ∙ get_or_default t.turned c flag false (omega (arith, own, short.turned)) in
    let all : rows ≡ map (turned_short f t.turned c u) t.rows =
    by.made ∙ ap₂ (λ seen old. map (turned_short f seen c u) old) by.seen_is by.old_is in
    ap₂ (λ (rows : List TableauRow) (flag : Bool). spelled f (left_by t rows (slice_set t.turned c (not flag)))) all read
    ∙ turned-spelled f t c u h own short

-- `now` is how the tableau is seen from without
pub turned_from : (f : ShortSetting) (t now : Tableau) (c u : ℕ) (rows old : List TableauRow) (seen : List Bool) (flag : Bool) → t ≡ now
    → IsTurnedTo f t c u rows old seen flag → IsSetting f → c < f.columns.count → IsShort f now
    → spelled f (left_by t rows (slice_set t.turned c (not flag))) ≡ turned f.columns c u (spelled f now)
turned_from f t now c u rows old seen flag same by h own =
    subst (λ (n : Tableau). IsShort f n → spelled f (left_by t rows (slice_set t.turned c (not flag))) ≡ turned f.columns c u (spelled f n))
    same (turned_there f t c u rows old seen flag by h own)
