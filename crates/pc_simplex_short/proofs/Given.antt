-- Where a step makes what stands in short form, the numbers that it puts are small.
use Rattle.std.proofs.Common.{◌≡◌, ℕ, zero, suc, ◌+◌, ◌-◌, ◌^◌, ◌<◌, ◌≤◌, ◌==◌, Bool, true, false, cond, List, map, length, get_or, All, Option, Some, None, refl, ap, sym, subst, ◌∙◌, arith}
use Rattle.std.specs.Prelude.{ℤ, pos, neg_ℤ, nat_abs, ◌-ℤ◌, ◌*ℤ◌}
use Rattle.std.proofs.lemmas.List.{length-map, length-set, get_or-set_same}
use Rattle.std.proofs.lemmas.List.Elements.{All-map}
use Rattle.pc_program_bound.specs.Sums.{int_at}
use Rattle.pc_simplex_tableau.specs.Numbers.{primitive, combined, is_zero}
use Rattle.pc_simplex_tableau.specs.Tableau.{TableauRow, Tableau, Columns, turned, entering}
use Rattle.pc_simplex_tableau.proofs.Places.{length-combined, length-primitive}
use Rattle.pc_simplex_short.specs.Short.{ShortSetting, entry, spelled, flipped, lowered, turned_short, freed_short}
use Rattle.pc_simplex_short.specs.Kept.{IsWithin, IsSetting, IsSmallRow, IsShort}
use Rattle.pc_simplex_short.specs.Stays.{HasShort, IsShortAt, StaysShort, stepped, after_steps}
use Rattle.pc_simplex_short.proofs.Alike.{small_rows}
use Rattle.pc_simplex_short.proofs.Flips.{at_signed, left_by, turned-spelled}
use Rattle.pc_simplex_short.proofs.Multiples.{size_of_signed}

-- ---- lengths

length-signed : (test : Bool) (xs : List ℤ) → length {A = ℤ} (cond test (map neg_ℤ xs) xs) ≡ length xs
length-signed true xs = length-map xs neg_ℤ
length-signed false xs = refl

length-turned_short : (f : ShortSetting) (flags : List Bool) (c u : ℕ) (row : TableauRow) → length (turned_short f flags c u row).numbers ≡ length row.numbers
length-turned_short f flags c u row =
    let e = entry f flags row.numbers c in
    length-signed (row.basic == c) (lowered f u e row.numbers) ∙ length-set row.numbers f.constraints (int_at row.numbers f.constraints -ℤ e *ℤ pos u)

pub length-freed_short : (f : ShortSetting) (flags : List Bool) (c : ℕ) (other : List ℤ) (row : TableauRow) → length row.numbers ≡ length other
    → length (freed_short f flags c other row).numbers ≡ length row.numbers
length-freed_short f flags c other row same = by (is_zero (entry f flags row.numbers c))
  where
    made : List ℤ
    made = combined (entry f flags other c) row.numbers (entry f flags row.numbers c) other

    by : (test : Bool) → length (cond test row (record row { numbers = primitive made })).numbers ≡ length row.numbers
    by true = refl
    by false = length-primitive made ∙ length-combined (entry f flags other c) (entry f flags row.numbers c) row.numbers other (omega (arith, same))

-- ---- a column that is turned

-- the value of a row that is turned
pub value_small : (f : ShortSetting) (flags : List Bool) (c u : ℕ) (row : TableauRow) → length row.numbers ≡ f.constraints + 1
    → IsSmallRow (turned_short f flags c u row) → IsWithin 50 (int_at row.numbers f.constraints -ℤ entry f flags row.numbers c *ℤ pos u)
value_small f flags c u row long small =
    let value = int_at row.numbers f.constraints -ℤ entry f flags row.numbers c *ℤ pos u in
    let low = lowered f u (entry f flags row.numbers c) row.numbers in
    let test = row.basic == c in
    let made : IsWithin 50 (int_at (cond test (map neg_ℤ low) low) f.constraints) =
    small f.constraints (pos 0) (omega (arith, length-turned_short f flags c u row, long)) in
    let size =
    ap nat_abs (at_signed test low f.constraints) ∙ size_of_signed test (int_at low f.constraints)
    ∙ ap nat_abs (get_or-set_same row.numbers f.constraints value (pos 0) (omega (arith, long))) in
    subst (λ n. n ≤ 2 ^ 50) size made

pub turn_given : (f : ShortSetting) (t now : Tableau) (c u : ℕ) (old : List TableauRow) (seen : List Bool) → t ≡ now → old ≡ t.rows → seen ≡ t.turned
    → IsSetting f → c < f.columns.count → IsShort f now → HasShort f (turned f.columns c u (spelled f now))
    → All IsSmallRow (map (turned_short f seen c u) old)
turn_given f t now c u old seen view old_is seen_is h own short s =
    rw (seen_is, old_is) (subst (λ (n : Tableau). IsShort f n → HasShort f (turned f.columns c u (spelled f n)) → All IsSmallRow (map (turned_short f t.turned c u) t.rows)) view there short s)
  where
    there : IsShort f t → HasShort f (turned f.columns c u (spelled f t)) → All IsSmallRow (map (turned_short f t.turned c u) t.rows)
    there kept s =
        let rows = map (turned_short f t.turned c u) t.rows in
        let after = left_by t rows (flipped t.turned c) in
        small_rows f after h
        (All-map (λ (row : TableauRow). length row.numbers ≡ f.constraints + 1) (turned_short f t.turned c u) t.rows
        (λ k d lt. length-turned_short f t.turned c u (get_or t.rows k d) ∙ (kept.rows k d lt).numbers))
        (record { short = s.short; small = s.small; same = s.same ∙ sym (turned-spelled f t c u h own kept) })

-- ---- a run

after-suc : (f : Columns) (n c : ℕ) (t : Tableau) → Some c ≡ entering f t → after_steps f (suc n) t ≡ after_steps f n (stepped f c t)
unfolding after_steps
after-suc f n c t enters = ap (λ (found : Option ℕ). elim found [ None ↦ t | Some c ↦ after_steps f n (stepped f c t) ]) (sym enters)

after-zero : (f : Columns) (t : Tableau) → after_steps f zero t ≡ t
unfolding after_steps
after-zero f t = refl

pub stays_here : (f : ShortSetting) (left c : ℕ) (t : Tableau) → (left ≡ 0 → ⊥) → Some c ≡ entering f.columns (spelled f t) → StaysShort f left t
    → IsShortAt f c (spelled f t)
stays_here f left c t some enters stays =
    let same = after-zero f.columns (spelled f t) in
    subst (IsShortAt f c) same (stays.each 0 c (omega (arith, some)) (subst (λ now. Some c ≡ entering f.columns now) (sym same) enters))

pub stays_further : (f : ShortSetting) (left c : ℕ) (t next : Tableau) → (left ≡ 0 → ⊥) → Some c ≡ entering f.columns (spelled f t) → spelled f next ≡ stepped f.columns c (spelled f t)
    → StaysShort f left t → StaysShort f (left - 1) next
stays_further f left c t next some enters is stays = record { each = each }
  where
    each : (n d : ℕ) → n < left - 1 → Some d ≡ entering f.columns (after_steps f.columns n (spelled f next)) → IsShortAt f d (after_steps f.columns n (spelled f next))
    each n d lt found =
        let same : after_steps f.columns (suc n) (spelled f t) ≡ after_steps f.columns n (spelled f next) =
        after-suc f.columns n c (spelled f t) enters ∙ ap (after_steps f.columns n) (sym is) in
        subst (IsShortAt f d) same (stays.each (suc n) d (omega (arith, lt)) (subst (λ now. Some d ≡ entering f.columns now) (sym same) found))
