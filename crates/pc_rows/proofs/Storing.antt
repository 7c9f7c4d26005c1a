-- Rows that stand one after the other in one list of numbers.
use Rattle.std.proofs.Common.{◌≡◌, ◌∙◌, ℕ, zero, suc, ◌+◌, ◌*◌, ◌^◌, ◌<◌, ◌≤◌, ℤ, List, [], ◌∷◌, ◌++◌, length, take, drop, slice_index_or, pos, All, refl, ap, sym, add-one, arith}
use Rattle.std.proofs.lemmas.List.{length-append, length-drop, length-take-le, get_or-take, get_or-drop, get_or_past, drop-drop, take_all, take-append-le, drop-append-le}
use Rattle.std.proofs.lemmas.List.Elements.{All-head}
use Rattle.std.proofs.lemmas.Nat.{mul-le}
use Rattle.std.specs.Prelude.{Vec}
use Rattle.pc_model.specs.declared.row.Row.{Row}
use Rattle.pc_rows.specs.Stored.{row_at, row_limit, rows_in, AreStored}
use Rattle.pc_model.specs.Aggregate.{number_at}
use Rattle.pc_model.specs.Membership.{row_from as row}

-- two vectors have fewer items than a place can count
pub short_together : {Y Z : Type 0} (first : Vec ℤ Y) (second : Vec ℤ Z) → length (first.items ++ second.items) < 2 ^ 64
short_together first second = omega (arith, length-append first.items second.items, first.ok, first.small, second.ok, second.small)

pub length-rows_in : (width count : ℕ) (cells : List ℤ) → length (rows_in width count cells) ≡ count
unfolding rows_in
length-rows_in width zero cells = refl
length-rows_in width (suc count) cells = ap suc (length-rows_in width count (drop width cells))

pub no_rows : (width : ℕ) (cells : List ℤ) → rows_in width 0 cells ≡ []
unfolding rows_in
no_rows width cells = refl

pub row_at-rows_in : (width count : ℕ) (cells : List ℤ) (place : ℕ) → place < count → row_at (rows_in width count cells) place ≡ row (take width (drop (place * width) cells))
unfolding rows_in
row_at-rows_in width zero cells place below = absurd (omega arith)
row_at-rows_in width (suc count) cells zero below =
    let at_start : 0 ≡ 0 * width = omega arith in
    ap (λ (start : ℕ). row (take width (drop start cells))) at_start
row_at-rows_in width (suc count) cells (suc place) below =
    let start : suc place * width ≡ width + place * width = omega arith in
    rw start
    (row_at-rows_in width count (drop width cells) place (omega arith)
    ∙ ap (λ (rest : List ℤ). row (take width rest)) (drop-drop (place * width) width cells))

rows_in-append : (width count : ℕ) (cells more : List ℤ) → length cells ≡ count * width → length more ≡ width → rows_in width (suc count) (cells ++ more) ≡ rows_in width count cells ++ row more ∷ []
unfolding rows_in
rows_in-append width zero [] more full wide = ap (λ (cells : List ℤ). row cells ∷ []) (take_all width more (omega arith))
rows_in-append width zero (cell ∷ cells) more full wide = absurd (omega arith)
rows_in-append width (suc count) cells more full wide =
    let within : width ≤ length cells = omega arith in
    let rest_full : length (drop width cells) ≡ count * width = omega (arith, length-drop width cells) in
    rw (take-append-le width cells more within, drop-append-le width cells more within)
    (ap (λ (rows : List Row). row (take width cells) ∷ rows) (rows_in-append width count (drop width cells) more rest_full wide))

-- the first row has the width of the others
same_width : (width count : ℕ) (cells : List ℤ) (size : ℕ) → length cells ≡ suc count * width → All (λ (other : Row). length other.cells ≡ size) (rows_in width (suc count) cells) → size ≡ width
unfolding rows_in
same_width width count cells size full alike =
    let within : width ≤ length cells = omega arith in
    let first : length (take width cells) ≡ size = All-head (λ (other : Row). length other.cells ≡ size) (row (take width cells)) (rows_in width count (drop width cells)) alike in
    omega (arith, length-take-le width cells within)

-- a row more, as wide as those before it
pub rows_in-push : (width count : ℕ) (cells more : List ℤ) → length cells ≡ count * width → All (λ (other : Row). length other.cells ≡ length more) (rows_in width count cells) → rows_in (length more) (count + 1) (cells ++ more) ≡ rows_in width count cells ++ row more ∷ []
rows_in-push width zero cells more full alike =
    let empty : length cells ≡ 0 * length more = omega arith in
    rw (no_rows width cells) (rows_in-append (length more) 0 cells more empty refl ∙ rw (no_rows (length more) cells) refl)
rows_in-push width (suc count) cells more full alike =
    let same : length more ≡ width = same_width width count cells (length more) full alike in
    rw (add-one, same) (rows_in-append width (suc count) cells more full same)

pub stored_more : (width count : ℕ) (cells more : List ℤ) → AreStored width count cells → count < row_limit → All (λ (other : Row). length other.cells ≡ length more) (rows_in width count cells) → length (cells ++ more) < 2 ^ 64 → AreStored (length more) (count + 1) (cells ++ more)
stored_more width zero cells more stored few alike short = record { full = omega (arith, length-append cells more); few = omega arith; short = short }
stored_more width (suc count) cells more stored few alike short =
    let same : length more ≡ width = same_width width count cells (length more) stored.full alike in
    record { full = rw same (omega (arith, length-append cells more)); few = omega arith; short = short }

-- a row ends within the numbers
pub row_within : (width count : ℕ) (cells : List ℤ) (rows : List Row) (place : ℕ) → AreStored width count cells → rows_in width count cells ≡ rows → place < length rows → place * width + width ≤ length cells
row_within width count cells rows place stored view below =
    let counted : length rows ≡ count = ap length (sym view) ∙ length-rows_in width count cells in
    omega (arith, stored.full, mul-le (place + 1) width count width (omega arith) (omega arith))

-- the width of a row
pub row_wide : (width count : ℕ) (cells : List ℤ) (rows : List Row) (place : ℕ) → AreStored width count cells → rows_in width count cells ≡ rows → place < length rows → width ≡ length (row_at rows place).cells
row_wide width count cells rows place stored view below =
    let within = row_within width count cells rows place stored view below in
    let counted : length rows ≡ count = ap length (sym view) ∙ length-rows_in width count cells in
    let rest : width ≤ length (drop (place * width) cells) = omega (arith, within, length-drop (place * width) cells) in
    rw (← view, row_at-rows_in width count cells place (omega arith)) (sym (length-take-le width (drop (place * width) cells) rest))

-- a number of a row
pub number_is : (width count : ℕ) (cells : List ℤ) (rows : List Row) (place column : ℕ) → rows_in width count cells ≡ rows → place < length rows → column < width → slice_index_or cells (place * width + column) (pos 0) ≡ number_at (row_at rows place) column
number_is width count cells rows place column view below in_row =
    let counted : length rows ≡ count = ap length (sym view) ∙ length-rows_in width count cells in
    rw (← view, row_at-rows_in width count cells place (omega arith))
    (sym (get_or-take width (drop (place * width) cells) column (pos 0) in_row ∙ get_or-drop (place * width) cells column (pos 0)))

-- past the numbers of a row
pub number_past : (width count : ℕ) (cells : List ℤ) (rows : List Row) (place column : ℕ) → AreStored width count cells → rows_in width count cells ≡ rows → place < length rows → width ≤ column → pos 0 ≡ number_at (row_at rows place) column
number_past width count cells rows place column stored view below past =
    let wide = row_wide width count cells rows place stored view below in
    sym (get_or_past (row_at rows place).cells column (pos 0) (omega (arith, wide)))
