-- A row less of those that stand in one list of numbers.
use Rattle.std.proofs.Common.{◌≡◌, ◌∙◌, ℕ, zero, suc, ◌+◌, ◌-◌, ◌*◌, ◌<◌, ◌≤◌, ℤ, List, ◌∷◌, ◌++◌, length, take, drop, refl, ap, sym, append_assoc, arith}
use Rattle.std.specs.List.{remove, remove_range}
use Rattle.std.proofs.Math.Seq.{take-add, take-append-add, drop-append-add}
use Rattle.std.proofs.lemmas.List.{length-append, length-drop, length-take-le, drop-drop, take-append-le, drop-append-le, take_all}
use Rattle.pc_model.specs.declared.row.Row.{Row}
use Rattle.pc_model.specs.Membership.{row_from as row}
use Rattle.pc_rows.specs.Stored.{rows_in, AreStored}
use Rattle.pc_rows.proofs.Storing.{length-rows_in, row_within}

-- ---- out of one of two lists, or across both

module _ {X : Type 0} where
  take_past : (n : ℕ) (xs ys : List X) → length xs ≤ n → take n (xs ++ ys) ≡ xs ++ take (n - length xs) ys
  take_past n xs ys past =
      let all : n ≡ length xs + (n - length xs) = omega arith in
      ap (λ k. take k (xs ++ ys)) all ∙ take-append-add xs ys (n - length xs)

  drop_past : (n : ℕ) (xs ys : List X) → length xs ≤ n → drop n (xs ++ ys) ≡ drop (n - length xs) ys
  drop_past n xs ys past =
      let all : n ≡ length xs + (n - length xs) = omega arith in
      ap (λ k. drop k (xs ++ ys)) all ∙ drop-append-add xs ys (n - length xs)

  pub out_of_first : (from end : ℕ) (xs ys : List X) → from ≤ end → end ≤ length xs → remove_range xs from end ++ ys ≡ remove_range (xs ++ ys) from end
  out_of_first from end xs ys in_order inside =
      let starts : from ≤ length xs = omega arith in
      rw (take-append-le from xs ys starts, drop-append-le end xs ys inside) (append_assoc (take from xs) (drop end xs) ys)

  pub out_of_second : (from end : ℕ) (xs ys : List X) → from ≤ end → length xs ≤ from → xs ++ remove_range ys (from - length xs) (end - length xs) ≡ remove_range (xs ++ ys) from end
  out_of_second from end xs ys in_order past =
      let ends : length xs ≤ end = omega arith in
      rw (take_past from xs ys past, drop_past end xs ys ends) (sym (append_assoc xs (take (from - length xs) ys) (drop (end - length xs) ys)))

  pub out_of_both : (from end : ℕ) (xs ys : List X) → from ≤ length xs → length xs ≤ end → take from xs ++ drop (end - length xs) ys ≡ remove_range (xs ++ ys) from end
  out_of_both from end xs ys starts ends = rw (take-append-le from xs ys starts, drop_past end xs ys ends) refl

pub ruleset ranges = (out_of_first, out_of_second, out_of_both)

-- ---- rows

after_width : (width at : ℕ) → suc at * width ≡ width + at * width
after_width width at = omega arith

-- a row further down is taken out of the rest
range_further : (width from end : ℕ) (cells : List ℤ) → width ≤ length cells → remove_range cells (width + from) (width + end) ≡ take width cells ++ remove_range (drop width cells) from end
range_further width from end cells inside =
    rw (take-add width from cells, ← drop-drop end width cells) (append_assoc (take width cells) (take from (drop width cells)) (drop end (drop width cells)))

pub rows_in-remove : (width count at : ℕ) (cells : List ℤ) → at < suc count → length cells ≡ suc count * width → rows_in width count (remove_range cells (at * width) (at * width + width)) ≡ remove (rows_in width (suc count) cells) at
unfolding rows_in
rows_in-remove width count zero cells below full =
    let start : 0 * width ≡ 0 = omega arith in
    let end : 0 * width + width ≡ width = omega arith in
    rw (end, start) refl
rows_in-remove width zero (suc at) cells below full = absurd (omega arith)
rows_in-remove width (suc count) (suc at) cells below full =
    let inside : width ≤ length cells = omega arith in
    let rest_full : length (drop width cells) ≡ suc count * width = omega (arith, length-drop width cells) in
    let end : suc at * width + width ≡ width + (at * width + width) = omega arith in
    let first : length (take width cells) ≡ width = length-take-le width cells inside in
    let rest = remove_range (drop width cells) (at * width) (at * width + width) in
    let less : remove_range cells (suc at * width) (suc at * width + width) ≡ take width cells ++ rest = rw (end, after_width width at) (range_further width (at * width) (at * width + width) cells inside) in
    let head : take width (take width cells ++ rest) ≡ take width cells = take-append-le width (take width cells) rest (omega (arith, first)) ∙ take_all width (take width cells) (omega (arith, first)) in
    let none : width - length (take width cells) ≡ 0 = omega (arith, first) in
    let tail : drop width (take width cells ++ rest) ≡ rest = drop_past width (take width cells) rest (omega (arith, first)) ∙ rw none refl in
    rw (less, head, tail) (ap (λ rows. row (take width cells) ∷ rows) (rows_in-remove width count at (drop width cells) (omega arith) rest_full))

-- the rows without one of them
module _ (width count : ℕ) (cells : List ℤ) (rows : List Row) (at : ℕ) (stored : AreStored width count cells) (view : rows_in width count cells ≡ rows) (below : at < length rows) where
  counted : at < count
  counted = let same : length rows ≡ count = ap length (sym view) ∙ length-rows_in width count cells in omega arith

  pub some_row : 1 ≤ count
  some_row = omega (arith, counted)

  pub without_row : rows_in width (count - 1) (remove_range cells (at * width) (at * width + width)) ≡ remove rows at
  without_row =
      let all : suc (count - 1) ≡ count = omega (arith, counted) in
      let less : at < suc (count - 1) = omega (arith, counted) in
      let full : length cells ≡ suc (count - 1) * width = rw all stored.full in
      rows_in-remove width (count - 1) at cells less full ∙ rw (all, view) refl

  pub still_stored : AreStored width (count - 1) (remove_range cells (at * width) (at * width + width))
  still_stored =
      let within = row_within width count cells rows at stored view below in
      let all : count ≡ suc (count - 1) = omega (arith, counted) in
      let full : length cells ≡ suc (count - 1) * width = rw (← all) stored.full in
      let start : at * width ≤ length cells = omega (arith, within) in
      let left : length (remove_range cells (at * width) (at * width + width)) ≡ (count - 1) * width =
      omega (arith, within, full, length-append (take (at * width) cells) (drop (at * width + width) cells), length-take-le (at * width) cells start, length-drop (at * width + width) cells) in
      record { full = left; few = omega (arith, stored.few); short = omega (arith, left, full, stored.short) }
