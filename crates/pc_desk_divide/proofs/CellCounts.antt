-- There are no more cells than choices of pieces.
use Rattle.std.proofs.Common.{◌≡◌, ◌⊎◌, ◌≤◌, ◌*◌, ◌-◌, ◌^◌, ℕ, zero, suc, Bool, true, false, List, [], ◌∷◌, cond, fold, flat_map, length, min, nat_lt, ⊎_elim, inl, inr, refl, arith, ltb-false, ltb-true}
use Rattle.std.proofs.lemmas.List.{length-append}
use Rattle.std.proofs.lemmas.Nat.{mul-le}
use Rattle.pc_model.specs.declared.area.Area.{Area}
use Rattle.pc_model.specs.declared.region.Side.{Side}
use Rattle.pc_desk_divide.specs.declared.parting.Parting.{Parting}
use Rattle.pc_desk_divide.specs.Cells.{cell_limit, choices, cut_cell, cut_cells, listed, narrowed_area, times}

flat_few : {A B : Type 0} (f : A → List B) (most : ℕ) → ((x : A) → length (f x) ≤ most) → (xs : List A) → length (flat_map f xs) ≤ length xs * most
flat_few f most each [] = omega arith
flat_few f most each (x ∷ xs) =
    let joined = length-append (f x) (flat_map f xs) in
    let first = each x in
    let rest = flat_few f most each xs in
    omega (arith, joined, first, rest)

listed_few : (area : Area) → length (listed area) ≤ 1
listed_few area = by_test (nat_lt 0 (length area.boxes))
  where
    by_test : (test : Bool) → length (cond test (area ∷ []) []) ≤ 1
    by_test true = omega arith
    by_test false = omega arith

cut_few : (parting : Parting) (cell : Area) → length (cut_cell parting cell) ≤ length parting.pieces
cut_few parting cell =
    let few = flat_few (λ (piece : Side). listed (narrowed_area parting.column cell piece)) 1 (λ piece. listed_few (narrowed_area parting.column cell piece)) parting.pieces in
    omega (arith, few)

cells_few : (cells : List Area) (parting : Parting) → length (cut_cells cells parting) ≤ length cells * length parting.pieces
cells_few cells parting = flat_few (cut_cell parting) (length parting.pieces) (cut_few parting) cells

-- no more than counted, unless the count stands at its limit
abbrev IsCounted : List Area → ℕ → Type 0
IsCounted cells count = (length cells ≤ count) ⊎ (count ≡ 2 ^ 64 - 1)

-- a number within a product is within it as it is cut at a limit, unless the cut one stands there
within_cut : (size product most : ℕ) → size ≤ product → (size ≤ min product most) ⊎ (min product most ≡ most)
within_cut size product most few = by_test (nat_lt product most) refl
  where
    by_test : (test : Bool) → nat_lt product most ≡ test → (size ≤ min product most) ⊎ (min product most ≡ most)
    by_test true e = let below = ltb-true product most e in inl (grind (arith, below, few))
    by_test false e = let past = ltb-false product most e in inr (grind (arith, past))

-- of no pieces there are no cells; else the limit stays where it is
full_cut : (size most pieces : ℕ) → size ≤ 0 ⊎ 1 ≤ pieces → (size ≤ min (most * pieces) most) ⊎ (min (most * pieces) most ≡ most)
full_cut size most pieces (inl none) = inl (omega (arith, none))
full_cut size most pieces (inr some) = let past = mul-le most 1 most pieces (omega arith) some in inr (grind (arith, past))

none_or_some : (cells : List Area) (parting : Parting) → (length (cut_cells cells parting) ≤ 0) ⊎ (1 ≤ length parting.pieces)
none_or_some cells parting = by_size (length parting.pieces) (cells_few cells parting)
  where
    by_size : (pieces : ℕ) → length (cut_cells cells parting) ≤ length cells * pieces → (length (cut_cells cells parting) ≤ 0) ⊎ (1 ≤ pieces)
    by_size zero few = inl (omega (arith, few))
    by_size (suc pieces) few = inr (omega arith)

counted_more : (cells : List Area) (count : ℕ) (parting : Parting) → IsCounted cells count → IsCounted (cut_cells cells parting) (times count parting)
counted_more cells count parting (inl within) =
    let few = cells_few cells parting in
    let more = mul-le (length cells) (length parting.pieces) count (length parting.pieces) within (omega arith) in
    within_cut (length (cut_cells cells parting)) (count * length parting.pieces) (2 ^ 64 - 1) (omega (arith, few, more))
counted_more cells count parting (inr full) =
    rw full (full_cut (length (cut_cells cells parting)) (2 ^ 64 - 1) (length parting.pieces) (none_or_some cells parting))

all_counted : (partings : List Parting) (cells : List Area) (count : ℕ) → IsCounted cells count → IsCounted (fold cut_cells cells partings) (fold times count partings)
all_counted [] cells count is = is
all_counted (parting ∷ partings) cells count is = all_counted partings (cut_cells cells parting) (times count parting) (counted_more cells count parting is)

pub few_cells : (chosen : Area) (partings : List Parting) → nat_lt cell_limit (choices partings) ≡ false → length (fold cut_cells (chosen ∷ []) partings) ≤ cell_limit
few_cells chosen partings test =
    let few : choices partings ≤ 20 = ltb-false cell_limit (choices partings) test in
    ⊎_elim (λ within. omega (arith, within, few)) (λ full. omega (arith, full, few)) (all_counted partings (chosen ∷ []) 1 (inl (omega arith)))
