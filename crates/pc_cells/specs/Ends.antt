-- The low ends of a column and the high ones, by one word for which of them.
use Rattle.std.specs.Prelude.{◌≡◌, ℕ, ℤ, Bool, true, false, cond, List, take, All, int_lt}
use Rattle.pc_model.specs.declared.region.Region.{Region}
use Rattle.pc_model.specs.Cells.{low_at, high_at, least_low, greatest_high}
use Rattle.pc_cells.specs.declared.ends.End.{End}

abbrev pub end_at : Bool → ℕ → Region → ℤ
end_at true column box = low_at column box
end_at false column box = high_at column box

-- the least low end, or the greatest high end
abbrev pub last_end : Bool → ℕ → List Region → ℤ
last_end true column boxes = least_low column boxes
last_end false column boxes = greatest_high column boxes

-- no leaf before this one has the number as its end
abbrev pub IsFirstAt : Bool → ℕ → List Region → ℕ → ℤ → Type 0
IsFirstAt low column leaves leaf number = All (λ (other : Region). number ≡ end_at low column other → ⊥) (take leaf leaves)

-- a number lies beyond another
abbrev pub is_past : Bool → ℤ → ℤ → Bool
is_past true number other = int_lt number other
is_past false number other = int_lt other number

-- the end of a leaf where it lies beyond the one so far
abbrev pub further_end : End → ℕ → Region → ℕ → Bool → End
further_end end leaf region column low = cond (is_past low (end_at low column region) end.number) (record { number = end_at low column region; leaf = leaf }) end
