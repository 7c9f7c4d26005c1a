-- The least number of each side, and the row of them.
use Rattle.std.proofs.Common.{◌≡◌, ℕ, zero, suc, ◌+◌, ◌-◌, ◌<◌, ◌≤◌, ◌^◌, true, ℤ, pos, negsuc, ◌≤ℤ◌, List, [], ◌∷◌, ◌++◌, length, get_or, take, set, Option, Some, subst, refl, sym, ap, ◌∙◌, true≢false, arith, to_z, w64, eqb-true}
use Rattle.std.specs.Cmp.Lexicographic.{pointwise}
use Rattle.std.specs.List.{AllZip}
use Rattle.std.specs.Int.{w128, bit_at}
use Rattle.std.specs.Int.Count.{count_trailing_zeros}
use Rattle.std.proofs.lemmas.Bool.{and_parts, and_from}
use Rattle.std.proofs.lemmas.Int.{ints, to_z_pos}
use Rattle.std.proofs.lemmas.List.{take_more, take_all, get_or-set_other}
use Rattle.std.proofs.lemmas.Nat.Bits.{bit_at-trailing_zeros}
use Rattle.std.proofs.lemmas.Slice.Zip.{all_zipped_more}
use Rattle.pc_model.specs.declared.row.Row.{Row}
use Rattle.pc_model.specs.declared.region.Side.{Side}
use Rattle.pc_model.specs.declared.region.Side.TheVariants.{Span, Names}
use Rattle.pc_model.specs.declared.region.Region.{Region}
use Rattle.pc_model.specs.Aggregate.{number_at}
use Rattle.pc_model.specs.Membership.{holds, has}
use Rattle.pc_model.specs.Places.{is_place_of}
use Rattle.pc_model.proofs.Between.{between_parts}
use Rattle.pc_box.specs.Boxes.{are_like}
use Rattle.pc_cells.specs.Lowest.{IsBelowPlaces, IsLeastOf, IsLowestBut}
use Rattle.pc_cells.proofs.Picks.{least_of_span, side_like}

-- ---- one side

pub below_places : (bits : ℕ) → 0 < bits → bits < 2 ^ 128 → IsBelowPlaces bits (to_z w64 (count_trailing_zeros 128 bits))
below_places bits some fits = by
  where
    lowest : (count_trailing_zeros 128 bits < 128) × (bit_at bits (count_trailing_zeros 128 bits) ≡ 1) × ((i : ℕ) → i < count_trailing_zeros 128 bits → bit_at bits i ≡ 0)
    lowest = bit_at-trailing_zeros w128 bits some fits

    at_least : (i : ℕ) → bit_at bits i ≡ 1 → count_trailing_zeros 128 bits ≤ i
    at_least i one = by_rest (count_trailing_zeros 128 bits - i) refl
      where
        by_rest : (rest : ℕ) → count_trailing_zeros 128 bits - i ≡ rest → count_trailing_zeros 128 bits ≤ i
        by_rest zero e = omega arith
        by_rest (suc rest) e = absurd (omega (arith, one, lowest.2 i (omega arith)))

    by : (place : ℤ) → is_place_of bits place ≡ true → to_z w64 (count_trailing_zeros 128 bits) ≤ℤ place
    by (pos i) held =
        rw (to_z_pos w64 (count_trailing_zeros 128 bits) (omega (arith, lowest.0)))
        (omega (arith, ints, at_least i (eqb-true (bit_at bits i) 1 held)))
    by (negsuc i) held = absurd (true≢false (sym held))

pub least_span : (low high : ℤ) → are_like (Span low high) (Span low high) ≡ true → IsLeastOf (Span low high) low
unfolding holds
least_span low high like = record {
  held = least_of_span low high like;
  least = λ other held. (between_parts low high other held).0;
}

pub least_place : (bits : ℕ) (number : ℤ) → is_place_of bits number ≡ true → IsBelowPlaces bits number → IsLeastOf (Names bits) number
unfolding holds
least_place bits number there lowest = record { held = there; least = lowest }

-- ---- as far as a loop over the sides has come

pub least_more : (sides : List Side) (cells : List ℤ) (place : ℕ) (d : Side) (n : ℤ) → place < length sides → AllZip IsLeastOf (take place sides) cells → IsLeastOf (get_or sides place d) n →
    AllZip IsLeastOf (take (place + 1) sides) (cells ++ n ∷ [])
least_more sides cells place d n inside least last = rw (take_more sides place d inside) (all_zipped_more IsLeastOf (take place sides) cells (get_or sides place d) n least last)

pub least_all : (sides : List Side) (cells : List ℤ) (place : ℕ) → length sides ≤ place → AllZip IsLeastOf (take place sides) cells → AllZip IsLeastOf sides cells
least_all sides cells place past least = subst (λ (x : List Side). AllZip IsLeastOf x cells) (take_all place sides past) least

held_each : (sides : List Side) (cells : List ℤ) → AllZip IsLeastOf sides cells → pointwise holds sides cells ≡ true
held_each [] [] least = refl
held_each [] (n ∷ cells) least = absurd least
held_each (side ∷ sides) [] least = absurd least
held_each (side ∷ sides) (n ∷ cells) least = and_from (holds side n) (pointwise holds sides cells) least.0.held (held_each sides cells least.1)

pub held_all : (sides : List Side) (cells : List ℤ) (place : ℕ) → length sides ≤ place → AllZip IsLeastOf (take place sides) cells → pointwise holds sides cells ≡ true
held_all sides cells place past least = held_each sides cells (least_all sides cells place past least)

pub ruleset steps = (side_like, least_more, least_all, held_all)

-- ---- a row

lowest_cells : (sides : List Side) (cells others : List ℤ) (column : ℕ) → AllZip IsLeastOf sides cells → pointwise holds sides others ≡ true → get_or cells column (pos 0) ≤ℤ get_or others column (pos 0)
lowest_cells [] [] [] column least held = omega (arith, ints)
lowest_cells [] [] (m ∷ others) column least held = absurd (true≢false (sym held))
lowest_cells [] (n ∷ cells) others column least held = absurd least
lowest_cells (side ∷ sides) [] others column least held = absurd least
lowest_cells (side ∷ sides) (n ∷ cells) [] column least held = absurd (true≢false (sym held))
lowest_cells (side ∷ sides) (n ∷ cells) (m ∷ others) zero least held = least.0.least m (and_parts (holds side m) (pointwise holds sides others) held).0
lowest_cells (side ∷ sides) (n ∷ cells) (m ∷ others) (suc column) least held = lowest_cells sides cells others column least.1 (and_parts (holds side m) (pointwise holds sides others) held).1

module _ (region : Region) (sides : List Side) (cells : List ℤ) (of_region : sides ≡ region.sides) (least : AllZip IsLeastOf sides cells) where
  all_least : AllZip IsLeastOf region.sides cells
  all_least = subst (λ (x : List Side). AllZip IsLeastOf x cells) of_region least

  pub lowest_row : (named : Option ℕ) (row : Row) → row.cells ≡ cells → IsLowestBut named region row
  unfolding has
  lowest_row named row is column free other held = rw is (lowest_cells region.sides cells other.cells column all_least held)

  pub lowest_row_with : (named : Option ℕ) (at : ℕ) (value : ℤ) → named ≡ Some at → (row : Row) (with : List ℤ) → with ≡ set cells at value → row.cells ≡ with → IsLowestBut named region row
  unfolding has
  lowest_row_with named at value is_named row with set_is row_is column free other held =
      let apart : column ≡ at → ⊥ = λ same. free (is_named ∙ ap Some (sym same)) in
      let kept : get_or row.cells column (pos 0) ≡ get_or cells column (pos 0) = ap (λ (x : List ℤ). get_or x column (pos 0)) (row_is ∙ set_is) ∙ get_or-set_other cells at column value (pos 0) apart in
      subst (λ n. n ≤ℤ number_at other column) (sym kept) (lowest_cells region.sides cells other.cells column all_least held)
