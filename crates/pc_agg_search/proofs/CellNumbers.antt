-- The keys of the cells are small.
use Rattle.std.proofs.Common.{ℕ, ◌≤◌, ℤ, pos, Bool, true, false, cond, List, [], ◌∷◌, map, All, subst, arith}
use Rattle.std.specs.Prelude.{nat_abs}
use Rattle.std.specs.List.{AllZip}
use Rattle.std.proofs.lemmas.Int.{ints}
use Rattle.std.proofs.lemmas.List.Elements.{All-nil, All-cons, All-map}
use Rattle.pc_num.specs.Scaled.{greatest_size}
use Rattle.pc_model.specs.declared.row.Row.{Row}
use Rattle.pc_model.specs.Aggregate.{asked}
use Rattle.pc_model.specs.Cells.{Class}
use Rattle.pc_model.specs.WellFormed.{IsWellFormed}
use Rattle.pc_proof.specs.Setting.{Setting, on_chosen}
use Rattle.pc_agg_search.specs.declared.extreme.Extreme.{Extreme}
use Rattle.pc_agg_search.specs.declared.extreme.Extreme.TheVariants.{Low, High}
use Rattle.pc_agg_search.specs.Ends.{signed}
use Rattle.pc_agg_search.specs.Keys.{key_of, IsAtEnd}
use Rattle.pc_proof.proofs.RowNumbers.{asked_small}

signed_small : (extreme : Extreme) (n : ℤ) (most : ℕ) → nat_abs n ≤ most → nat_abs (signed extreme n) ≤ most
signed_small Low n most small = omega (arith, ints, small)
signed_small High n most small = small

if_chosen : (chosen : Bool) (n : ℤ) → nat_abs n ≤ greatest_size → nat_abs (cond chosen n (pos 0)) ≤ greatest_size
if_chosen true n small = small
if_chosen false n small = omega arith

module _ (s : Setting) (extreme : Extreme) (formed : IsWellFormed s.question.schema) where
  abbrev pub IsSmallKey : Class → Type 0
  IsSmallKey class = nat_abs (on_chosen (key_of s extreme) class) ≤ greatest_size

  key_small : (class : Class) (row : Row) → IsAtEnd s extreme class row → IsSmallKey class
  key_small class row at_end =
      if_chosen class.chosen (key_of s extreme class) (subst (λ n. nat_abs n ≤ greatest_size) at_end.number
      (signed_small extreme (asked s.question.query row) (greatest_size) (asked_small s.question.schema s.question.query row formed at_end.of_cell.allowed)))

  pub each_small : (classes : List Class) (picks : List Row) → AllZip (IsAtEnd s extreme) classes picks → All IsSmallKey classes
  each_small [] [] picked = All-nil IsSmallKey
  each_small [] (row ∷ picks) picked = absurd picked
  each_small (class ∷ classes) [] picked = absurd picked
  each_small (class ∷ classes) (row ∷ picks) picked = All-cons IsSmallKey class classes (key_small class row picked.0) (each_small classes picks picked.1)

  pub keys_small : (classes : List Class) (picks : List Row) → AllZip (IsAtEnd s extreme) classes picks → All (λ n. nat_abs n ≤ greatest_size) (map (on_chosen (key_of s extreme)) classes)
  keys_small classes picks picked = All-map (λ n. nat_abs n ≤ greatest_size) (on_chosen (key_of s extreme)) classes (each_small classes picks picked)
