-- Lists with no row in the closed cells.
use Rattle.std.proofs.Common.{◌≡◌, ℕ, ◌<◌, ◌≤◌, ℤ, pos, ◌≤ℤ◌, Bool, true, false, cond, ◌&&◌, List, [], ◌∷◌, map, get_or, All, count_by, Option, Some, None, IfSome, refl, sym, ap, subst, ◌∙◌, true≢false, arith}
use Rattle.std.proofs.lemmas.Bool.{and_parts, false_from_ne_true}
use Rattle.std.proofs.lemmas.Int.{ints}
use Rattle.std.proofs.lemmas.List.{get_or-map}
use Rattle.std.proofs.lemmas.List.Elements.{All-head, All-tail}
use Rattle.pc_model.specs.declared.row.Row.{Row}
use Rattle.pc_model.specs.declared.tree.Tree.{Tree}
use Rattle.pc_model.specs.Right.{IsPossibleFor}
use Rattle.pc_model.specs.Cells.{Class, is_class}
use Rattle.pc_model.proofs.Tallies.{count_by-skips}
use Rattle.pc_cells_laws.proofs.Classes.{is_class-same}
use Rattle.pc_program_bound.specs.declared.program.Program.{Program}
use Rattle.pc_program_bound.specs.Sums.{nat_at}
use Rattle.pc_program_bound.specs.Allocation.{cells_of, IsAllocation}
use Rattle.pc_program_bound.specs.SplitTrees.{tree_of, IsWithin}
use Rattle.pc_program_bound.specs.CellPrograms.{cap_of, count_in, counts_of}
use Rattle.pc_program_bound.proofs.CellPlaces.{no_class, cell_inside, cap_is}
use Rattle.pc_program_bound.proofs.TreeBounds.{tree-bounds}
use Rattle.pc_proof.proofs.PossibleRows.{rows_are_allocation, rows_are_worth}
use Rattle.pc_proof.specs.Setting.{Setting, area_of, seen_count, cells, on_chosen, open_cap, program_for, program_without}
use Rattle.pc_proof.specs.Table.{bound_for, one, ShowsForced}
use Rattle.pc_proof.specs.Unbroken.{IsWellPosed}
use Rattle.pc_proof.proofs.Gains.{IsSettledFor, gains_of}
use Rattle.pc_proof.proofs.Groups.{keeps_area}
use Rattle.pc_proof.proofs.Kept.{cell_of, count_is, no_numbers}
use Rattle.pc_proof.proofs.Seen.{keeps, all_numbers}

-- no row passes, so none is counted
none_passes : {X : Type 0} (test : X → Bool) (xs : List X) → All (λ x. test x ≡ false) xs → count_by test xs ≡ 0
none_passes test [] none = refl
none_passes test (x ∷ xs) none =
    count_by-skips test x xs (All-head (λ y. test y ≡ false) x xs none) ∙ none_passes test xs (All-tail (λ y. test y ≡ false) x xs none)

-- a count within what is left of a cap
within_open : (closed : Bool) (count cap : ℕ) → (closed ≡ true → count ≡ 0) → count ≤ cap → count ≤ cond closed 0 cap
within_open true count cap none fits = omega (arith, none refl)
within_open false count cap none fits = fits

-- a forced program leaves no rows where no row was observed
forced_few : (n : ℤ) (seen : ℤ) (most : Option ℤ) → IsWithin n most → IfSome most (λ k. (seen ≡ pos 0) × (k ≤ℤ pos 0)) → (seen ≡ pos 0) × (n ≤ℤ pos 0)
forced_few n seen None within forced = absurd within
forced_few n seen (Some k) within forced = (forced.0, omega (arith, ints, within, forced.1))

module _ (s : Setting) (posed : IsWellPosed s.question) (tree : IsSettledFor s) (lost : List Row) (possible : IsPossibleFor s.question lost) (closed : Class → Bool) where
  -- no row that the query keeps is in a closed cell
  abbrev pub AreOpen : Type 0
  AreOpen = All (λ (row : Row). keeps s.question row ≡ true → closed (cell_of s row) ≡ false) lost

  abbrev counts : List ℕ
  counts = counts_of s.question.constraints (area_of s.question) (cells s) lost

  abbrev plain : Program
  plain = program_for s (on_chosen one)

  allocated : IsAllocation plain plain.floor plain.cap counts
  allocated = rows_are_allocation s.question.schema s.question.constraints (area_of s.question) s.nodes (on_chosen one) lost posed.formed tree possible

  -- a closed cell has no rows
  none_in_closed : AreOpen → (class : Class) → (class.chosen && closed class) ≡ true → count_in s.question.constraints (area_of s.question) lost class ≡ 0
  none_in_closed open' class shut =
      let parts = and_parts class.chosen (closed class) shut in
      none_passes (λ (row : Row). is_class (cell_of s row) class) lost
      (λ place d inside.
      false_from_ne_true (is_class (cell_of s (get_or lost place d)) class)
      (λ same.
      let is = is_class-same (cell_of s (get_or lost place d)) class same in
      let kept : keeps s.question (get_or lost place d) ≡ true = keeps_area s.question posed (get_or lost place d) ∙ ap (λ (c : Class). c.chosen) is ∙ parts.0 in
      true≢false (sym parts.1 ∙ ap closed (sym is) ∙ open' place d inside kept)))

  pub open_within : AreOpen → IsAllocation (program_without s closed) (program_without s closed).floor (program_without s closed).cap counts
  open_within open' = record { sized = allocated.sized; within = within_caps; met = allocated.met }
    where
      within_caps : (i : ℕ) → i < cells_of (program_without s closed) → (nat_at (program_without s closed).floor i ≤ nat_at counts i) × (nat_at counts i ≤ nat_at (program_without s closed).cap i)
      within_caps i below =
          let there = cell_inside s.question.constraints (cells s) (map (on_chosen one) (cells s)) i below in
          let class = get_or (cells s) i no_class in
          let fits = allocated.within i below in
          let count = get_or-map (count_in s.question.constraints (area_of s.question) lost) (cells s) i no_class 0 there in
          let cap = cap_is s.question.constraints (cells s) (map (on_chosen one) (cells s)) i there in
          let left = get_or-map (open_cap s closed) (cells s) i no_class 0 there in
          let few = within_open (class.chosen && closed class) (count_in s.question.constraints (area_of s.question) lost class) (cap_of s.question.constraints class)
          (none_in_closed open' class) (omega (arith, fits.1, count, cap)) in
          (fits.0, omega (arith, few, count, left))

  -- where a list with no row in a closed cell has none
  pub none_open : (t : Tree) → ShowsForced s (program_without s closed) t → AreOpen → all_numbers s.question lost ≡ []
  none_open t shows open' =
      let bounded : IsWithin (gains_of s (on_chosen one) lost) (bound_for (program_without s closed) t) =
      subst (λ n. IsWithin n (bound_for (program_without s closed) t)) (rows_are_worth s.question.schema s.question.constraints (area_of s.question) s.nodes (on_chosen one) lost posed.formed tree possible)
      (tree-bounds (program_without s closed) (program_without s closed).floor (program_without s closed).cap counts (tree_of t.nodes) shows.sound.proves (open_within open')) in
      let few = forced_few (gains_of s (on_chosen one) lost) (seen_count s.question) (bound_for (program_without s closed) t) bounded shows.forced in
      no_numbers s lost few.0 (omega (arith, ints, count_is s posed tree lost possible, few.1))
