-- What lost rows gain, each by its class, is within the bound of a tree of splits.
use Rattle.std.proofs.Common.{◌≡◌, ℤ, neg_ℤ, ◌≤ℤ◌, List, map, Option, Some, None, IfSome, IsNone, subst, true≢false, arith}
use Rattle.std.specs.Int.{int_max}
use Rattle.std.proofs.lemmas.Int.{ints, clamps}
use Rattle.pc_model.specs.declared.row.Row.{Row}
use Rattle.pc_model.specs.declared.tree.Tree.{Tree}
use Rattle.pc_model.specs.Aggregate.{int_sum}
use Rattle.pc_model.specs.Possible.{IsPossible}
use Rattle.pc_model.specs.WellFormed.{IsWellFormed}
use Rattle.pc_model.specs.Cells.{Class, class_of, IsSettledTree}
use Rattle.pc_program_bound.specs.SplitTrees.{tree_of, IsWithin}
use Rattle.pc_program_bound.specs.CellPrograms.{counts_of}
use Rattle.pc_program_bound.proofs.TreeBounds.{tree-bounds}
use Rattle.pc_proof.proofs.PossibleRows.{rows_are_allocation, rows_are_worth}
use Rattle.pc_proof.specs.Setting.{Setting, area_of, cells, program_for}
use Rattle.pc_proof.specs.Table.{limit, bound_for, IsSound, Shows, ShowsNone, Cross, one, minus_one}
use Rattle.pc_proof.proofs.Seen.{int_sum-neg}

-- the tree of cuts is settled for the question
abbrev pub IsSettledFor : Setting → Type 0
IsSettledFor s = IsSettledTree s.question.schema s.question.constraints (area_of s.question) s.nodes

-- what the rows gain, each by its class
abbrev pub gains_of : Setting → (Class → ℤ) → List Row → ℤ
gains_of s gain rows = int_sum (map (λ (row : Row). gain (class_of s.question.constraints (area_of s.question) row)) rows)

-- ---- numbers within a bound

-- where a number is within a bound that passes, it is at most a number that passes
shown_within : (v low : ℤ) (most : Option ℤ) (P : ℤ → Type 0) → IsWithin v most → IfSome most (λ k. P (int_max k low)) → (k : ℤ) × P k × (v ≤ℤ k)
shown_within v low None P within passes = absurd within
shown_within v low (Some k) P within passes = (int_max k low, passes, omega (arith, ints, clamps, within))

none_within : (v : ℤ) (most : Option ℤ) → IsWithin v most → IsNone most → ⊥
none_within v None within none = within
none_within v (Some k) within none = absurd (true≢false none)

cross_within : (v w : ℤ) (a b : Option ℤ) → w ≡ neg_ℤ v → IsWithin v a → IsWithin w b → Cross a b → ⊥
cross_within v w None b opposite first second cross = first
cross_within v w (Some x) None opposite first second cross = second
cross_within v w (Some x) (Some y) opposite first second cross = omega (arith, ints, clamps)

-- ---- the rows of a possible list

module _ (s : Setting) (formed : IsWellFormed s.question.schema) (tree : IsSettledFor s) (lost : List Row)
    (possible : IsPossible s.question.schema s.question.constraints lost) where
  pub gains_within : (gain : Class → ℤ) (t : Tree) → IsSound (program_for s gain) t → IsWithin (gains_of s gain lost) (bound_for (program_for s gain) t)
  gains_within gain t sound =
      subst (λ v. IsWithin v (bound_for (program_for s gain) t)) (rows_are_worth s.question.schema s.question.constraints (area_of s.question) s.nodes gain lost formed tree possible)
      (tree-bounds (program_for s gain) (program_for s gain).floor (program_for s gain).cap (counts_of s.question.constraints (area_of s.question) (cells s) lost) (tree_of t.nodes) sound.proves
      (rows_are_allocation s.question.schema s.question.constraints (area_of s.question) s.nodes gain lost formed tree possible))

  -- a tree that shows something of its bound shows it of a number that the gains do not pass
  pub shown_gains : (gain : Class → ℤ) (t : Tree) (P : ℤ → Type 0) → Shows (program_for s gain) t P → (k : ℤ) × P k × (gains_of s gain lost ≤ℤ k)
  shown_gains gain t P shows = shown_within (gains_of s gain lost) (neg_ℤ limit) (bound_for (program_for s gain) t) P (gains_within gain t shows.sound) shows.passes

  -- a tree with no bound leaves no list
  pub none_possible : (gain : Class → ℤ) (t : Tree) → ShowsNone (program_for s gain) t → ⊥
  none_possible gain t shows = none_within (gains_of s gain lost) (bound_for (program_for s gain) t) (gains_within gain t shows.sound) shows.none

  -- nor do a most of rows below a least
  pub cross_possible : (t u : Tree) → IsSound (program_for s one) t → IsSound (program_for s minus_one) u →
      Cross (bound_for (program_for s one) t) (bound_for (program_for s minus_one) u) → ⊥
  cross_possible t u first second cross =
      cross_within (gains_of s one lost) (gains_of s minus_one lost) (bound_for (program_for s one) t) (bound_for (program_for s minus_one) u)
      (int_sum-neg (λ (row : Row). one (class_of s.question.constraints (area_of s.question) row)) lost) (gains_within one t first) (gains_within minus_one u second) cross
