-- The lines of members that stand so far, and those that are left.
use Rattle.std.proofs.Common.{◌≡◌, ℕ, ◌+◌, ◌<◌, ◌≤◌, List, [], ◌∷◌, ◌++◌, length, get_or, drop, refl}
use Rattle.pc_model.specs.declared.constraint.Constraint.{Constraint}
use Rattle.pc_model.specs.declared.row.Run.{Run}
use Rattle.pc_model.specs.declared.schema.Schema.{Schema}
use Rattle.pc_model.proofs.Pieces.{pieces_step, pieces_past, pieces_spent}
use Rattle.pc_desk_short.specs.declared.clash_line.ClashLine.{ClashLine}
use Rattle.pc_desk_short.specs.ClashTexts.{member_line, member_lines}

module _ (schema : Schema) (constraints : List Constraint) where
  next_line : (member : ℕ) (members : List ℕ) (runs : List Run) (lists : List (List Run)) →
      member_lines schema constraints (member ∷ members) (runs ∷ lists) ≡ member_line schema constraints member runs ∷ member_lines schema constraints members lists
  unfolding member_lines
  next_line member members runs lists = refl

  no_members : (lists : List (List Run)) → member_lines schema constraints [] lists ≡ []
  unfolding member_lines
  no_members lists = refl

  no_lists : (members : List ℕ) → member_lines schema constraints members [] ≡ []
  unfolding member_lines
  no_lists [] = refl
  no_lists (member ∷ members) = refl

  pub lines_step : (lines : List ClashLine) (members : List ℕ) (lists : List (List Run)) (i : ℕ) (member : ℕ) (runs : List Run) → i < length members → i < length lists →
      (lines ++ member_line schema constraints (get_or members i member) (get_or lists i runs) ∷ []) ++ member_lines schema constraints (drop (i + 1) members) (drop (i + 1) lists)
      ≡ lines ++ member_lines schema constraints (drop i members) (drop i lists)
  lines_step = pieces_step (member_lines schema constraints) (λ member runs. member_line schema constraints member runs ∷ []) next_line

  pub lines_past : (lines : List ClashLine) (members : List ℕ) (lists : List (List Run)) (i : ℕ) → length members ≤ i → lines ++ member_lines schema constraints (drop i members) (drop i lists) ≡ lines
  lines_past = pieces_past (member_lines schema constraints) no_members

  pub lines_spent : (lines : List ClashLine) (members : List ℕ) (lists : List (List Run)) (i : ℕ) → length lists ≤ i → lines ++ member_lines schema constraints (drop i members) (drop i lists) ≡ lines
  lines_spent = pieces_spent (member_lines schema constraints) no_lists

pub ruleset steps = (lines_step, lines_past, lines_spent)
