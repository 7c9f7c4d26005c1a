-- The members that are written so far, and those that are left.
use Rattle.std.proofs.Common.{◌≡◌, ℕ, ◌+◌, ◌<◌, ◌≤◌, List, [], ◌∷◌, ◌++◌, length, get_or, drop, refl}
use Rattle.pc_model.specs.declared.schema.Schema.{Schema}
use Rattle.pc_model.specs.declared.row.Run.{Run}
use Rattle.pc_model.specs.declared.constraint.Constraint.{Constraint}
use Rattle.pc_model.proofs.Pieces.{pieces_step, pieces_past, pieces_spent}
use Rattle.pc_conflict.specs.Texts.{without_text, withouts_text}

module _ (schema : Schema) (constraints : List Constraint) where
  pub next_member : (member : ℕ) (members : List ℕ) (runs : List Run) (lists : List (List Run)) →
      withouts_text schema constraints (member ∷ members) (runs ∷ lists) ≡ without_text schema constraints member runs ++ withouts_text schema constraints members lists
  unfolding withouts_text
  next_member member members runs lists = refl

  pub no_members : (lists : List (List Run)) → withouts_text schema constraints [] lists ≡ []
  unfolding withouts_text
  no_members lists = refl

  pub no_lists : (members : List ℕ) → withouts_text schema constraints members [] ≡ []
  unfolding withouts_text
  no_lists [] = refl
  no_lists (member ∷ members) = refl

  pub members_step : (items : List ℕ) (members : List ℕ) (lists : List (List Run)) (i : ℕ) (member : ℕ) (runs : List Run) → i < length members → i < length lists → (items ++ without_text schema constraints (get_or members i member) (get_or lists i runs)) ++ withouts_text schema constraints (drop (i + 1) members) (drop (i + 1) lists) ≡ items ++ withouts_text schema constraints (drop i members) (drop i lists)
  members_step = pieces_step (withouts_text schema constraints) (without_text schema constraints) next_member

  pub members_past : (items : List ℕ) (members : List ℕ) (lists : List (List Run)) (i : ℕ) → length members ≤ i → items ++ withouts_text schema constraints (drop i members) (drop i lists) ≡ items
  members_past = pieces_past (withouts_text schema constraints) no_members

  pub members_spent : (items : List ℕ) (members : List ℕ) (lists : List (List Run)) (i : ℕ) → length lists ≤ i → items ++ withouts_text schema constraints (drop i members) (drop i lists) ≡ items
  members_spent = pieces_spent (withouts_text schema constraints) no_lists

pub ruleset steps = (members_step, members_past, members_spent)
