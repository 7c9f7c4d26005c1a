-- The line of the name of a group is looked for from the first name on.
use Rattle.std.proofs.Common.{◌≡◌, ◌≤◌, ◌<◌, ℕ, suc, ◌+◌, ◌-◌, true, false, List, length, get_or, Some, None, arith, refl, sym, ◌∙◌, if◌then◌else◌}
use Rattle.std.specs.Prelude.{bytes_eq}
use Rattle.pc_model.specs.declared.schema.Column.{Column}
use Rattle.pc_model.specs.declared.schema.Schema.{Schema}
use Rattle.pc_model.specs.WellFormed.{HasFewNames, IsWellFormed}
use Rattle.pc_model.proofs.FewNames.{have_few_names}
use Rattle.pc_document_lines.specs.TokenLines.{group_found, group_text}

-- the names of a column are few
pub few_names : (schema : Schema) (place : ℕ) (column : Column) → IsWellFormed schema → place < length schema.columns → column ≡ get_or schema.columns place column → HasFewNames column.kind
few_names schema place column formed inside at = rw at (have_few_names schema.columns formed.columns place column inside)

module _ (schema : Schema) (group : ℕ) (line : List ℕ) where
  -- the line of a place is this one, or those after it are looked at
  opened : (place count : ℕ) → place < count → group_found schema group place (count - place) line ≡ (if bytes_eq (group_text schema group place) line then Some place else group_found schema group (place + 1) (count - (place + 1)) line)
  unfolding group_found
  opened place count inside =
      let left : count - place ≡ suc (count - (place + 1)) = omega (arith, inside) in
      rw left refl

  -- it is this one
  pub found_here : (place count : ℕ) → place < count → bytes_eq (group_text schema group place) line ≡ true → group_found schema group place (count - place) line ≡ Some place
  found_here place count inside same = opened place count inside ∙ rw same refl

  -- it is another
  pub found_later : (place count : ℕ) → place < count → bytes_eq (group_text schema group place) line ≡ false → group_found schema group (place + 1) (count - (place + 1)) line ≡ group_found schema group place (count - place) line
  found_later place count inside other = sym (opened place count inside ∙ rw other refl)

  -- no place is left
  pub found_none : (place count : ℕ) → count ≤ place → group_found schema group place (count - place) line ≡ None
  unfolding group_found
  found_none place count past =
      let left : count - place ≡ 0 = omega (arith, past) in
      rw left refl

pub ruleset steps = (found_here, found_later, found_none)
