-- A constraint that is drafted speaks of the rows of its cell.
use Rattle.std.proofs.Common.{◌≡◌, ◌∙◌, ℕ, ◌+◌, ◌≤◌, ◌||◌, Bool, true, cond, List, [], ◌∷◌, refl, ap, subst, sym}
use Rattle.std.specs.Prelude.{fold}
use Rattle.std.specs.List.{list_any}
use Rattle.pc_model.specs.declared.area.Area.{Area}
use Rattle.pc_model.specs.declared.constraint.Constraint.{Constraint}
use Rattle.pc_model.specs.declared.row.Row.{Row}
use Rattle.pc_model.specs.declared.schema.Schema.{Schema}
use Rattle.pc_model.specs.Membership.{AreDisjoint, in_domain, is_in, is_under}
use Rattle.pc_model.specs.Possible.{is_covered}
use Rattle.pc_desk_history.specs.declared.wish.Wish.{Wish}
use Rattle.pc_desk_history.specs.Draft.{drafted_from, drafted_of}
use Rattle.pc_desk_history.specs.Laws.{AreApart, DoCover, is_in_some}

module _ (schema : Schema) (rows : List Row) (chosen : Area) (wish : Wish) (all : List Constraint) (row : Row) where
  -- as many constraints speak of a row as cells have it
  counted : (count number : ℕ) (cells : List Area) →
      fold (λ (n : ℕ) (c : Constraint). n + cond (is_under all c row) 1 0) count (drafted_from schema wish rows chosen number cells)
      ≡ fold (λ (n : ℕ) (cell : Area). n + cond (is_in cell row) 1 0) count cells
  unfolding drafted_from
  counted count number [] = refl
  counted count number (cell ∷ cells) = counted (count + cond (is_in cell row) 1 0) (number + 1) cells

  spoken_of : (number : ℕ) (cells : List Area) →
      list_any (λ (c : Constraint). is_under all c row) (drafted_from schema wish rows chosen number cells) ≡ is_in_some cells row
  unfolding drafted_from
  spoken_of number [] = refl
  spoken_of number (cell ∷ cells) = ap (λ (b : Bool). is_in cell row || b) (spoken_of (number + 1) cells)

pub drafted_apart : (schema : Schema) (rows : List Row) (chosen : Area) (cells : List Area) (wish : Wish) → AreApart schema cells →
    AreDisjoint schema (drafted_of schema rows chosen cells wish)
drafted_apart schema rows chosen cells wish apart =
    λ row inside. subst (λ (n : ℕ). n ≤ 1) (sym (counted schema rows chosen wish (drafted_of schema rows chosen cells wish) row 0 1 cells)) (apart row inside)

pub drafted_cover : (schema : Schema) (rows : List Row) (chosen : Area) (cells : List Area) (wish : Wish) → DoCover schema chosen cells →
    (row : Row) → in_domain schema row ≡ true → is_in chosen row ≡ true → is_covered (drafted_of schema rows chosen cells wish) row ≡ true
drafted_cover schema rows chosen cells wish cover row inside picked =
    spoken_of schema rows chosen wish (drafted_of schema rows chosen cells wish) row 1 cells ∙ cover row inside picked
