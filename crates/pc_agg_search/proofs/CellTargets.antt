-- The targets of cells as far as a loop over the cells has come.
use Rattle.std.proofs.Common.{◌+◌, ◌<◌, ◌≤◌, ◌^◌, ℕ, ℤ, nat_abs, List, [], ◌∷◌, ◌++◌, length, take, All, Option, None, Some, IfSome, false, refl, subst}
use Rattle.std.proofs.lemmas.List.{take_more, take_all, map-append}
use Rattle.std.proofs.lemmas.List.Elements.{All-nil, All-push}
use Rattle.std.proofs.lemmas.Slice.Zip.{all_zipped_more}
use Rattle.pc_model.specs.declared.row.Row.{Row}
use Rattle.pc_cells.specs.declared.cells.Cell.{Cell}
use Rattle.pc_cells.specs.Found.{cell_at, HasNumbers}
use Rattle.pc_agg_search.specs.declared.extreme.Extreme.{Extreme}
use Rattle.pc_agg_search.specs.Targets.{gain_in, IsPickIn, IsTarget, AreTargets}

-- what is asked of each cell, of the one at a place
pub numbers_at : (column : Option ℕ) (cells : List Cell) (place : ℕ) → place < length cells → IfSome column (λ named. All (HasNumbers named) cells) → IfSome column (λ named. HasNumbers named (cell_at cells place))
numbers_at None cells place inside numbers = tt
numbers_at (Some named) cells place inside numbers = numbers place (record { mask = 0; chosen = false; leaves = [] }) inside

module _ (column : Option ℕ) (extreme : Extreme) where
  pub no_targets : AreTargets column extreme [] [] []
  no_targets = record { gained = refl; picked = tt; small = All-nil (λ (gain : ℤ). nat_abs gain ≤ 2 ^ 63) }

  one_more : (cells : List Cell) (cell : Cell) (gains : List ℤ) (gain : ℤ) (picks : List Row) (pick : Row) → AreTargets column extreme cells gains picks → IsTarget column extreme cell gain pick →
      AreTargets column extreme (cells ++ cell ∷ []) (gains ++ gain ∷ []) (picks ++ pick ∷ [])
  one_more cells cell gains gain picks pick before one = record {
    gained = rw (before.gained, one.gained, map-append (gain_in column extreme) cells (cell ∷ [])) refl;
    picked = all_zipped_more (IsPickIn column extreme) cells picks cell pick before.picked one.picked;
    small = All-push (λ (other : ℤ). nat_abs other ≤ 2 ^ 63) gains gain before.small one.small;
  }

  pub more_targets : (cells : List Cell) (place : ℕ) (gains : List ℤ) (gain : ℤ) (picks : List Row) (pick : Row) → place < length cells → AreTargets column extreme (take place cells) gains picks → IsTarget column extreme (cell_at cells place) gain pick →
      AreTargets column extreme (take (place + 1) cells) (gains ++ gain ∷ []) (picks ++ pick ∷ [])
  more_targets cells place gains gain picks pick inside before one =
      rw (take_more cells place (record { mask = 0; chosen = false; leaves = [] }) inside) (one_more (take place cells) (cell_at cells place) gains gain picks pick before one)

  pub all_targets : (cells : List Cell) (place : ℕ) (gains : List ℤ) (picks : List Row) → length cells ≤ place → AreTargets column extreme (take place cells) gains picks → AreTargets column extreme cells gains picks
  all_targets cells place gains picks past known = subst (λ (read : List Cell). AreTargets column extreme read gains picks) (take_all place cells past) known

pub ruleset steps = (no_targets, more_targets, all_targets)
