-- The end of an average that a side gives.
use Rattle.std.specs.Prelude.{◌≡◌, ℕ, ⊤, ◌⊎◌, ℤ, pos, List, [], length, All, Option, Some, None, slice_index_or}
use Rattle.pc_num.specs.Signs.{Fits}
use Rattle.pc_num.specs.declared.fraction.Frac.{Frac}
use Rattle.pc_model.specs.declared.query.Folded.{Folded}
use Rattle.pc_model.specs.declared.row.Row.{Row}
use Rattle.pc_model.specs.Runs.{runs_from}
use Rattle.pc_proof.specs.declared.answer.End.{End}
use Rattle.pc_proof.specs.declared.answer.Mark.{Mark}
use Rattle.pc_proof.specs.declared.answer.Mark.TheVariants as marks
use Rattle.pc_proof.specs.declared.answer.Proof.TheVariants as proofs
use Rattle.pc_proof.specs.Setting.{Setting}
use Rattle.pc_agg_search.specs.declared.extreme.Extreme.{Extreme}
use Rattle.pc_agg_search.specs.Ends.{signed}
use Rattle.pc_avg_ratio.specs.declared.highest.Highest.{Highest}
use Rattle.pc_avg_ratio.specs.declared.highest.Highest.TheVariants.{Reached, Above}
use Rattle.pc_avg_ratio.specs.Best.{HasNoRows, IsHighestOf}
use Rattle.pc_avg_ratio.specs.Fractional.{ratio_with}
use Rattle.pc_avg_ratio.specs.Highest.{IsHighest}
use Rattle.pc_avg.specs.declared.sides.Side.{Side}
use Rattle.pc_avg.specs.Sides.{IsSide}

-- at a low end a fraction's sign is turned back
abbrev pub turned : Extreme → Frac → Frac
turned extreme f = record { num = signed extreme f.num; den = f.den }

-- a ratio that counts reach, or the value above one
abbrev pub end_of : Extreme → List Row → Highest → End
end_of extreme picks (Reached ratio counts tree) = record { value = turned extreme ratio; mark = marks.Exact (runs_from picks counts); proof = proofs.Tree tree }
end_of extreme picks (Above ratio counts tree value) = record { value = turned extreme value; mark = marks.Outer; proof = proofs.At (turned extreme ratio) tree }

-- by the numbers that rows can have
abbrev pub end_by_values : Extreme → ℤ → End
end_by_values extreme outermost = record { value = record { num = signed extreme outermost; den = pos 1 }; mark = marks.Outer; proof = proofs.Values }

-- no counts that were found give a value
pub record IsUnvalued (side : Side) (extreme : Extreme) (outermost : ℤ) (found : List (List ℕ)) (end : End) : Type 0 where
  pub none : All (HasNoRows side.fraction) found
  pub end_is : end ≡ end_by_values extreme outermost

-- the steps from the counts of the greatest ratio
pub record IsSought (side : Side) (extreme : Extreme) (outermost : ℤ) (budget : ℕ) (found : List (List ℕ)) (end : End) : Type 0 where
  pub place : ℕ
  pub start : IsHighestOf side.fraction found place
  pub highest : Highest
  pub highest_is : IsHighest side.fraction outermost budget (ratio_with side.fraction (slice_index_or found place [])) highest
  pub end_is : end ≡ end_of extreme side.picks highest

-- the end of a side, where there is an outermost number
pub record IsEndOver (u : Setting) (seen : Folded) (budget : ℕ) (extreme : Extreme) (found : List (List ℕ)) (end : End) : Type 0 where
  pub side : Side
  pub side_is : IsSide u seen extreme side
  pub outermost : ℤ
  pub outermost_is : side.outermost ≡ Some outermost
  pub by : IsUnvalued side extreme outermost found end ⊎ IsSought side extreme outermost budget found end

abbrev pub IsEndIfAny : Setting → Folded → ℕ → Extreme → List (List ℕ) → Option End → Type 0
IsEndIfAny u seen budget extreme found (Some end) = IsEndOver u seen budget extreme found end
IsEndIfAny u seen budget extreme found None = (side : Side) × IsSide u seen extreme side × (side.outermost ≡ None)

-- no search was cut short: where some counts give a value, the end is exact
abbrev pub IsEndSurely : Setting → Folded → Extreme → List (List ℕ) → Option End → Type 0
IsEndSurely u seen extreme found None = ⊤
IsEndSurely u seen extreme found (Some end) = IsExactOr end.mark
  where
    IsExactOr : Mark → Type 0
    IsExactOr (marks.Exact runs) = ⊤
    IsExactOr marks.Outer = (side : Side) × IsSide u seen extreme side × All (HasNoRows side.fraction) found

-- what an end needs of what the steps end in
abbrev pub CanTurn : ℕ → Highest → Type 0
CanTurn picks (Reached ratio counts tree) = Fits ratio.num × (picks ≡ length counts)
CanTurn picks (Above ratio counts tree value) = Fits ratio.num × Fits value.num
