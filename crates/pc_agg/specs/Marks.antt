-- The end of a range that a limit gives: reached where some counts that were found are worth the most.
use Rattle.std.specs.Prelude.{◌≡◌, ℕ, ◌<◌, ⊤, ℤ, pos, List, [], length, take, All, Any, IfSome, Contains, slice_index_or}
use Rattle.std.specs.List.{AllZip}
use Rattle.pc_model.specs.declared.row.Row.{Row}
use Rattle.pc_model.specs.declared.row.Run.{Run}
use Rattle.pc_model.specs.declared.query.Agg.{Agg}
use Rattle.pc_model.specs.Runs.{runs_from}
use Rattle.pc_program_bound.specs.declared.program.Program.{Program}
use Rattle.pc_program_bound.specs.Allocation.{worth}
use Rattle.pc_proof.specs.declared.answer.Mark.{Mark}
use Rattle.pc_proof.specs.declared.answer.Mark.TheVariants as marks
use Rattle.pc_proof.specs.declared.answer.Proof.TheVariants as proofs
use Rattle.pc_proof.specs.declared.answer.End.{End}
use Rattle.pc_proof.specs.Setting.{Setting, cells}
use Rattle.pc_agg_search.specs.declared.limit.Limit.{Limit}
use Rattle.pc_agg.specs.declared.aim.Aim.{Aim}
use Rattle.pc_agg.specs.declared.aim.Aimed.{Aimed}
use Rattle.pc_agg.specs.declared.aim.Aimed.TheVariants.{At, Nothing}
use Rattle.pc_agg.specs.declared.aim.Aims.{Aims}
use Rattle.pc_agg.specs.declared.aim.BothAimed.{BothAimed}
use Rattle.pc_agg.specs.declared.aim.BothAimed.TheVariants as both
use Rattle.pc_agg_search.specs.declared.extreme.Extreme.{Extreme}
use Rattle.pc_agg_search.specs.declared.extreme.Extreme.TheVariants.{Low, High}
use Rattle.pc_agg_search.specs.Ends.{IsPick, program_towards}
use Rattle.pc_agg_search.specs.Fitting.{IsVoidTree}
use Rattle.pc_agg_search.specs.Limits.{IsLimit, IsReached}

-- the runs are those of counts before which none has it
abbrev pub AreOfFirst : (List ℕ → Type 0) → List Row → List (List ℕ) → List Run → Type 0
AreOfFirst P picks found runs =
    (k : ℕ) × (k < length found) × (runs ≡ runs_from picks (slice_index_or found k [])) × All (λ counts. P counts → ⊥) (take k found)

abbrev pub ShowsFirst : (List ℕ → Type 0) → List Row → List (List ℕ) → Mark → Type 0
ShowsFirst P picks found (marks.Exact runs) = AreOfFirst P picks found runs
ShowsFirst P picks found marks.Outer = ⊤

-- the runs are those of counts that were found and are worth the most; or none of those that were found is
abbrev pub IsMarked : Program → ℤ → List Row → List (List ℕ) → Mark → Type 0
IsMarked p most picks found (marks.Exact runs) = Any (λ counts. (worth p counts ≡ most) × (runs ≡ runs_from picks counts)) found
IsMarked p most picks found marks.Outer = All (λ counts. worth p counts ≡ most → ⊥) found

pub record IsEndOf (limit : Limit) (picks : List Row) (found : List (List ℕ)) (number : ℤ) (end : End) : Type 0 where
  pub value : end.value ≡ record { num = number; den = pos 1 }
  pub marked : IsMarked limit.program limit.most picks found end.mark
  pub first : ShowsFirst (λ counts. worth limit.program counts ≡ limit.most) picks found end.mark
  pub proof : end.proof ≡ proofs.Tree limit.tree

-- the limit of an end's program, and a row of each cell that gains towards the end what the cell does
pub record IsAim (s : Setting) (agg : Agg) (budget : ℕ) (extreme : Extreme) (aim : Aim) : Type 0 where
  pub limit : IsLimit (program_towards s agg extreme) budget aim.limit
  pub picked : AllZip (IsPick s agg extreme) (cells s) aim.picks

-- what the search found is among all that was found
abbrev pub IsAmong : List (List ℕ) → Limit → Type 0
IsAmong found limit = IfSome limit.found (Contains found)

-- an aim, or a tree that shows that there is no list
abbrev pub IsAimed : Setting → Agg → ℕ → Extreme → Aimed → Type 0
IsAimed s agg budget extreme (At aim) = IsAim s agg budget extreme aim
IsAimed s agg budget extreme (Nothing tree) = IsVoidTree s budget tree

-- the search was not cut short
abbrev pub IsAimReached : Setting → Agg → Extreme → Aimed → Type 0
IsAimReached s agg extreme (At aim) = IsReached (program_towards s agg extreme) aim.limit.most aim.limit.found
IsAimReached s agg extreme (Nothing tree) = ⊤

-- the aims of both ends
pub record AreAims (s : Setting) (agg : Agg) (budget : ℕ) (aims : Aims) : Type 0 where
  pub low : IsAim s agg budget Low aims.low
  pub high : IsAim s agg budget High aims.high

abbrev pub AreAimed : Setting → Agg → ℕ → BothAimed → Type 0
AreAimed s agg budget (both.At aims) = AreAims s agg budget aims
AreAimed s agg budget (both.Nothing tree) = IsVoidTree s budget tree

-- neither search was cut short
pub record AreAimsReached (s : Setting) (agg : Agg) (aims : Aims) : Type 0 where
  pub low : IsReached (program_towards s agg Low) aims.low.limit.most aims.low.limit.found
  pub high : IsReached (program_towards s agg High) aims.high.limit.most aims.high.limit.found

abbrev pub AreAimedReached : Setting → Agg → BothAimed → Type 0
AreAimedReached s agg (both.At aims) = AreAimsReached s agg aims
AreAimedReached s agg (both.Nothing tree) = ⊤
