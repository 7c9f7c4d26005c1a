-- The answer that a settled relation and two ends give.
use Rattle.std.specs.Prelude.{◌≡◌, ◌≤◌, ◌^◌, ◌+ℤ◌, ℕ, int_lt, nat_abs, Bool, true, false, ◌&&◌, cond, length, List, All, Some, None}
use Rattle.pc_model.specs.declared.query.Agg.{Agg}
use Rattle.pc_model.specs.declared.query.Folded.{Folded}
use Rattle.pc_program_bound.specs.declared.program.Program.{Program}
use Rattle.pc_program_bound.specs.Allocation.{IsProgram, IsAllocation, cells_of}
use Rattle.pc_branch.specs.Ends.{HasSmallGains}
use Rattle.pc_proof.specs.declared.answer.Bounded.{Bounded}
use Rattle.pc_proof.specs.declared.answer.Why.{Why}
use Rattle.pc_proof.specs.declared.answer.Why.TheVariants.{Ends}
use Rattle.pc_proof.specs.declared.answer.Relation.{Relation}
use Rattle.pc_proof.specs.declared.answer.Relation.TheVariants.{Possible, Impossible, Undecided}
use Rattle.pc_proof.specs.declared.answer.Lack.TheVariants.{Silent}
use Rattle.pc_proof.specs.declared.answer.End.{End}
use Rattle.pc_proof.specs.declared.answer.Answer.{Answer}
use Rattle.pc_agg.specs.declared.aim.Aim.{Aim}
use Rattle.pc_agg_search.specs.declared.extreme.Extreme.{Extreme}
use Rattle.pc_agg_search.specs.declared.extreme.Extreme.TheVariants.{Low, High}
use Rattle.pc_agg_search.specs.Ends.{signed}
use Rattle.pc_agg.specs.Marks.{IsEndOf}
use Rattle.pc_agg.specs.Observed.{folded_value}

abbrev pub impossible_by : Why → Answer
impossible_by why = record { relation = Impossible why; lack = Silent; ends = None }

abbrev pub bounded_by : End → Bounded
bounded_by end = record { value = end.value; proof = end.proof }

abbrev pub is_open : Relation → Bool
is_open (Possible runs) = false
is_open (Impossible why) = false
is_open Undecided = true

-- ends of whole numbers that cross leave nothing possible, where no list was found
abbrev pub answer_between : Relation → End → End → Answer
answer_between relation low high =
    cond (is_open relation && int_lt high.value.num low.value.num)
    (impossible_by (Ends (bounded_by low) (bounded_by high)))
    (record { relation = relation; lack = Silent; ends = Some (low, high) })

-- nothing where that is impossible, and else both ends
abbrev pub answer_over : Relation → End → End → Answer
answer_over (Impossible why) low high = impossible_by why
answer_over (Possible runs) low high = answer_between (Possible runs) low high
answer_over Undecided low high = answer_between Undecided low high

abbrev pub AreAllowed : Program → List (List ℕ) → Type 0
AreAllowed p found = All (IsAllocation p p.floor p.cap) found

-- what an end needs of the aim and of what was found
pub record CanEnd (found : List (List ℕ)) (aim : Aim) : Type 0 where
  pub program : IsProgram aim.limit.program
  pub gains : HasSmallGains aim.limit.program
  pub allowed : AreAllowed aim.limit.program found
  pub picked : length aim.picks ≡ cells_of aim.limit.program
  pub small : nat_abs aim.limit.most ≤ 10 ^ 37

-- the end at what the observed rows come to, with what the lost ones add
abbrev pub IsEnd : Folded → Agg → Extreme → List (List ℕ) → Aim → End → Type 0
IsEnd seen agg extreme found aim end = IsEndOf aim.limit aim.picks found (folded_value agg seen +ℤ signed extreme aim.limit.most) end

pub record IsBetween (seen : Folded) (agg : Agg) (relation : Relation) (found : List (List ℕ)) (low high : Aim) (answer : Answer) : Type 0 where
  pub low_end : End
  pub high_end : End
  pub low_is : IsEnd seen agg Low found low low_end
  pub high_is : IsEnd seen agg High found high high_end
  pub answer_is : answer ≡ answer_between relation low_end high_end

abbrev pub IsAnswer : Folded → Agg → Relation → List (List ℕ) → Aim → Aim → Answer → Type 0
IsAnswer seen agg (Impossible why) found low high answer = answer ≡ impossible_by why
IsAnswer seen agg (Possible runs) found low high answer = IsBetween seen agg (Possible runs) found low high answer
IsAnswer seen agg Undecided found low high answer = IsBetween seen agg Undecided found low high answer
