-- When a spent budget licenses what an answer to a quantile leaves open, and what an answer owes.
use Rattle.std.specs.Prelude.{ℕ, ℤ, pos, ◌+ℤ◌, ◌≤ℤ◌, ◌<ℤ◌, ◌⊎◌, List, None, IfSome}
use Rattle.pc_model.specs.declared.schema.Schema.{Schema}
use Rattle.pc_model.specs.declared.row.Row.{Row}
use Rattle.pc_model.specs.declared.constraint.Constraint.{Constraint}
use Rattle.pc_model.specs.declared.tree.CutNode.{CutNode}
use Rattle.pc_model.specs.Cells.{IsSettledTree}
use Rattle.pc_model.specs.Right.{Question}
use Rattle.pc_proof.specs.declared.answer.Answer.{Answer}
use Rattle.pc_proof.specs.Setting.{Setting, seen_numbers}
use Rattle.pc_proof.specs.Unbroken.{IsSharp, plain_answer}
use Rattle.pc_branch_licences.specs.Licensed.{IfOuter, IsSettledLack, IsSpent, LicensedLack, LicensedRelation, MayGive}
use Rattle.pc_branch_licences.specs.Wanted.{from}
use Rattle.pc_agg_search.specs.declared.extreme.Extreme.{Extreme}
use Rattle.pc_agg_search.specs.declared.extreme.Extreme.TheVariants.{Low, High}
use Rattle.pc_agg_search.specs.Easy.{IsEasy}
use Rattle.pc_agg_search.specs.Ends.{signed}
use Rattle.pc_lang.specs.declared.quantile.Quantile.{Quantile}
use Rattle.pc_quantile.specs.declared.answer.QuantileAnswer.{QuantileAnswer}
use Rattle.pc_quantile.specs.Measured.{least_of}
use Rattle.pc_quantile.specs.Past.{IsCandidateBeside, least_past, program_past, sum_past}
use Rattle.pc_quantile.specs.Right.{IsRight}
use Rattle.pc_quantile.specs.Shown.{shown}

-- ---- candidates of an end

abbrev pub IsCandidateAt : Setting → Extreme → ℤ → Type 0
IsCandidateAt s extreme number = IsCandidateBeside s (seen_numbers s.question) extreme number

-- the next candidate inwards
pub record IsNextTo (s : Setting) (extreme : Extreme) (number next : ℤ) : Type 0 where
  pub candidate : IsCandidateAt s extreme next
  pub inwards : signed extreme next <ℤ signed extreme number
  pub none_between : (other : ℤ) → IsCandidateAt s extreme other → (signed extreme other ≤ℤ signed extreme next) ⊎ (signed extreme number ≤ℤ signed extreme other)

-- there is none
abbrev pub IsInnermost : Setting → Extreme → ℤ → Type 0
IsInnermost s extreme number = (other : ℤ) → IsCandidateAt s extreme other → signed extreme number ≤ℤ signed extreme other

-- ---- outer ends

-- a list may pass the next candidate inwards, and none that does was found
pub record MayPass (s : Setting) (asked : Quantile) (budget : ℕ) (answer : Answer) (extreme : Extreme) (number : ℤ) : Type 0 where
  pub next : ℤ
  pub beside : IsNextTo s extreme number next
  pub most : ℤ
  pub spent : IsSpent s budget answer (program_past s extreme asked next) most (from (least_past extreme asked next (seen_numbers s.question)))
  pub over : pos 1 ≤ℤ (sum_past extreme asked next (seen_numbers s.question) +ℤ most)

-- the number is a candidate; it may be passed up to, or it is the innermost one, and only a list with a quantile is not found
pub record LicensedEnd (s : Setting) (asked : Quantile) (budget : ℕ) (answer : Answer) (extreme : Extreme) (number : ℤ) : Type 0 where
  pub candidate : IsCandidateAt s extreme number
  pub may : MayPass s asked budget answer extreme number ⊎ (IsInnermost s extreme number × MayGive s budget answer)

-- ---- an answer

pub record IsLicensed (s : Setting) (asked : Quantile) (budget : ℕ) (answer : Answer) : Type 0 where
  pub relation : LicensedRelation s budget answer answer.relation
  pub lack : LicensedLack s budget answer answer.lack
  pub low : IfSome answer.ends (λ ends. IfOuter ends.0.mark (LicensedEnd s asked budget answer Low ends.0.value.num))
  pub high : IfSome answer.ends (λ ends. IfOuter ends.1.mark (LicensedEnd s asked budget answer High ends.1.value.num))

-- the low end is not above the high one
abbrev pub AreOrdered : QuantileAnswer → Type 0
AreOrdered answer = IfSome answer.ends (λ ends. ends.0.value ≤ℤ ends.1.value)

-- an answer that is right, whose open parts are licensed, that leaves nothing open where predicates are nested, and whose ends do
-- not cross
pub record IsOwed (s : Setting) (asked : Quantile) (budget : ℕ) (answer : QuantileAnswer) : Type 0 where
  pub right : IsRight s.question asked (plain_answer (shown answer))
  pub licensed : IsLicensed s asked budget (shown answer)
  pub sharp : IsEasy s.question.schema s.question.constraints → IsSharp (shown answer) × IsSettledLack (shown answer).lack
  pub ordered : AreOrdered answer

abbrev pub question_of : Schema → List Row → List Constraint → Quantile → Question
question_of schema observed constraints asked =
    record { schema = schema; observed = observed; constraints = constraints; query = least_of asked; name = None }

-- over the cells of one settled tree
pub record Owes (schema : Schema) (observed : List Row) (constraints : List Constraint) (asked : Quantile) (budget : ℕ) (answer : QuantileAnswer) : Type 0 where
  pub nodes : List CutNode
  pub tree : IsSettledTree schema constraints asked.chosen nodes
  pub owed : IsOwed (record { question = question_of schema observed constraints asked; nodes = nodes }) asked budget answer
