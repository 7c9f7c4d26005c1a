-- What the answers of the calls owe.
use Rattle.std.specs.Prelude.{◌≡◌, ℕ, ◌||◌, ◌⊎◌, true, false, ℤ, pos, ◌+ℤ◌, ◌≤ℤ◌, ◌<ℤ◌, List, [], All, Any, None, IfSome}
use Rattle.pc_agg_search.specs.Easy.{IsEasy}
use Rattle.pc_model.specs.Aggregate.{IsAtMost}
use Rattle.pc_model.specs.Right.{always_has_value}
use Rattle.pc_model.specs.Right as plain
use Rattle.pc_model.specs.Cells.{Class}
use Rattle.pc_proof.specs.declared.answer.Relation.{Relation}
use Rattle.pc_proof.specs.declared.answer.Relation.TheVariants as relations
use Rattle.pc_program_bound.specs.Allocation.{worth}
use Rattle.pc_proof.specs.declared.answer.Lack.{Lack}
use Rattle.pc_proof.specs.declared.answer.Lack.TheVariants as lacks
use Rattle.pc_proof.specs.declared.answer.Answer.{Answer}
use Rattle.pc_proof.specs.Setting.{Setting, cells, seen_count}
use Rattle.pc_proof.specs.Table.{ratio_of}
use Rattle.pc_proof.specs.Unbroken.{HoldsRelation, HoldsLack, HasForm, IsUnbroken, IsSharp, IsDecided, plain_relation, plain_lack}
use Rattle.pc_proof.specs.Form.{IsFormedRelation, IsFormedLack, IsFormedAnswer}
use Rattle.pc_branch_licences.specs.Licensed.{IsLicensed, IsSettledLack}
use Rattle.pc_branch_licences.specs.Pools.{AreLawful, ShownFrom}
use Rattle.pc_branch_licences.specs.Searched.{AreSearched}
use Rattle.pc_branch_licences.specs.Wanted.{some, without, LeavesOpen}
use Rattle.pc_agg_search.specs.Fitting.{AreObserved, IsFitRelation, IsFitLack}
use Rattle.pc_agg_search.specs.Wants.{most_chosen, fewest_chosen}

-- where searches are easy, nothing is left open
abbrev pub EasyIsSharp : Setting → Answer → Type 0
EasyIsSharp s answer = IsEasy s.question.schema s.question.constraints → IsSharp answer × IsSettledLack answer.lack

-- the low end is not above the high one
abbrev pub AreOrdered : Answer → Type 0
AreOrdered answer = IfSome answer.ends (λ ends. IsAtMost (ratio_of ends.0.value) (ratio_of ends.1.value))

-- an answer that breaks no rule, in form where the observed rows are of the schema; what it leaves open is licensed at the budget,
-- its ends' trees are of a search, and its ends do not cross
pub record Owes (s : Setting) (budget : ℕ) (answer : Answer) : Type 0 where
  pub form : HasForm s answer
  pub unbroken : IsUnbroken s answer
  pub licensed : IsLicensed s budget answer
  pub searched : AreSearched s budget answer
  pub formed : AreObserved s → IsFormedAnswer s.question.schema s.question.query.agg answer
  pub sharp : EasyIsSharp s answer
  pub ordered : AreOrdered answer

-- the relation and the lack as an answer without ends
abbrev pub answer_of : Relation → Lack → Answer
answer_of relation lack = record { relation = relation; lack = lack; ends = None }

-- an answer with such a relation and lack has ends
abbrev pub HasEnds : Relation → Lack → Type 0
HasEnds relation lack = (plain.is_impossible (plain_relation relation) ≡ false) × (plain.is_always (plain_lack lack) ≡ false)

-- rows were observed, or the counts have a chosen row
abbrev pub IsGiving : Setting → List ℕ → Type 0
IsGiving s counts = pos 1 ≤ℤ (seen_count s.question +ℤ worth (most_chosen s) counts)

-- some counts give a value; or rows were observed and nothing was found; or none was, and the budget is spent where such counts
-- may be there
abbrev pub MayGiveOne : Setting → ℕ → List (List ℕ) → Type 0
MayGiveOne s budget found =
    Any (IsGiving s) found ⊎ ((pos 0 <ℤ seen_count s.question) × (found ≡ []))
    ⊎ ((seen_count s.question ≡ pos 0) × (e : ℤ) × LeavesOpen (most_chosen s) budget e some × (pos 1 ≤ℤ e))

-- rows were observed, or some cell is chosen
abbrev pub CanGive : Setting → Type 0
CanGive s = (pos 0 <ℤ seen_count s.question) ⊎ Any (λ (class : Class). class.chosen ≡ true) (cells s)

-- no row was observed; and counts without chosen rows may be there and were not found, or no counts give a value
abbrev pub LeavesLack : Setting → ℕ → List (List ℕ) → Type 0
LeavesLack s budget found =
    (seen_count s.question ≡ pos 0)
    × ((All (λ counts. pos 0 ≤ℤ worth (fewest_chosen s) counts → ⊥) found × (e : ℤ) × LeavesOpen (fewest_chosen s) budget e without × (pos 0 ≤ℤ e))
    ⊎ All (λ counts. IsGiving s counts → ⊥) found)

-- a relation and a lack that break no rule, with the counts that were found for them
pub record OwesSettled (s : Setting) (budget : ℕ) (relation : Relation) (lack : Lack) (found : List (List ℕ)) : Type 0 where
  pub relation_holds : HoldsRelation s relation
  pub lack_holds : HoldsLack s lack
  pub silent : plain.is_silent (plain_lack lack) ≡ (always_has_value s.question.query.agg || plain.is_impossible (plain_relation relation))
  pub licensed : IsLicensed s budget (answer_of relation lack)
  pub searched : AreSearched s budget (answer_of relation lack)
  pub fits : IsFitRelation s.question.query.agg relation × IsFitLack s.question.query.agg lack
  pub formed : IsFormedRelation s.question.schema s.question.query.agg relation × IsFormedLack s.question.schema s.question.query.agg lack
  pub lawful : All (AreLawful s) found
  pub shown : ShownFrom s found (answer_of relation lack)
  pub undecided : relation ≡ relations.Undecided → found ≡ []
  pub sharp : IsEasy s.question.schema s.question.constraints → IsDecided relation × IsSettledLack lack
  pub can_give : always_has_value s.question.query.agg ≡ false → HasEnds relation lack → CanGive s
  pub gives : always_has_value s.question.query.agg ≡ false → HasEnds relation lack → MayGiveOne s budget found
  pub open_lack : lack ≡ lacks.Undecided → LeavesLack s budget found
  pub surely_gives : IsEasy s.question.schema s.question.constraints → always_has_value s.question.query.agg ≡ false → HasEnds relation lack → Any (IsGiving s) found
