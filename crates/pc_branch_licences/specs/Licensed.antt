-- When a spent budget licenses an outer end or an undecided line.
use Rattle.std.specs.Prelude.{◌≡◌, ℕ, ℤ, pos, neg_ℤ, ◌+ℤ◌, ◌-ℤ◌, ◌≤ℤ◌, ◌<ℤ◌, int_lt, int_le, Bool, ⊤, ◌⊎◌, List, All, Any, Option, Some, IfSome, IsSomeAnd}
use Rattle.pc_model.specs.declared.row.Run.{Run}
use Rattle.pc_model.specs.declared.query.Agg.{Agg}
use Rattle.pc_model.specs.declared.query.Agg.TheVariants.{Count, Sum, Min, Max, Avg}
use Rattle.pc_model.specs.Aggregate.{Ratio, whole, IsAtMost, IsSame}
use Rattle.pc_model.specs.Right.{IsAttained}
use Rattle.pc_model.specs.Cells.{Class}
use Rattle.pc_program_bound.specs.declared.program.Program.{Program}
use Rattle.pc_program_bound.specs.Allocation.{IsAllocation}
use Rattle.pc_proof.specs.declared.answer.Proof.{Proof}
use Rattle.pc_proof.specs.declared.answer.Proof.TheVariants as proofs
use Rattle.pc_proof.specs.declared.answer.Relation.{Relation}
use Rattle.pc_proof.specs.declared.answer.Relation.TheVariants as relations
use Rattle.pc_proof.specs.declared.answer.Lack.{Lack}
use Rattle.pc_proof.specs.declared.answer.Lack.TheVariants as lacks
use Rattle.pc_proof.specs.declared.answer.Mark.{Mark}
use Rattle.pc_proof.specs.declared.answer.Mark.TheVariants as marks
use Rattle.pc_proof.specs.declared.answer.Answer.{Answer}
use Rattle.pc_proof.specs.Setting.{Setting, seen_count, seen_sum, seen_least, seen_greatest, low_in, high_in, on_chosen, counting, program_for, program_without}
use Rattle.pc_proof.specs.Table.{ratio_of, one, minus_one, bound_for, chosen_cells, greatest_number, least_number, left_over, seen_above, raised_by, lowered_by, high_program, low_program}
use Rattle.pc_branch_licences.specs.Wanted.{Wanted, any, nothing, some, without, Has, LeavesOpen}
use Rattle.pc_branch_licences.specs.Shown.{shown_runs, counts_of_runs, IsShown}

-- ---- spent programs

-- no runs that the answer shows are an allocation of the program with wanted counts
abbrev pub NoneFound : Setting → Answer → Program → Wanted → Type 0
NoneFound s answer p wanted = All (λ runs. IsAllocation p p.floor p.cap (counts_of_runs s runs) → Has p wanted (counts_of_runs s runs) → ⊥) (shown_runs answer)

-- the budget is spent with this bound, and neither what the answer shows nor a whole point at a leaf is wanted
pub record IsSpent (s : Setting) (budget : ℕ) (answer : Answer) (p : Program) (e : ℤ) (wanted : Wanted) : Type 0 where
  pub left : LeavesOpen p budget e wanted
  pub found : NoneFound s answer p wanted

-- a row of the program's gain may be there, and none was found
abbrev pub MayHave : Setting → ℕ → Answer → Program → Type 0
MayHave s budget answer p = (e : ℤ) × IsSpent s budget answer p e some × (pos 1 ≤ℤ e)

-- no list was found at all, with these bounds of the most rows and of the negative of the fewest
pub record BothTotals (s : Setting) (budget : ℕ) (answer : Answer) : Type 0 where
  pub most : ℤ
  pub fewest : ℤ
  pub by_most : IsSpent s budget answer (program_for s one) most any
  pub by_fewest : IsSpent s budget answer (program_for s minus_one) fewest any

-- a list without the closed cells may give a value: one with a chosen row, or any where rows were observed
abbrev pub MayAvoid : Setting → ℕ → Answer → Program → Type 0
MayAvoid s budget answer p =
    ((seen_count s.question ≡ pos 0) × MayHave s budget answer p)
    ⊎ ((pos 0 <ℤ seen_count s.question) × (e : ℤ) × IsSpent s budget answer p e any)

-- a value may be there, and no list with one was found
abbrev pub MayGive : Setting → ℕ → Answer → Type 0
MayGive s budget answer =
    ((seen_count s.question ≡ pos 0) × MayHave s budget answer (program_for s (on_chosen one)))
    ⊎ ((pos 0 <ℤ seen_count s.question) × BothTotals s budget answer)

-- ---- the values of ends

-- the number is the least, or the greatest, of a chosen cell
abbrev pub IsLowOf : Setting → ℤ → Type 0
IsLowOf s n = Any (λ (class : Class). low_in s class ≡ n) (chosen_cells s)

abbrev pub IsHighOf : Setting → ℤ → Type 0
IsHighOf s n = Any (λ (class : Class). high_in s class ≡ n) (chosen_cells s)

-- the cells that have a number at most, or at least, this one
abbrev pub upto_low : Setting → ℤ → Class → Bool
upto_low s n class = int_le (low_in s class) n

abbrev pub from_high : Setting → ℤ → Class → Bool
from_high s n class = int_le n (high_in s class)

-- the cells all of whose numbers are below, or above, this one
abbrev pub under_high : Setting → ℤ → Class → Bool
under_high s n class = int_lt (high_in s class) n

abbrev pub over_low : Setting → ℤ → Class → Bool
over_low s n class = int_lt n (low_in s class)

-- the lesser, or the greater, of two values
abbrev pub IsLesser : Ratio → Ratio → Ratio → Type 0
IsLesser v a b = (IsSame v a × IsAtMost a b) ⊎ (IsSame v b × IsAtMost b a)

abbrev pub IsGreater : Ratio → Ratio → Ratio → Type 0
IsGreater v a b = (IsSame v a × IsAtMost b a) ⊎ (IsSame v b × IsAtMost a b)

-- an observed number is the end, and only a list is not found
abbrev pub IsObserved : Setting → ℕ → Answer → Ratio → Option ℤ → Type 0
IsObserved s budget answer v seen = IsSomeAnd seen (λ m. IsSame v (whole m)) × BothTotals s budget answer

-- ---- one row of the table each

-- the least number of all lists: that of a chosen cell, below what was observed
pub record LicensedLeast (s : Setting) (budget : ℕ) (answer : Answer) (v : Ratio) : Type 0 where
  pub number : ℤ
  pub same : IsSame v (whole number)
  pub of_cell : IsLowOf s number
  pub below : IfSome (seen_least s.question) (λ m. number <ℤ m)
  pub may : MayHave s budget answer (program_for s (counting (upto_low s number)))

-- the greatest of the least numbers: what was observed, or the high of a chosen cell that is no greater
pub record LicensedGreatestLeast (s : Setting) (budget : ℕ) (answer : Answer) (v : Ratio) : Type 0 where
  pub number : ℤ
  pub same : IsSame v (whole number)
  pub of_cell : IsHighOf s number ⊎ (seen_least s.question ≡ Some number)
  pub within : IfSome (seen_least s.question) (λ m. number ≤ℤ m)
  pub may : MayAvoid s budget answer (program_without s (under_high s number))

-- the greatest number of all lists: that of a chosen cell, above what was observed
pub record LicensedGreatest (s : Setting) (budget : ℕ) (answer : Answer) (v : Ratio) : Type 0 where
  pub number : ℤ
  pub same : IsSame v (whole number)
  pub of_cell : IsHighOf s number
  pub above : IfSome (seen_greatest s.question) (λ g. g <ℤ number)
  pub may : MayHave s budget answer (program_for s (counting (from_high s number)))

-- the least of the greatest numbers: what was observed, or the low of a chosen cell that is no less
pub record LicensedLeastGreatest (s : Setting) (budget : ℕ) (answer : Answer) (v : Ratio) : Type 0 where
  pub number : ℤ
  pub same : IsSame v (whole number)
  pub of_cell : IsLowOf s number ⊎ (seen_greatest s.question ≡ Some number)
  pub within : IfSome (seen_greatest s.question) (λ g. g ≤ℤ number)
  pub may : MayAvoid s budget answer (program_without s (over_low s number))

-- an average's end by what is left over at a ratio: the ratio is attained, and the value is the lesser of that and the greatest number
pub record LicensedAbove (s : Setting) (budget : ℕ) (answer : Answer) (v : Ratio) (r : Ratio) (k : Option ℤ) (raised : Ratio) : Type 0 where
  pub most : ℤ
  pub spent : IsSpent s budget answer (high_program s Avg r) most nothing
  pub runs : List Run
  pub attained : IsAttained s.question r runs
  pub within : IfSome k (λ bound. bound ≤ℤ most)
  pub over : pos 0 <ℤ left_over (seen_above s.question r) k
  pub value : IsSomeAnd (greatest_number s) (λ g. IsLesser v raised (whole g))

pub record LicensedBelow (s : Setting) (budget : ℕ) (answer : Answer) (v : Ratio) (r : Ratio) (k : Option ℤ) (lowered : Ratio) : Type 0 where
  pub most : ℤ
  pub spent : IsSpent s budget answer (low_program s Avg r) most nothing
  pub runs : List Run
  pub attained : IsAttained s.question r runs
  pub within : IfSome k (λ bound. bound ≤ℤ most)
  pub over : pos 0 <ℤ left_over (neg_ℤ (seen_above s.question r)) k
  pub value : IsSomeAnd (least_number s) (λ m. IsGreater v lowered (whole m))

-- ---- the table

abbrev pub LicensedHigh : Setting → ℕ → Answer → Agg → Ratio → Proof → Type 0
LicensedHigh s budget answer Count v proof = (e : ℤ) × IsSpent s budget answer (high_program s Count v) e nothing × IsSame v (whole (seen_count s.question +ℤ e))
LicensedHigh s budget answer Sum v proof = (e : ℤ) × IsSpent s budget answer (high_program s Sum v) e nothing × IsSame v (whole (seen_sum s.question +ℤ e))
LicensedHigh s budget answer Min v proof = LicensedGreatestLeast s budget answer v
LicensedHigh s budget answer Max v proof = LicensedGreatest s budget answer v ⊎ IsObserved s budget answer v (seen_greatest s.question)
LicensedHigh s budget answer Avg v (proofs.At r t) =
    LicensedAbove s budget answer v (ratio_of r) (bound_for (high_program s Avg (ratio_of r)) t) (raised_by s (ratio_of r) t)
LicensedHigh s budget answer Avg v proofs.Values = IsSomeAnd (greatest_number s) (λ g. IsSame v (whole g)) × MayGive s budget answer
LicensedHigh s budget answer Avg v proofs.Rows = ⊥
LicensedHigh s budget answer Avg v (proofs.Tree t) = ⊥

abbrev pub LicensedLow : Setting → ℕ → Answer → Agg → Ratio → Proof → Type 0
LicensedLow s budget answer Count v proof = (e : ℤ) × IsSpent s budget answer (low_program s Count v) e nothing × IsSame v (whole (seen_count s.question -ℤ e))
LicensedLow s budget answer Sum v proof = (e : ℤ) × IsSpent s budget answer (low_program s Sum v) e nothing × IsSame v (whole (seen_sum s.question -ℤ e))
LicensedLow s budget answer Min v proof = LicensedLeast s budget answer v ⊎ IsObserved s budget answer v (seen_least s.question)
LicensedLow s budget answer Max v proof = LicensedLeastGreatest s budget answer v
LicensedLow s budget answer Avg v (proofs.At r t) =
    LicensedBelow s budget answer v (ratio_of r) (bound_for (low_program s Avg (ratio_of r)) t) (lowered_by s (ratio_of r) t)
LicensedLow s budget answer Avg v proofs.Values = IsSomeAnd (least_number s) (λ m. IsSame v (whole m)) × MayGive s budget answer
LicensedLow s budget answer Avg v proofs.Rows = ⊥
LicensedLow s budget answer Avg v (proofs.Tree t) = ⊥

-- both totals are spent, nothing was found, and their bounds do not cross
abbrev pub LicensedRelation : Setting → ℕ → Answer → Relation → Type 0
LicensedRelation s budget answer relations.Undecided = (totals : BothTotals s budget answer) × (totals.most <ℤ neg_ℤ totals.fewest → ⊥)
LicensedRelation s budget answer (relations.Possible runs) = ⊤
LicensedRelation s budget answer (relations.Impossible why) = ⊤

-- either a list without a value, or one with a value, may be there and was not found
abbrev pub LicensedLack : Setting → ℕ → Answer → Lack → Type 0
LicensedLack s budget answer lacks.Undecided =
    (seen_count s.question ≡ pos 0)
    × (((e : ℤ) × IsSpent s budget answer (program_for s (on_chosen minus_one)) e without × (pos 0 ≤ℤ e))
    ⊎ MayHave s budget answer (program_for s (on_chosen one)))
LicensedLack s budget answer lacks.Silent = ⊤
LicensedLack s budget answer (lacks.Never why) = ⊤
LicensedLack s budget answer (lacks.Sometimes none given) = ⊤
LicensedLack s budget answer (lacks.Always why) = ⊤

-- the lack is not left undecided
abbrev pub IsSettledLack : Lack → Type 0
IsSettledLack lacks.Undecided = ⊥
IsSettledLack lacks.Silent = ⊤
IsSettledLack (lacks.Never why) = ⊤
IsSettledLack (lacks.Sometimes none given) = ⊤
IsSettledLack (lacks.Always why) = ⊤

-- ---- an answer

abbrev pub IfOuter : Mark → Type 0 → Type 0
IfOuter marks.Outer P = P
IfOuter (marks.Exact runs) P = ⊤

-- each outer end and each undecided line is licensed at the budget, and no runs that are shown attain an outer end
pub record IsLicensed (s : Setting) (budget : ℕ) (answer : Answer) : Type 0 where
  pub relation : LicensedRelation s budget answer answer.relation
  pub lack : LicensedLack s budget answer answer.lack
  pub low : IfSome answer.ends (λ ends. IfOuter ends.0.mark (LicensedLow s budget answer s.question.query.agg (ratio_of ends.0.value) ends.0.proof))
  pub high : IfSome answer.ends (λ ends. IfOuter ends.1.mark (LicensedHigh s budget answer s.question.query.agg (ratio_of ends.1.value) ends.1.proof))
  pub low_unshown : IfSome answer.ends (λ ends. IfOuter ends.0.mark (IsShown s answer (ratio_of ends.0.value) → ⊥))
  pub high_unshown : IfSome answer.ends (λ ends. IfOuter ends.1.mark (IsShown s answer (ratio_of ends.1.value) → ⊥))
