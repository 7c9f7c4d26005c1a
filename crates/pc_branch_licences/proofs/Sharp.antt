-- An answer that leaves nothing open has nothing to license.
use Rattle.std.proofs.Common.{ℕ, Option, Some, None, IfSome}
use Rattle.pc_proof.specs.declared.answer.Relation.{Relation}
use Rattle.pc_proof.specs.declared.answer.Relation.TheVariants as relations
use Rattle.pc_proof.specs.declared.answer.Lack.{Lack}
use Rattle.pc_proof.specs.declared.answer.Lack.TheVariants as lacks
use Rattle.pc_proof.specs.declared.answer.Mark.{Mark}
use Rattle.pc_proof.specs.declared.answer.Mark.TheVariants as marks
use Rattle.pc_proof.specs.declared.answer.End.{End}
use Rattle.pc_proof.specs.declared.answer.Answer.{Answer}
use Rattle.pc_proof.specs.Setting.{Setting}
use Rattle.pc_proof.specs.Table.{ratio_of}
use Rattle.pc_proof.specs.Unbroken.{IsDecided, IsExact, IsSharp}
use Rattle.pc_branch_licences.specs.Licensed.{LicensedRelation, LicensedLack, LicensedLow, LicensedHigh, IsSettledLack, IfOuter, IsLicensed}
use Rattle.pc_branch_licences.specs.Shown.{IsShown}

relation-decided : (s : Setting) (budget : ℕ) (answer : Answer) (relation : Relation) → IsDecided relation → LicensedRelation s budget answer relation
relation-decided s budget answer (relations.Possible runs) decided = tt
relation-decided s budget answer (relations.Impossible why) decided = tt
relation-decided s budget answer relations.Undecided decided = absurd decided

lack-settled : (s : Setting) (budget : ℕ) (answer : Answer) (lack : Lack) → IsSettledLack lack → LicensedLack s budget answer lack
lack-settled s budget answer lacks.Silent settled = tt
lack-settled s budget answer (lacks.Never why) settled = tt
lack-settled s budget answer (lacks.Sometimes none given) settled = tt
lack-settled s budget answer (lacks.Always why) settled = tt
lack-settled s budget answer lacks.Undecided settled = absurd settled

not-outer : (mark : Mark) (P : Type 0) → IsExact mark → IfOuter mark P
not-outer (marks.Exact runs) P exact = tt
not-outer marks.Outer P exact = absurd exact

abbrev AreExact : Option (End × End) → Type 0
AreExact o = IfSome o (λ ends. IsExact ends.0.mark × IsExact ends.1.mark)

low-exact : (P : End → Type 0) (o : Option (End × End)) → AreExact o → IfSome o (λ ends. IfOuter ends.0.mark (P ends.0))
low-exact P None exact = tt
low-exact P (Some ends) exact = not-outer ends.0.mark (P ends.0) exact.0

high-exact : (P : End → Type 0) (o : Option (End × End)) → AreExact o → IfSome o (λ ends. IfOuter ends.1.mark (P ends.1))
high-exact P None exact = tt
high-exact P (Some ends) exact = not-outer ends.1.mark (P ends.1) exact.1

pub sharp-licensed : (s : Setting) (budget : ℕ) (answer : Answer) → IsSharp answer → IsSettledLack answer.lack → IsLicensed s budget answer
sharp-licensed s budget answer sharp settled = record {
  relation = relation-decided s budget answer answer.relation sharp.decided;
  lack = lack-settled s budget answer answer.lack settled;
  low = low-exact (λ (end : End). LicensedLow s budget answer s.question.query.agg (ratio_of end.value) end.proof) answer.ends sharp.ends;
  high = high-exact (λ (end : End). LicensedHigh s budget answer s.question.query.agg (ratio_of end.value) end.proof) answer.ends sharp.ends;
  low_unshown = low-exact (λ (end : End). IsShown s answer (ratio_of end.value) → ⊥) answer.ends sharp.ends;
  high_unshown = high-exact (λ (end : End). IsShown s answer (ratio_of end.value) → ⊥) answer.ends sharp.ends;
}
