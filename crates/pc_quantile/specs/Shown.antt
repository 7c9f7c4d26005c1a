-- An answer to a quantile as one to the least number of the same rows, whose proofs say nothing.
use Rattle.std.specs.Prelude.{pos, [], Option, Some, None}
use Rattle.pc_proof.specs.declared.answer.Proof.TheVariants.{Rows}
use Rattle.pc_proof.specs.declared.answer.Why.TheVariants.{Void}
use Rattle.pc_proof.specs.declared.answer.NeverBy.TheVariants as nevers
use Rattle.pc_proof.specs.declared.answer.AlwaysBy.TheVariants as alwayses
use Rattle.pc_proof.specs.declared.answer.Relation.{Relation}
use Rattle.pc_proof.specs.declared.answer.Relation.TheVariants as told
use Rattle.pc_proof.specs.declared.answer.Lack.{Lack}
use Rattle.pc_proof.specs.declared.answer.Lack.TheVariants as said
use Rattle.pc_proof.specs.declared.answer.End.{End}
use Rattle.pc_proof.specs.declared.answer.Answer.{Answer}
use Rattle.pc_quantile.specs.declared.answer.QuantileRelation.{QuantileRelation}
use Rattle.pc_quantile.specs.declared.answer.QuantileRelation.TheVariants as relations
use Rattle.pc_quantile.specs.declared.answer.QuantileLack.{QuantileLack}
use Rattle.pc_quantile.specs.declared.answer.QuantileLack.TheVariants as lacks
use Rattle.pc_quantile.specs.declared.answer.QuantileEnd.{QuantileEnd}
use Rattle.pc_quantile.specs.declared.answer.QuantileAnswer.{QuantileAnswer}

abbrev pub shown_relation : QuantileRelation → Relation
shown_relation (relations.Possible runs) = told.Possible runs
shown_relation relations.Impossible = told.Impossible (Void (record { nodes = [] }))
shown_relation relations.Undecided = told.Undecided

abbrev pub shown_lack : QuantileLack → Lack
shown_lack lacks.Silent = said.Silent
shown_lack lacks.Never = said.Never nevers.Rows
shown_lack (lacks.Sometimes without with') = said.Sometimes without with'
shown_lack lacks.Always = said.Always (alwayses.Tree (record { nodes = [] }))
shown_lack lacks.Undecided = said.Undecided

abbrev pub shown_end : QuantileEnd → End
shown_end end = record { value = record { num = end.value; den = pos 1 }; mark = end.mark; proof = Rows }

abbrev pub shown_ends : Option (QuantileEnd × QuantileEnd) → Option (End × End)
shown_ends None = None
shown_ends (Some ends) = Some (shown_end ends.0, shown_end ends.1)

abbrev pub shown : QuantileAnswer → Answer
shown answer = record { relation = shown_relation answer.relation; lack = shown_lack answer.lack; ends = shown_ends answer.ends }
