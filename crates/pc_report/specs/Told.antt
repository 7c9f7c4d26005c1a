-- What is told of a block, as the plain answer that it is.
use Rattle.std.specs.Prelude.{Option, Some, None}
use Rattle.pc_model.specs.Right as plain
use Rattle.pc_proof.specs.Table.{ratio_of}
use Rattle.pc_report.specs.declared.told.Told.{Told}
use Rattle.pc_report.specs.declared.told.ToldEnd.{ToldEnd}
use Rattle.pc_report.specs.declared.told.ToldLack.{ToldLack}
use Rattle.pc_report.specs.declared.told.ToldLack.TheVariants as lacks
use Rattle.pc_report.specs.declared.told.ToldMark.{ToldMark}
use Rattle.pc_report.specs.declared.told.ToldMark.TheVariants as marks
use Rattle.pc_report.specs.declared.told.ToldRelation.{ToldRelation}
use Rattle.pc_report.specs.declared.told.ToldRelation.TheVariants as relations

abbrev pub relation_in : ToldRelation → plain.Relation
relation_in (relations.Possible runs) = plain.possible runs.now
relation_in relations.Impossible = plain.impossible
relation_in relations.Undecided = plain.undecided

abbrev pub lack_in : ToldLack → plain.Lack
lack_in lacks.Silent = plain.silent
lack_in lacks.Never = plain.never
lack_in (lacks.Sometimes without with') = plain.sometimes without.now with'.now
lack_in lacks.Always = plain.always
lack_in lacks.Undecided = plain.unsettled

abbrev pub mark_in : ToldMark → plain.Mark
mark_in (marks.Exact runs) = plain.exact runs.now
mark_in marks.Outer = plain.outer

abbrev pub end_in : ToldEnd → plain.End
end_in end = record { value = ratio_of end.value; mark = mark_in end.mark }

abbrev pub ends_in : Option (ToldEnd × ToldEnd) → Option (plain.End × plain.End)
ends_in None = None
ends_in (Some ends) = Some (end_in ends.0, end_in ends.1)

abbrev pub answer_in : Told → plain.Answer
answer_in told = record { relation = relation_in told.relation; lack = lack_in told.lack; ends = ends_in told.ends }
