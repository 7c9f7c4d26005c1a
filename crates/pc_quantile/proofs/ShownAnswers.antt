-- What an answer owes lets its lines be read back.
use Rattle.std.proofs.Common.{◌≡◌, ℕ, ℤ, List, Option, Some, None, IfSome, refl, sym, ap, subst, arith}
use Rattle.std.specs.List.{AllPass}
use Rattle.std.proofs.lemmas.Int.{ints}
use Rattle.pc_model.specs.declared.schema.Schema.{Schema}
use Rattle.pc_model.specs.declared.row.Row.{Row}
use Rattle.pc_model.specs.declared.row.Run.{Run}
use Rattle.pc_model.specs.declared.constraint.Constraint.{Constraint}
use Rattle.pc_model.specs.declared.query.Agg.TheVariants.{Min}
use Rattle.pc_model.specs.declared.tree.CutNode.{CutNode}
use Rattle.pc_model.specs.Accepted.{AreConstraints}
use Rattle.pc_model.specs.Aggregate.{Ratio}
use Rattle.pc_model.specs.Cells.{IsSettledTree}
use Rattle.pc_model.specs.Membership.{in_domain}
use Rattle.pc_model.specs.Right as plain
use Rattle.pc_model.specs.Right.{ArePossible, IsRightRelation}
use Rattle.pc_model.specs.WellFormed.{IsSmall, IsWellFormed}
use Rattle.pc_proof.specs.declared.answer.Mark.{Mark}
use Rattle.pc_proof.specs.declared.answer.Mark.TheVariants as marks
use Rattle.pc_proof.specs.Setting.{Setting}
use Rattle.pc_proof.specs.Unbroken.{plain_answer, plain_end, plain_ends, plain_lack, plain_mark, plain_relation}
use Rattle.pc_branch_licences.specs.Licensed.{IfOuter}
use Rattle.pc_agg_search.specs.declared.extreme.Extreme.{Extreme}
use Rattle.pc_agg_search.specs.declared.extreme.Extreme.TheVariants.{High, Low}
use Rattle.pc_lang.specs.declared.quantile.Quantile.{Quantile}
use Rattle.pc_report.specs.Shown.{AreShownEnds, AreShownRuns, IsShownAnswer, IsShownEnd, IsShownLack, IsShownMark, IsShownRelation}
use Rattle.pc_report.proofs.RunsShown.{possible_runs_are_shown}
use Rattle.pc_quantile.specs.declared.answer.QuantileRelation.{QuantileRelation}
use Rattle.pc_quantile.specs.declared.answer.QuantileRelation.TheVariants as relations
use Rattle.pc_quantile.specs.declared.answer.QuantileLack.{QuantileLack}
use Rattle.pc_quantile.specs.declared.answer.QuantileLack.TheVariants as lacks
use Rattle.pc_quantile.specs.declared.answer.QuantileEnd.{QuantileEnd}
use Rattle.pc_quantile.specs.declared.answer.QuantileAnswer.{QuantileAnswer}
use Rattle.pc_quantile.specs.Licensed.{IsOwed, LicensedEnd, Owes, question_of}
use Rattle.pc_quantile.specs.Measured.{least_of}
use Rattle.pc_quantile.specs.Right.{AreRightEnds, IsRightEnd, IsRightLack, IsRightMark}
use Rattle.pc_quantile.specs.Shown.{shown, shown_end, shown_ends, shown_lack, shown_relation}
use Rattle.pc_quantile.proofs.EndsFit.{attained_small, candidate_small}

module _ (schema : Schema) (constraints : List Constraint) (asked : Quantile) (nodes : List CutNode) (formed : IsWellFormed schema)
    (tree : IsSettledTree schema constraints asked.chosen nodes) (observed : List Row) (seen : AllPass (in_domain schema) observed) (accepted : AreConstraints schema constraints) where
  abbrev s : Setting
  s = record { question = question_of schema observed constraints asked; nodes = nodes }

  runs_shown : (runs : List Run) → ArePossible s.question runs → AreShownRuns schema runs
  runs_shown runs are = possible_runs_are_shown schema constraints runs formed accepted.few accepted.small are.each_stands are.are_possible

  relation_shown : (relation : QuantileRelation) → IsRightRelation s.question (plain_relation (shown_relation relation)) → IsShownRelation schema (plain_relation (shown_relation relation))
  relation_shown (relations.Possible runs) right = runs_shown runs right
  relation_shown relations.Impossible right = tt
  relation_shown relations.Undecided right = tt

  lack_shown : (lack : QuantileLack) → IsRightLack s.question asked (plain_lack (shown_lack lack)) → IsShownLack schema (plain_lack (shown_lack lack))
  lack_shown lacks.Silent right = tt
  lack_shown lacks.Never right = tt
  lack_shown (lacks.Sometimes without with') right = (runs_shown without right.0, runs_shown with' right.2)
  lack_shown lacks.Always right = tt
  lack_shown lacks.Undecided right = tt

  -- ---- ends

  number_small : (extreme : Extreme) (mark : Mark) (number : ℤ) (budget : ℕ) (answer : QuantileAnswer) → IsRightMark s.question asked number (plain_mark mark) → IfOuter mark (LicensedEnd s asked budget (shown answer) extreme number) → IsSmall number
  number_small extreme (marks.Exact runs) number budget answer right licensed = attained_small schema constraints asked nodes formed tree observed seen number runs right
  number_small extreme marks.Outer number budget answer right licensed = candidate_small schema constraints asked nodes formed tree observed seen extreme number licensed.candidate

  mark_shown : (mark : Mark) (number : ℤ) → IsRightMark s.question asked number (plain_mark mark) → IsShownMark schema (plain_mark mark)
  mark_shown (marks.Exact runs) number right = runs_shown runs right.by
  mark_shown marks.Outer number right = tt

  end_shown : (extreme : Extreme) (budget : ℕ) (answer : QuantileAnswer) (end : QuantileEnd) (relation : plain.Relation) (number : ℤ) → IsRightEnd s.question asked relation number (plain_end (shown_end end)) →
      IfOuter end.mark (LicensedEnd s asked budget (shown answer) extreme end.value) → IsShownEnd schema Min (plain_end (shown_end end))
  end_shown extreme budget answer end relation number right licensed =
      let same : number ≡ end.value = ap (λ (value : Ratio). value.num) (sym right.value) in
      let marked = subst (λ (n : ℤ). IsRightMark s.question asked n (plain_mark end.mark)) same right.mark in
      let small = number_small extreme end.mark end.value budget answer marked licensed in
      record { value = record { fits = omega (arith, ints, small); one = refl }; mark = mark_shown end.mark end.value marked }

  ends_shown : (budget : ℕ) (answer : QuantileAnswer) (ends : Option (QuantileEnd × QuantileEnd)) (relation : plain.Relation) → IfSome (plain_ends (shown_ends ends)) (λ both. AreRightEnds s.question asked relation both.0 both.1) →
      IfSome (shown_ends ends) (λ both. IfOuter both.0.mark (LicensedEnd s asked budget (shown answer) Low both.0.value.num)) →
      IfSome (shown_ends ends) (λ both. IfOuter both.1.mark (LicensedEnd s asked budget (shown answer) High both.1.value.num)) → AreShownEnds schema Min (plain_ends (shown_ends ends))
  ends_shown budget answer None relation right low high = tt
  ends_shown budget answer (Some ends) relation right low high = (
    end_shown Low budget answer ends.0 relation right.least right.low_end low,
    end_shown High budget answer ends.1 relation right.greatest right.high_end high,
  )

  owed_shown : (budget : ℕ) (answer : QuantileAnswer) → IsOwed s asked budget answer → IsShownAnswer schema (least_of asked) (plain_answer (shown answer))
  owed_shown budget answer owed = record {
    relation = relation_shown answer.relation owed.right.relation;
    lack = lack_shown answer.lack owed.right.lack;
    ends = ends_shown budget answer answer.ends (plain_relation (shown_relation answer.relation)) owed.right.ends owed.licensed.low owed.licensed.high;
    silent = owed.right.said;
    absent = owed.right.absent;
  }

pub owed_answers_are_shown : (schema : Schema) (observed : List Row) (constraints : List Constraint) (asked : Quantile) (budget : ℕ) (answer : QuantileAnswer) → IsWellFormed schema → AllPass (in_domain schema) observed → AreConstraints schema constraints
    → Owes schema observed constraints asked budget answer → IsShownAnswer schema (least_of asked) (plain_answer (shown answer))
owed_answers_are_shown schema observed constraints asked budget answer formed seen accepted owes =
    owed_shown schema constraints asked owes.nodes formed owes.tree observed seen accepted budget answer owes.owed
