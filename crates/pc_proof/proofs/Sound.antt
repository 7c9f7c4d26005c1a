-- An answer that breaks no rule is right.
use Rattle.std.proofs.Common.{◌≡◌, pos, ◌<ℤ◌, Bool, ◌||◌, Option, Some, None, IfSome, ◌∙◌, refl}
use Rattle.std.specs.Prelude.{is_none}
use Rattle.pc_num.specs.declared.Frac.{Frac}
use Rattle.pc_model.specs.Aggregate.{Ratio, IsAtMost}
use Rattle.pc_model.specs.Right.{value_for, always_has_value, ContainsAnswers, IsRight, IsRightRelation, IsRightLack, IsRightEnd, is_silent, is_impossible}
use Rattle.pc_model.specs.Right as plain
use Rattle.pc_proof.specs.declared.answer.Relation.{Relation}
use Rattle.pc_proof.specs.declared.answer.Relation.TheVariants as relations
use Rattle.pc_proof.specs.declared.answer.Lack.{Lack}
use Rattle.pc_proof.specs.declared.answer.Lack.TheVariants as lacks
use Rattle.pc_proof.specs.declared.answer.Mark.{Mark}
use Rattle.pc_proof.specs.declared.answer.Mark.TheVariants as marks
use Rattle.pc_proof.specs.declared.answer.End.{End}
use Rattle.pc_proof.specs.declared.answer.Answer.{Answer}
use Rattle.pc_proof.specs.Setting.{Setting}
use Rattle.pc_proof.specs.Table.{ratio_of, IsFormed}
use Rattle.pc_proof.specs.Unbroken.{plain_relation, plain_lack, plain_mark, plain_ends, plain_answer, HoldsRelation, HoldsLack, HoldsMark, HoldsLow, HoldsHigh, MayStand, IsUnbroken, HasForm, IsWellPosed}
use Rattle.pc_proof.proofs.Gains.{IsSettledFor}
use Rattle.pc_proof.proofs.Lacks.{neither}
use Rattle.pc_proof.proofs.Shown.{high_holds, low_holds, never_holds, always_holds, impossible_holds}

-- ---- the parts of an answer

as_absent : (ends : Option (End × End)) → is_none (plain_ends ends) ≡ is_none ends
as_absent None = refl
as_absent (Some ends) = refl

both_positive : (ends : Option (End × End)) → IfSome ends (λ e. IsFormed e.0.value e.0.proof) → IfSome ends (λ e. IsFormed e.1.value e.1.proof) →
    IfSome (plain_ends ends) (λ e. (pos 0 <ℤ e.0.value.den) × (pos 0 <ℤ e.1.value.den))
both_positive None low high = tt
both_positive (Some ends) low high = (low.positive, high.positive)

-- a value that passes two tests passes both
both_of_value : (value : Option Ratio) (P Q : Ratio → Type 0) → IfSome value P → IfSome value Q → IfSome value (λ v. P v × Q v)
both_of_value None P Q first second = tt
both_of_value (Some v) P Q first second = (first, second)

module _ (s : Setting) where
  right_mark : (value : Frac) (mark : Mark) → HoldsMark s value mark → IsRightEnd s.question (record { value = ratio_of value; mark = plain_mark mark })
  right_mark value (marks.Exact runs) holds = holds
  right_mark value marks.Outer holds = tt

  right_low : (relation : Relation) (ends : Option (End × End)) → IfSome ends (λ e. HoldsLow s e.0 × MayStand relation e.0) →
      IfSome (plain_ends ends) (λ e. IsRightEnd s.question e.0 × plain.MayStand (plain_relation relation) e.0)
  right_low relation None holds = tt
  right_low relation (Some ends) holds = (right_mark ends.0.value ends.0.mark holds.0.marked, holds.1)

  right_high : (relation : Relation) (ends : Option (End × End)) → IfSome ends (λ e. HoldsHigh s e.1 × MayStand relation e.1) →
      IfSome (plain_ends ends) (λ e. IsRightEnd s.question e.1 × plain.MayStand (plain_relation relation) e.1)
  right_high relation None holds = tt
  right_high relation (Some ends) holds = (right_mark ends.1.value ends.1.mark holds.0.marked, holds.1)

  module _ (posed : IsWellPosed s.question) (tree : IsSettledFor s) where
    right_relation : (relation : Relation) → HoldsRelation s relation → IsRightRelation s.question (plain_relation relation)
    right_relation (relations.Possible runs) holds = holds
    right_relation (relations.Impossible why) holds = λ lost possible. impossible_holds s posed tree lost possible why holds
    right_relation relations.Undecided holds = tt

    right_lack : (lack : Lack) (impossible : Bool) → is_silent (plain_lack lack) ≡ (always_has_value s.question.query.agg || impossible) → HoldsLack s lack →
        IsRightLack s.question (plain_lack lack)
    right_lack lacks.Silent impossible silent holds = tt
    right_lack (lacks.Never by') impossible silent holds = λ lost possible. never_holds s posed tree lost possible by' holds
    right_lack (lacks.Sometimes without with') impossible silent holds = (holds.0.by, holds.0.none, holds.1.by, holds.1.some)
    right_lack (lacks.Always by') impossible silent holds =
        λ lost possible. always_holds s posed tree lost possible by' (neither (always_has_value s.question.query.agg) impossible silent) holds
    right_lack lacks.Undecided impossible silent holds = tt

    contains_all : (relation : Relation) (ends : Option (End × End)) → IfSome ends (λ e. IsFormed e.0.value e.0.proof) → IfSome ends (λ e. IsFormed e.1.value e.1.proof) →
        IfSome ends (λ e. HoldsLow s e.0 × MayStand relation e.0) → IfSome ends (λ e. HoldsHigh s e.1 × MayStand relation e.1) →
        IfSome (plain_ends ends) (λ e. ContainsAnswers s.question e.0.value e.1.value)
    contains_all relation None low_formed high_formed low high = tt
    contains_all relation (Some ends) low_formed high_formed low high =
        λ lost possible.
        both_of_value (value_for s.question lost) (λ v. IsAtMost (ratio_of ends.0.value) v) (λ v. IsAtMost v (ratio_of ends.1.value))
        (low_holds s posed tree lost possible (record { value = ends.0.value; proof = ends.0.proof }) low_formed low.0.shown)
        (high_holds s posed tree lost possible (record { value = ends.1.value; proof = ends.1.proof }) high_formed high.0.shown)

-- ---- the whole

pub right_from_unbroken : (s : Setting) (answer : Answer) → IsWellPosed s.question → HasForm s answer → IsUnbroken s answer → IsRight s.question (plain_answer answer)
right_from_unbroken s answer posed form unbroken =
    let tree : IsSettledFor s = record { preorder = form.preorder; proper = unbroken.proper; settled = unbroken.settled } in
    record {
      relation = right_relation s posed tree answer.relation unbroken.relation;
      lack = right_lack s posed tree answer.lack (is_impossible (plain_relation answer.relation)) form.silent unbroken.lack;
      silent = form.silent;
      absent = as_absent answer.ends ∙ form.absent;
      positive = both_positive answer.ends form.low form.high;
      contains = contains_all s posed tree answer.relation answer.ends form.low form.high unbroken.low unbroken.high;
      low = right_low s answer.relation answer.ends unbroken.low;
      high = right_high s answer.relation answer.ends unbroken.high;
    }
