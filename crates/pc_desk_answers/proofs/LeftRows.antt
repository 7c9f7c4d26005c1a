-- Where nothing is lost, the ends of a right answer are the aggregate of the rows that are left.
use Rattle.std.proofs.Common.{◌≡◌, true, false, ℕ, List, [], ◌∷◌, Option, Some, None, IsSomeAnd, refl, subst, arith, true≢false}
use Rattle.std.specs.Prelude.{IfSome}
use Rattle.std.proofs.lemmas.Bool.{false≢true}
use Rattle.std.proofs.lemmas.List.Elements.{All-nil}
use Rattle.pc_model.specs.declared.schema.Schema.{Schema}
use Rattle.pc_model.specs.declared.row.Row.{Row}
use Rattle.pc_model.specs.declared.row.Run.{Run}
use Rattle.pc_model.specs.declared.constraint.Constraint.{Constraint}
use Rattle.pc_model.specs.Aggregate.{Ratio, IsSame, aggregate}
use Rattle.pc_model.specs.Possible.{Meets, is_covered}
use Rattle.pc_model.specs.Runs.{rows_of}
use Rattle.pc_model.specs.Right.{Answer, End, IsAttained, IsPossibleFor, IsRight, IsRightEnd, IsRightLack, IsRightRelation, Lack, Mark, MayStand, Question, Relation, always, exact, impossible, is_always, is_impossible, is_outer, never, outer, possible, silent, sometimes, undecided, unsettled, value_for}
use Rattle.pc_proof.specs.declared.answer.End as answers
use Rattle.pc_proof.specs.declared.answer.Mark as marked
use Rattle.pc_proof.specs.declared.answer.Mark.TheVariants as marks
use Rattle.pc_proof.specs.Unbroken.{IsExact, plain_answer, plain_ends, plain_mark}
use Rattle.pc_group.specs.Answers.{AnswersWanted, question_for}
use Rattle.pc_group.specs.Trees.{Told}
use Rattle.pc_group.specs.Wanted.{Wanted}
use Rattle.pc_desk_answers.specs.Left.{AreValue}

abbrev AreReached : Option (End × End) → Type 0
AreReached ends = IfSome ends (λ both. (is_outer both.0.mark ≡ false) × (is_outer both.1.mark ≡ false))

module _ (q : Question) (none : q.constraints ≡ []) where
  -- no row can have been lost
  nothing : (lost : List Row) → IsPossibleFor q lost → lost ≡ []
  nothing [] can = refl
  nothing (row ∷ lost) can =
      let covered : is_covered q.constraints row ≡ true = can.covered 0 row (omega arith) in
      let no : false ≡ true = rw none at covered in
      absurd (false≢true no)

  can_be : IsPossibleFor q []
  can_be = record {
    allowed = λ i d inside. absurd (omega (arith, inside));
    covered = λ i d inside. absurd (omega (arith, inside));
    meets = rw none (All-nil (λ (c : Constraint). Meets [] c []));
  }

  attained : (value : Ratio) (runs : List Run) → IsAttained q value runs → IsSomeAnd (value_for q []) (λ v. IsSame v value)
  attained value runs at = subst (λ (lost : List Row). IsSomeAnd (value_for q lost) (λ v. IsSame v value)) (nothing (rows_of runs) at.by.are_possible) at.gives

  end_is : (end : End) → is_outer end.mark ≡ false → IsRightEnd q end → IsSomeAnd (value_for q []) (λ v. IsSame v end.value)
  end_is end known right = by_mark end.mark refl known
    where
      by_mark : (mark : Mark) → end.mark ≡ mark → is_outer end.mark ≡ false → IsSomeAnd (value_for q []) (λ v. IsSame v end.value)
      by_mark (exact runs) is known = attained end.value runs (rw is at right)
      by_mark outer is known = let no : true ≡ false = rw is at known in absurd (true≢false no)

  not_impossible : (relation : Relation) → IsRightRelation q relation → is_impossible relation ≡ false
  not_impossible (possible runs) right = refl
  not_impossible impossible right = absurd (right [] can_be)
  not_impossible undecided right = refl

  not_always : (lack : Lack) (v : Ratio) → value_for q [] ≡ Some v → IsRightLack q lack → is_always lack ≡ false
  not_always silent v is right = refl
  not_always never v is right = refl
  not_always (sometimes without given) v is right = refl
  not_always always v is right = let no : true ≡ false = rw is at (right [] can_be) in absurd (true≢false no)
  not_always unsettled v is right = refl

  by_value : (answer : Answer) (value : Option Ratio) → value_for q [] ≡ value → IsRight q answer → (ends : Option (End × End)) → answer.ends ≡ ends → AreReached ends → AreValue value ends
  by_value answer None is right None ends known = refl
  by_value answer None is right (Some both) ends known =
      let low : IsRightEnd q both.0 × MayStand answer.relation both.0 = rw ends at right.low in
      let no : IsSomeAnd None (λ (v : Ratio). IsSame v both.0.value) = rw is at (end_is both.0 known.0 low.0) in
      absurd no
  by_value answer (Some v) is right None ends known =
      let no : true ≡ false = rw (ends, not_impossible answer.relation right.relation, not_always answer.lack v is right.lack) at right.absent in
      absurd (true≢false no)
  by_value answer (Some v) is right (Some both) ends known =
      let low : IsRightEnd q both.0 × MayStand answer.relation both.0 = rw ends at right.low in
      let high : IsRightEnd q both.1 × MayStand answer.relation both.1 = rw ends at right.high in
      let first : IsSomeAnd (Some v) (λ (w : Ratio). IsSame w both.0.value) = rw is at (end_is both.0 known.0 low.0) in
      let second : IsSomeAnd (Some v) (λ (w : Ratio). IsSame w both.1.value) = rw is at (end_is both.1 known.1 high.0) in
      (first, second)

left_is : (q : Question) (answer : Answer) → q.constraints ≡ [] → IsRight q answer → AreReached answer.ends → AreValue (aggregate q.query q.name q.observed []) answer.ends
left_is q answer none right known = by_value q none answer (value_for q []) refl right answer.ends refl known

reached : (mark : marked.Mark) → IsExact mark → is_outer (plain_mark mark) ≡ false
reached (marks.Exact runs) known = refl
reached marks.Outer known = absurd known

both_reached : (ends : Option (answers.End × answers.End)) → IfSome ends (λ both. IsExact both.0.mark × IsExact both.1.mark) → AreReached (plain_ends ends)
both_reached None known = tt
both_reached (Some both) known = (reached both.0.mark known.0, reached both.1.mark known.1)

pub left_value : (budget : ℕ) (schema : Schema) (rows : List Row) (w : Wanted) (t : Told) → AnswersWanted budget schema rows [] w t → AreValue (aggregate w.query w.name rows []) (plain_ends t.block.answer.ends)
left_value budget schema rows w t answers =
    left_is (question_for schema rows [] w) (plain_answer t.block.answer) refl answers.right
    (both_reached t.block.answer.ends (answers.sharp (λ i j d before inside. absurd (omega (arith, inside)))).0.ends)
