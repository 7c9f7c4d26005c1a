-- The parts that are told of the ends of a query's answer make up their values.
use Rattle.std.proofs.Common.{◌≡◌, true, Option, List, refl, sym, ap, subst}
use Rattle.std.specs.Prelude.{IfSome}
use Rattle.pc_model.specs.declared.query.Agg.{Agg}
use Rattle.pc_model.specs.declared.query.Query.{Query}
use Rattle.pc_model.specs.declared.row.Run.{Run}
use Rattle.pc_model.specs.Accepted.{IsQuery}
use Rattle.pc_model.specs.Aggregate.{Ratio}
use Rattle.pc_model.specs.Right.{End, IsAttained, IsRightEnd, Mark, MayStand, Question, exact, outer}
use Rattle.pc_proof.specs.Table.{ratio_of}
use Rattle.pc_proof.specs.Unbroken.{plain_answer}
use Rattle.pc_group.specs.Answers.{question_for}
use Rattle.pc_group.specs.Wanted.{Wanted}
use Rattle.pc_desk_answers.specs.Blocks.{Ground}
use Rattle.pc_desk_parts.specs.declared.asked.Asked.{Asked as Ask}
use Rattle.pc_desk_parts.specs.declared.asked.Side.{Side}
use Rattle.pc_desk_parts.specs.declared.asked.Side.TheVariants.{High, Low}
use Rattle.pc_desk_parts.specs.declared.part.Part.{Part}
use Rattle.pc_desk_parts.specs.Sums.{MakeUp, question_of}
use Rattle.pc_desk_parts.proofs.Ends.{add_up}
use Rattle.pc_desk_why.specs.declared.explained.Explained.{Explained}
use Rattle.pc_desk_why.specs.declared.explained.Found.TheVariants.{Ends}
use Rattle.pc_desk_why.specs.declared.explained.MadeEnd.{MadeEnd}
use Rattle.pc_desk_why.specs.declared.explained.MadeEnd.TheVariants.{NotReached, Parts}
use Rattle.pc_desk_why.specs.Explained.{AddUp, AddsUp, AreEndsMade, AreMadeOf, ExplainsBlock, IsAskOf, IsFound, IsMade}

module _ (ground : Ground) (w : Wanted) (ask : Ask) (asks : IsAskOf ground w.query w.name true ask) (query : IsQuery ground.schema w.query) where
  abbrev q : Question
  q = question_for ground.schema ground.rows ground.constraints w

  same_question : question_of ask ground.rows ≡ q
  same_question = rw (asks.schema, asks.constraints, asks.query, asks.name) refl

  asked_query : IsQuery ask.schema.now ask.query.now
  asked_query = rw (asks.schema, asks.query) query

  parts_make_up : (side : Side) (value : Ratio) (runs : List Run) (parts : List Part) → IsAttained q value runs → AreMadeOf ask side value runs parts → MakeUp w.query.agg value parts
  parts_make_up side value runs parts attained made =
      let reached = made.reached in
      let by_runs : IsAttained q value reached.runs.now = subst (IsAttained q value) (sym made.by.runs) attained in
      let by_value : IsAttained q (ratio_of reached.value) reached.runs.now = subst (λ (v : Ratio). IsAttained q v reached.runs.now) (sym made.by.value) by_runs in
      let of_ask : IsAttained (question_of ask ground.rows) (ratio_of reached.value) reached.runs.now = subst (λ (p : Question). IsAttained p (ratio_of reached.value) reached.runs.now) (sym same_question) by_value in
      let made_up = add_up ask reached ground.rows parts asked_query of_ask made.made asks.seen asks.folded in
      let of_value = subst (λ (v : Ratio). MakeUp ask.query.now.agg v parts) made.by.value made_up in
      subst (λ (agg : Agg). MakeUp agg value parts) (ap (λ (p : Query). p.agg) asks.query) of_value

  end_adds : (side : Side) (value : Ratio) (mark : Mark) (made : MadeEnd) → IsRightEnd q (record { value = value; mark = mark }) → IsMade ask side value mark made → AddsUp w.query.agg value made
  end_adds side value (exact runs) (Parts parts) right made = parts_make_up side value runs parts right made
  end_adds side value (exact runs) NotReached right made = absurd made
  end_adds side value outer (Parts parts) right made = absurd made
  end_adds side value outer NotReached right made = tt

pub ends_add_up : (ground : Ground) (w : Wanted) (told : Explained) (low high : MadeEnd) (explains : ExplainsBlock ground w told) → IsQuery ground.schema w.query → told.found ≡ Ends low high →
    AddUp w.query.agg (plain_answer explains.answer.block.answer) low high
ends_add_up ground w told low high explains query is =
    let answer = plain_answer explains.answer.block.answer in
    let right = explains.answers.right in
    let made : AreEndsMade explains.ask answer low high = subst (IsFound explains.ask answer) is explains.explains.is_found in
    let low_right = subst (λ (ends : Option (End × End)). IfSome ends (λ both. IsRightEnd (q ground w explains.ask explains.asks query) both.0 × MayStand answer.relation both.0)) made.are right.low in
    let high_right = subst (λ (ends : Option (End × End)). IfSome ends (λ both. IsRightEnd (q ground w explains.ask explains.asks query) both.1 × MayStand answer.relation both.1)) made.are right.high in
    record {
      ends = made.ends;
      are = made.are;
      low_adds = end_adds ground w explains.ask explains.asks query Low made.ends.0.value made.ends.0.mark low low_right.0 made.low_made;
      high_adds = end_adds ground w explains.ask explains.asks query High made.ends.1.value made.ends.1.mark high high_right.0 made.high_made;
    }
