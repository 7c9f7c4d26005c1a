use Rattle.std.proofs.Common.{All, List, arith, subst}
use Rattle.std.proofs.lemmas.List.{take_all}
use Rattle.std.proofs.lemmas.List.Elements.{All-nil}
use Rattle.pc_desk_answers.specs.declared.question.Question.{Question}
use Rattle.pc_desk_why.specs.Scopes.{IsDivided}
use Rattle.pc_desk_why.proofs.Divided.{divided_more}
use Rattle.pc_desk_why.proofs.dividing.shared_for.Goals as goal

pub loop-question-init : goal.loop-question-init
loop-question-init c = record { tree = c.in_ok-shared.ensures.tree; divided = All-nil (IsDivided c.args.schema.now c.args.constraints.now _) }

pub loop-question-preserved : goal.loop-question-preserved
loop-question-preserved c =
    let at = c.loop-question in
    let done = c.in_ok-divide_for_question.ensures in
    record {
      tree = done.tree;
      divided = divided_more c.args.schema.now c.args.constraints.now at.shared.nodes c.divide_for_question.new.shared.nodes done.still c.args.questions.now at.question-index c.question-item.result c.loop-question-test.true c.question-item.is done.divided at.invariant.divided;
    }

pub returns-clause-divided : goal.returns-clause-divided
returns-clause-divided c =
    let past = c.loop-question-test.false in
    subst (λ (questions : List Question). All (IsDivided c.args.schema.now c.args.constraints.now c.loop-question.shared.nodes) questions) (take_all c.loop-question.question-index c.args.questions.now (omega (arith, past))) c.loop-question.invariant.divided
