use Rattle.std.proofs.Common.{All, List, arith, subst}
use Rattle.std.proofs.lemmas.List.{take_all}
use Rattle.std.proofs.lemmas.List.Elements.{All-nil}
use Rattle.pc_desk_answers.specs.declared.question.Question.{Question}
use Rattle.pc_desk_answers.specs.Blocks.{ground_in}
use Rattle.pc_desk_answers.specs.Divided.{IsDivided}
use Rattle.pc_desk_answers.proofs.Dividing.{divided_more}
use Rattle.pc_desk_answers.proofs.trees.trees_for.Goals as goal

pub loop-question-init : goal.loop-question-init
loop-question-init c = record {
  trees = record { constrained = c.in_ok-constrained.ensures.tree; whole = c.in_ok-whole.ensures.tree };
  divided = All-nil (IsDivided (ground_in c.args.scope.now) _);
}

pub loop-question-preserved : goal.loop-question-preserved
loop-question-preserved c =
    let at = c.loop-question in
    let done = c.in_ok-divide_for_question.ensures in
    record {
      trees = done.trees;
      divided = divided_more (ground_in c.args.scope.now) at.trees c.divide_for_question.new.trees done.still c.args.questions.now at.question-index c.question-item.result c.loop-question-test.true c.question-item.is done.divided at.invariant.divided;
    }

pub returns-clause-divided : goal.returns-clause-divided
returns-clause-divided c =
    let past = c.loop-question-test.false in
    subst (λ (questions : List Question). All (IsDivided (ground_in c.args.scope.now) c.loop-question.trees) questions) (take_all c.loop-question.question-index c.args.questions.now (omega (arith, past))) c.loop-question.invariant.divided
