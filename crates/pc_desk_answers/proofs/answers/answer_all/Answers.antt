use Rattle.std.proofs.Common.{◌≡◌, ◌++◌, arith, rules}
use Rattle.pc_desk_answers.specs.Blocks.{ground_in}
use Rattle.pc_desk_answers.proofs.Shown.{all_shown, next_shown, none_shown}
use Rattle.pc_desk_answers.proofs.answers.answer_all.Goals as goal

pub loop-question-init : goal.loop-question-init
loop-question-init c = rw c.new-entries.ensures.items (none_shown (ground_in c.args.scope.now) c.args.scope.now.schema.now)

pub loop-question-preserved : goal.loop-question-preserved
loop-question-preserved c =
    let at = c.loop-question in
    let appended : c.append.new.self.items ≡ at.entries.items ++ c.in_ok-more.more = search rules in
    rw appended (next_shown (ground_in c.args.scope.now) c.args.scope.now.schema.now c.args.questions.now at.question-index c.question-item.result at.entries.items c.in_ok-more.more c.loop-question-test.true c.question-item.is at.invariant c.in_ok-more.ensures.shown)

pub returns : goal.returns
returns c =
    record { shown = rw c.from_vec.ensures (all_shown (ground_in c.args.scope.now) c.args.scope.now.schema.now c.args.questions.now c.loop-question.question-index c.loop-question.entries.items (omega (arith, c.loop-question-test.false)) c.loop-question.invariant) }
