use Rattle.std.proofs.Common.{◌≡◌, ◌++◌, arith, rules}
use Rattle.pc_desk_why.specs.Scopes.{ground_in}
use Rattle.pc_desk_why.proofs.OneByOne.{all_explained, next_explained, none_explained}
use Rattle.pc_desk_why.proofs.explaining.explain_all.Goals as goal

pub loop-question-init : goal.loop-question-init
loop-question-init c = rw c.new-all.ensures.items (none_explained (ground_in c.args.scope.now) c.args.scope.now.schema.now)

pub loop-question-preserved : goal.loop-question-preserved
loop-question-preserved c =
    let at = c.loop-question in
    let appended : c.append.new.self.items ≡ at.all.items ++ c.in_ok-more.more = search rules in
    rw appended (next_explained (ground_in c.args.scope.now) c.args.scope.now.schema.now c.args.questions.now at.question-index c.question-item.result at.all.items c.in_ok-more.more c.loop-question-test.true c.question-item.is at.invariant c.in_ok-more.ensures.explained)

pub returns : goal.returns
returns c =
    record { explained = rw c.from_vec.ensures (all_explained (ground_in c.args.scope.now) c.args.scope.now.schema.now c.args.questions.now c.loop-question.question-index c.loop-question.all.items (omega (arith, c.loop-question-test.false)) c.loop-question.invariant) }
