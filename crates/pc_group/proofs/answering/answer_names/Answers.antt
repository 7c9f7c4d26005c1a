use Rattle.std.proofs.Common.{List, ◌++◌, map, take, subst}
use Rattle.pc_group.specs.Answers.{AnswersWanted}
use Rattle.pc_group.specs.Wanted.{Wanted, wanted_of}
use Rattle.pc_group.specs.Written.{AreBlocksOf}
use Rattle.pc_group.proofs.Areas.{blocks_more, divided_at}
use Rattle.pc_group.proofs.Folded.{fold_at}
use Rattle.pc_group.proofs.answering.answer_names.Goals as goal

pub answer_block-requires-clause-divided : goal.answer_block-requires-clause-divided
answer_block-requires-clause-divided c = divided_at c.args.scope.now.schema.now c.args.scope.now.constraints.now c.args.scope.now.shared.now.nodes c.args.query.now c.args.names.now c.loop-index.index 0 c.loop-index-test.true c.requires.divided

pub loop-index-preserved : goal.loop-index-preserved
loop-index-preserved c = λ observed folds blocks before.
    let query = c.args.query.now in
    let names = c.args.names.now in
    let i = c.loop-index.index in
    subst (λ (ws : List Wanted). AreBlocksOf (AnswersWanted c.args.scope.now.nodes c.args.scope.now.schema.now observed c.args.scope.now.constraints.now) c.args.scope.now.shared.now.nodes ws c.in_ok-more.more) (blocks_more query names blocks i 0 c.loop-index-test.true)
    (c.in_ok-more.ensures observed (fold_at query observed names c.args.folds.now i 0 _ folds c.loop-index-test.true)
    (blocks ++ map (wanted_of query) (take i names)) (c.loop-index.invariant observed folds blocks before))
