use Rattle.std.proofs.lemmas.Result.{IfOk-weaker}
use Rattle.pc_desk_why.specs.Scopes.{ground_in}
use Rattle.pc_desk_why.proofs.OfBlocks.{as_many, blocks_answered, blocks_explained, blocks_seen}
use Rattle.pc_desk_why.proofs.blocks.explain_blocks.Goals as goal

pub explain_each-requires-clause-even : goal.explain_each-requires-clause-even
explain_each-requires-clause-even c = as_many (ground_in c.args.scope.now) c.args.query.now c.args.blocks.now c.requires.answers c.args.folds.now c.requires.folds

pub explain_each-requires-clause-answered : goal.explain_each-requires-clause-answered
explain_each-requires-clause-answered c = blocks_answered (ground_in c.args.scope.now) c.args.query.now c.args.blocks.now c.requires.answers

pub explain_each-requires-clause-seen : goal.explain_each-requires-clause-seen
explain_each-requires-clause-seen c = blocks_seen (ground_in c.args.scope.now) c.args.query.now c.args.blocks.now c.requires.answers c.args.folds.now c.requires.folds

pub returns : goal.returns
returns c =
    IfOk-weaker c.explain_each.result _ _ (λ all each. blocks_explained (ground_in c.args.scope.now) c.args.query.now c.args.blocks.now c.requires.answers all each) c.explain_each.ensures
