use Rattle.std.proofs.Common.{subst, sym}
use Rattle.pc_model.specs.Right.{Answer}
use Rattle.pc_quantile.specs.Licensed.{question_of}
use Rattle.pc_proof.specs.Unbroken.{plain_answer}
use Rattle.pc_quantile.specs.Shown.{shown}
use Rattle.pc_desk_why.specs.Scopes.{AreReachable}
use Rattle.pc_desk_why.proofs.Reaching.{quantile_reaches}
use Rattle.pc_desk_why.proofs.blocks.quantile_explained.Goals as goal

pub found_of-requires-clause-reachable : goal.found_of-requires-clause-reachable
found_of-requires-clause-reachable c =
    let over = c.args.scope.now in
    let question = question_of over.schema.now over.rows.now over.constraints.now c.args.asked.now in
    subst (λ (a : Answer). AreReachable c.args.ask.now a.ends) (sym c.told-told.ensures)
    (quantile_reaches c.args.ask.now question c.requires.asks.schema c.requires.asks.constraints c.args.asked.now (plain_answer (shown c.args.answer.now)) c.requires.answers.owed.right)
