use Rattle.std.proofs.lemmas.Result.{IfOk-weaker}
use Rattle.pc_group.specs.Wanted.{wanted_by}
use Rattle.pc_session.specs.Sessions.{held_by}
use Rattle.pc_desk_answers.specs.Blocks.{ground_held}
use Rattle.pc_desk_run.proofs.Following.{posed_shown}
use Rattle.pc_desk_run.proofs.session.follow.Goals as goal

pub returns-in-Asks-clause-shown : goal.returns-in-Asks-clause-shown
returns-in-Asks-clause-shown c =
    let was = c.args.session.now in
    let ground = ground_held was.schema (held_by was) c.args.number c.args.nodes in
    rw c.in-Asks.is (IfOk-weaker c.ask_session.result _ _ (posed_shown ground (wanted_by was.schema c.in-Asks.query)) c.ask_session.ensures.shown)
