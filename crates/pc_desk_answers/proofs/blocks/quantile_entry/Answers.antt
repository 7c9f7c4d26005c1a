use Rattle.std.proofs.Common.{[], rules}
use Rattle.std.proofs.lemmas.Result.{IfOk-weaker}
use Rattle.pc_quantile.specs.Licensed.{Owes}
use Rattle.pc_desk_answers.specs.Blocks.{ground_in}
use Rattle.pc_desk_answers.proofs.blocks.quantile_entry.Goals as goal

pub returns : goal.returns
returns c =
    let ground = ground_in c.args.scope.now in
    let nothing_lost : Owes ground.schema ground.rows [] c.args.asked.now ground.nodes c.in_ok-left.left = search rules in
    IfOk-weaker c.quantile_shown.result _ _
    (λ entry is. record { answer = c.in_ok-answer.answer; left = c.in_ok-left.left; answers = c.in_ok-answer.ensures; nothing_lost = nothing_lost; shows = is })
    c.quantile_shown.ensures
