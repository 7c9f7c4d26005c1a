use Rattle.pc_desk_draw.proofs.Runs.{cut}
use Rattle.pc_desk_draw.proofs.question.first_picture.Goals as goal

pub returns-in-Some-clause-pieces : goal.returns-in-Some-clause-pieces
returns-in-Some-clause-pieces c =
    cut c.args.entries.now c.in-Some.rest.now c.split_at.result.0.now c.split_at.result.1.now c.in-Some.first.now c.as_bytes.result.now c.same_len-len.result
    c.in-Some.ensures c.as_bytes.ensures c.same_len-len.ensures.exact c.split_at.ensures.front c.split_at.ensures.back
