use Rattle.std.proofs.Common.{◌<◌, ◌^◌, length, arith}
use Rattle.pc_document.proofs.Counting.{lines_counted}
use Rattle.pc_run.proofs.verdict.verdict_on.Goals as goal

pub check-requires-clause-few_lines : goal.check-requires-clause-few_lines
check-requires-clause-few_lines c =
    let few : length c.as_slice.result.now < 2 ^ 64 = c.as_slice.type_inv.0 in
    let lines = lines_counted c.args.claim.now.observed.schema c.as_slice.result.now c.in-Ok.document c.in-Ok.ensures.told in
    omega (arith, few, lines)
