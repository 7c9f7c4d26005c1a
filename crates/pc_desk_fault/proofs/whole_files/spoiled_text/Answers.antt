use Rattle.std.proofs.Common.{◌∙◌}
use Rattle.pc_desk_fault.proofs.Utf8.{spoiled_from}
use Rattle.pc_desk_fault.proofs.whole_files.spoiled_text.Goals as goal

pub returns-in-Err : goal.returns-in-Err
returns-in-Err c =
    rw (spoiled_from c.args.bytes.now c.valid_up_to.result c.in-Err.ensures.cases.0 (c.valid_up_to.ensures ∙ c.in-Err.ensures.valid_len))
    c.spoiled_at.ensures
