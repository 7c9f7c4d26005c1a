use Rattle.std.proofs.lemmas.Result.{IfOk-weaker}
use Rattle.pc_proof.proofs.Masks.{program_by_masks}
use Rattle.pc_proof.proofs.programs.program_of.Goals as goal

pub returns : goal.returns
returns c = IfOk-weaker c.program_by.result _ _ (λ program is. program_by_masks c.args.constraints.now c.args.masks c.args.gains program is) c.program_by.ensures
