use Rattle.std.proofs.Common.{sym, subst}
use Rattle.std.specs.Prelude.{◌↔◌, IsTrue, IsSomeAnd}
use Rattle.pc_model.specs.Aggregate.{IsSame}
use Rattle.pc_model.specs.Runs.{rows_of}
use Rattle.pc_proof.specs.Table.{ratio_of}
use Rattle.pc_check.proofs.TotalValues.{value_with}
use Rattle.pc_check.proofs.runs.gives.Goals as goal

pub returns : goal.returns
returns c = λ s of_matter.
    subst (λ given. IsTrue c.is_value.result ↔ IsSomeAnd given (λ v. IsSame v (ratio_of c.args.value.now)))
    (sym (value_with c.args.matter.now.scene s (rows_of c.args.runs.now) c.total_with.result of_matter.scene (c.total_with.ensures.comes s of_matter))) c.is_value.ensures
