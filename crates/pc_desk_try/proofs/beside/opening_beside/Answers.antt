use Rattle.std.proofs.Common.{List, Bool, sym, subst}
use Rattle.std.proofs.lemmas.Result.{IfOk-weaker}
use Rattle.pc_desk_try.specs.Beside.{AreBeside}
use Rattle.pc_desk_try.proofs.Crossing.{are_beside}
use Rattle.pc_desk_try.proofs.beside.opening_beside.Goals as goal

pub returns : goal.returns
returns c =
    let schema = c.args.schema.now in
    let constraints = c.args.constraints.now in
    record {
      beside = IfOk-weaker c.truths_for.result _ _
          (λ truths made. subst (AreBeside schema constraints) (sym made) (are_beside schema constraints c.in_ok-openings.openings c.in_ok-openings.ensures.opens))
          (rw c.as_slice.ensures at c.truths_for.ensures);
    }
