use Rattle.std.proofs.Common.{List, inl, sym, ap, subst, ◌∙◌}
use Rattle.pc_model.specs.declared.constraint.Constraint.{Constraint}
use Rattle.pc_conflict.specs.Conflicts.{IsLeftOpen}
use Rattle.pc_conflict.specs.Deletion.{at_places}
use Rattle.pc_conflict.specs.Testing.{IsTested}
use Rattle.pc_conflict.proofs.Steps.{at_all}
use Rattle.pc_conflict.proofs.deletion.find.Goals as goal

pub returns-in_ok-tested-in-Undecided-clause-found : goal.returns-in_ok-tested-in-Undecided-clause-found
returns-in_ok-tested-in-Undecided-clause-found c =
    let constraints = c.args.constraints.now in
    let tested = c.in_ok-tested-in-Undecided.ensures in
    record {
      next = inl tested;
      left =
          subst (λ (cs : List Constraint). IsLeftOpen c.args.schema.now cs c.args.nodes) (sym (ap (at_places constraints) tested ∙ at_all constraints))
          (subst (IsTested c.args.schema.now constraints c.args.nodes) c.in-Undecided.is c.in_ok-runs.ensures.tested);
    }
