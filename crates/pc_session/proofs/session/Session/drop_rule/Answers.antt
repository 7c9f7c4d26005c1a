use Rattle.std.proofs.Common.{subst, sym, ◌∙◌, ap}
use Rattle.std.specs.List.{remove}
use Rattle.pc_model.specs.Accepted.{AreConstraints}
use Rattle.pc_session.proofs.Remains.{fewer_constraints}
use Rattle.pc_session.proofs.session.Session.drop_rule.Goals as goal

pub hold-requires-clause-accepted : goal.hold-requires-clause-accepted
hold-requires-clause-accepted c =
    let self = c.args.self.now in
    let left = c.remove.ensures.left ∙ ap (λ constraints. remove constraints c.args.at) (c.in_ok-constraints.ensures ∙ c.as_slice.ensures) in
    subst (AreConstraints self.schema) (sym left) (fewer_constraints self.schema self.constraints c.args.at c.requires.there c.requires.session.accepted)
