use Rattle.std.proofs.Common.{IfOk, sym, subst}
use Rattle.pc_agg.specs.Grounds.{IsGrounded, IsGroundedSurely}
use Rattle.pc_agg_search.specs.Problem.{setting_of}
use Rattle.pc_agg.proofs.Grounding.{listed_left}
use Rattle.pc_agg.proofs.grounds.ground.Goals as goal

pub returns-then-observed : goal.returns-then-observed
returns-then-observed c =
    let u = setting_of c.args.problem.now in
    record {
      grounded = subst (λ observed. IfOk c.ground_most.result (IsGrounded u observed c.args.problem.now.nodes)) (sym c.if-observed.true) c.ground_most.ensures.grounded;
      nested = λ nested.
          subst (λ observed. IfOk c.ground_most.result (IsGroundedSurely u observed)) (sym c.if-observed.true)
          (c.ground_most.ensures.nested nested
          (listed_left u c.args.problem.now.nodes c.in_ok-relation.field-0.found c.in_ok-relation.field-0.relation c.in_ok-relation.ensures.settled.relation c.in_default.not-Impossible (c.in_ok-relation.ensures.nested nested)) tt);
    }

pub returns : goal.returns
returns c =
    let u = setting_of c.args.problem.now in
    record {
      grounded = subst (λ observed. IfOk c.ground_unseen.result (IsGrounded u observed c.args.problem.now.nodes)) (sym c.if-observed.false) c.ground_unseen.ensures.grounded;
      nested = λ nested.
          subst (λ observed. IfOk c.ground_unseen.result (IsGroundedSurely u observed)) (sym c.if-observed.false)
          (c.ground_unseen.ensures.nested nested
          (listed_left u c.args.problem.now.nodes c.in_ok-relation.field-0.found c.in_ok-relation.field-0.relation c.in_ok-relation.ensures.settled.relation c.in_default.not-Impossible (c.in_ok-relation.ensures.nested nested)));
    }
